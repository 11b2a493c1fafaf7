-- What is built while a text is read: the functions so far, what is open, and the names that are visible.
use Rattle.std.specs.Prelude.{ℕ, zero, suc, ◌+◌, ◌-◌, Bool, true, false, ◌&&◌, ◌||◌, if◌then◌else◌, ◌==◌, nat_le, nat_lt, min, max, List, [], ◌∷◌, ◌++◌, map, take, drop, length, slice_get, Option, Some, None, unwrap_or, codes, bytes_eq}
use Rattle.mlir_lex.specs.declared.kinds.TokenKind.TheVariants as kind
use Rattle.op_table.specs.declared.kind.OpKind.{OpKind}
use Rattle.op_table.specs.declared.kind.OpKind.TheVariants as op
use Rattle.int_ops.specs.declared.Width.TheVariants.{W1}
use Rattle.int_ops.specs.declared.Pred.TheVariants.{Eq}
use Rattle.ir_forms.specs.declared.types.Ty.{Ty}
use Rattle.ir_forms.specs.declared.types.Ty.TheVariants as ty
use Rattle.ir_forms.specs.declared.types.ValTy.{ValTy}
use Rattle.ir_forms.specs.declared.types.ValTy.TheVariants as val
use Rattle.ir_forms.specs.declared.types.NumTy.{NumTy}
use Rattle.ir_forms.specs.declared.types.NumTy.TheVariants as num
use Rattle.ir_forms.specs.declared.types.CellTy.{CellTy}
use Rattle.ir_forms.specs.declared.types.CellTy.TheVariants as cell
use Rattle.ir_forms.specs.declared.ops.ValueNo.{ValueNo}
use Rattle.ir_forms.specs.declared.ops.Attr.{Attr}
use Rattle.ir_forms.specs.declared.ops.Attr.TheVariants as attr
use Rattle.ir_forms.specs.declared.ops.Op.{Op, out-Op, roll-Op}
use Rattle.ir_forms.specs.declared.ops.Region.{Region, roll-Region}
use Rattle.ir_forms.specs.declared.ops.Module.{Module}
use Rattle.ir_forms.specs.Ops.{kind_of, operands_of}
use Rattle.module_grammar.specs.declared.symbols.Act.{Act}
use Rattle.module_grammar.specs.declared.symbols.Act.TheVariants as act
use Rattle.module_grammar.specs.declared.state.TextToken.{TextToken}
use Rattle.module_grammar.specs.declared.state.Name.{Name}
use Rattle.module_grammar.specs.declared.state.Param.{Param}
use Rattle.module_grammar.specs.declared.state.OpenOp.{OpenOp}
use Rattle.module_grammar.specs.declared.state.OpenBody.{OpenBody}
use Rattle.module_grammar.specs.declared.state.Outer.{Outer}
use Rattle.module_grammar.specs.declared.state.OpenFunc.{OpenFunc}
use Rattle.module_grammar.specs.declared.state.DictEntry.{DictEntry}
use Rattle.module_grammar.specs.declared.state.DictEntry.TheVariants as entry
use Rattle.module_grammar.specs.declared.state.State.{State}
use Rattle.module_grammar.specs.Tokens.{number_of, type_of, payload_of, predicate_of, symbol_of, string_of, is_number_kind}

-- ---- counting

-- n and k more, but not past 2^32
abbrev pub up : ℕ → ℕ → ℕ
up n k = n + min k (4294967296 - n)

-- the same, but not past 2^32 - 1
abbrev pub number_up : ℕ → ℕ → ℕ
number_up n k = n + min k (4294967295 - n)

abbrev pub as_number : ℕ → ℕ
as_number n = min n 4294967295

-- ---- names

-- a name that isn't visible
abbrev pub unknown : ValueNo
unknown = record { 0 = 4294967295 }

abbrev pub value : ℕ → ValueNo
value n = record { 0 = n }

-- the value of a name without `#`
abbrev pub first_of : Name → Option ℕ → ValueNo
first_of n None = value n.first
first_of n (Some count) = if nat_lt 0 count then value n.first else unknown

-- the value of a name with `#at`
abbrev pub part_of : Name → Option ℕ → Option ℕ → ValueNo
part_of n (Some count) (Some at) = if nat_lt at count then value (number_up n.first at) else unknown
part_of n _ _ = unknown

-- the value that a use of a name means
abbrev pub resolved : List Name → List ℕ → ValueNo
resolved [] text = unknown
resolved (n ∷ ns) text = if bytes_eq n.text text then first_of n n.count else resolved ns text

-- the value that a use of a name with `#at` means
abbrev pub resolved_at : List Name → List ℕ → Option ℕ → ValueNo
resolved_at [] text at = unknown
resolved_at (n ∷ ns) text at = if bytes_eq n.text text then part_of n n.count at else resolved_at ns text at

abbrev pub is_named : List Name → List ℕ → Bool
is_named [] text = false
is_named (n ∷ ns) text = bytes_eq n.text text || is_named ns text

abbrev pub counted_from : ℕ → ℕ → List ValueNo
counted_from first zero = []
counted_from first (suc n) = value first ∷ counted_from (number_up first 1) n

abbrev pub values_of_name : Name → Option ℕ → List ValueNo
values_of_name n None = value n.first ∷ []
values_of_name n (Some count) = counted_from n.first count

-- the values of these names, in order
abbrev pub values_of : List Name → List ValueNo
values_of [] = []
values_of (n ∷ ns) = values_of_name n n.count ++ values_of ns

-- ---- what is open

abbrev pub no_op : ℕ → OpenOp
no_op at = record {
  kind = op.ScfReduce;
  at = at;
  operands = [];
  groups = [];
  written = [];
  results = [];
  types = [];
  attr = attr.None;
  regions = [];
  params = [];
}

abbrev pub no_body : OpenBody
no_body = record { params = []; ops = []; outside = 0 }

abbrev pub no_func : ℕ → OpenFunc
no_func at = record { name = []; params = []; results = []; at = at }

-- before the first token
abbrev pub at_start : State
at_start = record {
  last = record { kind = kind.End; text = []; at = 0; joined = false };
  read = [];
  visible = [];
  next = 0;
  used = [];
  begun = 0;
  functions = 0;
  deepest = 0;
  counted = 0;
  op = no_op 0;
  body = no_body;
  outer = [];
  held = [];
  entry = entry.Fresh;
  entry_at = None;
  func = no_func 0;
  funcs = [];
}

-- the module that the functions read so far make
abbrev pub module_of : State → Module
module_of s = record { funcs = s.funcs }

-- ---- parts of the acts

abbrev pub param_names : List Param → List Name
param_names [] = []
param_names (p ∷ ps) = p.name ∷ param_names ps

abbrev pub param_value : Param → ValueNo × Ty
param_value p = (value p.name.first, p.ty)

-- the parameter that was read last gets a type
abbrev pub last_typed : List Param → Ty → List Param
last_typed [] t = []
last_typed (p ∷ []) t = record p { ty = t } ∷ []
last_typed (p ∷ q ∷ ps) t = p ∷ last_typed (q ∷ ps) t

abbrev pub is_untyped : Ty → Bool
is_untyped ty.Untyped = true
is_untyped _ = false

-- the first of these types where there is one, else the type before
abbrev pub type_or : List Ty → Ty → Ty
type_or [] t = t
type_or (u ∷ us) t = u

-- the parameters without a type get these, in order
abbrev pub typed_by : List Param → List Ty → List Param
typed_by [] ts = []
typed_by (p ∷ ps) ts =
    if is_untyped p.ty then record p { ty = type_or ts p.ty } ∷ typed_by ps (drop 1 ts) else p ∷ typed_by ps ts

abbrev pub first_type : List Ty → Ty
first_type [] = ty.Untyped
first_type (t ∷ ts) = t

abbrev pub number_payload : NumTy → ValTy
number_payload (num.Int w) = val.Int w
number_payload num.Index = val.Index

abbrev pub cell_type : CellTy → Ty
cell_type (cell.Int w) = ty.Int w
cell_type cell.Index = ty.Index
cell_type cell.Token = ty.Token
cell_type cell.Group = ty.Group
cell_type (cell.Value n) = ty.Value (number_payload n)

-- the type of the cells of a memref
abbrev pub element_type : Ty → Ty
element_type (ty.Memref m) = cell_type m.elem
element_type _ = ty.Untyped

abbrev pub held_type : ValTy → Ty
held_type (val.Int w) = ty.Int w
held_type val.Index = ty.Index
held_type (val.Memref m) = ty.Memref m

-- what awaiting this type gives, if it gives anything
abbrev pub payload_types : Ty → List Ty
payload_types (ty.Value v) = held_type v ∷ []
payload_types _ = []

abbrev pub value_type : Option ValTy → Ty
value_type (Some v) = ty.Value v
value_type None = ty.Untyped

abbrev pub is_true : List ℕ → Bool
is_true text = bytes_eq text (codes "true")

-- ---- terminators that a text leaves out

-- the operation without operands that a reader makes
abbrev pub made : OpKind → ℕ → Op
made k at = roll-Op (record {
  kind = k;
  at = at;
  operands = [];
  groups = [];
  written = [];
  results = [];
  types = [];
  attr = attr.None;
  regions = [];
})

abbrev pub is_yield : OpKind → Bool
is_yield op.ScfYield = true
is_yield _ = false

-- an operation of the kind is a terminator of the other kind
abbrev pub is_ending : OpKind → OpKind → Bool
is_ending op.ScfYield op.ScfYield = true
is_ending op.AsyncYield op.AsyncYield = true
is_ending op.ScfReduce op.ScfReduce = true
is_ending _ _ = false

abbrev pub is_ending_op : OpKind → Option Op → Bool
is_ending_op terminator (Some o) = is_ending terminator (kind_of o)
is_ending_op terminator None = false

-- whether the last operation is a terminator of this kind
abbrev pub ends_in : OpKind → List Op → Bool
ends_in terminator ops = is_ending_op terminator (slice_get ops (length ops - 1))

-- the kind of terminator that a region may leave out, where its operation has so many types of results: `async.execute` has
-- the token's, and a parallel loop's body may always leave it out
abbrev pub terminator_of : OpKind → ℕ → Option OpKind
terminator_of op.ScfFor types = if types == 0 then Some op.ScfYield else None
terminator_of op.ScfIf types = if types == 0 then Some op.ScfYield else None
terminator_of op.AsyncExecute types = if types == 1 then Some op.AsyncYield else None
terminator_of op.ScfParallel types = Some op.ScfReduce
terminator_of _ types = None

abbrev pub unless_ended : Option OpKind → List Op → Option OpKind
unless_ended (Some k) ops = if ends_in k ops then None else Some k
unless_ended None ops = None

-- the kind of the terminator that is made at the end of a region, if one is
abbrev pub left_out : OpKind → List Ty → List Op → Option OpKind
left_out k types ops = unless_ended (terminator_of k (length types)) ops

-- in a parallel body a last yield without operands is a reduce
abbrev pub as_reduce : Op → Op
as_reduce o = if is_yield (kind_of o) && length (operands_of o) == 0 then roll-Op (record (out-Op o) { kind = op.ScfReduce }) else o

abbrev pub last_as_reduce : List Op → List Op
last_as_reduce [] = []
last_as_reduce (o ∷ []) = as_reduce o ∷ []
last_as_reduce (o ∷ p ∷ ops) = o ∷ last_as_reduce (p ∷ ops)

abbrev pub body_ops : OpKind → List Op → List Op
body_ops op.ScfParallel ops = last_as_reduce ops
body_ops _ ops = ops

abbrev pub with_made : List Op → Option OpKind → ℕ → List Op
with_made ops None begun = ops
with_made ops (Some k) begun = ops ++ made k (as_number (up begun 1)) ∷ []

abbrev pub begun_with : Option OpKind → ℕ → ℕ
begun_with None begun = begun
begun_with (Some k) begun = up begun 1

-- a missing `else` is a second region without operations
abbrev pub with_else : OpKind → List Region → List Region
with_else op.ScfIf (r ∷ []) = r ∷ roll-Region (record { params = []; ops = [] }) ∷ []
with_else _ regions = regions

abbrev pub op_of : OpenOp → Op
op_of o = roll-Op (record {
  kind = o.kind;
  at = o.at;
  operands = o.operands;
  groups = o.groups;
  written = o.written;
  results = values_of o.results;
  types = o.types;
  attr = o.attr;
  regions = with_else o.kind o.regions;
})

-- ---- dictionaries

-- what a token other than a bracket or a comma makes of an entry
abbrev pub entry_after : DictEntry → TextToken → DictEntry
entry_after entry.Fresh t = if bytes_eq t.text (codes "aio.at") then entry.Keyed else entry.Other
entry_after entry.Keyed t = if bytes_eq t.text (codes "=") then entry.Equated else entry.Other
entry_after entry.Equated t = if is_number_kind t.kind then entry.Numbered (number_of t) t.at else entry.Other
entry_after (entry.Numbered n at) t = if bytes_eq t.text (codes ":") then entry.Typed n at else entry.Other
entry_after (entry.Typed n at) t = if bytes_eq t.text (codes "i64") then entry.Whole n at else entry.Other
entry_after (entry.Whole n at) t = entry.Other
entry_after entry.Other t = entry.Other

-- the number of a whole entry, else the one before
abbrev pub entry_number : DictEntry → Option ℕ → Option ℕ
entry_number (entry.Whole n at) before = n
entry_number _ before = before

-- the entry is whole, and its number isn't below 2^32
abbrev pub is_wide : DictEntry → Bool
is_wide (entry.Whole (Some n) at) = nat_le 4294967296 n
is_wide (entry.Whole None at) = true
is_wide _ = false

-- ---- the acts

abbrev pub with_op : State → OpenOp → State
with_op s o = record s { op = o }

-- the open operation is over: it joins its body, and its results become visible
abbrev pub end_op : State → State
end_op s = record s {
  body = record (s.body) { ops = s.body.ops ++ op_of s.op ∷ [] };
  visible = s.visible ++ s.op.results;
  op = no_op 0;
}

abbrev pub begin_op : State → State
begin_op s = record s { op = no_op (as_number (up s.begun 1)); begun = up s.begun 1 }

abbrev pub name_at : TextToken → ℕ → Name
name_at t first = record { text = t.text; at = t.at; first = first; count = None }

abbrev pub add_result : TextToken → State → State
add_result t s = record s { op = record (s.op) { results = s.op.results ++ name_at t s.next ∷ [] }; next = number_up s.next 1 }

-- the names that were held are results of the next operation
abbrev pub add_results : List TextToken → State → State
add_results [] s = s
add_results (x ∷ xs) s = add_results xs (add_result x s)

-- how many values these names have
abbrev pub count_of : Option ℕ → ℕ
count_of None = 1
count_of (Some n) = n

-- counted up by these names
abbrev pub with_names : ℕ → List Name → ℕ
with_names counted [] = counted
with_names counted (n ∷ ns) = with_names (up counted (count_of n.count)) ns

-- the last result's name stands for n values
abbrev pub last_counted : List Name → ℕ → List Name
last_counted [] n = []
last_counted (x ∷ []) n = record x { count = Some n } ∷ []
last_counted (x ∷ y ∷ xs) n = x ∷ last_counted (y ∷ xs) n

abbrev pub add_param : Ty → State → State
add_param t s = record s {
  op = record (s.op) { params = s.op.params ++ record { name = name_at s.last s.next; ty = t } ∷ [] };
  next = number_up s.next 1;
  counted = up s.counted 1;
}

-- a parameter of the body that was opened last, visible from here on
abbrev pub add_block_param : State → State
add_block_param s = record s {
  body = record (s.body) { params = s.body.params ++ record { name = name_at s.last s.next; ty = ty.Untyped } ∷ [] };
  visible = s.visible ++ name_at s.last s.next ∷ [];
  next = number_up s.next 1;
  counted = up s.counted 1;
}

abbrev pub add_operand : TextToken → State → State
add_operand t s = record s {
  op = record (s.op) { operands = s.op.operands ++ resolved s.visible t.text ∷ [] };
  used = t.text;
  counted = up s.counted 1;
}

abbrev pub add_operands : List TextToken → State → State
add_operands [] s = s
add_operands (x ∷ xs) s = add_operands xs (add_operand x s)

abbrev pub add_types : List Ty → State → State
add_types ts s = with_op s (record (s.op) { types = s.op.types ++ ts })

-- the types read join those that the form writes for its operands
abbrev pub add_written : List Ty → State → State
add_written ts s = record s { op = record (s.op) { written = s.op.written ++ ts }; read = [] }

abbrev pub open_region : State → State
open_region s = record s {
  outer = s.outer ++ record { op = record (s.op) { params = [] }; body = s.body } ∷ [];
  body = record { params = s.op.params; ops = []; outside = length s.visible };
  visible = s.visible ++ param_names s.op.params;
  op = no_op 0;
  deepest = max s.deepest (up (length s.outer) 2);
}

abbrev pub region_of : OpenBody → List Op → Region
region_of b ops = roll-Region (record { params = map param_value b.params; ops = ops })

-- the last element
abbrev pub last_of : {A : Type 0} → List A → Option A
last_of [] = None
last_of (x ∷ []) = Some x
last_of (x ∷ y ∷ xs) = last_of (y ∷ xs)

abbrev pub without_last : {A : Type 0} → List A → List A
without_last [] = []
without_last (x ∷ []) = []
without_last (x ∷ y ∷ xs) = x ∷ without_last (y ∷ xs)

-- the region is over: it joins the operation in which it stands
abbrev pub close_into : Option Outer → State → State
close_into None s = s
close_into (Some o) s =
    let ops : List Op = body_ops o.op.kind s.body.ops in
    let k : Option OpKind = left_out o.op.kind o.op.types ops in
    record s {
      outer = without_last s.outer;
      body = o.body;
      visible = take s.body.outside s.visible;
      begun = begun_with k s.begun;
      op = record (o.op) { regions = o.op.regions ++ region_of s.body (with_made ops k s.begun) ∷ [] };
    }

abbrev pub numbered_op : Option ℕ → State → State
numbered_op None s = s
numbered_op (Some n) s = with_op s (record (s.op) { at = as_number n })

abbrev pub numbered_func : Option ℕ → State → State
numbered_func None s = s
numbered_func (Some n) s = record s { func = record (s.func) { at = as_number n } }

abbrev pub with_attr : Attr → State → State
with_attr a s = with_op s (record (s.op) { attr = a })

-- the number behind `#`
abbrev pub index_of : TextToken → Option ℕ
index_of t = number_of (record { kind = kind.Digits; text = drop 1 t.text; at = t.at; joined = false })

-- how many of n operands stand in none of these groups
abbrev pub ungrouped : ℕ → List ℕ → ℕ
ungrouped n [] = n
ungrouped n (g ∷ gs) = ungrouped (n - g) gs

-- the literal that a token writes
abbrev pub literal : Bool → TextToken → Attr
literal negative t = attr.Literal negative (unwrap_or (number_of t) 0)

-- what an act makes of the state
unfoldable pub does : Act → State → State
does act.BeginFunc s = record s {
  begun = up s.begun 1;
  functions = up s.functions 1;
  func = no_func (as_number (up s.begun 1));
  visible = [];
  next = 0;
  op = no_op 0;
  body = no_body;
  outer = [];
}
does act.FuncName s = record s { func = record (s.func) { name = symbol_of s.last } }
does act.FuncResults s = record s { func = record (s.func) { results = s.read }; read = [] }
does act.FuncAt s = numbered_func s.entry_at s
does act.OpenBody s = record s {
  func = record (s.func) { params = s.op.params };
  visible = param_names s.op.params;
  op = no_op 0;
  body = no_body;
  deepest = max s.deepest 1;
}
does act.EndFunc s = record s {
  func = no_func 0;
  body = no_body;
  funcs = s.funcs ++ record {
    name = s.func.name;
    params = map param_value s.func.params;
    results = s.func.results;
    body = roll-Region (record { params = []; ops = s.body.ops });
    at = s.func.at;
  } ∷ [];
}
does act.BeginOp s = begin_op s
does (act.Kind k) s = with_op s (record (s.op) { kind = k })
does act.EndOp s = end_op s
does act.OpAt s = numbered_op s.entry_at s
does act.OpenRegion s = open_region s
does act.CloseRegion s = close_into (last_of s.outer) s
does act.Result s = add_result s.last s
does act.ResultCount s = record s {
  op = record (s.op) { results = last_counted s.op.results (unwrap_or (number_of s.last) 0) };
  next = number_up (s.next - 1) (unwrap_or (number_of s.last) 0);
}
does act.CountNames s = record s { counted = with_names s.counted s.op.results }
does act.Operand s = add_operand s.last s
does act.OperandIndex s =
    with_op s (record (s.op) { operands = without_last s.op.operands ++ resolved_at s.visible s.used (index_of s.last) ∷ [] })
does act.Group s = with_op s (record (s.op) { groups = s.op.groups ++ as_number (ungrouped (length s.op.operands) s.op.groups) ∷ [] })
does act.Hold s = record s { held = s.held ++ s.last ∷ [] }
does act.HeldOperands s = add_operands s.held (record s { held = [] })
does act.HeldResults s = add_results s.held (begin_op (end_op (record s { held = [] })))
does act.Param s = add_param ty.Untyped s
does act.IndexParam s = add_param ty.Index s
does act.ParamType s = record s { op = record (s.op) { params = last_typed s.op.params (first_type s.read) }; read = [] }
does act.BlockParam s = add_block_param s
does act.BlockParamType s = record s { body = record (s.body) { params = last_typed s.body.params (first_type s.read) }; read = [] }
does act.PayloadParam s = with_op s (record (s.op) { params = last_typed s.op.params (first_type (payload_types (first_type s.read))) })
does act.ResultParams s = with_op s (record (s.op) { params = typed_by s.op.params s.op.types })
does act.WrittenParams s = with_op s (record (s.op) { params = typed_by s.op.params s.op.written })
does act.PlainType s = record s { read = s.read ++ unwrap_or (type_of s.last) ty.Untyped ∷ [] }
does act.ValueType s = record s { read = s.read ++ value_type (payload_of s.last) ∷ [] }
does act.Written s = add_written s.read s
does act.Twice s = add_written (s.read ++ s.read) s
does act.SameTypes s = add_types s.read (add_written (s.read ++ s.read) s)
does act.Results s = record (add_types s.read s) { read = [] }
does act.TruthResult s = add_types (ty.Int W1 ∷ []) s
does act.IndexResult s = add_types (ty.Index ∷ []) s
does act.TokenResult s = add_types (ty.Token ∷ []) s
does act.ElementResult s = add_types (element_type (first_type s.read) ∷ []) s
does act.PayloadResult s = add_types (payload_types (first_type s.read)) s
does act.Literal s = with_attr (literal false s.last) s
does act.Negative s = with_attr (literal true s.last) s
does act.Truth s = with_attr (attr.Truth (is_true s.last.text)) s
does act.Predicate s = with_attr (attr.Pred (unwrap_or (predicate_of s.last) Eq)) s
does act.Message s = with_attr (attr.Text (string_of s.last.text)) s
does act.Callee s = with_attr (attr.Callee (symbol_of s.last)) s
does act.BeginDict s = record s { entry = entry.Fresh; entry_at = None }
does act.Entry s = record s { entry = entry_after s.entry s.last }
does act.OtherEntry s = record s { entry = entry.Other }
does act.EndEntry s = record s { entry = entry.Fresh; entry_at = entry_number s.entry s.entry_at }
