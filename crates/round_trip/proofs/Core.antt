-- What of a reader's state the rest of a printed text depends on, and what each act makes of it.
use Rattle.std.proofs.Common.{ℕ, true, false, List, [], ◌∷◌, ◌++◌, map, take, length, Option, Some, None, unwrap_or}
use Rattle.mlir_lex.specs.declared.kinds.TokenKind.{TokenKind}
use Rattle.int_ops.specs.declared.Width.TheVariants.{W1}
use Rattle.int_ops.specs.declared.Pred.TheVariants.{Eq}
use Rattle.op_table.specs.declared.kind.OpKind.{OpKind}
use Rattle.ir_forms.specs.declared.types.Ty.{Ty}
use Rattle.ir_forms.specs.declared.types.Ty.TheVariants as ty
use Rattle.ir_forms.specs.declared.ops.Attr.{Attr}
use Rattle.ir_forms.specs.declared.ops.Attr.TheVariants as attr
use Rattle.ir_forms.specs.declared.ops.Op.{Op}
use Rattle.ir_forms.specs.declared.ops.Region.{roll-Region}
use Rattle.ir_forms.specs.declared.ops.Func.{Func}
use Rattle.module_grammar.specs.declared.symbols.Act.{Act}
use Rattle.module_grammar.specs.declared.symbols.Act.TheVariants as act
use Rattle.module_grammar.specs.declared.state.TextToken.{TextToken}
use Rattle.module_grammar.specs.declared.state.Name.{Name}
use Rattle.module_grammar.specs.declared.state.Param.{Param}
use Rattle.module_grammar.specs.declared.state.OpenOp.{OpenOp}
use Rattle.module_grammar.specs.declared.state.OpenBody.{OpenBody}
use Rattle.module_grammar.specs.declared.state.Outer.{Outer}
use Rattle.module_grammar.specs.declared.state.OpenFunc.{OpenFunc}
use Rattle.module_grammar.specs.declared.state.DictEntry.{DictEntry}
use Rattle.module_grammar.specs.declared.state.DictEntry.TheVariants as entry
use Rattle.module_grammar.specs.declared.state.State.{State}
use Rattle.module_grammar.specs.Tokens.{type_of, payload_of, predicate_of, symbol_of, string_of}
use Rattle.module_grammar.specs.State.{up, number_up, as_number, resolved, no_op, no_body, no_func, param_names, param_value, last_typed, typed_by, first_type, element_type, payload_types, value_type, is_true, body_ops, left_out, with_made, begun_with, op_of, entry_after, entry_number, last_of, without_last, literal, ungrouped, region_of}

-- ---- what is kept

-- the kind and the bytes of a token
abbrev pub Word : Type 0
Word = TokenKind × List ℕ

abbrev pub spoken : TextToken → Word
spoken t = (t.kind, t.text)

abbrev pub token_of : Word → TextToken
token_of w = record { kind = w.0; text = w.1; at = 0; joined = false }

abbrev pub bare : Name → Name
bare n = record n { at = 0 }

abbrev pub bare_param : Param → Param
bare_param p = record { name = bare p.name; ty = p.ty }

abbrev pub bare_op : OpenOp → OpenOp
bare_op o = record o { results = map bare o.results; params = map bare_param o.params }

abbrev pub bare_body : OpenBody → OpenBody
bare_body b = record b { params = map bare_param b.params }

abbrev pub bare_outer : Outer → Outer
bare_outer u = record { op = bare_op u.op; body = bare_body u.body }

abbrev pub bare_func : OpenFunc → OpenFunc
bare_func f = record f { params = map bare_param f.params }

abbrev pub bare_entry : DictEntry → DictEntry
bare_entry (entry.Numbered n at) = entry.Numbered n 0
bare_entry (entry.Typed n at) = entry.Typed n 0
bare_entry (entry.Whole n at) = entry.Whole n 0
bare_entry e = e

-- what later tokens replace: the last token, and the dictionary's entry
pub record Passing : Type 0 where
  pub last : Word
  pub entry : DictEntry
  pub entry_at : Option ℕ

pub record Core : Type 0 where
  pub passing : Passing
  pub read : List Ty
  pub visible : List Name
  pub next : ℕ
  pub begun : ℕ
  pub op : OpenOp
  pub body : OpenBody
  pub outer : List Outer
  pub held : List (List ℕ)
  pub func : OpenFunc
  pub funcs : List Func

abbrev pub text_of : TextToken → List ℕ
text_of t = t.text

abbrev pub core : State → Core
core s = record {
  passing = record { last = spoken s.last; entry = bare_entry s.entry; entry_at = s.entry_at };
  read = s.read;
  visible = map bare s.visible;
  next = s.next;
  begun = s.begun;
  op = bare_op s.op;
  body = bare_body s.body;
  outer = map bare_outer s.outer;
  held = map text_of s.held;
  func = bare_func s.func;
  funcs = s.funcs;
}

-- ---- what the acts make of it

abbrev pub said : Word → Core → Core
said w c = record c { passing = record (c.passing) { last = w } }

abbrev pub last_token : Core → TextToken
last_token c = token_of c.passing.last

abbrev pub with_op : Core → OpenOp → Core
with_op c o = record c { op = o }

abbrev pub fresh_name : List ℕ → ℕ → Name
fresh_name text n = record { text = text; at = 0; first = n; count = None }

abbrev pub begun_op : Core → Core
begun_op c = record c { op = no_op (as_number (up c.begun 1)); begun = up c.begun 1 }

abbrev pub ended_op : Core → Core
ended_op c = record c {
  body = record (c.body) { ops = c.body.ops ++ op_of c.op ∷ [] };
  visible = c.visible ++ c.op.results;
  op = no_op 0;
}

abbrev pub one_result : List ℕ → Core → Core
one_result text c = record c { op = record (c.op) { results = c.op.results ++ fresh_name text c.next ∷ [] }; next = number_up c.next 1 }

abbrev pub all_results : List (List ℕ) → Core → Core
all_results [] c = c
all_results (x ∷ xs) c = all_results xs (one_result x c)

abbrev pub one_param : Ty → Core → Core
one_param t c = record c {
  op = record (c.op) { params = c.op.params ++ record { name = fresh_name c.passing.last.1 c.next; ty = t } ∷ [] };
  next = number_up c.next 1;
}

abbrev pub one_block_param : Core → Core
one_block_param c = record c {
  body = record (c.body) { params = c.body.params ++ record { name = fresh_name c.passing.last.1 c.next; ty = ty.Untyped } ∷ [] };
  visible = c.visible ++ fresh_name c.passing.last.1 c.next ∷ [];
  next = number_up c.next 1;
}

abbrev pub one_operand : List ℕ → Core → Core
one_operand text c = with_op c (record (c.op) { operands = c.op.operands ++ resolved c.visible text ∷ [] })

abbrev pub all_operands : List (List ℕ) → Core → Core
all_operands [] c = c
all_operands (x ∷ xs) c = all_operands xs (one_operand x c)

abbrev pub more_types : List Ty → Core → Core
more_types ts c = with_op c (record (c.op) { types = c.op.types ++ ts })

abbrev pub more_written : List Ty → Core → Core
more_written ts c = record c { op = record (c.op) { written = c.op.written ++ ts }; read = [] }

abbrev pub opened : Core → Core
opened c = record c {
  outer = c.outer ++ record { op = record (c.op) { params = [] }; body = c.body } ∷ [];
  body = record { params = c.op.params; ops = []; outside = length c.visible };
  visible = c.visible ++ param_names c.op.params;
  op = no_op 0;
}

abbrev pub closed_into : Option Outer → Core → Core
closed_into None c = c
closed_into (Some o) c =
    let ops : List Op = body_ops o.op.kind c.body.ops in
    let k : Option OpKind = left_out o.op.kind o.op.types ops in
    record c {
      outer = without_last c.outer;
      body = o.body;
      visible = take c.body.outside c.visible;
      begun = begun_with k c.begun;
      op = record (o.op) { regions = o.op.regions ++ region_of c.body (with_made ops k c.begun) ∷ [] };
    }

abbrev pub numbered : Option ℕ → Core → Core
numbered None c = c
numbered (Some n) c = with_op c (record (c.op) { at = as_number n })

abbrev pub func_numbered : Option ℕ → Core → Core
func_numbered None c = c
func_numbered (Some n) c = record c { func = record (c.func) { at = as_number n } }

abbrev pub with_attr : Attr → Core → Core
with_attr a c = with_op c (record (c.op) { attr = a })

-- the acts that printed texts need; the others leave it as it is
abbrev pub done : Act → Core → Core
done act.BeginFunc c = record c {
  begun = up c.begun 1;
  func = no_func (as_number (up c.begun 1));
  visible = [];
  next = 0;
  op = no_op 0;
  body = no_body;
  outer = [];
}
done act.FuncName c = record c { func = record (c.func) { name = symbol_of (last_token c) } }
done act.FuncResults c = record c { func = record (c.func) { results = c.read }; read = [] }
done act.FuncAt c = func_numbered c.passing.entry_at c
done act.OpenBody c = record c {
  func = record (c.func) { params = c.op.params };
  visible = param_names c.op.params;
  op = no_op 0;
  body = no_body;
}
done act.EndFunc c = record c {
  func = no_func 0;
  body = no_body;
  funcs = c.funcs ++ record {
    name = c.func.name;
    params = map param_value c.func.params;
    results = c.func.results;
    body = roll-Region (record { params = []; ops = c.body.ops });
    at = c.func.at;
  } ∷ [];
}
done act.BeginOp c = begun_op c
done (act.Kind k) c = with_op c (record (c.op) { kind = k })
done act.EndOp c = ended_op c
done act.OpAt c = numbered c.passing.entry_at c
done act.OpenRegion c = opened c
done act.CloseRegion c = closed_into (last_of c.outer) c
done act.Result c = one_result c.passing.last.1 c
done act.CountNames c = c
done act.Operand c = one_operand c.passing.last.1 c
done act.Group c = with_op c (record (c.op) { groups = c.op.groups ++ as_number (ungrouped (length c.op.operands) c.op.groups) ∷ [] })
done act.Hold c = record c { held = c.held ++ c.passing.last.1 ∷ [] }
done act.HeldOperands c = all_operands c.held (record c { held = [] })
done act.HeldResults c = all_results c.held (begun_op (ended_op (record c { held = [] })))
done act.Param c = one_param ty.Untyped c
done act.IndexParam c = one_param ty.Index c
done act.ParamType c = record c { op = record (c.op) { params = last_typed c.op.params (first_type c.read) }; read = [] }
done act.BlockParam c = one_block_param c
done act.BlockParamType c = record c { body = record (c.body) { params = last_typed c.body.params (first_type c.read) }; read = [] }
done act.PayloadParam c = with_op c (record (c.op) { params = last_typed c.op.params (first_type (payload_types (first_type c.read))) })
done act.ResultParams c = with_op c (record (c.op) { params = typed_by c.op.params c.op.types })
done act.WrittenParams c = with_op c (record (c.op) { params = typed_by c.op.params c.op.written })
done act.PlainType c = record c { read = c.read ++ unwrap_or (type_of (last_token c)) ty.Untyped ∷ [] }
done act.ValueType c = record c { read = c.read ++ value_type (payload_of (last_token c)) ∷ [] }
done act.Written c = more_written c.read c
done act.Twice c = more_written (c.read ++ c.read) c
done act.SameTypes c = more_types c.read (more_written (c.read ++ c.read) c)
done act.Results c = record (more_types c.read c) { read = [] }
done act.TruthResult c = more_types (ty.Int W1 ∷ []) c
done act.IndexResult c = more_types (ty.Index ∷ []) c
done act.TokenResult c = more_types (ty.Token ∷ []) c
done act.ElementResult c = more_types (element_type (first_type c.read) ∷ []) c
done act.PayloadResult c = more_types (payload_types (first_type c.read)) c
done act.Literal c = with_attr (literal false (last_token c)) c
done act.Negative c = with_attr (literal true (last_token c)) c
done act.Truth c = with_attr (attr.Truth (is_true c.passing.last.1)) c
done act.Predicate c = with_attr (attr.Pred (unwrap_or (predicate_of (last_token c)) Eq)) c
done act.Message c = with_attr (attr.Text (string_of c.passing.last.1)) c
done act.Callee c = with_attr (attr.Callee (symbol_of (last_token c))) c
done act.BeginDict c = record c { passing = record (c.passing) { entry = entry.Fresh; entry_at = None } }
done act.Entry c = record c { passing = record (c.passing) { entry = bare_entry (entry_after c.passing.entry (last_token c)) } }
done act.EndEntry c = record c { passing = record (c.passing) { entry = entry.Fresh; entry_at = entry_number c.passing.entry c.passing.entry_at } }
done _ c = c
