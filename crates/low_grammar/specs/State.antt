-- What each act makes of the state.
use Rattle.std.specs.Prelude.{ℕ, ◌+◌, ◌-◌, Bool, true, false, ◌&&◌, ◌||◌, not, if◌then◌else◌, List, [], ◌∷◌, ◌++◌, length, Option, Some, None, unwrap_or, codes, bytes_eq}
use Rattle.mlir_lex.specs.declared.kinds.TokenKind.TheVariants as kind
use Rattle.op_table.specs.declared.kind.OpKind.{OpKind}
use Rattle.op_table.specs.declared.kind.OpKind.TheVariants as op
use Rattle.int_ops.specs.declared.Width.TheVariants.{W1}
use Rattle.int_ops.specs.declared.Pred.TheVariants.{Eq}
use Rattle.ir_forms.specs.declared.types.Ty.{Ty}
use Rattle.ir_forms.specs.declared.types.Ty.TheVariants as ty
use Rattle.module_grammar.specs.declared.state.TextToken.{TextToken}
use Rattle.module_grammar.specs.Tokens.{number_of, type_of, payload_of, predicate_of, symbol_of}
use Rattle.module_grammar.specs.State.{value_type, first_type, element_type, payload_types, is_true}
use Rattle.low_grammar.specs.declared.symbols.Act.{Act}
use Rattle.low_grammar.specs.declared.symbols.Act.TheVariants as act
use Rattle.low_grammar.specs.declared.named.NamedAttr.{NamedAttr}
use Rattle.low_grammar.specs.declared.named.NamedAttr.TheVariants as carries
use Rattle.low_grammar.specs.declared.named.NamedParam.{NamedParam}
use Rattle.low_grammar.specs.declared.named.NamedTarget.{NamedTarget}
use Rattle.low_grammar.specs.declared.named.NamedInstr.{NamedInstr}
use Rattle.low_grammar.specs.declared.named.NamedBlock.{NamedBlock}
use Rattle.low_grammar.specs.declared.named.NamedFunc.{NamedFunc}
use Rattle.low_grammar.specs.declared.state.AttributeEntry.{AttributeEntry}
use Rattle.low_grammar.specs.declared.state.AttributeEntry.TheVariants as entry
use Rattle.low_grammar.specs.declared.state.State.{State}

-- ---- names

abbrev pub is_among : List (List ℕ) → List ℕ → Bool
is_among [] name = false
is_among (n ∷ ns) name = bytes_eq n name || is_among ns name

-- each of the names is among the others
abbrev pub all_among : List (List ℕ) → List (List ℕ) → Bool
all_among names [] = true
all_among names (n ∷ ns) = is_among names n && all_among names ns

-- ---- types

-- the types of coroutines, which lowered texts have besides
abbrev pub coro_type : List ℕ → Option Ty
coro_type text =
    if bytes_eq text (codes "!async.coro.id") then Some ty.CoroId
    else (if bytes_eq text (codes "!async.coro.handle") then Some ty.CoroHandle
    else (if bytes_eq text (codes "!async.coro.state") then Some ty.CoroState else None))

abbrev pub or_else : Option Ty → Option Ty → Option Ty
or_else (Some t) u = Some t
or_else None u = u

-- the type that one token writes
abbrev pub low_type : TextToken → Option Ty
low_type t = or_else (type_of t) (coro_type t.text)

-- ---- what is open

abbrev pub no_instr : NamedInstr
no_instr = record { kind = op.AioFinish; operands = []; results = []; types = []; attr = carries.None; targets = [] }

abbrev pub no_block : NamedBlock
no_block = record { name = []; params = []; instrs = [] }

abbrev pub no_func : NamedFunc
no_func = record { name = []; coroutine = false; params = []; results = []; blocks = [] }

-- before the first token
abbrev pub at_start : State
at_start = record {
  last = record { kind = kind.End; text = []; at = 0; joined = false };
  read = [];
  owed = 0;
  params = [];
  param = [];
  instr = no_instr;
  block = no_block;
  func = no_func;
  defined = [];
  labels = [];
  used = [];
  jumps = [];
  entry = entry.Fresh;
  coroutine = false;
  funcs = [];
}

-- ---- pieces of acts

abbrev pub with_instr : State → NamedInstr → State
with_instr s i = record s { instr = i }

abbrev pub with_attr : NamedAttr → State → State
with_attr a s = with_instr s (record (s.instr) { attr = a })

abbrev pub with_types : List Ty → State → State
with_types ts s = record (with_instr s (record (s.instr) { types = ts })) { read = [] }

abbrev pub literal : Bool → TextToken → NamedAttr
literal negative t = carries.Literal negative (unwrap_or (number_of t) 0)

-- the last target with one argument more
abbrev pub last_with : List NamedTarget → List ℕ → List NamedTarget
last_with [] arg = []
last_with (t ∷ []) arg = record t { args = t.args ++ arg ∷ [] } ∷ []
last_with (t ∷ u ∷ ts) arg = t ∷ last_with (u ∷ ts) arg

-- how many arguments the last target has
abbrev pub last_args : List NamedTarget → ℕ
last_args [] = 0
last_args (t ∷ []) = length t.args
last_args (t ∷ u ∷ ts) = last_args (u ∷ ts)

-- the instruction that is open joins the block
abbrev pub instr_joined : State → State
instr_joined s = record s { block = record (s.block) { instrs = s.block.instrs ++ s.instr ∷ [] }; instr = no_instr }

-- the block that is open joins the function
abbrev pub block_joined : State → State
block_joined s = record s { func = record (s.func) { blocks = s.func.blocks ++ s.block ∷ [] }; block = no_block }

-- what a token other than a bracket or a comma makes of an entry
abbrev pub entry_after : AttributeEntry → TextToken → AttributeEntry
entry_after entry.Fresh t = if bytes_eq t.text (codes "aio.coroutine") then entry.Coroutine else entry.Other
entry_after entry.Coroutine t = entry.Other
entry_after entry.Other t = entry.Other

abbrev pub is_coroutine : AttributeEntry → Bool
is_coroutine entry.Coroutine = true
is_coroutine _ = false

-- ---- the acts

unfoldable pub does : Act → State → State
does act.BeginFunc s = record s { func = no_func; block = no_block; instr = no_instr; params = []; defined = []; labels = []; used = []; jumps = []; coroutine = false }
does act.FuncName s = record s { func = record (s.func) { name = symbol_of s.last } }
does act.FuncResults s = record s { func = record (s.func) { params = s.params; results = s.read }; params = []; read = [] }
does act.FuncAttributes s = record s { func = record (s.func) { coroutine = s.coroutine } }
does act.EndFunc s = record s { funcs = s.funcs ++ s.func ∷ []; func = no_func }
does act.BeginBlock s = record s { block = record no_block { name = s.last.text }; labels = s.labels ++ s.last.text ∷ [] }
does act.BlockParams s = record s { block = record (s.block) { params = s.params }; params = [] }
does act.EndBlock s = block_joined (instr_joined s)
does act.EndInstr s = instr_joined s
does act.Define s = record s { param = s.last.text; defined = s.defined ++ s.last.text ∷ [] }
does act.ParamType s = record s { params = s.params ++ record { name = s.param; ty = first_type s.read } ∷ []; read = [] }
does act.Result s = record (with_instr s (record (s.instr) { results = s.instr.results ++ s.last.text ∷ [] })) { defined = s.defined ++ s.last.text ∷ [] }
does act.Operand s = record (with_instr s (record (s.instr) { operands = s.instr.operands ++ s.last.text ∷ [] })) { used = s.used ++ s.last.text ∷ [] }
does act.Jump s = record (with_instr s (record (s.instr) { targets = s.instr.targets ++ record { block = s.last.text; args = [] } ∷ [] })) { jumps = s.jumps ++ s.last.text ∷ [] }
does act.Argument s = record (with_instr s (record (s.instr) { targets = last_with s.instr.targets s.last.text })) { used = s.used ++ s.last.text ∷ [] }
does act.OweArguments s = record s { owed = last_args s.instr.targets }
does act.OweOperands s = record s { owed = length s.instr.operands }
does act.OweResults s = record s { owed = length s.instr.results }
does act.Paid s = record s { owed = s.owed - 1 }
does act.PlainType s = record s { read = s.read ++ unwrap_or (low_type s.last) ty.Untyped ∷ [] }
does act.ValueType s = record s { read = s.read ++ value_type (payload_of s.last) ∷ [] }
does act.DropTypes s = record s { read = [] }
does act.Results s = with_types s.read s
does act.TruthResult s = with_types (ty.Int W1 ∷ []) s
does act.IndexResult s = with_types (ty.Index ∷ []) s
does act.ElementResult s = with_types (element_type (first_type s.read) ∷ []) s
does act.PayloadResult s = with_types (payload_types (first_type s.read)) s
does act.CoroIdResult s = with_types (ty.CoroId ∷ []) s
does act.CoroHandleResult s = with_types (ty.CoroHandle ∷ []) s
does act.CoroStateResult s = with_types (ty.CoroState ∷ []) s
does act.Literal s = with_attr (literal false s.last) s
does act.Negative s = with_attr (literal true s.last) s
does act.Truth s = with_attr (carries.Truth (is_true s.last.text)) s
does act.Predicate s = with_attr (carries.Pred (unwrap_or (predicate_of s.last) Eq)) s
does act.Count s = with_attr (carries.Count (unwrap_or (number_of s.last) 0)) s
does act.Callee s = with_attr (carries.Callee (symbol_of s.last)) s
does act.BeginDict s = record s { entry = entry.Fresh }
does act.Entry s = record s { entry = entry_after s.entry s.last }
does act.OtherEntry s = record s { entry = entry.Other }
does act.EndEntry s = record s { entry = entry.Fresh; coroutine = s.coroutine || is_coroutine s.entry }
