-- The grammar of lowered texts: what each form is made of, and which tokens are of which class.
use Rattle.std.specs.Prelude.{ℕ, Bool, true, false, not, ◌&&◌, ◌||◌, ◌==◌, nat_lt, List, [], ◌∷◌, ◌++◌, length, filter, Option, Some, None, is_some, bytes_eq, codes}
use Rattle.mlir_lex.specs.declared.kinds.TokenKind.{TokenKind}
use Rattle.mlir_lex.specs.declared.kinds.TokenKind.TheVariants as kind
use Rattle.op_table.specs.declared.kind.OpKind.{OpKind}
use Rattle.op_table.specs.declared.kind.OpKind.TheVariants as op
use Rattle.op_table.specs.declared.rows.Count.{Count}
use Rattle.op_table.specs.declared.rows.Count.TheVariants as counts
use Rattle.op_table.specs.Rows.{row_of, all_kinds, is_terminator}
use Rattle.low_forms.specs.Rows.{row_of_kind}
use Rattle.module_grammar.specs.declared.state.TextToken.{TextToken}
use Rattle.module_grammar.specs.Tokens.{is_up_to, is_name_of, number_of, is_number_kind, payload_of, type_of, is_memref_type, is_group_type, predicate_of}
use Rattle.module_grammar.specs.Rules.{is_byte, is_name, is_value_name, is_block_name, is_bang_name, is_arrow, is_symbol, is_end, is_type_kind, is_inner}
use Rattle.rule_machine.specs.declared.symbol.Symbol.TheVariants as symbol
use Rattle.rule_machine.specs.declared.symbol.Symbol.{Symbol as SymbolOf}
use Rattle.rule_machine.specs.Table.{Line as LineOf, Table}
use Rattle.low_grammar.specs.declared.symbols.Class.{Class}
use Rattle.low_grammar.specs.declared.symbols.Class.TheVariants as class
use Rattle.low_grammar.specs.declared.symbols.Keyword.{Keyword}
use Rattle.low_grammar.specs.declared.symbols.Keyword.TheVariants as key
use Rattle.low_grammar.specs.declared.symbols.Rule.{Rule}
use Rattle.low_grammar.specs.declared.symbols.Rule.TheVariants as rule
use Rattle.low_grammar.specs.declared.symbols.Act.{Act}
use Rattle.low_grammar.specs.declared.symbols.Act.TheVariants as act
use Rattle.low_grammar.specs.declared.state.State.{State}
use Rattle.low_grammar.specs.State.{is_among, all_among, low_type, does}

abbrev pub Symbol : Type 0
Symbol = SymbolOf Class Rule Act

abbrev pub Line : Type 0
Line = LineOf Class Rule Act

-- ---- pieces

abbrev pub token : Class → List Symbol
token c = symbol.Word c ∷ []

abbrev pub word : Keyword → List Symbol
word k = token (class.Key k)

abbrev pub mark : ℕ → List Symbol
mark b = token (class.Byte b)

abbrev pub part : Rule → List Symbol
part r = symbol.Rule r ∷ []

abbrev pub doing : Act → List Symbol
doing a = symbol.Do a ∷ []

-- `( ) [ ] { } , : = < >`
abbrev pub paren : List Symbol
paren = mark 40

abbrev pub close_paren : List Symbol
close_paren = mark 41

abbrev pub bracket : List Symbol
bracket = mark 91

abbrev pub close_bracket : List Symbol
close_bracket = mark 93

abbrev pub brace : List Symbol
brace = mark 123

abbrev pub close_brace : List Symbol
close_brace = mark 125

abbrev pub comma : List Symbol
comma = mark 44

abbrev pub colon : List Symbol
colon = mark 58

abbrev pub equals : List Symbol
equals = mark 61

abbrev pub less : List Symbol
less = mark 60

abbrev pub greater : List Symbol
greater = mark 62

-- an operand, and two and three of them
abbrev pub operand : List Symbol
operand = token class.Use ++ doing act.Operand

abbrev pub two : List Symbol
two = operand ++ comma ++ operand

abbrev pub three : List Symbol
three = two ++ comma ++ operand

-- ` : ` and a type, which is dropped
abbrev pub typed : List Symbol
typed = colon ++ part rule.Type ++ doing act.DropTypes

abbrev pub memref_typed : List Symbol
memref_typed = colon ++ token class.MemrefType ++ doing act.PlainType

-- a block and the arguments for it
abbrev pub target : List Symbol
target = token class.Jump ++ doing act.Jump ++ part rule.Arguments

-- the function that is called, the arguments and their types, up to the arrow
abbrev pub call : List Symbol
call =
    token class.SymbolName ++ doing act.Callee ++ paren ++ part rule.Uses ++ close_paren ++ colon ++ paren ++ part rule.Types ++ close_paren
    ++ doing act.DropTypes ++ token class.Arrow

abbrev pub indices : List Symbol
indices = bracket ++ part rule.Uses ++ close_bracket

-- `{count = N : i64}`
abbrev pub count : List Symbol
count = brace ++ word key.Count ++ equals ++ token class.Count ++ doing act.Count ++ colon ++ word key.I64 ++ close_brace

-- a parameter and its type
abbrev pub param : List Symbol
param = doing act.Define ++ colon ++ part rule.Type ++ doing act.ParamType

-- ---- the forms of instructions, behind their names

abbrev pub cast : List Symbol
cast = operand ++ typed ++ word key.To ++ part rule.Type ++ doing act.Results

abbrev pub parts : OpKind → List Symbol
parts op.ArithConstant = part rule.Literal
parts op.ArithCmpi = token class.Predicate ++ doing act.Predicate ++ comma ++ two ++ typed ++ doing act.TruthResult
parts op.ArithSelect = three ++ colon ++ part rule.Type ++ doing act.Results
parts op.ArithExtsi = cast
parts op.ArithExtui = cast
parts op.ArithTrunci = cast
parts op.ArithIndexCast = cast
parts op.ArithIndexCastui = cast
parts op.MemrefAlloc = paren ++ part rule.Uses ++ close_paren ++ memref_typed ++ doing act.Results
parts op.MemrefDealloc = operand ++ memref_typed ++ doing act.DropTypes
parts op.MemrefDim = two ++ memref_typed ++ doing act.IndexResult
parts op.MemrefLoad = operand ++ indices ++ memref_typed ++ doing act.ElementResult
parts op.MemrefStore = two ++ indices ++ memref_typed ++ doing act.DropTypes
parts op.CfBr = target
parts op.CfCondBr = operand ++ comma ++ target ++ comma ++ target
parts op.FuncCall = call ++ doing act.OweResults ++ part rule.CallResults ++ doing act.Results
parts op.AioCall = call ++ part rule.ResultTypes ++ doing act.DropTypes ++ comma ++ target ++ comma ++ target
parts op.FuncReturn = part rule.Returned
parts op.AioFail = operand
parts op.AioFinish = []
parts op.AsyncCoroId = doing act.CoroIdResult
parts op.AsyncCoroBegin = operand ++ doing act.CoroHandleResult
parts op.AsyncCoroSave = operand ++ doing act.CoroStateResult
parts op.AsyncCoroSuspend = operand ++ comma ++ target ++ comma ++ target ++ comma ++ target
parts op.AsyncCoroFree = two
parts op.AsyncCoroEnd = operand
parts op.AsyncRuntimeCreate = colon ++ part rule.Type ++ doing act.Results
parts op.AsyncRuntimeCreateGroup = operand ++ colon ++ token class.GroupType ++ doing act.PlainType ++ doing act.Results
parts op.AsyncRuntimeAddToGroup = two ++ typed ++ doing act.IndexResult
parts op.AsyncRuntimeResume = operand
parts op.AsyncRuntimeAwait = operand ++ typed
parts op.AsyncRuntimeAwaitAndResume = two ++ typed
parts op.AsyncRuntimeIsError = operand ++ typed ++ doing act.TruthResult
parts op.AsyncRuntimeStore = two ++ typed
parts op.AsyncRuntimeLoad =
    operand ++ colon ++ token class.ValueType ++ less ++ token class.Payload ++ doing act.ValueType ++ greater ++ doing act.PayloadResult
parts op.AsyncRuntimeSetAvailable = operand ++ typed
parts op.AsyncRuntimeSetError = operand ++ typed
parts op.AsyncRuntimeAddRef = operand ++ count ++ typed
parts op.AsyncRuntimeDropRef = operand ++ count ++ typed
-- two operands of one type, which is the result's
parts _ = two ++ colon ++ part rule.Type ++ doing act.Results

-- the kinds that lowered code may hold, in the order of their names
abbrev pub low_kinds : List OpKind
low_kinds = filter (λ k. (row_of_kind k).stands) all_kinds

-- what follows the form of an instruction: the next one; of a terminator: the next block
abbrev pub ends : Bool → List Symbol
ends true = doing act.EndBlock ++ part rule.NextBlock
ends false = doing act.EndInstr ++ part rule.Instrs

abbrev pub line : Class → List Symbol → Line
line c ss = record { first = c; after = ss }

abbrev pub forms : List OpKind → List Line
forms [] = []
forms (k ∷ ks) = line (class.OpName k) (parts k ++ ends (is_terminator k)) ∷ forms ks

-- ---- the rules

-- what follows `func.func`
abbrev pub func : List Symbol
func =
    doing act.BeginFunc ++ part rule.Visibility ++ token class.SymbolName ++ doing act.FuncName ++ paren ++ part rule.Params ++ close_paren
    ++ part rule.FuncResults ++ doing act.FuncResults ++ part rule.FuncAttributes ++ brace ++ token class.Label ++ doing act.BeginBlock
    ++ part rule.BlockParams ++ colon ++ part rule.Instrs

-- a type, and what follows it
abbrev pub type_then : List Symbol → List Line
type_then ss =
    line class.PlainType (doing act.PlainType ++ ss)
    ∷ line class.ValueType (less ++ token class.Payload ++ doing act.ValueType ++ greater ++ ss) ∷ []

-- brackets round tokens whose brackets are balanced, and what follows them
abbrev pub brackets_then : List Symbol → List Line
brackets_then ss =
    line (class.Byte 40) (part rule.Inside ++ close_paren ++ ss) ∷ line (class.Byte 91) (part rule.Inside ++ close_bracket ++ ss)
    ∷ line (class.Byte 123) (part rule.Inside ++ close_brace ++ ss) ∷ line (class.Byte 60) (part rule.Inside ++ greater ++ ss) ∷ []

abbrev pub lines : Rule → List Line
lines rule.Text =
    line (class.Key key.Module) (part rule.ModuleName ++ part rule.ModuleAttributes ++ brace ++ part rule.Funcs ++ close_brace)
    ∷ line (class.Key key.Func) (func ++ part rule.Funcs) ∷ []
lines rule.ModuleName = line class.SymbolName [] ∷ []
lines rule.ModuleAttributes = line (class.Key key.Attributes) (brace ++ part rule.Inside ++ close_brace) ∷ []
lines rule.Funcs = line (class.Key key.Func) (func ++ part rule.Funcs) ∷ []
lines rule.Visibility = line (class.Key key.Private) [] ∷ line (class.Key key.Public) [] ∷ []
lines rule.Params = line class.Define (param ++ part rule.DroppedDict ++ part rule.MoreParams) ∷ []
lines rule.MoreParams = line (class.Byte 44) (token class.Define ++ param ++ part rule.DroppedDict ++ part rule.MoreParams) ∷ []
lines rule.DroppedDict = line (class.Byte 123) (part rule.Inside ++ close_brace) ∷ []
lines rule.FuncResults = line class.Arrow (part rule.ResultTypes) ∷ []
lines rule.FuncAttributes = line (class.Key key.Attributes) (brace ++ doing act.BeginDict ++ part rule.Dict ++ doing act.FuncAttributes) ∷ []
-- a dictionary that may hold `aio.coroutine`, up to and with its closing brace
lines rule.Dict =
    line (class.Byte 125) (doing act.EndEntry) ∷ line (class.Byte 44) (doing act.EndEntry ++ part rule.Dict)
    ∷ line class.EntryWord (doing act.Entry ++ part rule.Dict) ∷ brackets_then (doing act.OtherEntry ++ part rule.Dict)
-- tokens with balanced brackets
lines rule.Inside = line class.AnyWord (part rule.Inside) ∷ brackets_then (part rule.Inside)
lines rule.BlockParams = line (class.Byte 40) (token class.Define ++ param ++ part rule.MoreBlockParams ++ close_paren ++ doing act.BlockParams) ∷ []
lines rule.MoreBlockParams = line (class.Byte 44) (token class.Define ++ param ++ part rule.MoreBlockParams) ∷ []
lines rule.Instrs = line class.Define (doing act.Result ++ part rule.MoreResults ++ equals ++ part rule.Form) ∷ forms low_kinds
lines rule.MoreResults = line (class.Byte 44) (token class.Define ++ doing act.Result ++ part rule.MoreResults) ∷ []
lines rule.Form = forms low_kinds
lines rule.NextBlock =
    line class.Label (doing act.BeginBlock ++ part rule.BlockParams ++ colon ++ part rule.Instrs) ∷ line class.FuncClose (doing act.EndFunc) ∷ []
lines rule.Literal =
    line (class.Key key.True) (doing act.Truth ++ doing act.TruthResult) ∷ line (class.Key key.False) (doing act.Truth ++ doing act.TruthResult)
    ∷ line (class.Byte 45) (token class.Negated ++ doing act.Negative ++ colon ++ part rule.Type ++ doing act.Results)
    ∷ line class.Number (doing act.Literal ++ colon ++ part rule.Type ++ doing act.Results) ∷ []
lines rule.Uses = line class.Use (doing act.Operand ++ part rule.MoreUses) ∷ []
lines rule.MoreUses = line (class.Byte 44) (operand ++ part rule.MoreUses) ∷ []
-- the arguments for a block, and as many types
lines rule.Arguments =
    line (class.Byte 40) (token class.Use ++ doing act.Argument ++ part rule.MoreArguments ++ colon ++ doing act.OweArguments ++ part rule.OwedType
    ++ part rule.MoreOwedTypes ++ token class.OwedClose ++ doing act.DropTypes) ∷ []
lines rule.MoreArguments = line (class.Byte 44) (token class.Use ++ doing act.Argument ++ part rule.MoreArguments) ∷ []
lines rule.Returned =
    line class.Use (doing act.Operand ++ part rule.MoreUses ++ colon ++ doing act.OweOperands ++ part rule.OwedType ++ part rule.MoreOwedTypes
    ++ doing act.DropTypes) ∷ []
lines rule.Type = type_then []
lines rule.Types = type_then (part rule.MoreTypes)
lines rule.MoreTypes = line (class.Byte 44) (part rule.Type ++ part rule.MoreTypes) ∷ []
lines rule.ResultTypes = line (class.Byte 40) (part rule.Types ++ close_paren) ∷ type_then []
lines rule.OwedType = type_then (doing act.Paid)
lines rule.MoreOwedTypes = line class.OwedComma (part rule.OwedType ++ part rule.MoreOwedTypes) ∷ []
-- the types of a call's results, as many as there are
lines rule.CallResults =
    line (class.Byte 40) (part rule.CallTypes ++ token class.OwedClose) ∷ line class.OnlyPlainType (doing act.PlainType ++ doing act.Paid)
    ∷ line class.OnlyValueType (less ++ token class.Payload ++ doing act.ValueType ++ greater ++ doing act.Paid) ∷ []
lines rule.CallTypes = type_then (doing act.Paid ++ part rule.MoreOwedTypes)

-- the rules that may be left out
abbrev pub may_end : Rule → Bool
may_end rule.Dict = false
may_end rule.Instrs = false
may_end rule.Form = false
may_end rule.NextBlock = false
may_end rule.Literal = false
may_end rule.Type = false
may_end rule.ResultTypes = false
may_end rule.OwedType = false
may_end rule.CallResults = false
may_end _ = true

-- ---- the classes of tokens

abbrev pub word_of : Keyword → List ℕ
word_of key.Attributes = codes "attributes"
word_of key.Count = codes "count"
word_of key.False = codes "false"
word_of key.Func = codes "func.func"
word_of key.I64 = codes "i64"
word_of key.Module = codes "module"
word_of key.Private = codes "private"
word_of key.Public = codes "public"
word_of key.To = codes "to"
word_of key.True = codes "true"

-- what a token is of itself
unfoldable pub is_of : Class → TextToken → Bool
is_of (class.Byte b) t = is_byte b t.kind
is_of class.Arrow t = is_arrow t.kind
is_of (class.Key k) t = is_name t.kind && bytes_eq t.text (word_of k)
is_of (class.OpName k) t = is_name t.kind && is_name_of k t.text
is_of class.SymbolName t = is_symbol t.kind
is_of class.Use t = is_value_name t.kind
is_of class.Define t = is_value_name t.kind
is_of class.Label t = is_block_name t.kind
is_of class.Jump t = is_block_name t.kind
is_of class.Number t = is_number_kind t.kind && is_some (number_of t)
is_of class.Negated t = is_number_kind t.kind && is_up_to 9223372036854775808 (number_of t)
is_of class.Count t = is_number_kind t.kind && is_up_to 4294967295 (number_of t)
is_of class.Predicate t = is_name t.kind && is_some (predicate_of t)
is_of class.PlainType t = is_type_kind t.kind && is_some (low_type t)
is_of class.ValueType t = is_bang_name t.kind && bytes_eq t.text (codes "!async.value")
is_of class.OnlyPlainType t = is_type_kind t.kind && is_some (low_type t)
is_of class.OnlyValueType t = is_bang_name t.kind && bytes_eq t.text (codes "!async.value")
is_of class.Payload t = is_type_kind t.kind && is_some (payload_of t)
is_of class.MemrefType t = is_type_kind t.kind && is_memref_type (type_of t)
is_of class.GroupType t = is_type_kind t.kind && is_group_type (type_of t)
is_of class.OwedComma t = is_byte 44 t.kind
is_of class.OwedClose t = is_byte 41 t.kind
is_of class.FuncClose t = is_byte 125 t.kind
is_of class.EntryWord t = is_inner t.kind && not (is_byte 44 t.kind)
is_of class.AnyWord t = is_inner t.kind
is_of class.End t = is_end t.kind

-- so many results, where the table says it
abbrev pub has_results : Count → ℕ → Bool
has_results (counts.Exactly n) results = results == n
has_results counts.Any results = true

-- what the state asks besides
unfoldable pub allows : Class → State → TextToken → Bool
allows (class.OpName k) s t = has_results (row_of k).results (length s.instr.results)
allows class.Define s t = not (is_among s.defined t.text)
allows class.Label s t = s.owed == 0 && not (is_among s.labels t.text)
allows class.OnlyPlainType s t = s.owed == 1
allows class.OnlyValueType s t = s.owed == 1
allows class.OwedComma s t = nat_lt 0 s.owed
allows class.OwedClose s t = s.owed == 0
allows class.FuncClose s t = s.owed == 0 && all_among s.defined s.used && all_among s.labels s.jumps
allows _ s t = true

-- what a word makes of the state: the name of an operation gives the kind
abbrev pub reads : Class → TextToken → State → State
reads (class.OpName k) t s = record s { last = t; instr = record (s.instr) { kind = k } }
reads _ t s = record s { last = t }

abbrev pub grammar : Table Class Rule Act TextToken State
grammar = record {
  lines = lines;
  may_end = may_end;
  accepts = λ c s t. is_of c t && allows c s t;
  reads = reads;
  does = does;
}
