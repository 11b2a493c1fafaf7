-- The grammar: what each form is made of, and which tokens are of which class.
use Rattle.std.specs.Prelude.{ℕ, Bool, true, false, not, if◌then◌else◌, ◌&&◌, ◌||◌, ◌==◌, List, [], ◌∷◌, ◌++◌, length, Option, Some, None, is_some, bytes_eq, codes}
use Rattle.mlir_lex.specs.declared.kinds.TokenKind.{TokenKind}
use Rattle.mlir_lex.specs.declared.kinds.TokenKind.TheVariants as kind
use Rattle.op_table.specs.declared.kind.OpKind.{OpKind}
use Rattle.op_table.specs.declared.kind.OpKind.TheVariants as op
use Rattle.op_table.specs.declared.rows.Level.{Level}
use Rattle.op_table.specs.declared.rows.Level.TheVariants.{Source, Checked, Split, Low}
use Rattle.op_table.specs.declared.form.Form.{Form}
use Rattle.op_table.specs.declared.form.Form.TheVariants as shape
use Rattle.op_table.specs.Rows.{row_of, body_kinds}
use Rattle.module_grammar.specs.declared.symbols.Class.{Class}
use Rattle.module_grammar.specs.declared.symbols.Class.TheVariants as class
use Rattle.module_grammar.specs.declared.symbols.Keyword.{Keyword}
use Rattle.module_grammar.specs.declared.symbols.Keyword.TheVariants as key
use Rattle.module_grammar.specs.declared.symbols.Rule.{Rule}
use Rattle.module_grammar.specs.declared.symbols.Rule.TheVariants as rule
use Rattle.module_grammar.specs.declared.symbols.Act.{Act}
use Rattle.module_grammar.specs.declared.symbols.Act.TheVariants as act
use Rattle.module_grammar.specs.declared.symbols.Symbol.{Symbol}
use Rattle.module_grammar.specs.declared.symbols.Symbol.TheVariants as symbol
use Rattle.module_grammar.specs.Engine.{Line, Table}
use Rattle.module_grammar.specs.declared.state.TextToken.{TextToken}
use Rattle.module_grammar.specs.declared.state.Name.{Name}
use Rattle.module_grammar.specs.declared.state.State.{State}
use Rattle.module_grammar.specs.Tokens.{is_up_to, kind_among, word_of, is_name_of, number_of, is_number_kind, is_index, type_of, payload_of, is_memref_type, is_group_type, is_truth_type, predicate_of}
use Rattle.module_grammar.specs.State.{is_named, param_names, is_wide, does}

-- ---- pieces

abbrev pub token : Class → List Symbol
token c = symbol.Word c ∷ []

abbrev pub word : Keyword → List Symbol
word k = token (class.Key k)

abbrev pub mark : ℕ → List Symbol
mark b = token (class.Byte b)

abbrev pub part : Rule → List Symbol
part r = symbol.Rule r ∷ []

abbrev pub doing : Act → List Symbol
doing a = symbol.Do a ∷ []

abbrev pub paren : List Symbol
paren = mark 40

abbrev pub close_paren : List Symbol
close_paren = mark 41

abbrev pub bracket : List Symbol
bracket = mark 91

abbrev pub close_bracket : List Symbol
close_bracket = mark 93

abbrev pub brace : List Symbol
brace = mark 123

abbrev pub close_brace : List Symbol
close_brace = mark 125

abbrev pub less : List Symbol
less = mark 60

abbrev pub greater : List Symbol
greater = mark 62

abbrev pub comma : List Symbol
comma = mark 44

abbrev pub colon : List Symbol
colon = mark 58

abbrev pub equals : List Symbol
equals = mark 61

abbrev pub arrow : List Symbol
arrow = token class.Arrow

-- a value's name that is used as an operand, with `#k` or without
abbrev pub operand : List Symbol
operand = token class.Use ++ doing act.Operand ++ part rule.Index

-- the colon that opens the types, before which a dictionary may stand, and one type
abbrev pub typed : List Symbol
typed = part rule.OpDict ++ colon ++ part rule.Type

-- the same with a type of this class
abbrev pub typed_as : Class → List Symbol
typed_as c = part rule.OpDict ++ colon ++ token c ++ doing act.PlainType

-- the same with types in parentheses, which are those of the operands
abbrev pub listed : List Symbol
listed = part rule.OpDict ++ colon ++ paren ++ part rule.Types ++ close_paren ++ doing act.Written

-- the same with one or more types, which are those of the operands
abbrev pub types_written : List Symbol
types_written = part rule.Type ++ part rule.MoreTypes ++ doing act.Written

-- the name of a function, its arguments and their types
abbrev pub arguments : List Symbol
arguments = token class.SymbolName ++ doing act.Callee ++ paren ++ part rule.Uses ++ close_paren ++ listed

abbrev pub indices : List Symbol
indices = bracket ++ part rule.Uses ++ close_bracket

-- one group of bounds of a parallel loop
abbrev pub bounds : List Symbol
bounds = paren ++ operand ++ part rule.MoreUses ++ close_paren ++ doing act.Group

abbrev pub index_param : List Symbol
index_param = token class.Param ++ doing act.IndexParam

-- what follows the name of a parameter that has its type
abbrev pub type_of_param : List Symbol
type_of_param = doing act.Param ++ colon ++ part rule.Type ++ doing act.ParamType

-- a parameter that stands within its region, behind the region's opening brace
abbrev pub block_param : List Symbol
block_param = token class.Param ++ doing act.BlockParam ++ colon ++ part rule.Type ++ doing act.BlockParamType

-- `%a = %x`
abbrev pub init : List Symbol
init = token class.Param ++ doing act.Param ++ equals ++ operand

-- `%v as %u : T`
abbrev pub value_operand : List Symbol
value_operand = operand ++ word key.As ++ token class.Param ++ doing act.Param ++ colon ++ part rule.Type ++ doing act.PayloadParam ++ doing act.Written

-- the operations of a region and its closing brace
abbrev pub rest_of_body : List Symbol
rest_of_body = part rule.Body ++ close_brace ++ doing act.CloseRegion

-- what follows the opening brace of a region
abbrev pub rest_of_region : List Symbol
rest_of_region = doing act.OpenRegion ++ rest_of_body

abbrev pub region : List Symbol
region = brace ++ rest_of_region

-- a dictionary that may hold `aio.at`, behind its opening brace
abbrev pub dict : List Symbol
dict = doing act.BeginDict ++ part rule.Dict

-- what follows the form of an operation: its end, and the operations after it
abbrev pub ends : List Symbol
ends = part rule.OpDict ++ part rule.Location ++ doing act.EndOp ++ part rule.Body

-- what follows `func.func`
abbrev pub func : List Symbol
func =
    doing act.BeginFunc ++ part rule.Visibility ++ token class.SymbolName ++ doing act.FuncName
    ++ paren ++ part rule.Params ++ close_paren ++ part rule.FuncResults ++ part rule.FuncAttributes
    ++ brace ++ doing act.OpenBody ++ part rule.Body ++ close_brace ++ doing act.EndFunc

-- ---- the forms of operations, behind their names

abbrev pub parts : Form → List Symbol
parts shape.Binary = operand ++ comma ++ operand ++ typed ++ doing act.SameTypes
parts shape.Compare = token class.Predicate ++ doing act.Predicate ++ comma ++ operand ++ comma ++ operand ++ typed ++ doing act.Twice ++ doing act.TruthResult
parts shape.Select = operand ++ comma ++ operand ++ comma ++ operand ++ typed ++ doing act.SameTypes
parts shape.Extend = operand ++ typed ++ doing act.Written ++ word key.To ++ part rule.Type ++ doing act.Results
parts shape.Truncate = operand ++ typed ++ doing act.Written ++ word key.To ++ part rule.Type ++ doing act.Results
parts shape.IndexCast = operand ++ typed ++ doing act.Written ++ word key.To ++ part rule.Type ++ doing act.Results
parts shape.Constant = part rule.Literal
parts shape.Assert = operand ++ comma ++ token class.Message ++ doing act.Message
parts shape.Call = arguments ++ arrow ++ part rule.ResultTypes ++ doing act.Results
parts shape.TryCall = arguments ++ arrow ++ token class.TruthType ++ doing act.PlainType ++ doing act.Results
parts shape.Return = part rule.Held
parts shape.For = index_param ++ equals ++ operand ++ word key.To ++ operand ++ word key.Step ++ operand ++ part rule.IterArgs ++ region
parts shape.If = operand ++ part rule.Branches
parts shape.While = part rule.Inits ++ listed ++ doing act.WrittenParams ++ arrow ++ part rule.ResultTypes ++ doing act.Results ++ region ++ word key.Do ++ brace ++ doing act.OpenRegion ++ part rule.BlockParams ++ rest_of_body
parts shape.Condition = paren ++ operand ++ close_paren ++ part rule.Held
parts shape.Parallel = paren ++ index_param ++ part rule.MoreIndexParams ++ close_paren ++ equals ++ bounds ++ word key.To ++ bounds ++ word key.Step ++ bounds ++ region
parts shape.Reduce = []
parts shape.Yield = part rule.Held
parts shape.Alloc = paren ++ part rule.Uses ++ close_paren ++ typed_as class.MemrefType ++ doing act.Results
parts shape.Dealloc = operand ++ typed_as class.MemrefType ++ doing act.Written
parts shape.Load = operand ++ indices ++ typed_as class.MemrefType ++ doing act.ElementResult ++ doing act.Written
parts shape.Store = operand ++ comma ++ operand ++ indices ++ typed_as class.MemrefType ++ doing act.Written
parts shape.Dim = operand ++ comma ++ operand ++ typed_as class.MemrefType ++ doing act.Written ++ doing act.IndexResult
parts shape.Execute = part rule.Dependencies ++ doing act.Group ++ part rule.ValueOperands ++ doing act.Group ++ doing act.TokenResult ++ part rule.OpResults ++ region
parts shape.TaskYield = part rule.Held
parts shape.Await = operand ++ typed ++ doing act.PayloadResult ++ doing act.Written
parts shape.AwaitAll = operand
parts shape.CreateGroup = operand ++ typed_as class.GroupType ++ doing act.Results
parts shape.AddToGroup = operand ++ comma ++ operand ++ typed ++ doing act.Written ++ doing act.IndexResult
parts shape.Other = []

abbrev pub form : OpKind → List Symbol
form k = parts (row_of k).form

-- the kinds that stand at every level, in the order of their names
abbrev pub plain_kinds : List OpKind
plain_kinds =
    op.ArithAddi ∷ op.ArithAndi ∷ op.ArithCmpi ∷ op.ArithConstant ∷ op.ArithDivsi ∷ op.ArithDivui ∷ op.ArithExtsi ∷ op.ArithExtui ∷
    op.ArithIndexCast ∷ op.ArithIndexCastui ∷ op.ArithMaxsi ∷ op.ArithMaxui ∷ op.ArithMinsi ∷ op.ArithMinui ∷ op.ArithMuli ∷ op.ArithOri ∷
    op.ArithRemsi ∷ op.ArithRemui ∷ op.ArithSelect ∷ op.ArithShli ∷ op.ArithShrsi ∷ op.ArithShrui ∷ op.ArithSubi ∷ op.ArithTrunci ∷
    op.ArithXori ∷ op.AsyncAddToGroup ∷ op.AsyncAwait ∷ op.AsyncAwaitAll ∷ op.AsyncCreateGroup ∷ op.AsyncExecute ∷ op.AsyncYield ∷
    op.CfAssert ∷ op.FuncCall ∷ op.FuncReturn ∷ op.MemrefAlloc ∷ op.MemrefDealloc ∷ op.MemrefDim ∷ op.MemrefLoad ∷ op.MemrefStore ∷
    op.ScfCondition ∷ op.ScfFor ∷ op.ScfIf ∷ op.ScfParallel ∷ op.ScfReduce ∷ op.ScfWhile ∷ op.ScfYield ∷ []

-- the kinds that texts of a level may hold
abbrev pub kinds_at : Level → List OpKind
kinds_at Source = body_kinds Source
kinds_at Checked = body_kinds Checked
kinds_at Split = body_kinds Split
kinds_at Low = body_kinds Low

-- ---- the rules

abbrev pub line : Class → List Symbol → Line
line c ss = record { first = c; after = ss }

-- a type, and what follows it
abbrev pub type_then : List Symbol → List Line
type_then ss =
    line class.PlainType (doing act.PlainType ++ ss)
    ∷ line class.ValueType (less ++ token class.Payload ++ doing act.ValueType ++ greater ++ ss) ∷ []

-- brackets round tokens whose brackets are balanced, and what follows them
abbrev pub brackets_then : List Symbol → List Line
brackets_then ss =
    line (class.Byte 40) (part rule.Inside ++ close_paren ++ ss) ∷ line (class.Byte 91) (part rule.Inside ++ close_bracket ++ ss)
    ∷ line (class.Byte 123) (part rule.Inside ++ close_brace ++ ss) ∷ line (class.Byte 60) (part rule.Inside ++ greater ++ ss) ∷ []

abbrev pub is_name : TokenKind → Bool
is_name kind.Name = true
is_name _ = false

-- the name of each kind, its form, and what follows it
abbrev pub forms_then : List Symbol → List Symbol → List OpKind → List Line
forms_then before ss [] = []
forms_then before ss (k ∷ ks) = line (class.OpName k) (before ++ doing (act.Kind k) ++ form k ++ ss) ∷ forms_then before ss ks

abbrev pub form_or_none : List Symbol → List Symbol → Option OpKind → Option Line
form_or_none before ss None = None
form_or_none before ss (Some k) = Some (line (class.OpName k) (before ++ doing (act.Kind k) ++ form k ++ ss))

-- the line of the form whose name the token is
abbrev pub form_chosen : Level → List Symbol → List Symbol → TextToken → Option Line
form_chosen level before ss t = if is_name t.kind then form_or_none before ss (kind_among (kinds_at level) t.text) else None

abbrev pub lines : Level → Rule → List Line
lines level rule.Text =
    line (class.Key key.Module) (part rule.ModuleName ++ part rule.ModuleAttributes ++ brace ++ part rule.Funcs ++ close_brace)
    ∷ line (class.Key key.Func) (func ++ part rule.Funcs) ∷ []
lines level rule.ModuleName =
    line class.SymbolName [] ∷ []
lines level rule.ModuleAttributes =
    line (class.Key key.Attributes) (brace ++ part rule.Inside ++ close_brace) ∷ []
lines level rule.Funcs =
    line (class.Key key.Func) (func ++ part rule.Funcs) ∷ []
lines level rule.Visibility =
    line (class.Key key.Private) [] ∷ line (class.Key key.Public) [] ∷ []
lines level rule.Params =
    line class.Param (type_of_param ++ part rule.DroppedDict ++ part rule.MoreParams) ∷ []
lines level rule.MoreParams =
    line (class.Byte 44) (token class.Param ++ type_of_param ++ part rule.DroppedDict ++ part rule.MoreParams) ∷ []
lines level rule.DroppedDict =
    line (class.Byte 123) (part rule.Inside ++ close_brace) ∷ []
lines level rule.FuncResults =
    line class.Arrow (part rule.ResultTypes ++ doing act.FuncResults) ∷ []
lines level rule.FuncAttributes =
    line (class.Key key.Attributes) (brace ++ dict ++ doing act.FuncAt) ∷ []
lines level rule.Type =
    type_then []
lines level rule.Types =
    type_then (part rule.MoreTypes)
lines level rule.MoreTypes =
    line (class.Byte 44) (part rule.Type ++ part rule.MoreTypes) ∷ []
lines level rule.ResultTypes =
    line (class.Byte 40) (part rule.Types ++ close_paren) ∷ type_then []
lines level rule.OpDict =
    line (class.Byte 123) (dict ++ doing act.OpAt) ∷ []
-- a dictionary that may hold `aio.at`, up to and with its closing brace
lines level rule.Dict =
    line class.EntryClose (doing act.EndEntry) ∷ line class.EntryComma (doing act.EndEntry ++ part rule.Dict)
    ∷ line class.EntryWord (doing act.Entry ++ part rule.Dict) ∷ brackets_then (doing act.OtherEntry ++ part rule.Dict)
-- tokens with balanced brackets
lines level rule.Inside =
    line class.AnyWord (part rule.Inside) ∷ brackets_then (part rule.Inside)
lines level rule.Location =
    line (class.Key key.Loc) (paren ++ part rule.Inside ++ close_paren) ∷ []
lines level rule.Body =
    line class.Result (doing act.BeginOp ++ doing act.Result ++ part rule.Results ++ doing act.CountNames ++ equals ++ part rule.Form ++ ends)
    ∷ forms_then (doing act.BeginOp) ends (kinds_at level)
lines level rule.Results =
    line (class.Byte 44) (token class.Result ++ doing act.Result ++ part rule.MoreResults)
    ∷ line (class.Byte 58) (token class.Number ++ doing act.ResultCount) ∷ []
lines level rule.MoreResults =
    line (class.Byte 44) (token class.Result ++ doing act.Result ++ part rule.MoreResults) ∷ []
lines level rule.Form =
    forms_then [] [] (kinds_at level)
lines level rule.Literal =
    line (class.Key key.True) (doing act.Truth ++ doing act.TruthResult) ∷ line (class.Key key.False) (doing act.Truth ++ doing act.TruthResult)
    ∷ line (class.Byte 45) (token class.Negated ++ doing act.Negative ++ typed ++ doing act.Results)
    ∷ line class.Number (doing act.Literal ++ typed ++ doing act.Results) ∷ []
lines level rule.Index =
    line class.Index (doing act.OperandIndex) ∷ []
lines level rule.Uses =
    line class.Use (doing act.Operand ++ part rule.Index ++ part rule.MoreUses) ∷ []
lines level rule.MoreUses =
    line (class.Byte 44) (operand ++ part rule.MoreUses) ∷ []
-- names after a terminator: operands, or the results of the next operation
lines level rule.Held =
    line class.Use (doing act.Hold ++ part rule.AfterHeld) ∷ []
lines level rule.AfterHeld =
    line (class.Byte 44) (token class.Use ++ doing act.Hold ++ part rule.AfterHeld)
    ∷ line class.HeldEquals (doing act.HeldResults ++ doing act.CountNames ++ part rule.Form)
    ∷ line (class.Byte 58) (part rule.AfterHeldColon)
    ∷ line (class.Byte 123) (doing act.HeldOperands ++ dict ++ doing act.OpAt ++ colon ++ types_written)
    ∷ line class.Index (doing act.HeldOperands ++ doing act.OperandIndex ++ part rule.MoreUses ++ part rule.OpDict ++ colon ++ types_written) ∷ []
lines level rule.AfterHeldColon =
    line class.HeldNumber (doing act.HeldResults ++ doing act.ResultCount ++ doing act.CountNames ++ equals ++ part rule.Form)
    ∷ type_then (doing act.HeldOperands ++ part rule.MoreTypes ++ doing act.Written)
lines level rule.IterArgs =
    line (class.Key key.IterArgs) (paren ++ init ++ part rule.MoreInits ++ close_paren ++ arrow ++ paren ++ part rule.Type ++ part rule.MoreTypes ++ close_paren
    ++ doing act.Results ++ doing act.ResultParams) ∷ []
lines level rule.Inits =
    line (class.Byte 40) (init ++ part rule.MoreInits ++ close_paren) ∷ []
lines level rule.MoreInits =
    line (class.Byte 44) (init ++ part rule.MoreInits) ∷ []
-- with result types both regions stand
lines level rule.Branches =
    line class.Arrow (part rule.BranchTypes) ∷ line (class.Byte 123) (rest_of_region ++ part rule.Else) ∷ []
lines level rule.BranchTypes =
    line (class.Byte 40) (part rule.BranchTypeList) ∷ type_then (doing act.Results ++ region ++ word key.Else ++ region)
lines level rule.BranchTypeList =
    line (class.Byte 41) (region ++ part rule.Else) ∷ type_then (part rule.MoreTypes ++ close_paren ++ doing act.Results ++ region ++ word key.Else ++ region)
lines level rule.Else =
    line (class.Key key.Else) region ∷ []
lines level rule.BlockParams =
    line class.BlockName (paren ++ block_param ++ part rule.MoreBlockParams ++ close_paren ++ colon) ∷ []
lines level rule.MoreBlockParams =
    line (class.Byte 44) (block_param ++ part rule.MoreBlockParams) ∷ []
lines level rule.MoreIndexParams =
    line (class.Byte 44) (index_param ++ part rule.MoreIndexParams) ∷ []
lines level rule.Dependencies =
    line (class.Byte 91) (operand ++ part rule.MoreUses ++ close_bracket) ∷ []
lines level rule.ValueOperands =
    line (class.Byte 40) (value_operand ++ part rule.MoreValueOperands ++ close_paren) ∷ []
lines level rule.MoreValueOperands =
    line (class.Byte 44) (value_operand ++ part rule.MoreValueOperands) ∷ []
lines level rule.OpResults =
    line class.Arrow (part rule.ResultTypes ++ doing act.Results) ∷ []

-- the rules that may be left out
abbrev pub may_end : Rule → Bool
may_end rule.Type = false
may_end rule.ResultTypes = false
may_end rule.Dict = false
may_end rule.Form = false
may_end rule.Literal = false
may_end rule.AfterHeld = false
may_end rule.AfterHeldColon = false
may_end rule.Branches = false
may_end rule.BranchTypes = false
may_end rule.BranchTypeList = false
may_end _ = true

-- ---- the classes of tokens

abbrev pub is_byte : ℕ → TokenKind → Bool
is_byte b (kind.Byte x) = x == b
is_byte b _ = false

abbrev pub is_value_name : TokenKind → Bool
is_value_name kind.ValueName = true
is_value_name _ = false

abbrev pub is_hash_name : TokenKind → Bool
is_hash_name kind.HashName = true
is_hash_name _ = false

abbrev pub is_block_name : TokenKind → Bool
is_block_name kind.BlockName = true
is_block_name _ = false

abbrev pub is_bang_name : TokenKind → Bool
is_bang_name kind.BangName = true
is_bang_name _ = false

abbrev pub is_arrow : TokenKind → Bool
is_arrow kind.Arrow = true
is_arrow _ = false

abbrev pub is_string : TokenKind → Bool
is_string kind.Text = true
is_string _ = false

abbrev pub is_symbol : TokenKind → Bool
is_symbol kind.SymbolName = true
is_symbol kind.SymbolText = true
is_symbol _ = false

abbrev pub is_end : TokenKind → Bool
is_end kind.End = true
is_end _ = false

-- the kinds that are types, which may be written by one token
abbrev pub is_type_kind : TokenKind → Bool
is_type_kind kind.Name = true
is_type_kind kind.BangName = true
is_type_kind kind.Memref = true
is_type_kind _ = false

-- `( ) { } [ ] < >`
abbrev pub is_bracket_byte : ℕ → Bool
is_bracket_byte b = b == 40 || b == 41 || b == 123 || b == 125 || b == 91 || b == 93 || b == 60 || b == 62

-- neither a bracket nor the end of the text
abbrev pub is_inner : TokenKind → Bool
is_inner (kind.Byte b) = not (is_bracket_byte b)
is_inner kind.End = false
is_inner _ = true

-- a class of types that one token writes
abbrev pub is_one_type : Class → Bool
is_one_type class.PlainType = true
is_one_type class.Payload = true
is_one_type class.MemrefType = true
is_one_type class.GroupType = true
is_one_type class.TruthType = true
is_one_type _ = false

-- what a token is of itself
unfoldable pub is_of : Class → TextToken → Bool
is_of (class.Byte b) t = is_byte b t.kind
is_of class.Arrow t = is_arrow t.kind
is_of (class.Key k) t = is_name t.kind && bytes_eq t.text (word_of k)
is_of (class.OpName k) t = is_name t.kind && is_name_of k t.text
is_of class.SymbolName t = is_symbol t.kind
is_of class.Message t = is_string t.kind
is_of class.Use t = is_value_name t.kind
is_of class.Param t = is_value_name t.kind
is_of class.Result t = is_value_name t.kind
is_of class.Index t = is_hash_name t.kind && t.joined && is_index t.text
is_of class.Number t = is_number_kind t.kind && is_some (number_of t)
is_of class.Negated t = is_number_kind t.kind && is_up_to 9223372036854775808 (number_of t)
is_of class.Predicate t = is_name t.kind && is_some (predicate_of t)
is_of class.PlainType t = is_type_kind t.kind && is_some (type_of t)
is_of class.ValueType t = is_bang_name t.kind && bytes_eq t.text (codes "!async.value")
is_of class.Payload t = is_type_kind t.kind && is_some (payload_of t)
is_of class.MemrefType t = is_type_kind t.kind && is_memref_type (type_of t)
is_of class.GroupType t = is_type_kind t.kind && is_group_type (type_of t)
is_of class.TruthType t = is_type_kind t.kind && is_truth_type (type_of t)
is_of class.BlockName t = is_block_name t.kind
is_of class.HeldEquals t = is_byte 61 t.kind
is_of class.HeldNumber t = is_number_kind t.kind && is_some (number_of t)
is_of class.EntryComma t = is_byte 44 t.kind
is_of class.EntryClose t = is_byte 125 t.kind
is_of class.EntryWord t = is_inner t.kind && not (is_byte 44 t.kind)
is_of class.AnyWord t = is_inner t.kind
is_of class.End t = is_end t.kind

-- none of the names is that of one of the tokens
abbrev pub none_named : List Name → List TextToken → Bool
none_named names [] = true
none_named names (t ∷ ts) = not (is_named names t.text) && none_named names ts

abbrev pub holds_text : List TextToken → List ℕ → Bool
holds_text [] text = false
holds_text (t ∷ ts) text = bytes_eq t.text text || holds_text ts text

-- no text stands twice among the tokens
abbrev pub are_distinct : List TextToken → Bool
are_distinct [] = true
are_distinct (t ∷ ts) = not (holds_text ts t.text) && are_distinct ts

-- these tokens are new names: none is visible or a result of the open operation, and none stands twice
abbrev pub are_new : State → List TextToken → Bool
are_new s ts = none_named s.visible ts && none_named s.op.results ts && are_distinct ts

abbrev pub is_one : List TextToken → Bool
is_one ts = length ts == 1

-- what the state asks besides
unfoldable pub allows : Class → State → TextToken → Bool
allows class.Param s t = not (is_named (s.visible ++ param_names s.op.params) t.text)
allows class.Result s t = not (is_named (s.visible ++ s.op.results) t.text)
allows class.HeldEquals s t = are_new s s.held
allows class.HeldNumber s t = is_one s.held && are_new s s.held
allows class.EntryComma s t = not (is_wide s.entry)
allows class.EntryClose s t = not (is_wide s.entry)
allows _ s t = true

-- the table of a level
abbrev pub grammar : Level → Table TextToken State
grammar level = record {
  lines = lines level;
  may_end = may_end;
  accepts = λ c s t. is_of c t && allows c s t;
  reads = λ c t s. record s { last = t };
  does = does;
}
