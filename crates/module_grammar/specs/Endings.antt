-- How a text can always go on to its end: a token of each class, the line that completes a rule, and what may follow a rule.
use Rattle.std.specs.Prelude.{ℕ, Bool, true, false, ◌||◌, eqb, List, [], ◌∷◌, ◌++◌, Option, Some, None, codes}
use Rattle.mlir_lex.specs.declared.kinds.TokenKind.{TokenKind}
use Rattle.mlir_lex.specs.declared.kinds.TokenKind.TheVariants as kind
use Rattle.op_table.specs.declared.kind.OpKind.TheVariants as op
use Rattle.op_table.specs.declared.rows.Level.{Level}
use Rattle.op_table.specs.Rows.{name_of}
use Rattle.module_grammar.specs.declared.symbols.Class.{Class}
use Rattle.module_grammar.specs.declared.symbols.Class.TheVariants as class
use Rattle.module_grammar.specs.declared.symbols.Keyword.{Keyword}
use Rattle.module_grammar.specs.declared.symbols.Keyword.TheVariants as key
use Rattle.module_grammar.specs.declared.symbols.Rule.{Rule}
use Rattle.module_grammar.specs.declared.symbols.Rule.TheVariants as rule
use Rattle.module_grammar.specs.Engine.{Line, line_at, Endings}
use Rattle.module_grammar.specs.declared.state.TextToken.{TextToken}
use Rattle.module_grammar.specs.declared.state.Name.{Name}
use Rattle.module_grammar.specs.declared.state.State.{State}
use Rattle.module_grammar.specs.Tokens.{word_of}
use Rattle.module_grammar.specs.State.{param_names, at_start}
use Rattle.module_grammar.specs.Rules.{grammar, line}

abbrev pub sample_token : TokenKind → List ℕ → TextToken
sample_token k text = record { kind = k; text = text; at = 0; joined = true }

-- a text that is longer than each of these names
abbrev pub longer : List Name → List ℕ
longer [] = 97 ∷ []
longer (n ∷ ns) = 97 ∷ n.text ++ longer ns

-- a token of the class, for a class of which the state asks nothing
abbrev pub plain_sample : Class → TextToken
plain_sample (class.Byte b) = sample_token (kind.Byte b) (b ∷ [])
plain_sample class.Arrow = sample_token kind.Arrow (codes "->")
plain_sample (class.Key k) = sample_token kind.Name (word_of k)
plain_sample (class.OpName k) = sample_token kind.Name (name_of k)
plain_sample class.SymbolName = sample_token kind.SymbolName (codes "@a")
plain_sample class.Message = sample_token kind.Text (codes "\"\"")
plain_sample class.Use = sample_token kind.ValueName (codes "%a")
plain_sample class.Param = sample_token kind.ValueName (codes "%a")
plain_sample class.Result = sample_token kind.ValueName (codes "%a")
plain_sample class.Index = sample_token kind.HashName (codes "#0")
plain_sample class.Number = sample_token kind.Digits (codes "0")
plain_sample class.Negated = sample_token kind.Digits (codes "0")
plain_sample class.Predicate = sample_token kind.Name (codes "eq")
plain_sample class.PlainType = sample_token kind.Name (codes "i1")
plain_sample class.ValueType = sample_token kind.BangName (codes "!async.value")
plain_sample class.Payload = sample_token kind.Name (codes "i1")
plain_sample class.MemrefType = sample_token kind.Memref (codes "memref<i1>")
plain_sample class.GroupType = sample_token kind.BangName (codes "!async.group")
plain_sample class.TruthType = sample_token kind.Name (codes "i1")
plain_sample class.BlockName = sample_token kind.BlockName (codes "^b")
plain_sample class.HeldEquals = sample_token (kind.Byte 61) (codes "=")
plain_sample class.HeldNumber = sample_token kind.Digits (codes "0")
plain_sample class.EntryComma = sample_token (kind.Byte 44) (codes ",")
plain_sample class.EntryClose = sample_token (kind.Byte 125) (codes "}")
plain_sample class.EntryWord = sample_token kind.Name (codes "x")
plain_sample class.AnyWord = sample_token kind.Name (codes "x")
plain_sample class.End = sample_token kind.End []

-- a token of the class in this state; a new name is longer than all that it must not be
abbrev pub sample : Class → State → TextToken
sample class.Param s = sample_token kind.ValueName (longer (s.visible ++ param_names s.op.params))
sample class.Result s = sample_token kind.ValueName (longer (s.visible ++ s.op.results))
sample c s = plain_sample c

-- the classes that stand in the middle of lines, where the state can't forbid them
abbrev pub usable : Class → Bool
usable (class.OpName k) = false
usable class.HeldEquals = false
usable class.HeldNumber = false
usable class.EntryComma = false
usable class.EntryClose = false
usable _ = true

-- the class of the first word of the line that completes a rule, where it can't be left out
abbrev pub start_class : Rule → Class
start_class rule.Type = class.PlainType
start_class rule.ResultTypes = class.Byte 40
start_class rule.Dict = class.EntryWord
start_class rule.Form = class.OpName op.ScfReduce
start_class rule.Literal = class.Number
start_class rule.AfterHeld = class.Byte 58
start_class rule.AfterHeldColon = class.PlainType
start_class rule.Branches = class.Byte 123
start_class rule.BranchTypes = class.PlainType
start_class rule.BranchTypeList = class.Byte 41
start_class _ = class.End

abbrev pub line_or : Option Line → Line
line_or (Some l) = l
line_or None = line class.End []

abbrev pub start : Level → Rule → Line
start level r = line_or (line_at (grammar level) r at_start (plain_sample (start_class r)))

-- the classes of the words that may stand first after a rule, in completions
abbrev pub follow : Rule → List Class
follow rule.Text = class.End ∷ []
follow rule.ModuleName = (class.Byte 123) ∷ []
follow rule.ModuleAttributes = (class.Byte 123) ∷ []
follow rule.Funcs = (class.Byte 125) ∷ class.End ∷ []
follow rule.Visibility = class.SymbolName ∷ []
follow rule.Params = (class.Byte 41) ∷ []
follow rule.MoreParams = (class.Byte 41) ∷ []
follow rule.DroppedDict = (class.Byte 41) ∷ []
follow rule.FuncResults = (class.Byte 123) ∷ []
follow rule.FuncAttributes = (class.Byte 123) ∷ []
follow rule.Type = (class.Byte 41) ∷ (class.Byte 125) ∷ (class.Key key.To) ∷ []
follow rule.Types = (class.Byte 41) ∷ []
follow rule.MoreTypes = (class.Byte 125) ∷ (class.Byte 41) ∷ []
follow rule.ResultTypes = (class.Byte 123) ∷ (class.Byte 125) ∷ []
follow rule.OpDict = (class.Byte 125) ∷ (class.Byte 58) ∷ []
follow rule.Dict = (class.Byte 123) ∷ (class.Byte 58) ∷ (class.Byte 125) ∷ []
follow rule.Inside = (class.Byte 125) ∷ (class.Byte 41) ∷ (class.Byte 93) ∷ (class.Byte 62) ∷ []
follow rule.Location = (class.Byte 125) ∷ []
follow rule.Body = (class.Byte 125) ∷ []
follow rule.Results = (class.Byte 61) ∷ []
follow rule.MoreResults = (class.Byte 61) ∷ []
follow rule.Form = (class.Byte 125) ∷ []
follow rule.Literal = (class.Byte 125) ∷ []
follow rule.Index = (class.Byte 44) ∷ (class.Byte 58) ∷ (class.Byte 125) ∷ (class.Byte 91) ∷ (class.Byte 41) ∷ (class.Key key.To) ∷ (class.Key key.Step) ∷ (class.Byte 123) ∷ (class.Byte 93) ∷ (class.Key key.As) ∷ []
follow rule.Uses = (class.Byte 41) ∷ (class.Byte 93) ∷ []
follow rule.MoreUses = (class.Byte 41) ∷ (class.Byte 93) ∷ (class.Byte 58) ∷ []
follow rule.Held = (class.Byte 125) ∷ []
follow rule.AfterHeld = (class.Byte 125) ∷ []
follow rule.AfterHeldColon = (class.Byte 125) ∷ []
follow rule.IterArgs = (class.Byte 123) ∷ []
follow rule.Inits = (class.Byte 58) ∷ []
follow rule.MoreInits = (class.Byte 41) ∷ []
follow rule.Branches = (class.Byte 125) ∷ []
follow rule.BranchTypes = (class.Byte 125) ∷ []
follow rule.BranchTypeList = (class.Byte 125) ∷ []
follow rule.Else = (class.Byte 125) ∷ []
follow rule.BlockParams = (class.Byte 125) ∷ []
follow rule.MoreBlockParams = (class.Byte 41) ∷ []
follow rule.MoreIndexParams = (class.Byte 41) ∷ []
follow rule.Dependencies = (class.Byte 123) ∷ []
follow rule.ValueOperands = (class.Byte 123) ∷ []
follow rule.MoreValueOperands = (class.Byte 41) ∷ []
follow rule.OpResults = (class.Byte 123) ∷ []

abbrev pub same_key : Keyword → Keyword → Bool
same_key key.As key.As = true
same_key key.Step key.Step = true
same_key key.To key.To = true
same_key _ _ = false

-- the same class, of those that follow rules
abbrev pub same_class : Class → Class → Bool
same_class (class.Byte a) (class.Byte b) = eqb a b
same_class (class.Key a) (class.Key b) = same_key a b
same_class class.SymbolName class.SymbolName = true
same_class class.End class.End = true
same_class _ _ = false

abbrev pub is_among : Class → List Class → Bool
is_among c [] = false
is_among c (d ∷ ds) = same_class c d || is_among c ds

abbrev pub is_dict : Rule → Bool
is_dict rule.Dict = true
is_dict _ = false

abbrev pub endings : Level → Endings TextToken State
endings level = record {
  sample = sample;
  usable = usable;
  start = start level;
  follows = λ r c. is_among c (follow r);
  is_special = is_dict;
}
