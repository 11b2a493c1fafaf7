-- The lines of rules as the code gives them.
use Rattle.std.specs.Prelude.{◌≡◌, Bool, true, false, cond, ◌&&◌, ◌++◌, ◌∷◌, List, [], length, map, Option, Some, None}
use Rattle.op_table.specs.declared.kind.OpKind.{OpKind}
use Rattle.op_table.specs.Rows.{all_kinds, row_of, kept, is_terminator}
use Rattle.ir_forms.specs.declared.types.Ty.{Ty}
use Rattle.low_forms.specs.Rows.{row_of_kind}
use Rattle.module_grammar.specs.declared.state.TextToken.{TextToken}
use Rattle.module_grammar.specs.Tokens.{kind_among}
use Rattle.module_grammar.specs.Rules.{is_name}
use Rattle.rule_machine.specs.declared.symbol.Symbol.TheVariants as symbol
use Rattle.rule_machine.specs.Table.{first_line, line_at}
use Rattle.low_grammar.specs.declared.symbols.Class.{Class}
use Rattle.low_grammar.specs.declared.symbols.Class.TheVariants as class
use Rattle.low_grammar.specs.declared.symbols.Rule.{Rule}
use Rattle.low_grammar.specs.declared.symbols.Rule.TheVariants as rule
use Rattle.low_grammar.specs.declared.state.State.{State}
use Rattle.low_grammar.specs.Rules.{Symbol, Line, grammar, line, forms, low_kinds, parts, ends, has_results}
use Rattle.low_reader.specs.declared.piece.Piece.{Piece}
use Rattle.low_reader.specs.declared.piece.Piece.TheVariants as piece
use Rattle.low_reader.specs.declared.rows.Row.{Row}

-- a class of types that one token writes
abbrev pub is_type_class : Class → Bool
is_type_class class.PlainType = true
is_type_class class.OnlyPlainType = true
is_type_class class.Payload = true
is_type_class class.MemrefType = true
is_type_class class.GroupType = true
is_type_class _ = false

abbrev pub IsTypeClass : Class → Type 0
IsTypeClass c = is_type_class c ≡ true

abbrev pub option_list : Option Ty → List Ty
option_list None = []
option_list (Some t) = t ∷ []

abbrev pub symbol_of : Piece → Symbol
symbol_of (piece.Word c) = symbol.Word c
symbol_of (piece.Rule r) = symbol.Rule r
symbol_of (piece.Do a) = symbol.Do a

abbrev pub symbols_of : List Piece → List Symbol
symbols_of ps = map symbol_of ps

abbrev pub line_of_row : Row → Line
line_of_row r = record { first = r.first; after = symbols_of r.after.now }

-- the lines of a rule that the name of an instruction begins
abbrev pub form_lines : Rule → List Line
form_lines rule.Instrs = forms low_kinds
form_lines rule.Form = forms low_kinds
form_lines _ = []

-- lowered code may hold the kind, with as many results as were read
abbrev pub stands_in : State → OpKind → Bool
stands_in s k = (row_of_kind k).stands && has_results (row_of k).results (length s.instr.results)

-- the kind whose form the token begins
abbrev pub kind_here : State → TextToken → Option OpKind
kind_here s t = cond (is_name t.kind) (kept (stands_in s) (kind_among all_kinds t.text)) None

abbrev pub form_line : OpKind → Line
form_line k = line (class.OpName k) (parts k ++ ends (is_terminator k))

abbrev pub line_of_kind : Option OpKind → Option Line
line_of_kind (Some k) = Some (form_line k)
line_of_kind None = None

-- the row is that of the line that the token begins; where none is, the lines of forms alone are left
abbrev pub IsRowAt : Rule → State → TextToken → Option Row → Type 0
IsRowAt r s t (Some row) = line_at grammar r s t ≡ Some (line_of_row row)
IsRowAt r s t None = line_at grammar r s t ≡ first_line grammar (form_lines r) s t
