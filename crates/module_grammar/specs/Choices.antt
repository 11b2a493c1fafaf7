-- The line of a rule as the code gives it.
use Rattle.std.specs.Prelude.{◌≡◌, ◌++◌, List, [], Option, Some, None}
use Rattle.op_table.specs.declared.kind.OpKind.{OpKind}
use Rattle.op_table.specs.declared.rows.Level.{Level}
use Rattle.module_grammar.specs.declared.symbols.Act.TheVariants as act
use Rattle.module_grammar.specs.declared.symbols.Symbol.{Symbol}
use Rattle.module_grammar.specs.declared.symbols.Rule.{Rule}
use Rattle.module_grammar.specs.declared.symbols.Rule.TheVariants as rule
use Rattle.module_grammar.specs.declared.machine.rows.Row.{Row}
use Rattle.module_grammar.specs.declared.machine.choose.Choice.{Choice}
use Rattle.module_grammar.specs.Engine.{Line}
use Rattle.module_grammar.specs.Rules.{doing, form, ends, forms_then, kinds_at}

abbrev pub line_of_row : Row → Line
line_of_row r = record { first = r.first; after = r.after.now }

-- the lines of a rule that the name of an operation begins
abbrev pub form_lines : Level → Rule → List Line
form_lines level rule.Body = forms_then (doing act.BeginOp) ends (kinds_at level)
form_lines level rule.Form = forms_then [] [] (kinds_at level)
form_lines level _ = []

-- the form of an operation with its kind
abbrev pub form_of : Option OpKind → List Symbol
form_of None = []
form_of (Some k) = doing (act.Kind k) ++ form k

-- the line that a choice stands for
abbrev pub line_of : Choice → Line
line_of c = record { first = c.first; after = c.before.now ++ form_of c.kind ++ c.after.now }

-- the choice is that of the line, where there is one
abbrev pub IsChosen : Option Line → Option Choice → Type 0
IsChosen line None = line ≡ None
IsChosen line (Some c) = line ≡ Some (line_of c)
