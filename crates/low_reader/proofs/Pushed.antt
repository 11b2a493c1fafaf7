-- A line whose symbols were put on a stack.
use Rattle.std.proofs.Common.{◌≡◌, List, ◌++◌, Option, Some, reverse}
use Rattle.op_table.specs.declared.kind.OpKind.{OpKind}
use Rattle.op_table.specs.Rows.{is_terminator}
use Rattle.rule_machine.specs.Stacks.{IsPushed}
use Rattle.low_grammar.specs.declared.symbols.Class.TheVariants as class
use Rattle.low_grammar.specs.Rules.{Symbol, Line, parts, ends}
use Rattle.low_reader.specs.declared.rows.Row.{Row}
use Rattle.low_reader.specs.Choices.{symbols_of, line_of_row, form_line}

pub row_pushed : (line : Option Line) (row : Row) (before after : List Symbol) → line ≡ Some (line_of_row row)
    → reverse after ≡ symbols_of row.after.now ++ reverse before → IsPushed line (Some row.first) before after
row_pushed line row before after is pushed = record { rest = symbols_of row.after.now; is = is; pushed = pushed }

pub form_pushed : (line : Option Line) (k : OpKind) (before after : List Symbol) → line ≡ Some (form_line k)
    → reverse after ≡ (parts k ++ ends (is_terminator k)) ++ reverse before → IsPushed line (Some (class.OpName k)) before after
form_pushed line k before after is pushed = record { rest = parts k ++ ends (is_terminator k); is = is; pushed = pushed }
