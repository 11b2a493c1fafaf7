use Rattle.std.proofs.Common.{◌≡◌, ◌++◌, drop, map}
use Rattle.rule_machine.specs.Table.{first_line, line_at}
use Rattle.low_grammar.specs.Rules.{grammar}
use Rattle.low_reader.specs.Choices.{line_of_row, form_lines}
use Rattle.low_reader.proofs.lines.row_at.Given as goal

abbrev pub invariant-loop-row : goal.invariant-loop-row
invariant-loop-row l =
    first_line grammar (map line_of_row (drop l.row-index l.row-items) ++ form_lines l.fn.rule) l.state l.token ≡ line_at grammar l.fn.rule l.state l.token
