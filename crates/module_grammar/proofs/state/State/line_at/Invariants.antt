use Rattle.std.proofs.Common.{◌≡◌, ◌++◌, drop, map}
use Rattle.module_grammar.specs.Choices.{line_of_row, form_lines}
use Rattle.module_grammar.specs.Engine.{first_line, line_at}
use Rattle.module_grammar.specs.Rules.{grammar}
use Rattle.module_grammar.proofs.state.State.line_at.Given as goal

abbrev pub invariant-loop-row : goal.invariant-loop-row
invariant-loop-row l =
    first_line (grammar l.level) (map line_of_row (drop l.row-index l.row-items) ++ form_lines l.level l.rule) l.self l.token
    ≡ line_at (grammar l.level) l.rule l.self l.token
