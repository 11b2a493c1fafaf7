use Rattle.std.proofs.Common.{◌≡◌, drop, reverse}
use Rattle.rule_machine.specs.Machine.{run}
use Rattle.low_grammar.specs.State.{at_start}
use Rattle.low_grammar.specs.Rules.{grammar}
use Rattle.low_grammar.specs.Texts.{whole}
use Rattle.low_reader.proofs.reader.read_low.Given as goal

abbrev pub invariant-loop-at : goal.invariant-loop-at
invariant-loop-at l = run grammar (reverse l.stack) l.state (drop l.at l.tokens) ≡ run grammar whole at_start l.tokens
