use Rattle.std.proofs.Common.{◌≡◌, length, reverse}
use Rattle.rule_machine.specs.Machine.{step}
use Rattle.rule_machine.proofs.machine.step.Given as goal

abbrev pub invariant-loop-symbol : goal.invariant-loop-symbol
invariant-loop-symbol g l =
    step (g.G.Rules.table l.rules) (reverse l.stack) l.state l.token ≡ step (g.G.Rules.table l.rules) (reverse l.initial.stack) l.initial.state l.token

abbrev pub decreases-loop-symbol : goal.decreases-loop-symbol
decreases-loop-symbol g l = length l.stack
