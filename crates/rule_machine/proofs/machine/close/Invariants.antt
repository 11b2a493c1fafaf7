use Rattle.std.proofs.Common.{◌≡◌, length, reverse}
use Rattle.rule_machine.specs.Machine.{close}
use Rattle.rule_machine.proofs.machine.close.Given as goal

abbrev pub invariant-loop-symbol : goal.invariant-loop-symbol
invariant-loop-symbol g l =
    close (g.G.Rules.table l.rules) (reverse l.stack) l.state ≡ close (g.G.Rules.table l.rules) (reverse l.initial.stack) l.initial.state

abbrev pub decreases-loop-symbol : goal.decreases-loop-symbol
decreases-loop-symbol g l = length l.stack
