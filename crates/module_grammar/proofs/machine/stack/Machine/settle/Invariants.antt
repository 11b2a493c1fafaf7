use Rattle.std.proofs.Common.{◌≡◌, length, reverse}
use Rattle.module_grammar.specs.Faults.{settled}
use Rattle.module_grammar.proofs.machine.stack.Machine.settle.Given as goal

abbrev pub invariant-loop-symbol : goal.invariant-loop-symbol
invariant-loop-symbol l = settled (reverse l.self.stack) l.self.state ≡ settled (reverse l.initial.self.stack) l.initial.self.state

abbrev pub decreases-loop-symbol : goal.decreases-loop-symbol
decreases-loop-symbol l = length l.self.stack
