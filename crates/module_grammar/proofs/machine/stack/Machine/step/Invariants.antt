use Rattle.std.proofs.Common.{◌≡◌, length, reverse}
use Rattle.module_grammar.specs.Engine.{step}
use Rattle.module_grammar.specs.Rules.{grammar}
use Rattle.module_grammar.proofs.machine.stack.Machine.step.Given as goal

abbrev pub invariant-loop-symbol : goal.invariant-loop-symbol
invariant-loop-symbol l =
    step (grammar l.level) (reverse l.self.stack) l.self.state l.token ≡ step (grammar l.level) (reverse l.initial.self.stack) l.initial.self.state l.token

abbrev pub decreases-loop-symbol : goal.decreases-loop-symbol
decreases-loop-symbol l = length l.self.stack
