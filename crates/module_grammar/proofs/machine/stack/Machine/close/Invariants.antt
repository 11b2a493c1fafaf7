use Rattle.std.proofs.Common.{◌≡◌, length, reverse}
use Rattle.op_table.specs.declared.rows.Level.TheVariants.{Source}
use Rattle.module_grammar.specs.Engine.{close}
use Rattle.module_grammar.specs.Rules.{grammar}
use Rattle.module_grammar.proofs.machine.stack.Machine.close.Given as goal

abbrev pub invariant-loop-symbol : goal.invariant-loop-symbol
invariant-loop-symbol l =
    close (grammar Source) (reverse l.self.stack) l.self.state ≡ close (grammar Source) (reverse l.initial.self.stack) l.initial.self.state

abbrev pub decreases-loop-symbol : goal.decreases-loop-symbol
decreases-loop-symbol l = length l.self.stack
