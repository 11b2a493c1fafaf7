use Rattle.std.proofs.Common.{◌≡◌, drop}
use Rattle.module_grammar.specs.Faults.{names_open}
use Rattle.module_grammar.proofs.refusals.refusal.names_open.Given as goal

abbrev pub invariant-loop-symbol : goal.invariant-loop-symbol
invariant-loop-symbol l = names_open (drop l.symbol-index l.left) ≡ names_open l.left
