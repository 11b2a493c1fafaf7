use Rattle.std.proofs.Common.{◌≡◌, ◌++◌, drop}
use Rattle.module_grammar.specs.State.{values_of}
use Rattle.module_grammar.proofs.names.values_of.Given as goal

abbrev pub invariant-loop-name : goal.invariant-loop-name
invariant-loop-name l = l.values ++ values_of (drop l.name-index l.names) ≡ values_of l.names
