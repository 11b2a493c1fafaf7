use Rattle.std.proofs.Common.{◌≡◌, drop}
use Rattle.module_grammar.specs.State.{with_names}
use Rattle.module_grammar.proofs.names.with_names.Given as goal

abbrev pub invariant-loop-name : goal.invariant-loop-name
invariant-loop-name l = with_names l.total (drop l.name-index l.names) ≡ with_names l.counted l.names
