use Rattle.std.proofs.Common.{◌≡◌, drop}
use Rattle.module_grammar.specs.State.{ungrouped}
use Rattle.module_grammar.proofs.acts.parts.ungrouped.Given as goal

abbrev pub invariant-loop-group : goal.invariant-loop-group
invariant-loop-group l = ungrouped l.rest (drop l.group-index l.groups) ≡ ungrouped l.operands l.groups
