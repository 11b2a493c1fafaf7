use Rattle.std.proofs.Common.{◌≡◌}
use Rattle.ir_forms.specs.Names.{launched_by}
use Rattle.source_meaning.specs.World.{elements_of}
use Rattle.source_eval.proofs.made.elements.Given as goal

abbrev pub invariant-loop-j : goal.invariant-loop-j
invariant-loop-j l = l.vals ≡ elements_of (launched_by l.task l.action) l.j
