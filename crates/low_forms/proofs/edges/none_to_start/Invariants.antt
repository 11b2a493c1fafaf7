use Rattle.std.proofs.Common.{◌≡◌, drop}
use Rattle.low_forms.specs.Registers.{every}
use Rattle.low_forms.specs.Edges.{none_is_start}
use Rattle.low_forms.proofs.edges.none_to_start.Given as goal

abbrev pub invariant-loop-blocks : goal.invariant-loop-blocks
invariant-loop-blocks l = every none_is_start (drop l.blocks-index l.edges) ≡ every none_is_start l.edges
