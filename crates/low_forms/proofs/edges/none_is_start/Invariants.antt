use Rattle.std.proofs.Common.{◌≡◌, drop}
use Rattle.low_forms.specs.Edges.{none_is_start}
use Rattle.low_forms.proofs.edges.none_is_start.Given as goal

abbrev pub invariant-loop-block : goal.invariant-loop-block
invariant-loop-block l = none_is_start (drop l.block-index l.blocks) ≡ none_is_start l.blocks
