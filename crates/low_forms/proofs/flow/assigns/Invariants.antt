use Rattle.std.proofs.Common.{◌≡◌, ◌++◌, drop, map}
use Rattle.low_forms.specs.Assigned.{block_assigns}
use Rattle.low_forms.proofs.flow.assigns.Given as goal

abbrev pub invariant-loop-block : goal.invariant-loop-block
invariant-loop-block l = l.lists.items ++ map block_assigns (drop l.block-index l.block-items) ≡ map block_assigns l.block-items
