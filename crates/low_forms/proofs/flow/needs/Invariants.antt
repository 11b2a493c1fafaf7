use Rattle.std.proofs.Common.{◌≡◌, ◌++◌, drop, map}
use Rattle.low_forms.specs.Given.{block_frees}
use Rattle.low_forms.proofs.flow.needs.Given as goal

abbrev pub invariant-loop-block : goal.invariant-loop-block
invariant-loop-block l = l.lists.items ++ map (block_frees l.func) (drop l.block-index l.block-items) ≡ map (block_frees l.func) l.block-items
