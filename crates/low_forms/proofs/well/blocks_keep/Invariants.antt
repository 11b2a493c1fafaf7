use Rattle.std.proofs.Common.{◌≡◌, drop}
use Rattle.low_forms.specs.Registers.{every}
use Rattle.low_forms.specs.WellFormed.{block_keeps}
use Rattle.low_forms.proofs.well.blocks_keep.Given as goal

abbrev pub invariant-loop-block : goal.invariant-loop-block
invariant-loop-block l = every (block_keeps l.code l.func) (drop l.block-index l.blocks) ≡ every (block_keeps l.code l.func) l.blocks
