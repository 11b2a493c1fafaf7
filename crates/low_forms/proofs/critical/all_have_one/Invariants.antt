use Rattle.std.proofs.Common.{◌≡◌, drop}
use Rattle.low_forms.specs.Registers.{every}
use Rattle.low_forms.specs.Counting.{has_one}
use Rattle.low_forms.proofs.critical.all_have_one.Given as goal

abbrev pub invariant-loop-block : goal.invariant-loop-block
invariant-loop-block l = every (has_one l.counts) (drop l.block-index l.blocks) ≡ every (has_one l.counts) l.blocks
