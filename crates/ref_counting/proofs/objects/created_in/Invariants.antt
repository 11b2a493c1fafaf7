use Rattle.std.proofs.Common.{◌≡◌, ◌++◌, drop}
use Rattle.ref_counting.specs.Objects.{created_in}
use Rattle.ref_counting.proofs.objects.created_in.Given as goal

abbrev pub invariant-loop-block : goal.invariant-loop-block
invariant-loop-block l = l.list.items ++ created_in (drop l.block-index l.blocks) ≡ created_in l.blocks
