use Rattle.std.proofs.Common.{◌≡◌, ◌+◌, drop}
use Rattle.scf_blocks.specs.Tree.{tree}
use Rattle.scf_blocks.specs.Code.{blocks_of}
use Rattle.scf_blocks.proofs.count.+count.Given as goal

abbrev pub invariant-count_ops-loop-op : goal.invariant-count_ops-loop-op
invariant-count_ops-loop-op l = l.count + blocks_of (tree (drop l.op-index l.ops)) ≡ blocks_of (tree l.ops)
