-- The equations of the counts and the numbers of operations.
use Rattle.std.proofs.Common.{◌≡◌, ℕ, ◌+◌, List, map, ◌∙◌, arith}
use Rattle.ir_forms.specs.declared.ops.Op.{Op}
use Rattle.ir_forms.specs.declared.ops.Op.TheFolds.{fold_out-Op, fold_out-Region}
use Rattle.ir_forms.specs.declared.ops.Region.{Region}
use Rattle.ir_forms.specs.Ops.{regions_of, ops_of}
use Rattle.ir_forms.specs.Numbers.{op_size, region_size, sum_of, operations_in, operations_inside}

pub operations_in-out : (op : Op) → operations_in op ≡ 1 + sum_of (map operations_inside (regions_of op))
operations_in-out op = fold_out-Op ℕ ℕ op_size region_size op

pub operations_inside-out : (region : Region) → operations_inside region ≡ sum_of (map operations_in (ops_of region))
operations_inside-out region = fold_out-Region ℕ ℕ op_size region_size region

-- what the number after an operation is, from that after its regions
pub counted : (op : Op) (given last : ℕ) (regions : List Region) → regions ≡ regions_of op → last ≡ given + 1 + sum_of (map operations_inside regions) → last ≡ given + operations_in op
counted op given last regions same ends = ends ∙ (rw (same, operations_in-out op) (omega arith))
