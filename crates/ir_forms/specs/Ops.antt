-- The parts of an operation and of a region.
use Rattle.std.specs.Prelude.{ℕ, zero, suc, List, [], ◌∷◌}
use Rattle.ir_forms.specs.declared.ops.Op.{Op, out-Op}
use Rattle.ir_forms.specs.declared.ops.Region.{Region, out-Region}
use Rattle.op_table.specs.declared.kind.OpKind.{OpKind}
use Rattle.ir_forms.specs.declared.ops.Attr.{Attr}
use Rattle.ir_forms.specs.declared.ops.ValueNo.{ValueNo}
use Rattle.ir_forms.specs.declared.types.Ty.{Ty}

abbrev pub kind_of : Op → OpKind
kind_of op = (out-Op op).kind

abbrev pub operands_of : Op → List ValueNo
operands_of op = (out-Op op).operands

abbrev pub written_of : Op → List Ty
written_of op = (out-Op op).written

abbrev pub results_of : Op → List ValueNo
results_of op = (out-Op op).results

abbrev pub attr_of : Op → Attr
attr_of op = (out-Op op).attr

abbrev pub regions_of : Op → List Region
regions_of op = (out-Op op).regions

abbrev pub ops_of : Region → List Op
ops_of region = (out-Region region).ops

-- the operations of the first of these regions
abbrev pub first_ops : List Region → List Op
first_ops [] = []
first_ops (region ∷ regions) = ops_of region

-- the number of a value; a missing one counts as the first
abbrev pub number_at : List ValueNo → ℕ → ℕ
number_at [] i = 0
number_at (v ∷ vs) zero = v.0
number_at (v ∷ vs) (suc i) = number_at vs i
