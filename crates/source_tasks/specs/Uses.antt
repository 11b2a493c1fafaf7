-- A table of the values that a function uses.
use Rattle.std.specs.Prelude.{ℕ, zero, suc, Bool, true, false, List, [], ◌∷◌, ◌++◌, slice_get}
use Rattle.ir_forms.specs.declared.ops.Op.{Op}
use Rattle.ir_forms.specs.declared.ops.Op.TheFolds.{fold-Op, fold-Region}
use Rattle.ir_forms.specs.declared.ops.Region.{Region}
use Rattle.ir_forms.specs.declared.ops.ValueNo.{ValueNo}
use Rattle.source_meaning.specs.Values.{or_else}
use Rattle.source_meaning.specs.Parts.{uses_at, uses_under}

-- the operands of an operation and of those in its regions
unfoldable pub uses_under_op : Op → List ValueNo
uses_under_op op = fold-Op (List ValueNo) (List ValueNo) uses_at uses_under op

-- those in a region
unfoldable pub uses_in : Region → List ValueNo
uses_in region = fold-Region (List ValueNo) (List ValueNo) uses_at uses_under region

-- those of operations, one after another
abbrev pub uses_along : List Op → List ValueNo
uses_along [] = []
uses_along (op ∷ ops) = uses_under_op op ++ uses_along ops

-- those in regions
abbrev pub uses_held : List Region → List ValueNo
uses_held [] = []
uses_held (region ∷ regions) = uses_in region ++ uses_held regions

-- the mark of a number; where there is none, it has no mark
abbrev pub mark_of : List Bool → ℕ → Bool
mark_of marks v = or_else false (slice_get marks v)

-- with a mark for this number
abbrev pub marked : List Bool → ℕ → List Bool
marked [] zero = true ∷ []
marked [] (suc k) = false ∷ marked [] k
marked (b ∷ marks) zero = true ∷ marks
marked (b ∷ marks) (suc k) = b ∷ marked marks k

-- with a mark for each of these
abbrev pub marked_all : List Bool → List ValueNo → List Bool
marked_all marks [] = marks
marked_all marks (x ∷ xs) = marked_all (marked marks x.0) xs

-- the table of these values
abbrev pub table_of : List ValueNo → List Bool
table_of uses = marked_all [] uses
