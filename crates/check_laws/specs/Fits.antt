-- What an operation needs of its values so that its checks tell whether it has a result, and when it has one.
use Rattle.std.specs.Prelude.{◌≡◌, ◌≤◌, ℕ, nat_le, Bool, true, List, [], ◌∷◌, drop, length, slice_get, ⊤}
use Rattle.std.specs.Option.{is_some}
use Rattle.int_ops.specs.declared.BinOp.TheVariants as bin
use Rattle.op_table.specs.declared.kind.OpKind.{OpKind}
use Rattle.op_table.specs.declared.kind.OpKind.TheVariants as op
use Rattle.ir_forms.specs.declared.args.ArgValue.{ArgValue}
use Rattle.ir_forms.specs.declared.ops.Func.{Func}
use Rattle.ir_forms.specs.declared.ops.Op.{Op, Op-F, out-Op}
use Rattle.ir_forms.specs.declared.ops.Op.TheFolds.{fold-Op, fold-Region}
use Rattle.ir_forms.specs.declared.ops.Region.{Region, Region-F}
use Rattle.ir_forms.specs.declared.types.Dim.{Dim}
use Rattle.ir_forms.specs.declared.types.Dim.TheVariants.{Fixed, Dynamic}
use Rattle.ir_forms.specs.declared.types.Ty.{Ty}
use Rattle.ir_forms.specs.Shapes.{most_cells}
use Rattle.check_insert.specs.declared.guard.Guard.{Guard}
use Rattle.check_insert.specs.declared.guard.Guard.TheVariants as guard
use Rattle.check_insert.specs.Shape.{guard_of, rank}
use Rattle.source_meaning.specs.declared.values.Val.{Val}
use Rattle.source_meaning.specs.Values.{Env, values_at, number_in, dims_in}
use Rattle.source_meaning.specs.Parts.{Node, joined, dims_of}
use Rattle.source_meaning.specs.Rows.{result_at, cell_from, product_within, most_elements, are_bounds}
use Rattle.source_meaning.specs.Tasks.{Program, Pending, Task}
use Rattle.carry_laws.specs.Agreement.{IsTaskOf}
use Rattle.source_meaning.specs.Steps.{value, number, numbers, group, result_width, asked_sizes}
use Rattle.source_meaning.specs.TaskOrder.{Each}
use Rattle.typed_laws.specs.Ranges.{ArgInRange}
use Rattle.check_laws.specs.Rows.{IsNumber, can_enter}

-- ---- when there is a result

-- the operations that may have no result by their values alone; all others have one
abbrev pub has_result : OpKind → Node → List Val → Bool
has_result op.ArithDivsi o vs = is_some (result_at (result_width o) bin.DivS (number vs 0) (number vs 1))
has_result op.ArithDivui o vs = is_some (result_at (result_width o) bin.DivU (number vs 0) (number vs 1))
has_result op.ArithRemsi o vs = is_some (result_at (result_width o) bin.RemS (number vs 0) (number vs 1))
has_result op.ArithRemui o vs = is_some (result_at (result_width o) bin.RemU (number vs 0) (number vs 1))
has_result op.ArithShli o vs = is_some (result_at (result_width o) bin.Shl (number vs 0) (number vs 1))
has_result op.ArithShrsi o vs = is_some (result_at (result_width o) bin.ShrS (number vs 0) (number vs 1))
has_result op.ArithShrui o vs = is_some (result_at (result_width o) bin.ShrU (number vs 0) (number vs 1))
has_result op.AsyncCreateGroup o vs = nat_le (number vs 0) most_elements
has_result op.MemrefAlloc o vs = is_some (product_within most_cells (asked_sizes o vs))
has_result op.MemrefDim o vs = is_some (slice_get (dims_in (value vs 0)) (number vs 1))
has_result op.MemrefLoad o vs = is_some (cell_from 0 (dims_in (value vs 0)) (numbers (drop 1 vs)))
has_result op.MemrefStore o vs = is_some (cell_from 0 (dims_in (value vs 1)) (numbers (drop 2 vs)))
has_result op.ScfFor o vs = are_bounds (number vs 0) (number vs 1) (number vs 2)
has_result op.ScfParallel o vs = can_enter most_elements (numbers (group o vs 0)) (numbers (group o vs 1)) (numbers (group o vs 2))
has_result _ o vs = true

-- ---- what the types are

-- the fixed sizes of an allocation are no more than all cells
abbrev pub AreSmall : List Dim → Type 0
AreSmall [] = ⊤
AreSmall (Fixed n ∷ dims) = (n ≤ most_cells) × AreSmall dims
AreSmall (Dynamic ∷ dims) = AreSmall dims

-- the types that an operation writes for its operands, and those of its results
abbrev pub Types : Type 0
Types = List Ty × List Ty

-- they are so, and a buffer's dimensions can be counted
abbrev pub SmallTypes : Types → Type 0
SmallTypes types = IsNumber (rank types.0) × AreSmall (dims_of (slice_get types.1 0))

abbrev pub types_at : Op-F (List Types) (List Types) → List Types
types_at layer = (layer.written, layer.types) ∷ joined layer.regions

abbrev pub types_under : Region-F (List Types) (List Types) → List Types
types_under layer = joined layer.ops

-- the types of an operation and of those in its regions
abbrev pub types_in : Op → List Types
types_in o = fold-Op (List Types) (List Types) types_at types_under o

abbrev pub types_inside : Region → List Types
types_inside r = fold-Region (List Types) (List Types) types_at types_under r

-- all types of a function's operations are so
abbrev pub HasSmallTypes : Func → Type 0
HasSmallTypes f = Each SmallTypes (types_inside f.body)

-- ---- what the values are

-- the numbers have 64 bits
abbrev pub AreNumbers : List Val → Type 0
AreNumbers vs = Each (λ v. IsNumber (number_in v)) vs

-- a buffer has as many dimensions as its type, and sizes of 64 bits
pub record IsBuffer (types : List Ty) (v : Val) : Type 0 where
  pub dimensions : length (dims_in v) ≡ rank types
  pub sizes : Each IsNumber (dims_in v)

-- the values fit the operation that a guard is for
abbrev pub Fits : Guard → Node → List Val → Type 0
Fits guard.Load o vs = AreNumbers vs × IsBuffer o.written (value vs 0)
Fits guard.Store o vs = AreNumbers vs × IsBuffer o.written (value vs 1)
Fits guard.Dimension o vs = AreNumbers vs × IsBuffer o.written (value vs 0)
Fits guard.Alloc o vs = AreNumbers vs
Fits guard.Group o vs = AreNumbers vs
Fits guard.Bounds o vs = AreNumbers vs
Fits guard.Parallel o vs = AreNumbers vs
Fits _ o vs = ⊤

-- those of the operation that a task begins, where it begins one
abbrev pub FitAt : List Pending → List Op → Env → Type 0
FitAt [] (o ∷ rest) env = Fits (guard_of (out-Op o).kind) (out-Op o) (values_at env (out-Op o).operands)
FitAt _ _ env = ⊤

abbrev pub FitNext : Task → Type 0
FitNext t = FitAt t.pending t.rest t.scope.env

-- so it is for each task that a run of the function comes to
abbrev pub ValuesFit : Program → ℕ → List ArgValue → Type 0
ValuesFit p entry args = (t : Task) → IsTaskOf p entry args t → FitNext t

-- ---- how the values come to fit

-- the buffer of an access has as many dimensions as its written type
abbrev pub HasRank : Guard → Node → List Val → Type 0
HasRank guard.Load o vs = length (dims_in (value vs 0)) ≡ rank o.written
HasRank guard.Store o vs = length (dims_in (value vs 1)) ≡ rank o.written
HasRank guard.Dimension o vs = length (dims_in (value vs 0)) ≡ rank o.written
HasRank _ o vs = ⊤

-- so it is for the operation that a task begins
abbrev pub RankAt : List Pending → List Op → Env → Type 0
RankAt [] (o ∷ rest) env = HasRank (guard_of (out-Op o).kind) (out-Op o) (values_at env (out-Op o).operands)
RankAt _ _ env = ⊤

-- and for each task that a run of the function comes to
abbrev pub RanksFit : Program → ℕ → List ArgValue → Type 0
RanksFit p entry args = (t : Task) → IsTaskOf p entry args t → RankAt t.pending t.rest t.scope.env

-- Arguments of 64 bits and such ranks make the values fit.
abbrev pub RanksMakeFit : Type 0
RanksMakeFit = (p : Program) (entry : ℕ) (args : List ArgValue) → Each ArgInRange args → RanksFit p entry args → ValuesFit p entry args
