-- Which arguments fit which parameters, and what they come to.
use Rattle.std.specs.Prelude.{ℕ, ◌+◌, ◌-◌, ◌%◌, ◌^◌, ◌==◌, nat_le, nat_lt, ◌&&◌, Bool, true, false, if◌then◌else◌, List, [], ◌∷◌, length, replicate, Option, Some, None}
use Rattle.std.specs.Option.{option_map}
use Rattle.int_ops.specs.Arithmetic.{bits_of}
use Rattle.int_ops.specs.declared.Width.{Width}
use Rattle.int_ops.specs.declared.Width.TheVariants.{W1, W64}
use Rattle.ir_forms.specs.declared.args.Arg.{Arg}
use Rattle.ir_forms.specs.declared.args.Arg.TheVariants as arg
use Rattle.ir_forms.specs.declared.args.ArgValue.{ArgValue}
use Rattle.ir_forms.specs.declared.args.ArgValue.TheVariants as fitted
use Rattle.ir_forms.specs.declared.args.Scalar.{Scalar}
use Rattle.ir_forms.specs.declared.args.Scalar.TheVariants as scalar
use Rattle.ir_forms.specs.declared.types.CellTy.{CellTy}
use Rattle.ir_forms.specs.declared.types.CellTy.TheVariants as cell
use Rattle.ir_forms.specs.declared.types.Dim.{Dim}
use Rattle.ir_forms.specs.declared.types.Dim.TheVariants.{Fixed, Dynamic}
use Rattle.ir_forms.specs.declared.types.MemTy.{MemTy}
use Rattle.ir_forms.specs.declared.types.Ty.{Ty}
use Rattle.ir_forms.specs.declared.types.Ty.TheVariants as ty
use Rattle.ir_forms.specs.Shapes.{product, most_cells}

-- a truth as a number
abbrev pub bit : Bool → ℕ
bit true = 1
bit false = 0

-- the bits at w bits of a number from -2^(w-1) to 2^w - 1
abbrev pub number_fits : ℕ → Bool → ℕ → Option ℕ
number_fits w true n = if nat_le n (2 ^ (w - 1)) then Some ((2 ^ w - n) % 2 ^ w) else None
number_fits w false n = if nat_lt n (2 ^ w) then Some n else None

-- the bits of a value; a truth fits `i1` alone, and nothing else does
abbrev pub value_fits : Width → Scalar → Option ℕ
value_fits W1 (scalar.Truth b) = Some (bit b)
value_fits W1 (scalar.Number negative n) = None
value_fits w (scalar.Truth b) = None
value_fits w (scalar.Number negative n) = number_fits (bits_of w) negative n

-- the width of a buffer's cells, if they are numbers
abbrev pub cell_width : CellTy → Option Width
cell_width (cell.Int w) = Some w
cell_width cell.Index = Some W64
cell_width _ = None

-- the bits of values, if each fits
abbrev pub values_fit : Width → List Scalar → Option (List ℕ)
values_fit w [] = Some []
values_fit w (v ∷ vs) = elim (value_fits w v) [ None ↦ None | Some n ↦ option_map (λ ns. n ∷ ns) (values_fit w vs) ]

-- the size is that of a dimension
abbrev pub is_size : Dim → ℕ → Bool
is_size (Fixed n) m = n == m
is_size Dynamic m = true

-- sizes are those of a type
abbrev pub shape_fits : List Dim → List ℕ → Bool
shape_fits [] [] = true
shape_fits (dim ∷ dims) (m ∷ sizes) = is_size dim m && shape_fits dims sizes
shape_fits _ _ = false

-- the cells of a buffer with these values, as many as its sizes say and not too many
abbrev pub cells_fit : Option Width → Bool → List ℕ → List Scalar → Option ArgValue
cells_fit (Some w) true sizes vs =
    if nat_le (product sizes) most_cells && length vs == product sizes then option_map (fitted.Cells sizes) (values_fit w vs) else None
cells_fit _ _ sizes vs = None

-- those of a buffer that one value fills
abbrev pub fill_fits : Option Width → Bool → List ℕ → Scalar → Option ArgValue
fill_fits (Some w) true sizes v =
    if nat_le (product sizes) most_cells then option_map (λ n. fitted.Cells sizes (replicate (product sizes) n)) (value_fits w v) else None
fill_fits _ _ sizes v = None

-- an argument for a buffer of this type
abbrev pub memory_fits : MemTy → Arg → Option ArgValue
memory_fits m (arg.Cells sizes vs) = cells_fit (cell_width m.elem) (shape_fits m.dims sizes) sizes vs
memory_fits m (arg.Fill sizes v) = fill_fits (cell_width m.elem) (shape_fits m.dims sizes) sizes v
memory_fits m _ = None

-- for a number of this width
abbrev pub width_fits : Width → Arg → Option ArgValue
width_fits w (arg.Number negative n) = option_map fitted.Number (value_fits w (scalar.Number negative n))
width_fits w (arg.Truth b) = option_map fitted.Number (value_fits w (scalar.Truth b))
width_fits w _ = None

-- an argument's value for a parameter of this type, if it is of its form, range and shape
abbrev pub fit : Ty → Arg → Option ArgValue
fit (ty.Int w) a = width_fits w a
fit ty.Index a = width_fits W64 a
fit (ty.Memref m) a = memory_fits m a
fit _ a = None

-- how many cells an argument has
abbrev pub cells_of : ArgValue → ℕ
cells_of (fitted.Number n) = 0
cells_of (fitted.Cells sizes cells) = length cells

-- all arguments fit, or the one at this place is the first that doesn't
pub data Fitted : Type 0 where
  Fits : List ArgValue → Fitted
  Wrong : ℕ → Fitted

-- one more in front
abbrev pub before : ArgValue → Fitted → Fitted
before v (Fits vs) = Fits (v ∷ vs)
before v (Wrong at) = Wrong at

-- more of them in front
abbrev pub before_all : List ArgValue → Fitted → Fitted
before_all [] f = f
before_all (v ∷ vs) f = before v (before_all vs f)

-- the arguments from this place on, where those before have so many cells
abbrev pub fitted_from : ℕ → ℕ → List Ty → List Arg → Fitted
fitted_from at used [] [] = Fits []
fitted_from at used [] (a ∷ args) = Wrong at
fitted_from at used (t ∷ ts) [] = Wrong at
fitted_from at used (t ∷ ts) (a ∷ args) = elim (fit t a) [
  | None ↦ Wrong at
  | Some v ↦ if nat_le (used + cells_of v) most_cells then before v (fitted_from (at + 1) (used + cells_of v) ts args) else Wrong at
]

-- the arguments for parameters of these types
abbrev pub fitted_args : List Ty → List Arg → Fitted
fitted_args ts args = fitted_from 0 0 ts args
