-- What the verifier asks of one type.
use Rattle.std.specs.Prelude.{ℕ, ◌-◌, ◌^◌, ◌==◌, count_by, nat_lt, nat_le, ◌&&◌, Bool, true, false, List, [], ◌∷◌}
use Rattle.int_ops.specs.Arithmetic.{bits_of}
use Rattle.int_ops.specs.declared.Width.{Width}
use Rattle.int_ops.specs.declared.Width.TheVariants.{W1}
use Rattle.ir_forms.specs.declared.ops.Attr.{Attr}
use Rattle.ir_forms.specs.declared.ops.Attr.TheVariants.{Literal, Truth}
use Rattle.ir_forms.specs.declared.types.Ty.{Ty}
use Rattle.ir_forms.specs.declared.types.Ty.TheVariants as ty
use Rattle.ir_forms.specs.declared.types.NumTy.{NumTy}
use Rattle.ir_forms.specs.declared.types.NumTy.TheVariants as num
use Rattle.ir_forms.specs.declared.types.CellTy.{CellTy}
use Rattle.ir_forms.specs.declared.types.CellTy.TheVariants as cell
use Rattle.ir_forms.specs.declared.types.ValTy.{ValTy}
use Rattle.ir_forms.specs.declared.types.ValTy.TheVariants as val
use Rattle.ir_forms.specs.declared.types.MemTy.{MemTy}
use Rattle.ir_forms.specs.declared.types.Dim.{Dim}
use Rattle.ir_forms.specs.declared.types.Dim.TheVariants.{Fixed, Dynamic}

-- ---- one type and another

abbrev pub same_width : Width → Width → Bool
same_width v w = bits_of v == bits_of w

abbrev pub same_dim : Dim → Dim → Bool
same_dim (Fixed m) (Fixed n) = m == n
same_dim Dynamic Dynamic = true
same_dim _ _ = false

abbrev pub same_dims : List Dim → List Dim → Bool
same_dims [] [] = true
same_dims (d ∷ ds) (e ∷ es) = same_dim d e && same_dims ds es
same_dims _ _ = false

abbrev pub same_number : NumTy → NumTy → Bool
same_number (num.Int v) (num.Int w) = same_width v w
same_number num.Index num.Index = true
same_number _ _ = false

abbrev pub same_cell : CellTy → CellTy → Bool
same_cell (cell.Int v) (cell.Int w) = same_width v w
same_cell cell.Index cell.Index = true
same_cell cell.Token cell.Token = true
same_cell cell.Group cell.Group = true
same_cell (cell.Value m) (cell.Value n) = same_number m n
same_cell _ _ = false

abbrev pub same_memref : MemTy → MemTy → Bool
same_memref m n = same_cell m.elem n.elem && same_dims m.dims n.dims

abbrev pub same_payload : ValTy → ValTy → Bool
same_payload (val.Int v) (val.Int w) = same_width v w
same_payload val.Index val.Index = true
same_payload (val.Memref m) (val.Memref n) = same_memref m n
same_payload _ _ = false

-- two types of the grammar are one; what has no type is the same as nothing
abbrev pub same_type : Ty → Ty → Bool
same_type (ty.Int v) (ty.Int w) = same_width v w
same_type ty.Index ty.Index = true
same_type (ty.Memref m) (ty.Memref n) = same_memref m n
same_type ty.Token ty.Token = true
same_type (ty.Value m) (ty.Value n) = same_payload m n
same_type ty.Group ty.Group = true
same_type ty.CoroId ty.CoroId = true
same_type ty.CoroHandle ty.CoroHandle = true
same_type ty.CoroState ty.CoroState = true
same_type _ _ = false

-- the second type is what a value of the first one holds
abbrev pub holds : Ty → Ty → Bool
holds (ty.Value (val.Int v)) (ty.Int w) = same_width v w
holds (ty.Value val.Index) ty.Index = true
holds (ty.Value (val.Memref m)) (ty.Memref n) = same_memref m n
holds _ _ = false

abbrev pub holds_number : NumTy → ValTy → Bool
holds_number (num.Int v) (val.Int w) = same_width v w
holds_number num.Index val.Index = true
holds_number _ _ = false

-- a cell has this type
abbrev pub is_cell : CellTy → Ty → Bool
is_cell (cell.Int v) (ty.Int w) = same_width v w
is_cell cell.Index ty.Index = true
is_cell cell.Token ty.Token = true
is_cell cell.Group ty.Group = true
is_cell (cell.Value n) (ty.Value p) = holds_number n p
is_cell _ _ = false

-- the second type is that of the cells of the first one
abbrev pub is_element : Ty → Ty → Bool
is_element (ty.Memref m) t = is_cell m.elem t
is_element _ t = false

-- ---- classes of types

abbrev pub is_number : Ty → Bool
is_number (ty.Int w) = true
is_number ty.Index = true
is_number _ = false

abbrev pub is_truth : Ty → Bool
is_truth (ty.Int W1) = true
is_truth _ = false

abbrev pub is_index : Ty → Bool
is_index ty.Index = true
is_index _ = false

abbrev pub is_memref : Ty → Bool
is_memref (ty.Memref m) = true
is_memref _ = false

abbrev pub is_token : Ty → Bool
is_token ty.Token = true
is_token _ = false

abbrev pub is_value : Ty → Bool
is_value (ty.Value p) = true
is_value _ = false

abbrev pub is_group : Ty → Bool
is_group ty.Group = true
is_group _ = false

-- a token or a value
abbrev pub is_awaitable : Ty → Bool
is_awaitable ty.Token = true
is_awaitable (ty.Value p) = true
is_awaitable _ = false

-- ---- parts of a memref

abbrev pub dims_of : Ty → List Dim
dims_of (ty.Memref m) = m.dims
dims_of _ = []

abbrev pub is_open : Dim → Bool
is_open Dynamic = true
is_open (Fixed n) = false

-- how many sizes are `?`
abbrev pub open_dims : List Dim → ℕ
open_dims dims = count_by is_open dims

abbrev pub is_async_cell : CellTy → Bool
is_async_cell cell.Token = true
is_async_cell cell.Group = true
is_async_cell (cell.Value n) = true
is_async_cell _ = false

-- a memref with cells of an async type, or a value that holds one
abbrev pub has_async_cells : Ty → Bool
has_async_cells (ty.Memref m) = is_async_cell m.elem
has_async_cells (ty.Value (val.Memref m)) = is_async_cell m.elem
has_async_cells _ = false

-- ---- casts and literals

-- an extension goes to a wider whole number
abbrev pub extends : Ty → Ty → Bool
extends (ty.Int v) (ty.Int w) = nat_lt (bits_of v) (bits_of w)
extends _ _ = false

-- a truncation to a narrower one
abbrev pub truncates : Ty → Ty → Bool
truncates (ty.Int v) (ty.Int w) = nat_lt (bits_of w) (bits_of v)
truncates _ _ = false

-- of the two types of an index cast one is `index`, and the other a whole number
abbrev pub casts_index : Ty → Ty → Bool
casts_index (ty.Int v) ty.Index = true
casts_index ty.Index (ty.Int w) = true
casts_index _ _ = false

-- a number fits w bits where it lies in -2^(w - 1) to 2^w - 1
abbrev pub fits_bits : ℕ → Bool → ℕ → Bool
fits_bits w true magnitude = nat_le magnitude (2 ^ (w - 1))
fits_bits w false magnitude = nat_le magnitude (2 ^ w - 1)

-- no number fits `i1`, which `true` and `false` have, and an index has 64 bits
abbrev pub fits_width : Width → Bool → ℕ → Bool
fits_width W1 negative magnitude = false
fits_width w negative magnitude = fits_bits (bits_of w) negative magnitude

abbrev pub literal_fits : Attr → Ty → Bool
literal_fits (Literal negative magnitude) (ty.Int w) = fits_width w negative magnitude
literal_fits (Literal negative magnitude) ty.Index = fits_bits 64 negative magnitude
literal_fits (Truth bit) t = is_truth t
literal_fits _ t = false
