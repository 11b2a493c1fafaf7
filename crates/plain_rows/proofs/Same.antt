-- Types that are the same are equal.
use Rattle.std.proofs.Common.{◌≡◌, inl, inr, ◌==◌, ℕ, true, false, List, [], ◌∷◌, refl, sym, ap, ◌∙◌}
use Rattle.std.proofs.lemmas.Bool.Decides.{eqb_tells}
use Rattle.int_ops.specs.declared.Width.{Width}
use Rattle.int_ops.specs.declared.Width.TheVariants.{W1, W8, W16, W32, W64}
use Rattle.ir_forms.specs.declared.types.CellTy.{CellTy}
use Rattle.ir_forms.specs.declared.types.CellTy.TheVariants as cell
use Rattle.ir_forms.specs.declared.types.Dim.{Dim}
use Rattle.ir_forms.specs.declared.types.Dim.TheVariants.{Fixed, Dynamic}
use Rattle.ir_forms.specs.declared.types.MemTy.{MemTy}
use Rattle.ir_forms.specs.declared.types.NumTy.{NumTy}
use Rattle.ir_forms.specs.declared.types.NumTy.TheVariants as num
use Rattle.ir_forms.specs.declared.types.Ty.{Ty}
use Rattle.ir_forms.specs.declared.types.Ty.TheVariants as ty
use Rattle.ir_forms.specs.declared.types.ValTy.{ValTy}
use Rattle.ir_forms.specs.declared.types.ValTy.TheVariants as val
use Rattle.ir_verify.specs.Types.{same_width, same_dim, same_dims, same_number, same_cell, same_memref, same_payload, same_type, is_number, is_truth, is_index, is_group, is_token, is_element, is_cell}
use Rattle.low_forms.specs.Registers.{every}
use Rattle.low_forms.proofs.Words.{and_left, and_right, and_both}
use Rattle.mlir_print.specs.Printable.{IsWritten, AreWritten, cell_type}
use Rattle.typed_rows.specs.Typed.{is_type, AreTypes}

equal : (a b : ℕ) → (a == b) ≡ true → a ≡ b
equal a b is = elim (eqb_tells a b) [ inl h ↦ h.1 | inr h ↦ (let no : (a == b) ≡ false = h.0 in cc) ]

self : (a : ℕ) → (a == a) ≡ true
self a = elim (eqb_tells a a) [ inl h ↦ h.0 | inr h ↦ absurd (h.1 refl) ]

-- ---- the same, so equal

width_same : (v w : Width) → same_width v w ≡ true → v ≡ w
width_same W1 W1 e = refl
width_same W8 W8 e = refl
width_same W16 W16 e = refl
width_same W32 W32 e = refl
width_same W64 W64 e = refl
width_same v w e = cc

dim_same : (d e : Dim) → same_dim d e ≡ true → d ≡ e
dim_same (Fixed m) (Fixed n) h = ap Fixed (equal m n h)
dim_same Dynamic Dynamic h = refl
dim_same (Fixed m) Dynamic h = cc
dim_same Dynamic (Fixed n) h = cc

dims_same : (ds es : List Dim) → same_dims ds es ≡ true → ds ≡ es
dims_same [] [] h = refl
dims_same [] (e ∷ es) h = cc
dims_same (d ∷ ds) [] h = cc
dims_same (d ∷ ds) (e ∷ es) h =
    ap (λ x. x ∷ ds) (dim_same d e (and_left (same_dim d e) (same_dims ds es) h)) ∙ ap (λ xs. e ∷ xs) (dims_same ds es (and_right (same_dim d e) (same_dims ds es) h))

number_same : (m n : NumTy) → same_number m n ≡ true → m ≡ n
number_same (num.Int v) (num.Int w) h = ap num.Int (width_same v w h)
number_same num.Index num.Index h = refl
number_same (num.Int v) num.Index h = cc
number_same num.Index (num.Int w) h = cc

cell_same : (c d : CellTy) → same_cell c d ≡ true → c ≡ d
cell_same (cell.Int v) (cell.Int w) h = ap cell.Int (width_same v w h)
cell_same cell.Index cell.Index h = refl
cell_same cell.Token cell.Token h = refl
cell_same cell.Group cell.Group h = refl
cell_same (cell.Value m) (cell.Value n) h = ap cell.Value (number_same m n h)
cell_same c d h = cc

memory : CellTy → List Dim → MemTy
memory c ds = record { elem = c; dims = ds }

memref_same : (m n : MemTy) → same_memref m n ≡ true → m ≡ n
unfolding memory
memref_same m n h =
    ap (λ c. memory c m.dims) (cell_same m.elem n.elem (and_left (same_cell m.elem n.elem) (same_dims m.dims n.dims) h))
    ∙ ap (λ ds. memory n.elem ds) (dims_same m.dims n.dims (and_right (same_cell m.elem n.elem) (same_dims m.dims n.dims) h))

payload_same : (v w : ValTy) → same_payload v w ≡ true → v ≡ w
payload_same (val.Int v) (val.Int w) h = ap val.Int (width_same v w h)
payload_same val.Index val.Index h = refl
payload_same (val.Memref m) (val.Memref n) h = ap val.Memref (memref_same m n h)
payload_same v w h = cc

pub type_same : (t u : Ty) → same_type t u ≡ true → t ≡ u
type_same (ty.Int v) (ty.Int w) h = ap ty.Int (width_same v w h)
type_same ty.Index ty.Index h = refl
type_same (ty.Memref m) (ty.Memref n) h = ap ty.Memref (memref_same m n h)
type_same ty.Token ty.Token h = refl
type_same (ty.Value m) (ty.Value n) h = ap ty.Value (payload_same m n h)
type_same ty.Group ty.Group h = refl
type_same ty.CoroId ty.CoroId h = refl
type_same ty.CoroHandle ty.CoroHandle h = refl
type_same ty.CoroState ty.CoroState h = refl
type_same t u h = cc

-- ---- a type that a text can write is the same as itself

pub width_self : (w : Width) → same_width w w ≡ true
width_self W1 = refl
width_self W8 = refl
width_self W16 = refl
width_self W32 = refl
width_self W64 = refl

dims_self : (ds : List Dim) → same_dims ds ds ≡ true
dims_self [] = refl
dims_self (Fixed n ∷ ds) = and_both (n == n) (same_dims ds ds) (self n) (dims_self ds)
dims_self (Dynamic ∷ ds) = dims_self ds

number_self : (m : NumTy) → same_number m m ≡ true
number_self (num.Int w) = width_self w
number_self num.Index = refl

cell_self : (c : CellTy) → same_cell c c ≡ true
cell_self (cell.Int w) = width_self w
cell_self cell.Index = refl
cell_self cell.Token = refl
cell_self cell.Group = refl
cell_self (cell.Value m) = number_self m

pub memref_self : (m : MemTy) → same_memref m m ≡ true
memref_self m = and_both (same_cell m.elem m.elem) (same_dims m.dims m.dims) (cell_self m.elem) (dims_self m.dims)

payload_self : (v : ValTy) → same_payload v v ≡ true
payload_self (val.Int w) = width_self w
payload_self val.Index = refl
payload_self (val.Memref m) = memref_self m

pub written_self : (t : Ty) → IsWritten t → same_type t t ≡ true
written_self (ty.Int w) is = width_self w
written_self ty.Index is = refl
written_self (ty.Memref m) is = memref_self m
written_self ty.Token is = refl
written_self (ty.Value v) is = payload_self v
written_self ty.Group is = refl
written_self ty.CoroId is = absurd is
written_self ty.CoroHandle is = absurd is
written_self ty.CoroState is = absurd is
written_self ty.Untyped is = absurd is

pub are_types : (ts : List Ty) → AreWritten ts → AreTypes ts
are_types [] is = refl
are_types (t ∷ ts) is = and_both (is_type t) (every is_type ts) (written_self t is.0) (are_types ts is.1)

-- ---- classes

pub number_self_type : (t : Ty) → is_number t ≡ true → same_type t t ≡ true
number_self_type (ty.Int w) is = width_self w
number_self_type ty.Index is = refl
number_self_type t is = cc

pub truth_is : (t : Ty) → is_truth t ≡ true → t ≡ ty.Int W1
truth_is (ty.Int W1) is = refl
truth_is t is = cc

pub index_is : (t : Ty) → is_index t ≡ true → t ≡ ty.Index
index_is ty.Index is = refl
index_is t is = cc

pub token_is : (t : Ty) → is_token t ≡ true → t ≡ ty.Token
token_is ty.Token is = refl
token_is t is = cc

pub group_is : (t : Ty) → is_group t ≡ true → t ≡ ty.Group
group_is ty.Group is = refl
group_is t is = cc

cell_is : (c : CellTy) (t : Ty) → is_cell c t ≡ true → t ≡ cell_type c
cell_is (cell.Int v) (ty.Int w) is = ap ty.Int (sym (width_same v w is))
cell_is cell.Index ty.Index is = refl
cell_is cell.Token ty.Token is = refl
cell_is cell.Group ty.Group is = refl
cell_is (cell.Value (num.Int v)) (ty.Value (val.Int w)) is = ap (λ x. ty.Value (val.Int x)) (sym (width_same v w is))
cell_is (cell.Value num.Index) (ty.Value val.Index) is = refl
cell_is c t is = cc

-- the type of a buffer's cells
pub element_is : (m : MemTy) (t : Ty) → is_element (ty.Memref m) t ≡ true → t ≡ cell_type m.elem
element_is m t is = cell_is m.elem t is

element_self : (c : CellTy) → is_cell c (cell_type c) ≡ true
element_self (cell.Int w) = width_self w
element_self cell.Index = refl
element_self cell.Token = refl
element_self cell.Group = refl
element_self (cell.Value (num.Int w)) = width_self w
element_self (cell.Value num.Index) = refl

pub has_element : (m : MemTy) → is_element (ty.Memref m) (cell_type m.elem) ≡ true
has_element m = element_self m.elem
