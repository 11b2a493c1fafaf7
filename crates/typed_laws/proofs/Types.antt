-- Types that are the same, and what a value of a type is.
use Rattle.std.proofs.Common.{◌≡◌, ◌==◌, ◌&&◌, ℕ, Bool, true, false, List, [], ◌∷◌, Some, refl, sym, ap, ◌∙◌, arith}
use Rattle.std.proofs.lemmas.Bool.Decides.{nat_tests}
use Rattle.int_ops.specs.declared.Width.{Width}
use Rattle.int_ops.specs.declared.Width.TheVariants.{W1, W8, W16, W32, W64}
use Rattle.ir_forms.specs.declared.names.ElementName.TheVariants.{Token, Value}
use Rattle.ir_forms.specs.declared.types.CellTy.{CellTy}
use Rattle.ir_forms.specs.declared.types.CellTy.TheVariants as cell
use Rattle.ir_forms.specs.declared.types.Dim.{Dim}
use Rattle.ir_forms.specs.declared.types.Dim.TheVariants.{Fixed, Dynamic}
use Rattle.ir_forms.specs.declared.types.MemTy.{MemTy}
use Rattle.ir_forms.specs.declared.types.NumTy.{NumTy}
use Rattle.ir_forms.specs.declared.types.NumTy.TheVariants as num
use Rattle.ir_forms.specs.declared.types.Ty.{Ty}
use Rattle.ir_forms.specs.declared.types.Ty.TheVariants as ty
use Rattle.ir_forms.specs.declared.types.ValTy.{ValTy}
use Rattle.ir_forms.specs.declared.types.ValTy.TheVariants as val
use Rattle.ir_forms.specs.Names.{Path}
use Rattle.ir_verify.specs.Types.{same_width, same_dim, same_dims, same_number, same_cell, same_memref, same_payload, same_type, holds, is_number, is_truth, is_index, is_memref, is_token, is_value, is_group}
use Rattle.source_meaning.specs.declared.values.Val.{Val}
use Rattle.source_meaning.specs.declared.values.Val.TheVariants.{Number, Memory, Element, Group}
use Rattle.typed_laws.specs.Typed.{Typing, Says, HasType}

equal : (a b : ℕ) → (a == b) ≡ true → a ≡ b
equal a b h = grind (arith, nat_tests)

pub both_true : (a b : Bool) → (a && b) ≡ true → (a ≡ true) × (b ≡ true)
both_true true true h = (refl, refl)
both_true true false h = cc
both_true false b h = cc

width_same : (v w : Width) → same_width v w ≡ true → v ≡ w
width_same W1 W1 e = refl
width_same W8 W8 e = refl
width_same W16 W16 e = refl
width_same W32 W32 e = refl
width_same W64 W64 e = refl
width_same v w e = cc

dim_same : (d e : Dim) → same_dim d e ≡ true → d ≡ e
dim_same (Fixed m) (Fixed n) h = ap Fixed (equal m n h)
dim_same Dynamic Dynamic h = refl
dim_same (Fixed m) Dynamic h = cc
dim_same Dynamic (Fixed n) h = cc

dims_same : (ds es : List Dim) → same_dims ds es ≡ true → ds ≡ es
dims_same [] [] h = refl
dims_same [] (e ∷ es) h = cc
dims_same (d ∷ ds) [] h = cc
dims_same (d ∷ ds) (e ∷ es) h =
    let b = both_true (same_dim d e) (same_dims ds es) h in
    ap (λ x. x ∷ ds) (dim_same d e b.0) ∙ ap (λ xs. e ∷ xs) (dims_same ds es b.1)

number_same : (m n : NumTy) → same_number m n ≡ true → m ≡ n
number_same (num.Int v) (num.Int w) h = ap num.Int (width_same v w h)
number_same num.Index num.Index h = refl
number_same (num.Int v) num.Index h = cc
number_same num.Index (num.Int w) h = cc

cell_same : (c d : CellTy) → same_cell c d ≡ true → c ≡ d
cell_same (cell.Int v) (cell.Int w) h = ap cell.Int (width_same v w h)
cell_same cell.Index cell.Index h = refl
cell_same cell.Token cell.Token h = refl
cell_same cell.Group cell.Group h = refl
cell_same (cell.Value m) (cell.Value n) h = ap cell.Value (number_same m n h)
cell_same c d h = cc

memory : CellTy → List Dim → MemTy
memory c ds = record { elem = c; dims = ds }

memref_same : (m n : MemTy) → same_memref m n ≡ true → m ≡ n
unfolding memory
memref_same m n h =
    let b = both_true (same_cell m.elem n.elem) (same_dims m.dims n.dims) h in
    ap (λ c. memory c m.dims) (cell_same m.elem n.elem b.0) ∙ ap (λ ds. memory n.elem ds) (dims_same m.dims n.dims b.1)

payload_same : (v w : ValTy) → same_payload v w ≡ true → v ≡ w
payload_same (val.Int v) (val.Int w) h = ap val.Int (width_same v w h)
payload_same val.Index val.Index h = refl
payload_same (val.Memref m) (val.Memref n) h = ap val.Memref (memref_same m n h)
payload_same v w h = cc

pub type_same : (t u : Ty) → same_type t u ≡ true → t ≡ u
type_same (ty.Int v) (ty.Int w) h = ap ty.Int (width_same v w h)
type_same ty.Index ty.Index h = refl
type_same (ty.Memref m) (ty.Memref n) h = ap ty.Memref (memref_same m n h)
type_same ty.Token ty.Token h = refl
type_same (ty.Value m) (ty.Value n) h = ap ty.Value (payload_same m n h)
type_same ty.Group ty.Group h = refl
type_same ty.CoroId ty.CoroId h = refl
type_same ty.CoroHandle ty.CoroHandle h = refl
type_same ty.CoroState ty.CoroState h = refl
type_same t u h = cc

-- the type of what a value holds
abbrev pub payload : ValTy → Ty
payload (val.Int w) = ty.Int w
payload val.Index = ty.Index
payload (val.Memref m) = ty.Memref m

pub record Holds (t u : Ty) : Type 0 where
  pub held : ValTy
  pub outer : t ≡ ty.Value held
  pub inner : u ≡ payload held

pub holds_so : (t u : Ty) → holds t u ≡ true → Holds t u
holds_so (ty.Value (val.Int v)) (ty.Int w) h = record { held = val.Int v; outer = refl; inner = ap ty.Int (sym (width_same v w h)) }
holds_so (ty.Value val.Index) ty.Index h = record { held = val.Index; outer = refl; inner = refl }
holds_so (ty.Value (val.Memref m)) (ty.Memref n) h = record { held = val.Memref m; outer = refl; inner = ap ty.Memref (sym (memref_same m n h)) }
holds_so t u h = cc

-- ---- classes

pub number_typed : (typing : Typing) (t : Ty) (n : ℕ) → is_number t ≡ true → HasType typing t (Number n)
number_typed typing (ty.Int w) n h = tt
number_typed typing ty.Index n h = tt
number_typed typing t n h = cc

pub truth_number : (t : Ty) → is_truth t ≡ true → is_number t ≡ true
truth_number (ty.Int w) h = refl
truth_number t h = cc

pub index_is : (t : Ty) → is_index t ≡ true → t ≡ ty.Index
index_is ty.Index h = refl
index_is t h = cc

pub group_is : (t : Ty) → is_group t ≡ true → t ≡ ty.Group
group_is ty.Group h = refl
group_is t h = cc

pub token_is : (t : Ty) → is_token t ≡ true → t ≡ ty.Token
token_is ty.Token h = refl
token_is t h = cc

pub value_is : (t : Ty) → is_value t ≡ true → (w : ValTy) × (t ≡ ty.Value w)
value_is (ty.Value w) h = (w, refl)
value_is t h = cc

pub memref_is : (t : Ty) → is_memref t ≡ true → (m : MemTy) × (t ≡ ty.Memref m)
memref_is (ty.Memref m) h = (m, refl)
memref_is t h = cc

-- ---- what was said stays

unfoldable pub Later : Typing → Typing → Type 0
Later typing later = (q : Path) (types : List Ty) → typing q ≡ Some types → later q ≡ Some types

pub later_says : (typing later : Typing) → Later typing later → (q : Path) (j : ℕ) (w : ValTy) → Says typing q j w → Says later q j w
unfolding Later
later_says typing later h q j w s = record { types = s.types; known = h q s.types s.known; type = s.type }

pub later_type : (typing later : Typing) → Later typing later → (t : Ty) (v : Val) → HasType typing t v → HasType later t v
later_type typing later h (ty.Int w) (Number n) k = tt
later_type typing later h ty.Index (Number n) k = tt
later_type typing later h (ty.Memref m) (Memory b dims) k = k
later_type typing later h ty.Token (Element (Token q)) k = tt
later_type typing later h (ty.Value w) (Element (Value q j)) k = later_says typing later h q j w k
later_type typing later h ty.Group (Group g) k = tt
later_type typing later h ty.CoroId v k = tt
later_type typing later h ty.CoroHandle v k = tt
later_type typing later h ty.CoroState v k = tt
later_type typing later h ty.Untyped v k = tt
later_type typing later h t v k = elim k [ ]
