-- What a printed memref says: its dimensions and its element.
use Rattle.std.proofs.Common.{◌≡◌, ℕ, ◌+◌, ◌-◌, not, List, [], ◌∷◌, ◌++◌, length, take, drop, filter, Some, codes, decimal, refl, sym, ap, ◌∙◌, append_assoc, append-nil, arith, le-leb}
use Rattle.std.proofs.Math.Seq.{take-append_seam}
use Rattle.std.proofs.lemmas.List.{length-append}
use Rattle.std.proofs.lemmas.List.Elements.{filter-append}
use Rattle.int_ops.specs.declared.Width.TheVariants.{W1, W8, W16, W32, W64}
use Rattle.ir_forms.specs.declared.types.CellTy.{CellTy}
use Rattle.ir_forms.specs.declared.types.CellTy.TheVariants as cell
use Rattle.ir_forms.specs.declared.types.NumTy.TheVariants as num
use Rattle.ir_forms.specs.declared.types.Dim.{Dim}
use Rattle.ir_forms.specs.declared.types.Dim.TheVariants.{Fixed, Dynamic}
use Rattle.ir_forms.specs.declared.types.MemTy.{MemTy}
use Rattle.module_grammar.specs.declared.types.DimSoFar.TheVariants as so_far
use Rattle.module_grammar.specs.Tokens.{is_blank, memref_of, memref_type, shaped}
use Rattle.mlir_print.specs.Types.{cell_text, dim_text, dims_text, memref_text, value_word}
use Rattle.mlir_print.specs.Printable.{IsWrittenDim, AreWrittenDims, IsWrittenMemref}
use Rattle.round_trip.proofs.Numbers.{decimal-dim, decimal-dense}

cell-back : (e : CellTy) (dims : List Dim) → memref_of (cell_text e) dims so_far.Nothing ≡ shaped dims (Some e)
unfolding value_word
cell-back (cell.Int W1) dims = refl
cell-back (cell.Int W8) dims = refl
cell-back (cell.Int W16) dims = refl
cell-back (cell.Int W32) dims = refl
cell-back (cell.Int W64) dims = refl
cell-back cell.Index dims = refl
cell-back cell.Token dims = refl
cell-back cell.Group dims = refl
cell-back (cell.Value (num.Int W1)) dims = refl
cell-back (cell.Value (num.Int W8)) dims = refl
cell-back (cell.Value (num.Int W16)) dims = refl
cell-back (cell.Value (num.Int W32)) dims = refl
cell-back (cell.Value (num.Int W64)) dims = refl
cell-back (cell.Value num.Index) dims = refl

dim-back : (d : Dim) → IsWrittenDim d → (bs : List ℕ) (dims : List Dim) → memref_of (dim_text d ++ bs) dims so_far.Nothing ≡ memref_of bs (dims ++ d ∷ []) so_far.Nothing
dim-back (Fixed n) h bs dims =
    ap (λ (xs : List ℕ). memref_of xs dims so_far.Nothing) (append_assoc (decimal n) (codes "x") bs)
    ∙ decimal-dim n (omega arith) h (120 ∷ bs) dims
    ∙ rw (le-leb n 16777216 h) refl
dim-back Dynamic h bs dims = refl

dims-back : (ds : List Dim) → AreWrittenDims ds → (bs : List ℕ) (dims : List Dim) → memref_of (dims_text ds ++ bs) dims so_far.Nothing ≡ memref_of bs (dims ++ ds) so_far.Nothing
dims-back [] h bs dims = ap (λ (xs : List Dim). memref_of bs xs so_far.Nothing) (sym (append-nil dims))
dims-back (d ∷ ds) h bs dims =
    ap (λ (xs : List ℕ). memref_of xs dims so_far.Nothing) (append_assoc (dim_text d) (dims_text ds) bs)
    ∙ dim-back d h.0 (dims_text ds ++ bs) dims ∙ dims-back ds h.1 bs (dims ++ d ∷ [])
    ∙ ap (λ (xs : List Dim). memref_of bs xs so_far.Nothing) (append_assoc dims (d ∷ []) ds)

-- ---- no blanks

abbrev dense : List ℕ → List ℕ
dense xs = filter (λ b. not (is_blank b)) xs

cell-dense : (e : CellTy) → dense (cell_text e) ≡ cell_text e
unfolding value_word
cell-dense (cell.Int W1) = refl
cell-dense (cell.Int W8) = refl
cell-dense (cell.Int W16) = refl
cell-dense (cell.Int W32) = refl
cell-dense (cell.Int W64) = refl
cell-dense cell.Index = refl
cell-dense cell.Token = refl
cell-dense cell.Group = refl
cell-dense (cell.Value (num.Int W1)) = refl
cell-dense (cell.Value (num.Int W8)) = refl
cell-dense (cell.Value (num.Int W16)) = refl
cell-dense (cell.Value (num.Int W32)) = refl
cell-dense (cell.Value (num.Int W64)) = refl
cell-dense (cell.Value num.Index) = refl

both-dense : (xs ys : List ℕ) → dense xs ≡ xs → dense ys ≡ ys → dense (xs ++ ys) ≡ xs ++ ys
both-dense xs ys e f = filter-append (λ b. not (is_blank b)) xs ys ∙ rw (e, f) refl

dim-dense : (d : Dim) → IsWrittenDim d → dense (dim_text d) ≡ dim_text d
dim-dense (Fixed n) h = both-dense (decimal n) (codes "x") (decimal-dense n (omega arith)) refl
dim-dense Dynamic h = refl

dims-dense : (ds : List Dim) → AreWrittenDims ds → dense (dims_text ds) ≡ dims_text ds
dims-dense [] h = refl
dims-dense (d ∷ ds) h = both-dense (dim_text d) (dims_text ds) (dim-dense d h.0) (dims-dense ds h.1)

-- ---- the whole

within : (xs : List ℕ) → take (length (codes "memref<" ++ xs ++ codes ">") - 8) (drop 7 (codes "memref<" ++ xs ++ codes ">")) ≡ xs
within xs =
    let e : length (codes "memref<" ++ xs ++ codes ">") - 8 ≡ length xs =
    ap (λ (n : ℕ). n - 8) (length-append (codes "memref<") (xs ++ codes ">") ∙ ap (λ (n : ℕ). 7 + n) (length-append xs (codes ">"))) ∙ omega arith in
    ap (λ (n : ℕ). take n (xs ++ codes ">")) e ∙ take-append_seam xs (codes ">")

pub memref-back : (m : MemTy) → IsWrittenMemref m → memref_type (memref_text m) ≡ Some m
unfolding memref_type
memref-back m h =
    let text : List ℕ = dims_text m.dims ++ cell_text m.elem in
    ap (λ (x : List ℕ). memref_of (dense x) [] so_far.Nothing) (within text)
    ∙ ap (λ (x : List ℕ). memref_of x [] so_far.Nothing) (both-dense (dims_text m.dims) (cell_text m.elem) (dims-dense m.dims h.1) (cell-dense m.elem))
    ∙ dims-back m.dims h.1 (cell_text m.elem) []
    ∙ cell-back m.elem m.dims
    ∙ rw (le-leb (length m.dims) 4 h.0) refl
