-- Each type that a token writes is one that a text writes.
use Rattle.std.proofs.Common.{◌≡◌, ℕ, ◌-◌, Bool, true, false, not, cond, ◌&&◌, ◌==◌, nat_le, List, [], ◌∷◌, ◌++◌, length, take, drop, filter, Option, Some, None, is_some, refl, leb-true}
use Rattle.std.specs.Prelude.{⊤, option_map, unwrap_or}
use Rattle.std.specs.Str.{bytes_eq}
use Rattle.mlir_lex.specs.declared.kinds.TokenKind.{TokenKind}
use Rattle.mlir_lex.specs.declared.kinds.TokenKind.TheVariants as kind
use Rattle.int_ops.specs.declared.Width.{Width}
use Rattle.ir_forms.specs.declared.types.Ty.{Ty}
use Rattle.ir_forms.specs.declared.types.Ty.TheVariants as ty
use Rattle.ir_forms.specs.declared.types.CellTy.{CellTy}
use Rattle.ir_forms.specs.declared.types.MemTy.{MemTy}
use Rattle.ir_forms.specs.declared.types.Dim.{Dim}
use Rattle.ir_forms.specs.declared.types.Dim.TheVariants.{Fixed, Dynamic}
use Rattle.module_grammar.specs.declared.types.DimSoFar.{DimSoFar}
use Rattle.module_grammar.specs.declared.types.DimSoFar.TheVariants as so_far
use Rattle.module_grammar.specs.declared.state.TextToken.{TextToken}
use Rattle.module_grammar.specs.Tokens.{is_blank, is_digit, among, widths, cells, grown, shaped, memref_of, memref_type, number_type, bang_types, type_of_kind, type_of, payload_of_type, payload_of}
use Rattle.module_grammar.specs.State.{value_type}
use Rattle.mlir_print.specs.Printable.{IsWrittenDim, AreWrittenDims, IsWrittenMemref, IsWritten}

-- what there is has the property
abbrev IfThere : {A : Type 0} → (A → Type 0) → Option A → Type 0
IfThere P None = ⊤
IfThere P (Some a) = P a

chosen : {A : Type 0} (P : A → Type 0) (b : Bool) (x y : A) → (b ≡ true → P x) → P y → P (cond b x y)
chosen P true x y h i = h refl
chosen P false x y h i = i

dims-more : (ds : List Dim) (d : Dim) → AreWrittenDims ds → IsWrittenDim d → AreWrittenDims (ds ++ d ∷ [])
dims-more [] d h i = (i, tt)
dims-more (x ∷ ds) d h i = (h.0, dims-more ds d h.1 i)

shaped-written : (ds : List Dim) (e : Option CellTy) → AreWrittenDims ds → IfThere IsWrittenMemref (shaped ds e)
shaped-written ds None h = tt
shaped-written ds (Some e) h =
    chosen (IfThere IsWrittenMemref) (nat_le (length ds) 4) (Some (record { elem = e; dims = ds })) None (λ y. (leb-true (length ds) 4 y, h)) tt

memref-written : (bs : List ℕ) (ds : List Dim) (now : DimSoFar) → AreWrittenDims ds → IfThere IsWrittenMemref (memref_of bs ds now)
memref-written [] ds now h = tt
memref-written (b ∷ bs) ds so_far.Nothing h =
    chosen (IfThere IsWrittenMemref) (b == 63) _ _ (λ y. memref-written bs ds so_far.Unknown h)
    (chosen (IfThere IsWrittenMemref) (is_digit b) _ _ (λ y. memref-written bs ds (so_far.Size (b - 48)) h) (shaped-written ds (among cells (b ∷ bs)) h))
memref-written (b ∷ bs) ds so_far.Unknown h =
    chosen (IfThere IsWrittenMemref) (b == 120) _ _ (λ y. memref-written bs (ds ++ Dynamic ∷ []) so_far.Nothing (dims-more ds Dynamic h tt)) tt
memref-written (b ∷ bs) ds (so_far.Size n) h =
    chosen (IfThere IsWrittenMemref) (is_digit b) _ _ (λ y. memref-written bs ds (so_far.Size (grown n (b - 48))) h)
    (chosen (IfThere IsWrittenMemref) (b == 120 && nat_le n 16777216) _ _
    (λ y. memref-written bs (ds ++ Fixed n ∷ []) so_far.Nothing (dims-more ds (Fixed n) h (leb-true n 16777216 (both (b == 120) (nat_le n 16777216) y)))) tt)
  where
    both : (a c : Bool) → a && c ≡ true → c ≡ true
    both true c e = e
    both false c e = absurd cc

number-written : (o : Option Width) → IfThere IsWritten (option_map (λ w. ty.Int w) o)
number-written None = tt
number-written (Some w) = tt

name-written : (text : List ℕ) → IfThere IsWritten (number_type text)
name-written text = chosen (IfThere IsWritten) (bytes_eq text _) _ _ (λ y. tt) (number-written (among widths text))

bang-written : (text : List ℕ) → IfThere IsWritten (among bang_types text)
bang-written text = chosen (IfThere IsWritten) (bytes_eq text _) _ _ (λ y. tt) (chosen (IfThere IsWritten) (bytes_eq text _) _ _ (λ y. tt) tt)

shape-written : (o : Option MemTy) → IfThere IsWrittenMemref o → IfThere IsWritten (option_map (λ m. ty.Memref m) o)
shape-written None h = tt
shape-written (Some m) h = h

memref-type-written : (text : List ℕ) → IfThere IsWrittenMemref (memref_type text)
unfolding memref_type
memref-type-written text =
    memref-written (filter (λ b. not (is_blank b)) (take (length text - 8) (drop 7 text))) [] so_far.Nothing tt

of-kind-written : (k : TokenKind) (text : List ℕ) → IfThere IsWritten (type_of_kind k text)
of-kind-written kind.Name text = name-written text
of-kind-written kind.BangName text = bang-written text
of-kind-written kind.Memref text = shape-written (memref_type text) (memref-type-written text)
of-kind-written _ text = tt

type-of-written : (t : TextToken) → IfThere IsWritten (type_of t)
unfolding type_of
type-of-written t = of-kind-written t.kind t.text

there : (o : Option Ty) (d : Ty) → IfThere IsWritten o → is_some o ≡ true → IsWritten (unwrap_or o d)
there None d h e = absurd cc
there (Some t) d h e = h

pub type-written : (t : TextToken) → is_some (type_of t) ≡ true → IsWritten (unwrap_or (type_of t) ty.Untyped)
type-written t e = there (type_of t) ty.Untyped (type-of-written t) e

payload-there : (o : Option Ty) → IfThere IsWritten o → is_some (payload_of_type o) ≡ true → IsWritten (value_type (payload_of_type o))
payload-there (Some (ty.Int w)) h e = tt
payload-there (Some ty.Index) h e = tt
payload-there (Some (ty.Memref m)) h e = h
payload-there _ h e = absurd cc

pub payload-written : (t : TextToken) → is_some (payload_of t) ≡ true → IsWritten (value_type (payload_of t))
payload-written t e = payload-there (type_of t) (type-of-written t) e
