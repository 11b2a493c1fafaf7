-- What the walk makes visible, one value after another.
use Rattle.std.proofs.Common.{◌≡◌, ℕ, zero, suc, ◌+◌, ◌<◌, List, [], ◌∷◌, ◌++◌, length, drop, get_or, refl, sym, ap, ◌∙◌, arith, append_assoc, add-one}
use Rattle.std.proofs.Math.Seq.{drop-cons}
use Rattle.ir_forms.specs.declared.ops.ValueNo.{ValueNo}
use Rattle.ir_forms.specs.declared.types.Ty.{Ty}
use Rattle.ir_verify.specs.Places.{Seen, defined, type_at}

drop_none : (i : ℕ) → drop {A = Ty} i [] ≡ []
drop_none zero = refl
drop_none (suc i) = refl

defined_at : (vs : List ValueNo) (ts : List Ty) (i : ℕ) (v d : ValueNo) → i < length vs → v ≡ get_or vs i d →
    defined (drop i vs) (drop i ts) ≡ (v, type_at ts i) ∷ defined (drop (suc i) vs) (drop (suc i) ts)
defined_at [] ts i v d within at = absurd (omega arith)
defined_at (w ∷ vs) [] zero v d within at = ap (λ (x : ValueNo). (x, type_at [] 0) ∷ defined vs []) (sym at)
defined_at (w ∷ vs) (t ∷ ts) zero v d within at = ap (λ (x : ValueNo). (x, t) ∷ defined vs ts) (sym at)
defined_at (w ∷ vs) [] (suc i) v d within at = rw (drop_none i) at (defined_at vs [] i v d (omega arith) at)
defined_at (w ∷ vs) (t ∷ ts) (suc i) v d within at = defined_at vs ts i v d (omega arith) at

pub defined_next : (seen after whole : Seen) (vs : List ValueNo) (ts : List Ty) (i : ℕ) (v d : ValueNo) → i < length vs → v ≡ get_or vs i d →
    after ≡ seen ++ (v, type_at ts i) ∷ [] → seen ++ defined (drop i vs) (drop i ts) ≡ whole → after ++ defined (drop (i + 1) vs) (drop (i + 1) ts) ≡ whole
defined_next seen after whole vs ts i v d within at is so_far =
    rw (is, add-one, append_assoc) (ap (λ rest. seen ++ rest) (sym (defined_at vs ts i v d within at)) ∙ so_far)

pub params_next : (seen after whole params : Seen) (i : ℕ) (p : ValueNo × Ty) → i < length params → p ≡ get_or params i p →
    after ≡ seen ++ p ∷ [] → seen ++ drop i params ≡ whole → after ++ drop (i + 1) params ≡ whole
params_next seen after whole params i p within at is so_far =
    let front : drop i params ≡ p ∷ drop (suc i) params = drop-cons params i p within ∙ ap (λ x. x ∷ drop (suc i) params) (sym at) in
    rw (is, add-one, append_assoc) (ap (λ rest. seen ++ rest) (sym front) ∙ so_far)
