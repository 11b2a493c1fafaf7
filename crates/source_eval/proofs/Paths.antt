-- Lists that grow at their end.
use Rattle.std.proofs.Common.{◌≡◌, ℕ, zero, suc, ◌+◌, List, [], ◌∷◌, ◌++◌, map, refl, ap, subst, ◌∙◌, add-one, arith}
use Rattle.std.proofs.lemmas.List.{map-append}
use Rattle.ir_forms.specs.declared.names.ElementName.TheVariants.{Token, Value}
use Rattle.ir_forms.specs.Names.{Path, iteration_of}
use Rattle.source_meaning.specs.declared.values.Val.TheVariants.{Element}
use Rattle.source_meaning.specs.World.{numbers_from, elements_of}

pub iteration_path : (p : Path) (k i : ℕ) → (p ++ k ∷ []) ++ i ∷ [] ≡ iteration_of p k i
iteration_path [] k i = refl
iteration_path (x ∷ p) k i = ap (λ q. x ∷ q) (iteration_path p k i)

pub snoc_append : {X : Type 0} (xs : List X) (x : X) (ys : List X) → (xs ++ x ∷ []) ++ ys ≡ xs ++ x ∷ ys
snoc_append [] x ys = refl
snoc_append (y ∷ xs) x ys = ap (λ zs. y ∷ zs) (snoc_append xs x ys)

pub append_more : {X : Type 0} (xs ys zs : List X) → (xs ++ ys) ++ zs ≡ xs ++ ys ++ zs
append_more [] ys zs = refl
append_more (x ∷ xs) ys zs = ap (λ ws. x ∷ ws) (append_more xs ys zs)

numbers_suc : (k n : ℕ) → numbers_from k (suc n) ≡ numbers_from k n ++ (k + n) ∷ []
numbers_suc k zero = ap (λ m. m ∷ []) (omega arith)
numbers_suc k (suc n) = ap (λ ms. k ∷ ms) (subst (λ m. numbers_from (k + 1) (suc n) ≡ numbers_from (k + 1) n ++ m ∷ []) (omega arith) (numbers_suc (k + 1) n))

-- one value more
pub elements_more : (q : Path) (j : ℕ) → elements_of q (j + 1) ≡ elements_of q j ++ Element (Value q j) ∷ []
elements_more q j =
    let valued = λ (i : ℕ). Element (Value q i) in
    rw add-one (ap (λ vs. Element (Token q) ∷ vs) (ap (map valued) (numbers_suc 0 j) ∙ (map-append valued (numbers_from 0 j) ((0 + j) ∷ []) ∙ ap (λ m. map valued (numbers_from 0 j) ++ valued m ∷ []) (omega arith))))
