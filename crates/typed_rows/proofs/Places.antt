-- Lists that stand in another one, from a place on.
use Rattle.std.proofs.Common.{◌≡◌, ℕ, zero, suc, ◌+◌, List, [], ◌∷◌, ◌++◌, length, Some, refl, sym, subst, ap, arith, append_assoc, length-append}
use Rattle.std.specs.Prelude.{slice_get}

module _ {A : Type 0} (all : List A) where
  -- these stand from this place on
  abbrev pub Stand : ℕ → List A → Type 0
  Stand n [] = Unit {0}
  Stand n (x ∷ xs) = (slice_get all n ≡ Some x) × Stand (n + 1) xs

  pub stand_front : (n : ℕ) (xs ys : List A) → Stand n (xs ++ ys) → Stand n xs
  stand_front n [] ys s = tt
  stand_front n (x ∷ xs) ys s = (s.0, stand_front (n + 1) xs ys s.1)

  pub stand_back : (n : ℕ) (xs ys : List A) → Stand n (xs ++ ys) → Stand (n + length xs) ys
  stand_back n [] ys s = subst (λ k. Stand k ys) (let e : n ≡ n + 0 = omega arith in e) s
  stand_back n (x ∷ xs) ys s = subst (λ k. Stand k ys) (let e : n + 1 + length xs ≡ n + suc (length xs) = omega arith in e) (stand_back (n + 1) xs ys s.1)

at_seam : {A : Type 0} → (pre : List A) (x : A) (xs : List A) → slice_get (pre ++ x ∷ xs) (length pre) ≡ Some x
at_seam [] x xs = refl
at_seam (y ∷ pre) x xs = at_seam pre x xs

-- a list stands where it was put
pub stand_all : {A : Type 0} → (pre xs : List A) → Stand (pre ++ xs) (length pre) xs
stand_all pre [] = tt
stand_all pre (x ∷ xs) =
    let more = stand_all (pre ++ x ∷ []) xs in
    let same : (pre ++ x ∷ []) ++ xs ≡ pre ++ x ∷ xs = append_assoc pre (x ∷ []) xs in
    let len : length (pre ++ x ∷ []) ≡ length pre + 1 = length-append pre (x ∷ []) in
    (at_seam pre x xs, subst (λ n. Stand (pre ++ x ∷ xs) n xs) len (subst (λ l. Stand l (length (pre ++ x ∷ [])) xs) same more))
