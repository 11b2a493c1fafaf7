-- The place of a name lies within its list.
use Rattle.std.proofs.Common.{◌≡◌, ◌<◌, ℕ, suc, Bool, true, false, cond, List, [], ◌∷◌, length, Option, Some, None, refl, arith}
use Rattle.std.specs.Option.{option_map}
use Rattle.std.specs.Str.{bytes_eq}
use Rattle.name_lists.specs.Names.{first_named}

pub within : (names : List (List ℕ)) (text : List ℕ) (place : ℕ) → first_named (λ (n : List ℕ). n) names text ≡ Some place → place < length names
within [] text place is = cc
within (n ∷ names) text place is = step (bytes_eq n text) place is (λ k was. within names text k was)
  where
    deeper : (o : Option ℕ) (k m : ℕ) → option_map suc o ≡ Some k → ((j : ℕ) → o ≡ Some j → j < m) → k < suc m
    deeper None k m is again = cc
    deeper (Some j) k m is again = let same : suc j ≡ k = cc in let less : j < m = again j refl in omega (arith, same, less)

    step : (b : Bool) (k : ℕ) → cond b (Some 0) (option_map suc (first_named (λ (m : List ℕ). m) names text)) ≡ Some k
        → ((j : ℕ) → first_named (λ (m : List ℕ). m) names text ≡ Some j → j < length names) → k < suc (length names)
    step true k is again = let same : 0 ≡ k = cc in omega (arith, same)
    step false k is again = deeper (first_named (λ (m : List ℕ). m) names text) k (length names) is again
