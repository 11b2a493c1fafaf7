-- The first places of numbers, as numbers are added.
use Rattle.std.proofs.Common.{◌≡◌, ℕ, suc, ◌+◌, ◌<◌, cond, true, false, Bool, List, [], ◌∷◌, ◌++◌, take, length, get_or, nat_eq, Option, Some, None, refl, sym, ap, ◌∙◌, arith}
use Rattle.std.proofs.lemmas.Bool.{eqb-true}
use Rattle.std.proofs.lemmas.List.{take_more, length-take-le}
use Rattle.std.specs.Option.{option_map, is_some}
use Rattle.register_numbers.specs.FirstPlaces.{first_place}

-- the earlier place, where there is one
abbrev or_else : Option ℕ → Option ℕ → Option ℕ
or_else None o = o
or_else (Some n) o = Some n

-- ---- one number more

added : (xs : List ℕ) (y x : ℕ) → first_place (xs ++ y ∷ []) x ≡ or_else (first_place xs x) (cond (nat_eq y x) (Some (length xs)) None)
added [] y x = step (nat_eq y x)
  where
    step : (b : Bool) → cond b (Some 0) (option_map suc (let none : Option ℕ = None in none)) ≡ cond b (Some 0) None
    step true = refl
    step false = refl
added (z ∷ xs) y x = step (nat_eq z x) (added xs y x)
  where
    later : (o : Option ℕ) (b : Bool) (n : ℕ) → option_map suc (or_else o (cond b (Some n) None)) ≡ or_else (option_map suc o) (cond b (Some (suc n)) None)
    later None true n = refl
    later None false n = refl
    later (Some m) b n = refl

    step : (b : Bool) → first_place (xs ++ y ∷ []) x ≡ or_else (first_place xs x) (cond (nat_eq y x) (Some (length xs)) None) →
        cond b (Some 0) (option_map suc (first_place (xs ++ y ∷ []) x)) ≡ or_else (cond b (Some 0) (option_map suc (first_place xs x))) (cond (nat_eq y x) (Some (suc (length xs))) None)
    step true again = refl
    step false again = ap (option_map suc) again ∙ later (first_place xs x) (nat_eq y x) (length xs)

missing : (o : Option ℕ) → is_some o ≡ false → o ≡ None
missing None not = refl
missing (Some n) not = cc

keeps : (o : Option ℕ) → is_some o ≡ true → (other : Option ℕ) → or_else o other ≡ o
keeps None some other = cc
keeps (Some n) some other = refl

or_none : (o : Option ℕ) → or_else o None ≡ o
or_none None = refl
or_none (Some n) = refl

-- a number that had no place gets this one
added-new : (xs : List ℕ) (y x : ℕ) → is_some (first_place xs y) ≡ false → cond (nat_eq y x) (Some (length xs)) (first_place xs x) ≡ first_place (xs ++ y ∷ []) x
added-new xs y x fresh = step (nat_eq y x) refl ∙ sym (added xs y x)
  where
    step : (b : Bool) → nat_eq y x ≡ b → cond b (Some (length xs)) (first_place xs x) ≡ or_else (first_place xs x) (cond b (Some (length xs)) None)
    step true equal =
        let same : y ≡ x = eqb-true y x equal in
        let none : first_place xs x ≡ None = missing (first_place xs x) (rw (← same) fresh) in
        rw none refl
    step false equal = sym (or_none (first_place xs x))

-- and one that had a place keeps it
added-old : (xs : List ℕ) (y x : ℕ) → is_some (first_place xs y) ≡ true → first_place xs x ≡ first_place (xs ++ y ∷ []) x
added-old xs y x there = sym (added xs y x ∙ step (nat_eq y x) refl)
  where
    step : (b : Bool) → nat_eq y x ≡ b → or_else (first_place xs x) (cond b (Some (length xs)) None) ≡ first_place xs x
    step true equal =
        let same : y ≡ x = eqb-true y x equal in
        keeps (first_place xs x) (rw (← same) there) (Some (length xs))
    step false equal = or_none (first_place xs x)

-- ---- one more of a list

module _ (xs : List ℕ) (i : ℕ) (d : ℕ) (less : i < length xs) where
  abbrev next : ℕ
  next = get_or xs i d

  longer : take (i + 1) xs ≡ take i xs ++ next ∷ []
  longer = take_more xs i d less

  counted : length (take i xs) ≡ i
  counted = length-take-le i xs (omega arith)

  pub number-new : (x : ℕ) → is_some (first_place (take i xs) next) ≡ false →
      cond (nat_eq next x) (Some i) (first_place (take i xs) x) ≡ first_place (take (i + 1) xs) x
  number-new x fresh =
      ap (λ n. cond (nat_eq next x) (Some n) (first_place (take i xs) x)) (sym counted)
      ∙ added-new (take i xs) next x fresh
      ∙ ap (λ ns. first_place ns x) (sym longer)

  pub number-old : (x : ℕ) → is_some (first_place (take i xs) next) ≡ true →
      first_place (take i xs) x ≡ first_place (take (i + 1) xs) x
  number-old x there = added-old (take i xs) next x there ∙ ap (λ ns. first_place ns x) (sym longer)
