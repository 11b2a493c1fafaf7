-- The first places of numbers in a list.
use Rattle.std.proofs.Common.{◌≡◌, ◌≢◌, ◌⊎◌, inl, inr, ◌+◌, ◌<◌, ℕ, zero, suc, eqb, cond, Bool, true, false, List, [], ◌∷◌, map, length, slice_get, Option, Some, None, unwrap_or, refl, sym, ap, subst, ◌∙◌, arith}
use Rattle.std.proofs.lemmas.Bool.Decides.{eqb_tells}
use Rattle.std.proofs.lemmas.Option.{slice_get-map, slice_get_within, slice_get-get_or}
use Rattle.std.specs.List.{Contains}
use Rattle.std.specs.Option.{option_map}
use Rattle.value_numbers.specs.Numbers.{first_place, place_in, unknown}
use Rattle.number_laws.specs.Laws.{total_place, IsDistinct, numbers_from}

-- ---- by cases on whether two numbers are equal

told : (x y : ℕ) (P : Bool → Type 0) → (x ≡ y → P true) → (x ≢ y → P false) → ((eqb x y ≡ true) × (x ≡ y)) ⊎ ((eqb x y ≡ false) × (x ≢ y)) → P (eqb x y)
told x y P same other (inl t) = subst P (sym t.0) (same t.1)
told x y P same other (inr t) = subst P (sym t.0) (other t.1)

by_eq : (x y : ℕ) (P : Bool → Type 0) → (x ≡ y → P true) → (x ≢ y → P false) → P (eqb x y)
by_eq x y P same other = told x y P same other (eqb_tells x y)

-- ---- a number that stands in the list, and one that doesn't

-- the place of a number behind a first one
abbrev behind : ℕ → ℕ → List ℕ → Bool → Option ℕ
behind y x ys b = cond b (Some 0) (option_map suc (first_place ys x))

abbrev IsFound : Option ℕ → Type 0
IsFound o = (n : ℕ) × (o ≡ Some n)

found-there : (y x : ℕ) (ys : List ℕ) (i : ℕ) → slice_get (y ∷ ys) i ≡ Some x → y ≢ x → ((j : ℕ) → slice_get ys j ≡ Some x → IsFound (first_place ys x)) → IsFound (option_map suc (first_place ys x))
found-there y x ys zero at other again = absurd (other (cc))
found-there y x ys (suc i) at other again = let r : IsFound (first_place ys x) = again i at in (suc r.0, ap (option_map suc) r.1)

pub found : (xs : List ℕ) (i x : ℕ) → slice_get xs i ≡ Some x → IsFound (first_place xs x)
found [] i x at = cc
found (y ∷ ys) i x at = by_eq y x (λ b. IsFound (behind y x ys b)) (λ same. (0, refl)) (λ other. found-there y x ys i at other (λ j. found ys j x))

abbrev StandsAt : List ℕ → ℕ → ℕ → Type 0
StandsAt xs x n = slice_get xs n ≡ Some x

within-here : (y x : ℕ) (ys : List ℕ) (n : ℕ) → y ≡ x → Some 0 ≡ Some n → StandsAt (y ∷ ys) x n
within-here y x ys zero same is = ap (λ k. Some k) same
within-here y x ys (suc n) same is = cc

within-there : (y x : ℕ) (ys : List ℕ) (o : Option ℕ) (n : ℕ) → first_place ys x ≡ o → option_map suc o ≡ Some n → ((m : ℕ) → first_place ys x ≡ Some m → StandsAt ys x m) → StandsAt (y ∷ ys) x n
within-there y x ys None n was is again = cc
within-there y x ys (Some m) zero was is again = cc
within-there y x ys (Some m) (suc n) was is again = let same : m ≡ n = cc in again n (was ∙ ap (λ k. Some k) same)

-- the number stands at its place
pub stands : (xs : List ℕ) (x n : ℕ) → first_place xs x ≡ Some n → StandsAt xs x n
stands [] x n is = cc
stands (y ∷ ys) x n is =
    by_eq y x (λ b. behind y x ys b ≡ Some n → StandsAt (y ∷ ys) x n)
    (λ same. within-here y x ys n same)
    (λ other e. within-there y x ys (first_place ys x) n refl e (stands ys x)) is

earlier-there : (y x : ℕ) (ys : List ℕ) (o : Option ℕ) (n i : ℕ) → y ≢ x → first_place ys x ≡ o → option_map suc o ≡ Some n → i < n → StandsAt (y ∷ ys) x i
    → ((m j : ℕ) → first_place ys x ≡ Some m → j < m → StandsAt ys x j → ⊥) → ⊥
earlier-there y x ys None n i other was is less at again = cc
earlier-there y x ys (Some m) zero i other was is less at again = cc
earlier-there y x ys (Some m) (suc n) zero other was is less at again = other (cc)
earlier-there y x ys (Some m) (suc n) (suc i) other was is less at again = let same : m ≡ n = cc in again n i (was ∙ ap (λ k. Some k) same) (omega (arith, less)) at

-- and nowhere before it
pub first : (xs : List ℕ) (x n i : ℕ) → first_place xs x ≡ Some n → i < n → StandsAt xs x i → ⊥
first [] x n i is less at = cc
first (y ∷ ys) x n i is less at =
    by_eq y x (λ b. behind y x ys b ≡ Some n → ⊥)
    (λ same e. let none : 0 ≡ n = cc in absurd (omega (arith, none, less)))
    (λ other e. earlier-there y x ys (first_place ys x) n i other refl e less at (λ m j. first ys x m j)) is

missing-there : (y x : ℕ) (ys : List ℕ) → (((i : ℕ) → StandsAt ys x i → ⊥) → first_place ys x ≡ None) → ((i : ℕ) → StandsAt (y ∷ ys) x i → ⊥) → option_map suc (first_place ys x) ≡ None
missing-there y x ys again nowhere = ap (option_map suc) (again (λ i. nowhere (suc i)))

pub missing : (xs : List ℕ) (x : ℕ) → ((i : ℕ) → StandsAt xs x i → ⊥) → first_place xs x ≡ None
missing [] x nowhere = refl
missing (y ∷ ys) x nowhere =
    by_eq y x (λ b. behind y x ys b ≡ None) (λ same. absurd (nowhere 0 (ap (λ k. Some k) same))) (λ other. missing-there y x ys (missing ys x) nowhere)

-- a place at which the number stands, and before which it doesn't, is its place
is-first : (xs : List ℕ) (x n : ℕ) (o : Option ℕ) → first_place xs x ≡ o → StandsAt xs x n → ((i : ℕ) → i < n → StandsAt xs x i → ⊥) → o ≡ Some n
is-first xs x n None was at none = let r = found xs n x at in cc (was, r.1)
is-first xs x n (Some m) was at none = ap (λ k. Some k) (equal (λ less. none m less (stands xs x m was)) (λ less. first xs x m n was less at))
  where
    equal : (m < n → ⊥) → (n < m → ⊥) → m ≡ n
    equal a b = omega arith

pub first-is : (xs : List ℕ) (x n : ℕ) → StandsAt xs x n → ((i : ℕ) → i < n → StandsAt xs x i → ⊥) → first_place xs x ≡ Some n
first-is xs x n = is-first xs x n (first_place xs x) refl

-- ---- the total places

module _ (xs : List ℕ) where
  one-place : (x y : ℕ) (a b : Option ℕ) → first_place xs x ≡ a → first_place xs y ≡ b → unwrap_or a (length xs + x) ≡ unwrap_or b (length xs + y) → x ≡ y
  one-place x y None None f g same = omega (arith, same)
  one-place x y (Some n) None f g same = let less : n < length xs = slice_get_within xs n x (stands xs x n f) in absurd (omega (arith, less, same))
  one-place x y None (Some m) f g same = let less : m < length xs = slice_get_within xs m y (stands xs y m g) in absurd (omega (arith, less, same))
  one-place x y (Some n) (Some m) f g same =
      let at : slice_get xs n ≡ Some x = stands xs x n f in
      let also : slice_get xs m ≡ Some y = stands xs y m g in
      let one : n ≡ m = same in
      cc

  pub total-injective : (x y : ℕ) → total_place xs x ≡ total_place xs y → x ≡ y
  total-injective x y = one-place x y (first_place xs x) (first_place xs y) refl refl

  -- a number that stands in the list has a place
  pub place-found : (i x : ℕ) → slice_get xs i ≡ Some x → place_in xs x ≡ total_place xs x
  place-found i x at = let r = found xs i x at in ap (λ (o : Option ℕ). unwrap_or o unknown) r.1 ∙ ap (λ (o : Option ℕ). unwrap_or o (length xs + x)) (sym r.1)

  pub place-contained : (x : ℕ) → Contains xs x → place_in xs x ≡ total_place xs x
  place-contained x (i, less, is) = place-found i x (slice_get-get_or xs i x less ∙ ap (λ k. Some k) is)

  -- ---- places of distinct numbers

  pub place-distinct : IsDistinct xs → (i x : ℕ) → slice_get xs i ≡ Some x → place_in xs x ≡ i
  place-distinct distinct i x at = let r = found xs i x at in ap (λ (o : Option ℕ). unwrap_or o unknown) r.1 ∙ distinct r.0 i x (stands xs x r.0 r.1) at

pub counts : (f : ℕ → ℕ) (xs : List ℕ) (n : ℕ) → ((i x : ℕ) → slice_get xs i ≡ Some x → f x ≡ n + i) → map f xs ≡ numbers_from n (length xs)
counts f [] n each = refl
counts f (x ∷ xs) n each =
    let here : f x ≡ n = each 0 x refl ∙ omega arith in
    ap (λ y. y ∷ map f xs) here ∙ ap (λ ys. n ∷ ys) (counts f xs (n + 1) (λ i y at. each (suc i) y at ∙ omega arith))

-- ---- places of places

module _ (xs : List ℕ) (few : length xs < unknown) where
  abbrev places : List ℕ
  places = map (place_in xs) xs

  -- where a place stands, the number with this place stands
  place-stands : (i p : ℕ) (o : Option ℕ) → slice_get xs i ≡ o → option_map (place_in xs) o ≡ Some p → (z : ℕ) × (slice_get xs i ≡ Some z) × (first_place xs z ≡ Some p)
  place-stands i p None at is = cc
  place-stands i p (Some z) at is =
      let r = found xs i z at in
      let same : r.0 ≡ p = ap (λ (o : Option ℕ). unwrap_or o unknown) (sym r.1) ∙ cc in
      (z, at, r.1 ∙ ap (λ k. Some k) same)

  abbrev Placed : ℕ → ℕ → Type 0
  Placed i p = (z : ℕ) × (slice_get xs i ≡ Some z) × (first_place xs z ≡ Some p)

  placed : (i p : ℕ) → slice_get places i ≡ Some p → Placed i p
  placed i p at = place-stands i p (slice_get xs i) refl (sym (slice_get-map (place_in xs) xs i) ∙ at)

  place-place : (x : ℕ) (o : Option ℕ) → first_place xs x ≡ o → place_in places (unwrap_or o unknown) ≡ unwrap_or o unknown
  place-place x None was =
      let nowhere : (i : ℕ) → slice_get places i ≡ Some unknown → ⊥ = λ i at. (let r : Placed i unknown = placed i unknown at in let less : unknown < length xs = slice_get_within xs unknown r.0 (stands xs r.0 unknown r.2) in absurd (omega (arith, less, few))) in
      ap (λ (o : Option ℕ). unwrap_or o unknown) (missing places unknown nowhere)
  place-place x (Some n) was =
      let here : slice_get xs n ≡ Some x = stands xs x n was in
      let at : slice_get places n ≡ Some n = slice_get-map (place_in xs) xs n ∙ ap (option_map (place_in xs)) here ∙ ap (λ (o : Option ℕ). Some (unwrap_or o unknown)) was in
      let none : (i : ℕ) → i < n → slice_get places i ≡ Some n → ⊥ = λ i less there. (let r : Placed i n = placed i n there in let same : Some r.0 ≡ Some x = sym (stands xs r.0 n r.2) ∙ here in first xs x n i was less (r.1 ∙ same)) in
      ap (λ (o : Option ℕ). unwrap_or o unknown) (first-is places n n at none)

  pub twice : (x : ℕ) → place_in places (place_in xs x) ≡ place_in xs x
  twice x = place-place x (first_place xs x) refl
