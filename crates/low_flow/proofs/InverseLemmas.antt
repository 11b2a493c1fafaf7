-- The inverse of lists, list by list.
use Rattle.std.proofs.Common.{◌≡◌, inl, inr, ℕ, zero, suc, ◌+◌, ◌<◌, ◌≤◌, ◌==◌, ◌||◌, ◌&&◌, if◌then◌else◌, Bool, true, false, Some, ◌-◌, List, [], ◌∷◌, ◌++◌, length, replicate, drop, get_or, refl, sym, ap, ◌∙◌, arith, subst}
use Rattle.std.proofs.lemmas.List.{length-replicate}
use Rattle.std.specs.Prelude.{slice_get, slice_set, nat_lt}
use Rattle.std.proofs.lemmas.Bool.Decides.{eqb_tells, nat_tests}
use Rattle.std.proofs.Math.ListN.{length-set}
use Rattle.low_flow.specs.Lists.{has, list_at, IsInverse, is_last, with_last, with_place, with_places, with_lists}
use Rattle.low_flow.proofs.Membership.{or_assoc, or_left, or_right, has_append, at_read, at_replicate, at_set, at_set_other}

or_false : (b : Bool) → (b || false) ≡ b
or_false true = refl
or_false false = refl

and_false : (b : Bool) → (b && false) ≡ false
and_false true = refl
and_false false = refl

length_place : (p x : ℕ) (inverse : List (List ℕ)) → length (with_place p x inverse) ≡ length inverse
length_place p x inverse = step (nat_lt x (length inverse))
  where
    step : (b : Bool) → length (if b then slice_set inverse x (with_last p (list_at inverse x)) else inverse) ≡ length inverse
    step true = length-set inverse x (with_last p (list_at inverse x))
    step false = refl

pub length_places : (p : ℕ) (xs : List ℕ) (inverse : List (List ℕ)) → length (with_places p xs inverse) ≡ length inverse
length_places p [] inverse = refl
length_places p (x ∷ xs) inverse = length_places p xs (with_place p x inverse) ∙ length_place p x inverse

has_one : (q p : ℕ) → has q (p ∷ []) ≡ (q == p)
has_one q p = or_false (q == p)

is_there : (p : ℕ) (xs : List ℕ) → is_last p xs ≡ true → has p xs ≡ true
is_there p [] is = cc
is_there p (x ∷ []) is = or_left (p == x) false (grind (arith, nat_tests))
is_there p (x ∷ y ∷ xs) is = or_right (p == x) (has p (y ∷ xs)) (is_there p (y ∷ xs) is)

last_has : (q p : ℕ) (xs : List ℕ) → has q (with_last p xs) ≡ (has q xs || (q == p))
last_has q p xs = step (is_last p xs) refl
  where
    covers : (b : Bool) → b ≡ true → b ≡ (b || true)
    covers true is = refl
    covers false is = cc

    step : (b : Bool) → is_last p xs ≡ b → has q (if b then xs else xs ++ p ∷ []) ≡ (has q xs || (q == p))
    step false is = has_append q xs (p ∷ []) ∙ ap (λ b. has q xs || b) (has_one q p)
    step true is = elim (eqb_tells q p) [
      | inl same ↦
          let there : has q xs ≡ true = subst (λ k. has k xs ≡ true) (sym same.1) (is_there p xs is) in
          covers (has q xs) there ∙ sym (ap (λ b. has q xs || b) same.0)
      | inr other ↦ sym (ap (λ b. has q xs || b) other.0 ∙ or_false (has q xs))
    ]

place_same : (p x q : ℕ) (inverse : List (List ℕ)) → x < length inverse → has q (list_at (with_place p x inverse) x) ≡ (has q (list_at inverse x) || (q == p))
place_same p x q inverse inside = step (nat_lt x (length inverse)) (grind (arith, nat_tests))
  where
    step : (b : Bool) → b ≡ true → has q (list_at (if b then slice_set inverse x (with_last p (list_at inverse x)) else inverse) x) ≡ (has q (list_at inverse x) || (q == p))
    step true is =
        ap (λ xs. has q xs) (at_set inverse x (with_last p (list_at inverse x)) inside)
        ∙ last_has q p (list_at inverse x)
    step false is = cc

place_other : (p x y : ℕ) (inverse : List (List ℕ)) → (x ≡ y → ⊥) → list_at (with_place p x inverse) y ≡ list_at inverse y
place_other p x y inverse other = step (nat_lt x (length inverse))
  where
    step : (b : Bool) → list_at (if b then slice_set inverse x (with_last p (list_at inverse x)) else inverse) y ≡ list_at inverse y
    step true = at_set_other inverse x y (with_last p (list_at inverse x)) other
    step false = refl

place_has : (p x y q : ℕ) (inverse : List (List ℕ)) → y < length inverse → has q (list_at (with_place p x inverse) y) ≡ (has q (list_at inverse y) || ((q == p) && (y == x)))
place_has p x y q inverse inside = elim (eqb_tells y x) [
  | inl same ↦
      subst (λ z. has q (list_at (with_place p z inverse) y) ≡ (has q (list_at inverse y) || ((q == p) && (y == x)))) same.1
      (place_same p y q inverse inside ∙ ap (λ b. has q (list_at inverse y) || b) (sym (ap (λ b. (q == p) && b) same.0 ∙ and_true (q == p))))
  | inr other ↦
      ap (λ xs. has q xs) (place_other p x y inverse (λ e. other.1 (sym e)))
      ∙ sym (ap (λ b. has q (list_at inverse y) || ((q == p) && b)) other.0 ∙ ap (λ b. has q (list_at inverse y) || b) (and_false (q == p)) ∙ or_false (has q (list_at inverse y)))
]
  where
    and_true : (b : Bool) → (b && true) ≡ b
    and_true true = refl
    and_true false = refl

and_or : (a b c : Bool) → ((a && b) || (a && c)) ≡ (a && (b || c))
and_or true b c = refl
and_or false b c = refl

places_have : (p y q : ℕ) (xs : List ℕ) (inverse : List (List ℕ)) → y < length inverse → has q (list_at (with_places p xs inverse) y) ≡ (has q (list_at inverse y) || ((q == p) && has y xs))
places_have p y q [] inverse inside = sym (ap (λ b. has q (list_at inverse y) || b) (and_false (q == p)) ∙ or_false (has q (list_at inverse y)))
places_have p y q (x ∷ xs) inverse inside =
    places_have p y q xs (with_place p x inverse) (omega (arith, length_place p x inverse))
    ∙ ap (λ b. b || ((q == p) && has y xs)) (place_has p x y q inverse inside)
    ∙ or_assoc (has q (list_at inverse y)) ((q == p) && (y == x)) ((q == p) && has y xs)
    ∙ ap (λ b. has q (list_at inverse y) || b) (and_or (q == p) (y == x) (has y xs))

-- the q-th of these lists, whose first one is the p-th, holds y
abbrev held : ℕ → ℕ → ℕ → List (List ℕ) → Bool
held p q y [] = false
held p q y (xs ∷ lists) = ((q == p) && has y xs) || held (p + 1) q y lists

lists_have : (p y q : ℕ) (lists : List (List ℕ)) (inverse : List (List ℕ)) → y < length inverse → has q (list_at (with_lists p lists inverse) y) ≡ (has q (list_at inverse y) || held p q y lists)
lists_have p y q [] inverse inside = sym (or_false (has q (list_at inverse y)))
lists_have p y q (xs ∷ lists) inverse inside =
    lists_have (p + 1) y q lists (with_places p xs inverse) (omega (arith, length_places p xs inverse))
    ∙ ap (λ b. b || held (p + 1) q y lists) (places_have p y q xs inverse inside)
    ∙ or_assoc (has q (list_at inverse y)) ((q == p) && has y xs) (held (p + 1) q y lists)

length_lists : (p : ℕ) (lists : List (List ℕ)) (inverse : List (List ℕ)) → length (with_lists p lists inverse) ≡ length inverse
length_lists p [] inverse = refl
length_lists p (xs ∷ lists) inverse = length_lists (p + 1) lists (with_places p xs inverse) ∙ length_places p xs inverse

-- those before the first one hold nothing
held_before : (p q y : ℕ) (lists : List (List ℕ)) → q < p → held p q y lists ≡ false
held_before p q y [] before = refl
held_before p q y (xs ∷ lists) before = elim (eqb_tells q p) [
  | inl same ↦ absurd (omega (arith, same.1))
  | inr other ↦ ap (λ b. (b && has y xs) || held (p + 1) q y lists) other.0 ∙ held_before (p + 1) q y lists (omega arith)
]

held_at : (p k y : ℕ) (lists : List (List ℕ)) → held p (p + k) y lists ≡ has y (list_at lists k)
held_at p k y [] = refl
held_at p zero y (xs ∷ lists) = elim (eqb_tells (p + 0) p) [
  | inl same ↦
      ap (λ b. (b && has y xs) || held (p + 1) (p + 0) y lists) same.0
      ∙ ap (λ b. has y xs || b) (held_before (p + 1) (p + 0) y lists (omega arith)) ∙ or_false (has y xs)
  | inr other ↦ absurd (other.1 (omega arith))
]
held_at p (suc k) y (xs ∷ lists) = elim (eqb_tells (p + suc k) p) [
  | inl same ↦ absurd (omega (arith, same.1))
  | inr other ↦
      ap (λ b. (b && has y xs) || held (p + 1) (p + suc k) y lists) other.0
      ∙ (let e : p + suc k ≡ (p + 1) + k = omega arith in subst (λ n. held (p + 1) n y lists ≡ has y (list_at lists k)) (sym e) (held_at (p + 1) k y lists))
]

pub is_inverse : (lists : List (List ℕ)) (len : ℕ) → IsInverse lists len (with_lists 0 lists (replicate len []))
is_inverse lists len =
    let empty : List (List ℕ) = replicate len [] in
    let long : length empty ≡ len = length-replicate len [] in
    record {
      each = length_lists 0 lists empty ∙ long;
      holds = λ x p inside.
          lists_have 0 x p lists empty (omega (arith, long))
          ∙ ap (λ xs. has p xs || held 0 p x lists) (at_replicate len x)
          ∙ (let e : 0 + p ≡ p = omega arith in subst (λ n. held 0 n x lists ≡ has x (list_at lists p)) e (held_at 0 p x lists));
    }

pub placed : (p x : ℕ) (inverse : List (List ℕ)) (old new : List ℕ) → x < length inverse → old ≡ get_or inverse x old → new ≡ with_last p old → slice_set inverse x new ≡ with_place p x inverse
placed p x inverse old new inside read pushed = step (nat_lt x (length inverse)) (grind (arith, nat_tests))
  where
    here : new ≡ with_last p (list_at inverse x)
    here = pushed ∙ ap (λ xs. with_last p xs) (at_read inverse x old inside read)

    step : (b : Bool) → b ≡ true → slice_set inverse x new ≡ (if b then slice_set inverse x (with_last p (list_at inverse x)) else inverse)
    step true is = ap (λ xs. slice_set inverse x xs) here
    step false is = cc

drop_end : {X : Type 0} → (n : ℕ) (xs : List X) → length xs ≤ n → drop n xs ≡ []
drop_end zero [] past = refl
drop_end zero (x ∷ xs) past = absurd (omega arith)
drop_end (suc n) [] past = refl
drop_end (suc n) (x ∷ xs) past = drop_end n xs (omega arith)

pub lists_end : (lists : List (List ℕ)) (n len : ℕ) (inverse : List (List ℕ)) → length lists ≤ n → with_lists n (drop n lists) inverse ≡ with_lists 0 lists (replicate len []) → IsInverse lists len inverse
lists_end lists n len inverse past is =
    let e : inverse ≡ with_lists 0 lists (replicate len []) = sym (ap (λ rest. with_lists n rest inverse) (drop_end n lists past)) ∙ is in
    subst (λ v. IsInverse lists len v) (sym e) (is_inverse lists len)

pub last_none : (xs : List ℕ) (p : ℕ) → xs ≡ [] → is_last p xs ≡ false
last_none [] p none = refl
last_none (x ∷ xs) p none = cc

last_at : (xs : List ℕ) (k x p : ℕ) → suc k ≡ length xs → slice_get xs k ≡ Some x → (x == p) ≡ is_last p xs
last_at [] k x p long is = cc
last_at (y ∷ []) zero x p long is = (let same : x ≡ y = cc in ap (λ n. n == p) same)
last_at (y ∷ []) (suc k) x p long is = absurd (omega (arith, long))
last_at (y ∷ z ∷ ys) zero x p long is = absurd (omega (arith, long))
last_at (y ∷ z ∷ ys) (suc k) x p long is = last_at (z ∷ ys) k x p (omega (arith, long)) is

pub last_some : (xs : List ℕ) (x p : ℕ) → slice_get xs (length xs - 1) ≡ Some x → (x == p) ≡ is_last p xs
last_some [] x p is = cc
last_some (y ∷ ys) x p is = last_at (y ∷ ys) (length (y ∷ ys) - 1) x p (omega arith) is
