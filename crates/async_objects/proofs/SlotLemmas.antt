-- Slots by rising number: what a number reads, and what stays, after a slot is changed or added, and after a sweep.
use Rattle.std.proofs.Common.{◌≡◌, ℕ, zero, suc, ◌+◌, ◌<◌, ◌≤◌, ◌==◌, nat_lt, Bool, true, false, cond, List, [], ◌∷◌, ◌++◌, length, Some, slice_get, slice_set, refl, sym, ap, subst, ◌∙◌, arith, add-one, ⊎_elim}
use Rattle.std.proofs.Common.{get_or}
use Rattle.std.proofs.lemmas.Option.{slice_get-get_or}
use Rattle.std.proofs.lemmas.Bool.Decides.{eqb_tells, leb_tells}
use Rattle.std.proofs.lemmas.Bool.{ltb-false, lt-ltb}
use Rattle.std.specs.List.{filter}
use Rattle.async_objects.specs.declared.slots.Slot.{Slot}
use Rattle.async_objects.specs.Objects.{one_if}
use Rattle.async_objects.specs.Counts.{live}
use Rattle.async_objects.specs.Slots.{held, count_in, listed, place_in, AreRising, AreEmpty, live_in}
use Rattle.async_objects.proofs.ListLemmas.{by_eq, some_is, listed_get, listed_set}

-- a slot that has a count
abbrev pub has_count : Slot → Bool
has_count s = nat_lt 0 s.count

no_count : (s : Slot) → has_count s ≡ false → s.count ≡ 0
no_count s e = omega (arith, ltb-false 0 s.count e)

pub one_for : (n : ℕ) → 0 < n → one_if (nat_lt 0 n) ≡ 1
one_for n h = ap one_if (lt-ltb 0 n h)

-- ---- the slot at the place of a number

pub place_there : (slots : List Slot) (n : ℕ) → 0 < count_in slots n → place_in slots n < length slots
place_there [] n h = absurd (omega (arith, h))
place_there (s ∷ slots) n h = by_eq s.number n (λ b. 0 < cond b s.count (count_in slots n) → cond b 0 (place_in slots n + 1) < length (s ∷ slots))
    (λ e h. omega arith) (λ d h. let more : place_in slots n < length slots = place_there slots n h in omega (arith, more)) h

pub place_number : (slots : List Slot) (n : ℕ) (t : Slot) → slice_get slots (place_in slots n) ≡ Some t → t.number ≡ n
place_number [] n t e = cc
place_number (s ∷ slots) n t e = by_eq s.number n (λ b. slice_get (s ∷ slots) (cond b 0 (place_in slots n + 1)) ≡ Some t → t.number ≡ n)
    (λ same e. ap (λ u. u.number) (sym (some_is s t e)) ∙ same) (λ d e. place_number slots n t (subst (λ k. slice_get (s ∷ slots) k ≡ Some t) (add-one (place_in slots n)) e)) e

module _ {X : Type 0} (f : Slot → X) (other : X) where
  pub place_held : (slots : List Slot) (n : ℕ) (t : Slot) → slice_get slots (place_in slots n) ≡ Some t → held f other slots n ≡ f t
  place_held [] n t e = cc
  place_held (s ∷ slots) n t e = by_eq s.number n (λ b. slice_get (s ∷ slots) (cond b 0 (place_in slots n + 1)) ≡ Some t → cond b (f s) (held f other slots n) ≡ f t)
      (λ same e. ap f (some_is s t e)) (λ d e. place_held slots n t (subst (λ k. slice_get (s ∷ slots) k ≡ Some t) (add-one (place_in slots n)) e)) e

  -- another slot with this number
  pub held_set : (slots : List Slot) (n : ℕ) (t : Slot) → t.number ≡ n → place_in slots n < length slots → (m : ℕ) →
      held f other (slice_set slots (place_in slots n) t) m ≡ cond (n == m) (f t) (held f other slots m)
  held_set [] n t is h m = absurd (omega (arith, h))
  held_set (s ∷ slots) n t is h m = by_eq s.number n (λ b. cond b 0 (place_in slots n + 1) < length (s ∷ slots) → held f other (slice_set (s ∷ slots) (cond b 0 (place_in slots n + 1)) t) m ≡ cond (n == m) (f t) (cond (s.number == m) (f s) (held f other slots m)))
      (λ same h. ap (λ k. cond (k == m) (f t) (held f other slots m)) is ∙ (twice (n == m) ∙ ap (λ k. cond (n == m) (f t) (cond (k == m) (f s) (held f other slots m))) (sym same)))
      (λ d h. subst (λ k. held f other (slice_set (s ∷ slots) k t) m ≡ cond (n == m) (f t) (cond (s.number == m) (f s) (held f other slots m))) (sym (add-one (place_in slots n)))
      (ap (λ x. cond (s.number == m) (f s) x) (held_set slots n t is (omega (arith, h)) m) ∙ swapped d)) h
    where
      twice : (b : Bool) → cond b (f t) (held f other slots m) ≡ cond b (f t) (cond b (f s) (held f other slots m))
      twice true = refl
      twice false = refl

      swapped : (s.number ≡ n → ⊥) → cond (s.number == m) (f s) (cond (n == m) (f t) (held f other slots m)) ≡ cond (n == m) (f t) (cond (s.number == m) (f s) (held f other slots m))
      swapped d = by_eq n m (λ b. cond (s.number == m) (f s) (cond b (f t) (held f other slots m)) ≡ cond b (f t) (cond (s.number == m) (f s) (held f other slots m)))
          (λ e. by_eq s.number m (λ b. cond b (f s) (f t) ≡ f t) (λ e'. absurd (d (e' ∙ sym e))) (λ _. refl)) (λ _. refl)

  -- a slot more
  pub held_before : (slots : List Slot) (s : Slot) (m : ℕ) → (s.number ≡ m → ⊥) → held f other (slots ++ s ∷ []) m ≡ held f other slots m
  held_before [] s m d = by_eq s.number m (λ b. cond b (f s) other ≡ other) (λ e. absurd (d e)) (λ _. refl)
  held_before (t ∷ slots) s m d = ap (λ x. cond (t.number == m) (f t) x) (held_before slots s m d)

  -- ---- nothing below the first number, nor at a number past the last

  pub held_past : (first last : ℕ) (slots : List Slot) (m : ℕ) → AreRising first last slots → m < first → held f other slots m ≡ other
  held_past first last [] m rising h = refl
  held_past first last (s ∷ slots) m rising h = by_eq s.number m (λ b. cond b (f s) (held f other slots m) ≡ other)
      (λ e. absurd (omega (arith, rising.0, h, e))) (λ _. held_past (s.number + 1) last slots m rising.1 (omega (arith, rising.0, h)))

  -- ---- a sweep

  pub held_swept : (first last : ℕ) (slots : List Slot) (m : ℕ) → AreRising first last slots → AreEmpty f other slots → held f other (filter has_count slots) m ≡ held f other slots m
  held_swept first last [] m rising empty = refl
  held_swept first last (s ∷ slots) m rising empty = split (has_count s) (λ e. no_count s e) (held_swept (s.number + 1) last slots m rising.1 empty.1) where
    split : (b : Bool) → (b ≡ false → s.count ≡ 0) → held f other (filter has_count slots) m ≡ held f other slots m → held f other (cond b (s ∷ filter has_count slots) (filter has_count slots)) m ≡ cond (s.number == m) (f s) (held f other slots m)
    split true z more = ap (λ x. cond (s.number == m) (f s) x) more
    split false z more = more ∙ by_eq s.number m (λ b. held f other slots m ≡ cond b (f s) (held f other slots m))
        (λ e. held_past (s.number + 1) last slots m rising.1 (omega (arith, e)) ∙ sym (empty.0 (z refl))) (λ _. refl)

  -- ---- empty slots

  pub empty_set : (slots : List Slot) (p : ℕ) (t : Slot) → (t.count ≡ 0 → f t ≡ other) → AreEmpty f other slots → AreEmpty f other (slice_set slots p t)
  empty_set [] zero t h empty = tt
  empty_set [] (suc p) t h empty = tt
  empty_set (s ∷ slots) zero t h empty = (h, empty.1)
  empty_set (s ∷ slots) (suc p) t h empty = (empty.0, empty_set slots p t h empty.1)

  pub empty_push : (slots : List Slot) (t : Slot) → (t.count ≡ 0 → f t ≡ other) → AreEmpty f other slots → AreEmpty f other (slots ++ t ∷ [])
  empty_push [] t h empty = (h, tt)
  empty_push (s ∷ slots) t h empty = (empty.0, empty_push slots t h empty.1)

  pub empty_swept : (slots : List Slot) → AreEmpty f other slots → AreEmpty f other (filter has_count slots)
  empty_swept [] empty = tt
  empty_swept (s ∷ slots) empty = split (has_count s) (empty_swept slots empty.1) where
    split : (b : Bool) → AreEmpty f other (filter has_count slots) → AreEmpty f other (cond b (s ∷ filter has_count slots) (filter has_count slots))
    split true more = (empty.0, more)
    split false more = more

pub counts_empty : (slots : List Slot) → AreEmpty (λ s. s.count) 0 slots
counts_empty [] = tt
counts_empty (s ∷ slots) = (λ e. e, counts_empty slots)

-- ---- rising numbers

pub rising_bound : (first last : ℕ) (slots : List Slot) → AreRising first last slots → first ≤ last
rising_bound first last [] rising = rising
rising_bound first last (s ∷ slots) rising = let more : s.number + 1 ≤ last = rising_bound (s.number + 1) last slots rising.1 in omega (arith, more, rising.0)

pub rising_from : (first first' last : ℕ) (slots : List Slot) → first' ≤ first → AreRising first last slots → AreRising first' last slots
rising_from first first' last [] h rising = omega (arith, h, rising)
rising_from first first' last (s ∷ slots) h rising = (omega (arith, h, rising.0), rising.1)

pub rising_to : (first last last' : ℕ) (slots : List Slot) → last ≤ last' → AreRising first last slots → AreRising first last' slots
rising_to first last last' [] h rising = omega (arith, h, rising)
rising_to first last last' (s ∷ slots) h rising = (rising.0, rising_to (s.number + 1) last last' slots h rising.1)

pub rising_set : (first last : ℕ) (slots : List Slot) (p : ℕ) (s t : Slot) → slice_get slots p ≡ Some s → t.number ≡ s.number → AreRising first last slots → AreRising first last (slice_set slots p t)
rising_set first last [] zero s t e same rising = rising
rising_set first last [] (suc p) s t e same rising = rising
rising_set first last (u ∷ slots) zero s t e same rising =
    let is : t.number ≡ u.number = same ∙ ap (λ v. v.number) (sym (some_is u s e)) in
    (omega (arith, is, rising.0), subst (λ k. AreRising (k + 1) last slots) (sym is) rising.1)
rising_set first last (u ∷ slots) (suc p) s t e same rising = (rising.0, rising_set (u.number + 1) last slots p s t e same rising.1)

pub rising_push : (first last : ℕ) (slots : List Slot) (s : Slot) → s.number ≡ last → AreRising first last slots → AreRising first (last + 1) (slots ++ s ∷ [])
rising_push first last [] s is rising = (omega (arith, is, rising), omega (arith, is))
rising_push first last (t ∷ slots) s is rising = (rising.0, rising_push (t.number + 1) last slots s is rising.1)

pub rising_swept : (first last : ℕ) (slots : List Slot) → AreRising first last slots → AreRising first last (filter has_count slots)
rising_swept first last [] rising = rising
rising_swept first last (s ∷ slots) rising = split (has_count s) (rising_swept (s.number + 1) last slots rising.1) where
  split : (b : Bool) → AreRising (s.number + 1) last (filter has_count slots) → AreRising first last (cond b (s ∷ filter has_count slots) (filter has_count slots))
  split true more = (rising.0, more)
  split false more = rising_from (s.number + 1) first last (filter has_count slots) (omega (arith, rising.0)) more

-- the numbers of slots are those of places
pub number_within : (first last : ℕ) (slots : List Slot) (p : ℕ) (s : Slot) → AreRising first last slots → slice_get slots p ≡ Some s → (first ≤ s.number) × (s.number < last)
number_within first last [] zero s rising e = cc
number_within first last [] (suc p) s rising e = cc
number_within first last (t ∷ slots) zero s rising e =
    let is : t.number ≡ s.number = ap (λ u. u.number) (some_is t s e) in
    let more : t.number + 1 ≤ last = rising_bound (t.number + 1) last slots rising.1 in
    (omega (arith, is, rising.0), omega (arith, is, more))
number_within first last (t ∷ slots) (suc p) s rising e =
    let more = number_within (t.number + 1) last slots p s rising.1 e in
    (omega (arith, more.0, rising.0), more.1)

pub number_rises : (first last : ℕ) (slots : List Slot) (i j : ℕ) (s t : Slot) → AreRising first last slots → slice_get slots i ≡ Some s → slice_get slots j ≡ Some t → i < j → s.number < t.number
number_rises first last [] zero j s t rising e g h = cc
number_rises first last [] (suc i) j s t rising e g h = cc
number_rises first last (u ∷ slots) i zero s t rising e g h = absurd (omega (arith, h))
number_rises first last (u ∷ slots) zero (suc j) s t rising e g h =
    let is : u.number ≡ s.number = ap (λ v. v.number) (some_is u s e) in
    let more = number_within (u.number + 1) last slots j t rising.1 g in
    omega (arith, is, more.0)
number_rises first last (u ∷ slots) (suc i) (suc j) s t rising e g h = number_rises (u.number + 1) last slots i j s t rising.1 e g (omega (arith, h))

-- ---- how many are there

pub live_set : (slots : List Slot) (p : ℕ) (s t : Slot) → slice_get slots p ≡ Some s → live_in (slice_set slots p t) + one_if (has_count s) ≡ live_in slots + one_if (has_count t)
live_set [] zero s t e = cc
live_set [] (suc p) s t e = cc
live_set (u ∷ slots) zero s t e = rw (some_is u s e) (omega arith)
live_set (u ∷ slots) (suc p) s t e = let more : live_in (slice_set slots p t) + one_if (has_count s) ≡ live_in slots + one_if (has_count t) = live_set slots p s t e in omega (arith, more)

pub live_push : (slots : List Slot) (s : Slot) → live_in (slots ++ s ∷ []) ≡ live_in slots + one_if (has_count s)
live_push [] s = refl
live_push (t ∷ slots) s = omega (arith, live_push slots s)

pub live_swept : (slots : List Slot) → live_in (filter has_count slots) ≡ live_in slots
live_swept [] = refl
live_swept (s ∷ slots) = split (has_count s) refl (live_swept slots) where
  split : (b : Bool) → has_count s ≡ b → live_in (filter has_count slots) ≡ live_in slots → live_in (cond b (s ∷ filter has_count slots) (filter has_count slots)) ≡ live_in slots + one_if (has_count s)
  split true e more = ap (λ n. n + one_if (has_count s)) more
  split false e more = rw e (omega (arith, more))

pub length_swept : (slots : List Slot) → length (filter has_count slots) ≡ live_in slots
length_swept [] = refl
length_swept (s ∷ slots) = split (has_count s) (length_swept slots) where
  split : (b : Bool) → length (filter has_count slots) ≡ live_in slots → length (cond b (s ∷ filter has_count slots) (filter has_count slots)) ≡ live_in slots + one_if b
  split true more = omega (arith, more)
  split false more = omega (arith, more)

pub live_within : (slots : List Slot) → live_in slots ≤ length slots
live_within [] = omega arith
live_within (s ∷ slots) = let more : live_in slots ≤ length slots = live_within slots in split (has_count s) more where
  split : (b : Bool) → live_in slots ≤ length slots → live_in slots + one_if b ≤ length (s ∷ slots)
  split true more = omega (arith, more)
  split false more = omega (arith, more)

-- ---- how many of the counts by number are at least 1

live_append : (xs ys : List ℕ) → live (xs ++ ys) ≡ live xs + live ys
live_append [] ys = omega arith
live_append (x ∷ xs) ys = omega (arith, live_append xs ys)

pub live_put : (counts : List ℕ) (i n x : ℕ) → slice_get counts i ≡ Some n → live (slice_set counts i x) + one_if (nat_lt 0 n) ≡ live counts + one_if (nat_lt 0 x)
live_put [] zero n x e = cc
live_put [] (suc i) n x e = cc
live_put (c ∷ counts) zero n x e = rw (some_is c n e) (omega arith)
live_put (c ∷ counts) (suc i) n x e = omega (arith, live_put counts i n x e)

live_none : (n : ℕ) → live (listed n (λ i. 0)) ≡ 0
live_none zero = refl
live_none (suc n) = omega (arith, live_append (listed n (λ i. 0)) (0 ∷ []), live_none n)

pub live_listed : (first last : ℕ) (slots : List Slot) → AreRising first last slots → live (listed last (count_in slots)) ≡ live_in slots
live_listed first last [] rising = live_none last
live_listed first last (s ∷ slots) rising =
    let within : s.number + 1 ≤ last = rising_bound (s.number + 1) last slots rising.1 in
    let none : count_in slots s.number ≡ 0 = held_past (λ t. t.count) 0 (s.number + 1) last slots s.number rising.1 (omega arith) in
    let at : slice_get (listed last (count_in slots)) s.number ≡ Some 0 = listed_get last (count_in slots) s.number (omega (arith, within)) ∙ ap Some none in
    sym (ap live (listed_set last s.number (count_in slots) s.count (omega (arith, within)))) ∙ omega (arith, live_put (listed last (count_in slots)) s.number 0 s.count at, live_listed (s.number + 1) last slots rising.1)

-- ---- the search

place_slot : (slots : List Slot) (n : ℕ) (d : Slot) → place_in slots n < length slots → (t : Slot) × (slice_get slots (place_in slots n) ≡ Some t) × (t.number ≡ n)
place_slot slots n d h =
    let at = slice_get-get_or slots (place_in slots n) d h in
    (get_or slots (place_in slots n) d, at, place_number slots n _ at)

pub search_low : (first last : ℕ) (slots : List Slot) (m n : ℕ) (s : Slot) → AreRising first last slots → place_in slots n < length slots → slice_get slots m ≡ Some s → s.number ≤ n → m ≤ place_in slots n
search_low first last slots m n s rising h e low =
    let t = place_slot slots n s h in
    ⊎_elim (λ y. y.1) (λ z. let up : t.0.number < s.number = number_rises first last slots (place_in slots n) m t.0 s rising t.1 e z.1 in absurd (omega (arith, up, low, t.2))) (leb_tells m (place_in slots n))

pub search_high : (first last : ℕ) (slots : List Slot) (m n : ℕ) (s : Slot) → AreRising first last slots → place_in slots n < length slots → slice_get slots m ≡ Some s → n < s.number → place_in slots n < m
search_high first last slots m n s rising h e high =
    let t = place_slot slots n s h in
    ⊎_elim (λ y. ⊎_elim (λ same. absurd (let is : s.number ≡ t.0.number = ap (λ v. v.number) (some_is s t.0 (sym e ∙ (ap (slice_get slots) same.1 ∙ t.1))) in omega (arith, is, high, t.2)))
    (λ d. let up : s.number < t.0.number = number_rises first last slots m (place_in slots n) s t.0 rising e t.1 (grind (arith, d.1, y.1)) in absurd (omega (arith, up, high, t.2))) (eqb_tells m (place_in slots n)))
    (λ z. z.1) (leb_tells m (place_in slots n))

place_first : (slots : List Slot) (p n : ℕ) (s : Slot) → slice_get slots p ≡ Some s → s.number ≡ n → place_in slots n ≤ p
place_first [] p n s e is = omega arith
place_first (t ∷ slots) zero n s e is = by_eq t.number n (λ b. cond b 0 (place_in slots n + 1) ≤ 0) (λ _. omega arith) (λ d. absurd (d (ap (λ u. u.number) (some_is t s e) ∙ is)))
place_first (t ∷ slots) (suc p) n s e is = by_eq t.number n (λ b. cond b 0 (place_in slots n + 1) ≤ suc p) (λ _. omega arith) (λ _. let more : place_in slots n ≤ p = place_first slots p n s e is in omega (arith, more))

-- the count of a slot that was searched for
module _ (slots : List Slot) (p n : ℕ) (s : Slot) (h : p < length slots) (e : slice_get slots p ≡ Some s) (found : place_in slots n < length slots → p ≡ place_in slots n) where
  pub search_count : s.number ≡ n → s.count ≡ count_in slots n
  search_count same =
      let first : place_in slots n ≤ p = place_first slots p n s e same in
      sym (place_held (λ t. t.count) 0 slots n s (ap (slice_get slots) (sym (found (omega (arith, first, h)))) ∙ e))

  pub search_none : (s.number ≡ n → ⊥) → 0 ≡ count_in slots n
  search_none d = ⊎_elim (λ t. absurd (d (place_number slots n s (ap (slice_get slots) (sym (found (place_there slots n (omega (arith, t.1))))) ∙ e)))) (λ f. omega (arith, f.1)) (leb_tells 1 (count_in slots n))

-- past the last number nothing is held
pub held_after : {X : Type 0} (f : Slot → X) (other : X) (first last : ℕ) (slots : List Slot) (m : ℕ) → AreRising first last slots → last ≤ m → held f other slots m ≡ other
held_after f other first last [] m rising h = refl
held_after f other first last (s ∷ slots) m rising h = by_eq s.number m (λ b. cond b (f s) (held f other slots m) ≡ other)
    (λ e. let bound : s.number + 1 ≤ last = rising_bound (s.number + 1) last slots rising.1 in absurd (omega (arith, e, bound, h))) (λ _. held_after f other (s.number + 1) last slots m rising.1 h)
