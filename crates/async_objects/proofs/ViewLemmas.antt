-- What is seen of slots, after a slot is changed or added.
use Rattle.std.proofs.Common.{◌≡◌, ℕ, zero, suc, ◌+◌, ◌<◌, ◌≤◌, ◌==◌, cond, Bool, true, false, List, [], ◌∷◌, ◌++◌, length, Some, slice_get, slice_set, get_or, refl, sym, ap, subst, ◌∙◌, arith, inl, inr, ⊎_elim}
use Rattle.std.proofs.lemmas.Bool.Decides.{leb_tells}
use Rattle.std.proofs.lemmas.Option.{slice_get_read}
use Rattle.async_objects.specs.declared.slots.Slot.{Slot}
use Rattle.async_objects.specs.declared.object.Object.{Object}
use Rattle.async_objects.specs.Objects.{blank, object_or, one_if}
use Rattle.std.specs.List.{filter}
use Rattle.async_objects.specs.Counts.{count_at, put_count, live}
use Rattle.async_objects.specs.Slots.{Kept, held, object_in, count_in, listed, place_in, AreRising, AreBlank, IsSwept, live_in}
use Rattle.async_objects.proofs.ListLemmas.{by_eq, set_none, listed_length, listed_get, listed_same, listed_set, listed_more}
use Rattle.async_objects.proofs.SlotLemmas.{place_there, place_number, place_held, held_set, held_before, rising_bound, rising_swept, empty_swept, live_swept, held_swept, held_after, counts_empty, has_count, live_listed}

-- ---- counts as a list

pub count_get : (counts : List ℕ) (o n : ℕ) → slice_get counts o ≡ Some n → count_at counts o ≡ n
count_get [] zero n e = cc
count_get [] (suc o) n e = cc
count_get (c ∷ counts) zero n e = let is : Some c ≡ Some n = e in cc
count_get (c ∷ counts) (suc o) n e = count_get counts o n e

pub count_past : (counts : List ℕ) (o : ℕ) → length counts ≤ o → count_at counts o ≡ 0
count_past [] o h = refl
count_past (c ∷ counts) zero h = absurd (omega (arith, h))
count_past (c ∷ counts) (suc o) h = count_past counts o (omega (arith, h))

pub put_is_set : (counts : List ℕ) (o n : ℕ) → o < length counts → put_count counts o n ≡ slice_set counts o n
put_is_set [] o n h = absurd (omega (arith, h))
put_is_set (c ∷ counts) zero n h = refl
put_is_set (c ∷ counts) (suc o) n h = ap (λ x. c ∷ x) (put_is_set counts o n (omega (arith, h)))

pub set_same : {X : Type 0} (xs : List X) (i : ℕ) (x : X) → slice_get xs i ≡ Some x → slice_set xs i x ≡ xs
set_same [] i x e = set_none i x
set_same (y ∷ xs) zero x e = ap (λ z. z ∷ xs) (let is : Some y ≡ Some x = e in let same : x ≡ y = cc in same)
set_same (y ∷ xs) (suc i) x e = ap (λ z. y ∷ z) (set_same xs i x e)

-- ---- the view

abbrev pub seen : List Slot → ℕ → ℕ → Kept
seen slots made room = record { objects = listed made (object_in slots); counts = listed made (count_in slots); room = room }

-- the slot at the place of a number
pub slot_at : (slots : List Slot) (p : ℕ) (x : Slot) → p < length slots → x ≡ get_or slots p x → slice_get slots p ≡ Some x
slot_at slots p x h e = slice_get_read slots (length slots) p x refl h e

module _ (slots : List Slot) (made room : ℕ) (k : Kept) (v : seen slots made room ≡ k) (o : ℕ) where
  pub within : 0 < count_at k.counts o → o < made
  within h = ⊎_elim (λ f. let none : count_at k.counts o ≡ 0 = ap (λ j. count_at j.counts o) (sym v) ∙ count_past (listed made (count_in slots)) o (rw (listed_length made (count_in slots)) f.1) in absurd (omega (arith, none, h))) (λ t. t.1) (leb_tells made o)

  pub there : 0 < count_at k.counts o → 0 < count_in slots o
  there h =
      let is : count_at k.counts o ≡ count_in slots o = ap (λ j. count_at j.counts o) (sym v) ∙ count_get (listed made (count_in slots)) o _ (listed_get made (count_in slots) o (within h)) in
      omega (arith, is, h)

  module _ (p : ℕ) (e : p ≡ place_in slots o) (s : Slot) (at : slice_get slots p ≡ Some s) (h : 0 < count_at k.counts o) where
    at_place : slice_get slots (place_in slots o) ≡ Some s
    at_place = ap (slice_get slots) (sym e) ∙ at

    pub same_number : s.number ≡ o
    same_number = place_number slots o s at_place

    pub count_reads : s.count ≡ count_at k.counts o
    count_reads = sym (place_held (λ t. t.count) 0 slots o s at_place) ∙ (sym (count_get (listed made (count_in slots)) o _ (listed_get made (count_in slots) o (within h))) ∙ ap (λ j. count_at j.counts o) v)

    pub has_some : 0 < s.count
    has_some = let is : s.count ≡ count_at k.counts o = count_reads in omega (arith, is, h)

    pub object_reads : s.object ≡ object_or (slice_get k.objects o)
    object_reads = sym (place_held (λ t. t.object) blank slots o s at_place) ∙ (ap object_or (sym (listed_get made (object_in slots) o (within h))) ∙ ap (λ j. object_or (slice_get j.objects o)) v)

    listed_put : {X : Type 0} (f : Slot → X) (other : X) (t : Slot) → t.number ≡ s.number → listed made (held f other (slice_set slots p t)) ≡ slice_set (listed made (held f other slots)) o (f t)
    listed_put f other t is =
        listed_same made (held f other (slice_set slots p t)) (λ j. cond (o == j) (f t) (held f other slots j))
        (λ j l. ap (λ q. held f other (slice_set slots q t) j) e ∙ held_set f other slots o t (is ∙ same_number) (place_there slots o (there h)) j)
        ∙ sym (listed_set made o (held f other slots) (f t) (within h))

    pub put_both : (n : ℕ) (x : Object) → seen (slice_set slots p (record { number = s.number; count = n; object = x })) made room ≡ record { objects = slice_set k.objects o x; counts = put_count k.counts o n; room = k.room }
    put_both n x =
        (λ i. record {
          objects = (listed_put (λ t. t.object) blank (record { number = s.number; count = n; object = x }) refl ∙ ap (λ j. slice_set j.objects o x) v) i;
          counts = (listed_put (λ t. t.count) 0 (record { number = s.number; count = n; object = x }) refl ∙ (sym (put_is_set (listed made (count_in slots)) o n (rw (listed_length made (count_in slots)) (within h))) ∙ ap (λ j. put_count j.counts o n) v)) i;
          room = (v i).room;
        })

    same_count : put_count k.counts o s.count ≡ k.counts
    same_count =
        subst (λ j. put_count j.counts o s.count ≡ j.counts) v (put_is_set (listed made (count_in slots)) o s.count (rw (listed_length made (count_in slots)) (within h))
        ∙ set_same (listed made (count_in slots)) o s.count (listed_get made (count_in slots) o (within h) ∙ ap Some (place_held (λ t. t.count) 0 slots o s at_place)))

    same_object : slice_set k.objects o s.object ≡ k.objects
    same_object =
        subst (λ j. slice_set j.objects o s.object ≡ j.objects) v (set_same (listed made (object_in slots)) o s.object (listed_get made (object_in slots) o (within h) ∙ ap Some (place_held (λ t. t.object) blank slots o s at_place)))

    pub put_object : (x : Object) → seen (slice_set slots p (record { number = s.number; count = s.count; object = x })) made room ≡ record { objects = slice_set k.objects o x; counts = k.counts; room = k.room }
    put_object x = put_both s.count x ∙ ap (λ counts. record { objects = slice_set k.objects o x; counts = counts; room = k.room }) same_count

    pub put_number : (n : ℕ) → seen (slice_set slots p (record { number = s.number; count = n; object = s.object })) made room ≡ record { objects = k.objects; counts = put_count k.counts o n; room = k.room }
    put_number n = put_both n s.object ∙ ap (λ objects. record { objects = objects; counts = put_count k.counts o n; room = k.room }) same_object

-- the count of any number
pub count_seen : (slots : List Slot) (made room : ℕ) (k : Kept) → seen slots made room ≡ k → AreRising 0 made slots → (o : ℕ) → count_in slots o ≡ count_at k.counts o
count_seen slots made room k v rising o =
    subst (λ j. count_in slots o ≡ count_at j.counts o) v (⊎_elim
    (λ f. held_after (λ t. t.count) 0 0 made slots o rising f.1 ∙ sym (count_past (listed made (count_in slots)) o (rw (listed_length made (count_in slots)) f.1)))
    (λ t. sym (count_get (listed made (count_in slots)) o _ (listed_get made (count_in slots) o t.1))) (leb_tells made o))

-- ---- a slot more

held_end : {X : Type 0} (f : Slot → X) (other : X) (first m : ℕ) (slots : List Slot) (s : Slot) → AreRising first m slots → s.number ≡ m → held f other (slots ++ s ∷ []) m ≡ f s
held_end f other first m [] s rising is = by_eq s.number m (λ b. cond b (f s) other ≡ f s) (λ _. refl) (λ d. absurd (d is))
held_end f other first m (t ∷ slots) s rising is =
    let bound : t.number + 1 ≤ m = rising_bound (t.number + 1) m slots rising.1 in
    by_eq t.number m (λ b. cond b (f t) (held f other (slots ++ s ∷ []) m) ≡ f s) (λ e. absurd (omega (arith, e, bound))) (λ d. held_end f other (t.number + 1) m slots s rising.1 is)

pub seen_more : (slots : List Slot) (made room : ℕ) (k : Kept) → seen slots made room ≡ k → AreRising 0 made slots → (n : ℕ) (x : Object) →
    seen (slots ++ (record { number = made; count = n; object = x }) ∷ []) (made + 1) room ≡ record { objects = k.objects ++ x ∷ []; counts = k.counts ++ n ∷ []; room = k.room }
seen_more slots made room k v rising n x =
    let s : Slot = record { number = made; count = n; object = x } in
    (λ i. record {
      objects = (listed_more made (object_in (slots ++ s ∷ [])) (object_in slots) x (λ j l. held_before (λ t. t.object) blank slots s j (λ e. absurd (omega (arith, e, l)))) (held_end (λ t. t.object) blank 0 made slots s rising refl) ∙ ap (λ j. j.objects ++ x ∷ []) v) i;
      counts = (listed_more made (count_in (slots ++ s ∷ [])) (count_in slots) n (λ j l. held_before (λ t. t.count) 0 slots s j (λ e. absurd (omega (arith, e, l)))) (held_end (λ t. t.count) 0 0 made slots s rising refl) ∙ ap (λ j. j.counts ++ n ∷ []) v) i;
      room = (v i).room;
    })

-- ---- a sweep

pub swept_slots : (slots swept : List Slot) (made : ℕ) → IsSwept slots swept → AreRising 0 made slots → AreBlank slots → AreRising 0 made swept × AreBlank swept × (live_in swept ≡ live_in slots)
swept_slots slots swept made (inl e) rising empty = (subst (AreRising 0 made) (sym e) rising, subst AreBlank (sym e) empty, ap live_in e)
swept_slots slots swept made (inr e) rising empty =
    (subst (AreRising 0 made) (sym e) (rising_swept 0 made slots rising), subst AreBlank (sym e) (empty_swept (λ s. s.object) blank slots empty), ap live_in e ∙ live_swept slots)

pub swept_seen : (slots swept : List Slot) (made room : ℕ) → IsSwept slots swept → AreRising 0 made slots → AreBlank slots → seen swept made room ≡ seen slots made room
swept_seen slots swept made room (inl e) rising empty = ap (λ s. seen s made room) e
swept_seen slots swept made room (inr e) rising empty =
    ap (λ s. seen s made room) e ∙ (λ i. record {
      objects = listed_same made (object_in (filter has_count slots)) (object_in slots) (λ j l. held_swept (λ s. s.object) blank 0 made slots j rising empty) i;
      counts = listed_same made (count_in (filter has_count slots)) (count_in slots) (λ j l. held_swept (λ s. s.count) 0 0 made slots j rising (counts_empty slots)) i;
      room = room;
    })

-- there are no more than were made
pub few : (first made : ℕ) (slots : List Slot) → AreRising first made slots → first + live_in slots ≤ made
few first made [] rising = omega (arith, rising)
few first made (s ∷ slots) rising = let more : s.number + 1 + live_in slots ≤ made = few (s.number + 1) made slots rising.1 in split (has_count s) more rising.0 where
  split : (b : Bool) → s.number + 1 + live_in slots ≤ made → first ≤ s.number → first + (live_in slots + one_if b) ≤ made
  split true more h = omega (arith, more, h)
  split false more h = omega (arith, more, h)

pub seen_live : (slots : List Slot) (made room : ℕ) (k : Kept) → seen slots made room ≡ k → AreRising 0 made slots → live k.counts ≡ live_in slots
seen_live slots made room k v rising = ap (λ j. live j.counts) (sym v) ∙ live_listed 0 made slots rising
