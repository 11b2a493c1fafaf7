-- Loops over groups: one more is counted down, or drops a reference.
use Rattle.std.proofs.Common.{◌≡◌, ◌≤◌, ◌<◌, ℕ, zero, suc, ◌+◌, ◌-◌, ◌==◌, nat_lt, cond, Bool, true, false, List, [], ◌∷◌, ◌++◌, length, get_or, drop, Some, slice_get, slice_set, refl, sym, ap, subst, ◌∙◌, arith, append_assoc, length-append, ⊎_elim}
use Rattle.std.proofs.lemmas.Bool.{true≢false}
use Rattle.std.proofs.lemmas.List.{drop_more}
use Rattle.std.proofs.lemmas.Bool.Decides.{eqb_tells, leb_tells}
use Rattle.ir_forms.specs.declared.runs.ObjNo.{ObjNo}
use Rattle.ir_forms.specs.declared.runs.TaskNo.{TaskNo}
use Rattle.async_objects.specs.declared.kinds.Kind.{Kind}
use Rattle.async_objects.specs.declared.kinds.Kind.TheVariants.{Token, Value, Group}
use Rattle.async_objects.specs.declared.object.Object.{Object}
use Rattle.async_objects.specs.Objects.{blank, object_at, put, one_if, is_group, is_unset, is_open, is_done, with_done, Waking, counted_down, all_counted_down}
use Rattle.async_objects.specs.Counts.{count_at, put_count, live, less, all_less, raised, changed, all_changed, freed, without}
use Rattle.async_objects.specs.Reserved.{Reserved, grown}
use Rattle.async_objects.specs.Slots.{Kept}
use Rattle.async_objects.specs.Kept.{with_kept, lowered, all_lowered, CanCount}
use Rattle.async_objects.specs.Sound.{Fits, times, waited, awaiting}
use Rattle.async_objects.proofs.ListLemmas.{by_eq, set_none}
use Rattle.async_objects.proofs.ViewLemmas.{count_past, put_is_set}
use Rattle.async_objects.proofs.SlotLemmas.{one_for, live_put}
use Rattle.async_objects.proofs.SoundLemmas.{fits_done, fits_counts, fits_gone, one_same}

-- ---- lists with reserved places

pub grown_twice : {X : Type 0} (xs ys : List X) (list : Reserved X) → grown ys (grown xs list) ≡ grown (xs ++ ys) list
grown_twice xs ys list = λ i. record {
  items = append_assoc list.items xs ys i;
  room = (let both : length (xs ++ ys) ≡ length xs + length ys = length-append xs ys in let less_twice : list.room - length xs - length ys ≡ list.room - length (xs ++ ys) = omega (arith, both) in less_twice) i;
}

pub length_put : (objects : List Object) (i : ℕ) (x : Object) → length (slice_set objects i x) ≡ length objects
length_put [] i x = ap length (set_none i x)
length_put (y ∷ objects) zero x = refl
length_put (y ∷ objects) (suc i) x = ap suc (length_put objects i x)

-- ---- counts

pub count_same : (counts : List ℕ) (o n : ℕ) → count_at (put_count counts o n) o ≡ n
count_same [] zero n = refl
count_same [] (suc o) n = count_same [] o n
count_same (c ∷ counts) zero n = refl
count_same (c ∷ counts) (suc o) n = count_same counts o n

pub count_other : (counts : List ℕ) (o g n : ℕ) → (g ≡ o → ⊥) → count_at (put_count counts o n) g ≡ count_at counts g
count_other [] zero zero n d = absurd (d refl)
count_other [] zero (suc g) n d = refl
count_other [] (suc o) zero n d = refl
count_other [] (suc o) (suc g) n d = count_other [] o g n (λ e. d (ap suc e))
count_other (c ∷ counts) zero zero n d = absurd (d refl)
count_other (c ∷ counts) zero (suc g) n d = refl
count_other (c ∷ counts) (suc o) zero n d = refl
count_other (c ∷ counts) (suc o) (suc g) n d = count_other counts o g n (λ e. d (ap suc e))

pub length_count : (counts : List ℕ) (o n : ℕ) → o < length counts → length (put_count counts o n) ≡ length counts
length_count [] o n h = absurd (omega (arith, h))
length_count (c ∷ counts) zero n h = refl
length_count (c ∷ counts) (suc o) n h = ap suc (length_count counts o n (omega (arith, h)))

-- ---- how many are there

count_slot : (counts : List ℕ) (i : ℕ) → i < length counts → slice_get counts i ≡ Some (count_at counts i)
count_slot [] i h = absurd (omega (arith, h))
count_slot (c ∷ counts) zero h = refl
count_slot (c ∷ counts) (suc i) h = count_slot counts i (omega (arith, h))

pub one_most : (b : Bool) → one_if b ≤ 1
one_most true = omega arith
one_most false = omega arith

pub live_counted : (counts : List ℕ) (o n : ℕ) → o < length counts → 0 < count_at counts o → live (put_count counts o n) ≤ live counts
live_counted counts o n h some =
    let moved : live (slice_set counts o n) + one_if (nat_lt 0 (count_at counts o)) ≡ live counts + one_if (nat_lt 0 n) = live_put counts o (count_at counts o) n (count_slot counts o h) in
    let one : one_if (nat_lt 0 (count_at counts o)) ≡ 1 = one_for (count_at counts o) some in
    let is : live (put_count counts o n) ≡ live (slice_set counts o n) = ap live (put_is_set counts o n h) in
    omega (arith, moved, one, is, one_most (nat_lt 0 n))

-- what has a reference has a number
pub numbered : (objects : List Object) (counts : List ℕ) (o : ℕ) → length objects ≡ length counts → 0 < count_at counts o → o < length objects
numbered objects counts o same h = ⊎_elim (λ f. let none : count_at counts o ≡ 0 = count_past counts o (omega (arith, f.1, same)) in absurd (omega (arith, none, h))) (λ t. t.1) (leb_tells (length objects) o)

-- ---- groups that are counted down

times_get : (groups : List ObjNo) (i : ℕ) (d : ObjNo) → i < length groups → 0 < times (get_or groups i d).0 groups
times_get [] i d h = absurd (omega (arith, h))
times_get (g ∷ groups) zero d h = omega (arith, one_same g.0)
times_get (g ∷ groups) (suc i) d h = let more : 0 < times (get_or groups i d).0 groups = times_get groups i d (omega (arith, h)) in omega (arith, more)

pub group_size : (k : Kind) → is_group k ≡ true → (size : ℕ) × (k ≡ Group size)
group_size Token h = absurd (true≢false (sym h))
group_size Value h = absurd (true≢false (sym h))
group_size (Group size) h = (size, refl)

-- a group that is still to drop a reference is there
pub owed_there : (d e : List ObjNo) (objects : List Object) (counts : List ℕ) (g : ObjNo) → Fits d e objects counts → 0 < times g.0 e → 0 < count_at counts g.0
owed_there d e objects counts g fits h = let most : waited g.0 objects + times g.0 e ≤ count_at counts g.0 = fits.counted g in omega (arith, most, h)

pub group_there : (d groups : List ObjNo) (objects : List Object) (counts : List ℕ) (i : ℕ) (z : ObjNo) → Fits d groups objects counts → i < length groups → 0 < count_at counts (get_or groups i z).0
group_there d groups objects counts i z fits h = owed_there d groups objects counts (get_or groups i z) fits (times_get groups i z h)

pub group_counts : (g : ObjNo) (d e : List ObjNo) (objects : List Object) (counts : List ℕ) → Fits (g ∷ d) e objects counts → CanCount (object_at objects g)
group_counts g d e objects counts fits =
    let size = group_size (object_at objects g).kind (fits.groups g (omega (arith, one_same g.0))) in
    let all_of : waited g.0 objects + times g.0 (g ∷ d) + (object_at objects g).members.done ≡ (object_at objects g).members.added = fits.elements g size.0 size.1 in
    (omega (arith, all_of, one_same g.0), fits.failed g size.0 size.1)

pub fits_down : (g : ObjNo) (d e : List ObjNo) (objects : List Object) (counts : List ℕ) (failed : Bool) → g.0 < length objects → Fits (g ∷ d) e objects counts → Fits d e (counted_down failed g objects).objects counts
fits_down g d e objects counts failed h fits = split (is_done (with_done failed (object_at objects g))) where
  split : (b : Bool) → Fits d e (put objects g (cond b (record (with_done failed (object_at objects g)) { awaiters = [] }) (with_done failed (object_at objects g)))) counts
  split true = fits_done d e objects counts g failed [] h fits
  split false = fits_done d e objects counts g failed (object_at objects g).awaiters h fits

-- ---- references that are dropped

pub fits_lowered : (e : List ObjNo) (k : Kept) (o : ObjNo) (n : ℕ) → o.0 < length k.objects → n ≤ count_at k.counts o.0 → (is_open (object_at k.objects o) ≡ true → n < count_at k.counts o.0) → waited o.0 k.objects + times o.0 e + n ≤ count_at k.counts o.0 → Fits [] e k.objects k.counts → Fits [] e (lowered o n k).objects (lowered o n k).counts
fits_lowered e k o n h within stays enough fits =
    by_eq (raised (less o n) k.counts - n) 0 (λ b. Fits [] e (without (cond b (o ∷ []) [] ++ []) k.objects) (changed (less o n) k.counts))
    (λ z. let all_of : count_at k.counts o.0 ≡ n = gone z in
    fits_gone [] e k.objects k.counts (changed (less o n) k.counts) o h (closed (is_open (object_at k.objects o)) refl all_of) (omega (arith, all_of, enough)) (λ g d. count_other k.counts o.0 g.0 _ d) fits)
    (λ d. fits_counts [] e e k.objects k.counts (changed (less o n) k.counts) fits
    (λ g. ⊎_elim (λ t. subst (λ j. waited j k.objects + times j e ≤ count_at (changed (less o n) k.counts) j) (sym t.1) (let new : count_at (changed (less o n) k.counts) o.0 ≡ raised (less o n) k.counts - n = count_same k.counts o.0 _ in left new))
    (λ f. let old = fits.counted g in let new : count_at (changed (less o n) k.counts) g.0 ≡ count_at k.counts g.0 = count_other k.counts o.0 g.0 _ f.1 in omega (arith, old, new)) (eqb_tells g.0 o.0))
    (λ g l. fits.groups g (omega (arith, l)))
    (λ x opened. ⊎_elim (λ t. subst (λ j. 0 < count_at (changed (less o n) k.counts) j) (sym t.1) (let new : count_at (changed (less o n) k.counts) o.0 ≡ raised (less o n) k.counts - n = count_same k.counts o.0 _ in grind (arith, new, d)))
    (λ f. let old = fits.open_there x opened in let new : count_at (changed (less o n) k.counts) x.0 ≡ count_at k.counts x.0 = count_other k.counts o.0 x.0 _ f.1 in omega (arith, old, new)) (eqb_tells x.0 o.0)))
  where
    gone : raised (less o n) k.counts - n ≡ 0 → count_at k.counts o.0 ≡ n
    gone z = omega (arith, z, within)

    left : count_at (changed (less o n) k.counts) o.0 ≡ raised (less o n) k.counts - n → waited o.0 k.objects + times o.0 e ≤ count_at (changed (less o n) k.counts) o.0
    left new = omega (arith, new, enough)

    closed : (b : Bool) → is_open (object_at k.objects o) ≡ b → count_at k.counts o.0 ≡ n → is_open (object_at k.objects o) ≡ false
    closed true opened all_of = let more : n < count_at k.counts o.0 = stays opened in absurd (omega (arith, more, all_of))
    closed false opened all_of = opened

pub length_lowered : (k : Kept) (o : ObjNo) (n : ℕ) → o.0 < length k.counts → (length (lowered o n k).objects ≡ length k.objects) × (length (lowered o n k).counts ≡ length k.counts)
length_lowered k o n h = (split (raised (less o n) k.counts - n == 0), length_count k.counts o.0 _ h) where
  split : (b : Bool) → length (without (cond b (o ∷ []) [] ++ []) k.objects) ≡ length k.objects
  split true = length_put k.objects o.0 blank
  split false = refl

-- a group's turn
pub fits_turn : (g : ObjNo) (e : List ObjNo) (k : Kept) → length k.objects ≡ length k.counts → Fits [] (g ∷ e) k.objects k.counts → Fits [] e (lowered g 1 k).objects (lowered g 1 k).counts
fits_turn g e k same fits =
    let most : waited g.0 k.objects + times g.0 (g ∷ e) ≤ count_at k.counts g.0 = fits.counted g in
    let some : 0 < count_at k.counts g.0 = omega (arith, most, one_same g.0) in
    let grouped : is_group (object_at k.objects g).kind ≡ true = fits.groups g (omega (arith, one_same g.0)) in
    let weaker : Fits [] e k.objects k.counts = fits_counts [] (g ∷ e) e k.objects k.counts k.counts fits (λ h. let old : waited h.0 k.objects + times h.0 (g ∷ e) ≤ count_at k.counts h.0 = fits.counted h in omega (arith, old)) (λ h l. fits.groups h (omega (arith, l))) fits.open_there in
    fits_lowered e k g 1 (numbered k.objects k.counts g.0 same some) (omega (arith, some))
    (λ opened. absurd (true≢false (sym opened ∙ ap (λ b. cond b false (is_unset (object_at k.objects g).state)) grouped))) (omega (arith, most, one_same g.0)) weaker

freed_more : (b : Bool) (g : ObjNo) (os : List ObjNo) → (cond b (g ∷ []) [] ++ []) ++ os ≡ cond b (g ∷ []) [] ++ os
freed_more true g os = refl
freed_more false g os = refl

pub freed_turn : (g : ObjNo) (e : List ObjNo) (counts : List ℕ) → freed (less g 1 ∷ []) counts ++ freed (all_less e) (all_changed (less g 1 ∷ []) counts) ≡ freed (all_less (g ∷ e)) counts
freed_turn g e counts = freed_more (raised (less g 1) counts - 1 == 0) g (freed (all_less e) (changed (less g 1) counts))

-- ---- what the loops keep

-- the groups d are still to be counted down
abbrev pub Counting : Bool → List ObjNo → List ObjNo → Kept → Kept → Reserved TaskNo → Reserved TaskNo → ℕ → ℕ → Type 0
Counting failed groups d k first woken before places all =
    (with_kept (all_counted_down failed d k.objects).objects k ≡ with_kept (all_counted_down failed groups first.objects).objects first)
    × (grown (all_counted_down failed d k.objects).tasks woken ≡ grown (all_counted_down failed groups first.objects).tasks before)
    × (length (all_counted_down failed d k.objects).tasks ≤ woken.room)
    × Fits d groups k.objects k.counts
    × (length k.objects ≡ length k.counts)
    × (places + awaiting k.objects ≡ all)

pub counting_turn : (failed : Bool) (groups : List ObjNo) (g : ObjNo) (d : List ObjNo) (k k' first : Kept) (woken woken' before : Reserved TaskNo) (places places' all : ℕ) → Counting failed groups (g ∷ d) k first woken before places all → 0 < count_at k.counts g.0 →
    k' ≡ with_kept (counted_down failed g k.objects).objects k → woken' ≡ grown (counted_down failed g k.objects).tasks woken → places' + awaiting k'.objects ≡ places + awaiting k.objects → Counting failed groups d k' first woken' before places' all
counting_turn failed groups g d k k' first woken woken' before places places' all kept there slots list moved =
    subst (λ j. places' + awaiting j.objects ≡ places + awaiting k.objects → Counting failed groups d j first woken' before places' all) (sym slots)
    (λ moved. subst (λ w. Counting failed groups d (with_kept (counted_down failed g k.objects).objects k) first w before places' all) (sym list)
    (let now : Waking = counted_down failed g k.objects in
    let later : Waking = all_counted_down failed d now.objects in
    let both : length (now.tasks ++ later.tasks) ≡ length now.tasks + length later.tasks = length-append now.tasks later.tasks in
    let fit : length (now.tasks ++ later.tasks) ≤ woken.room = kept.2 in
    let still : places + awaiting k.objects ≡ all = kept.5 in (
      kept.0,
      grown_twice now.tasks later.tasks woken ∙ kept.1,
      omega (arith, both, fit),
      fits_down g d groups k.objects k.counts failed (numbered k.objects k.counts g.0 kept.4 there) kept.3,
      length_put k.objects g.0 _ ∙ kept.4,
      omega (arith, moved, still),
    ))) moved

-- the groups e are still to drop a reference
abbrev pub Lowering : List ObjNo → List ObjNo → Kept → Kept → Reserved ObjNo → Reserved ObjNo → ℕ → ℕ → Type 0
Lowering groups e k first gone before places all =
    (all_lowered e k ≡ all_lowered groups first)
    × (grown (freed (all_less e) k.counts) gone ≡ grown (freed (all_less groups) first.counts) before)
    × (length (freed (all_less e) k.counts) ≤ gone.room)
    × Fits [] e k.objects k.counts
    × (length k.objects ≡ length k.counts)
    × (places + awaiting k.objects ≡ all)
    × (live k.counts ≤ live first.counts)

pub lowering_turn : (groups : List ObjNo) (g : ObjNo) (e : List ObjNo) (k k' first : Kept) (gone gone' before : Reserved ObjNo) (places places' all : ℕ) → Lowering groups (g ∷ e) k first gone before places all → 0 < count_at k.counts g.0 →
    k' ≡ lowered g 1 k → gone' ≡ grown (freed (less g 1 ∷ []) k.counts) gone → places' + awaiting k'.objects ≡ places + awaiting k.objects → Lowering groups e k' first gone' before places' all
lowering_turn groups g e k k' first gone gone' before places places' all kept there slots list moved =
    subst (λ j. places' + awaiting j.objects ≡ places + awaiting k.objects → Lowering groups e j first gone' before places' all) (sym slots)
    (λ moved. subst (λ w. Lowering groups e (lowered g 1 k) first w before places' all) (sym list)
    (let now : List ObjNo = freed (less g 1 ∷ []) k.counts in
    let later : List ObjNo = freed (all_less e) (lowered g 1 k).counts in
    let both : length (now ++ later) ≡ length now + length later = length-append now later in
    let turn : now ++ later ≡ freed (all_less (g ∷ e)) k.counts = freed_turn g e k.counts in
    let fit : length (now ++ later) ≤ gone.room = subst (λ xs. length xs ≤ gone.room) (sym turn) kept.2 in
    let still : places + awaiting k.objects ≡ all = kept.5 in
    let number : g.0 < length k.objects = numbered k.objects k.counts g.0 kept.4 there in
    let longs = length_lowered k g 1 (omega (arith, number, kept.4)) in (
      kept.0,
      grown_twice now later gone ∙ (ap (λ xs. grown xs gone) turn ∙ kept.1),
      omega (arith, both, fit),
      fits_turn g e k kept.4 kept.3,
      longs.0 ∙ (kept.4 ∙ sym longs.1),
      omega (arith, moved, still),
      (let fewer : live (lowered g 1 k).counts ≤ live k.counts = live_counted k.counts g.0 _ (omega (arith, number, kept.4)) there in omega (arith, fewer, kept.6)),
    ))) moved

-- the next of these groups is there
pub owed_turn : (groups : List ObjNo) (i : ℕ) (z : ObjNo) (k : Kept) → i < length groups → Fits [] (drop i groups) k.objects k.counts → 0 < count_at k.counts (get_or groups i z).0
owed_turn groups i z k h fits = owed_there [] (drop i groups) k.objects k.counts (get_or groups i z) fits (subst (λ e. 0 < times (get_or groups i z).0 e) (sym (drop_more groups i z h)) (let one : one_if ((get_or groups i z).0 == (get_or groups i z).0) ≡ 1 = one_same (get_or groups i z).0 in omega (arith, one)))
