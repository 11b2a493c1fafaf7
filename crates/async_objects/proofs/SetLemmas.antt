-- An element is set: its groups count down, drop their references, and it drops its own.
use Rattle.std.proofs.Common.{◌≡◌, ◌≤◌, ◌<◌, ℕ, zero, suc, ◌+◌, ◌-◌, ◌==◌, cond, Bool, true, false, List, [], ◌∷◌, ◌++◌, length, slice_get, Result, Ok, Err, OnOk, OnErr, refl, sym, ap, ◌∙◌, arith, append_assoc, ⊎_elim}
use Rattle.std.specs.Prelude.{is_err}
use Rattle.std.proofs.lemmas.Bool.{true≢false}
use Rattle.std.proofs.lemmas.Bool.Decides.{leb_tells}
use Rattle.ir_forms.specs.declared.runs.ObjNo.{ObjNo}
use Rattle.async_objects.specs.declared.kinds.State.{State}
use Rattle.async_objects.specs.declared.object.Object.{Object}
use Rattle.async_objects.specs.Objects.{blank, object_or, object_at, put, one_if, is_group, is_unset, is_open, is_error, with_state, set_open, set_to, counted_down, all_counted_down}
use Rattle.async_objects.specs.Counts.{CountChange, count_at, less, all_less, raised, changed, all_changed, freed, without, set_changes}
use Rattle.async_objects.specs.Slots.{Kept}
use Rattle.async_objects.specs.Kept.{with_kept, lowered, all_lowered}
use Rattle.async_objects.specs.Sound.{Fits, times, waited}
use Rattle.async_objects.specs.Tables.{CanDrop}
use Rattle.async_objects.proofs.SoundLemmas.{put_same, put_other, one_same}
use Rattle.async_objects.proofs.LoopLemmas.{count_other}

pub ok_holds : {T E P : Type 0} (r : Result T E) → is_err r ≡ false → OnOk r P → P
ok_holds (Ok x) e p = p
ok_holds (Err x) e p = absurd (true≢false e)

pub err_holds : {T E P : Type 0} (r : Result T E) → is_err r ≡ true → OnErr r P → P
err_holds (Ok x) e p = absurd (true≢false (sym e))
err_holds (Err x) e p = p

-- ---- an object that is none of the groups stays

apart_first : (g o : ObjNo) (n : ℕ) → n + one_if (g.0 == o.0) ≡ 0 → o.0 ≡ g.0 → ⊥
apart_first g o n none e = let one : one_if (g.0 == o.0) ≡ 1 = ap (λ m. one_if (g.0 == m)) e ∙ one_same g.0 in omega (arith, one, none)

pub other_counted : (failed : Bool) (groups : List ObjNo) (objects : List Object) (o : ObjNo) → times o.0 groups ≡ 0 → object_at (all_counted_down failed groups objects).objects o ≡ object_at objects o
other_counted failed [] objects o none = refl
other_counted failed (g ∷ groups) objects o none =
    other_counted failed groups (counted_down failed g objects).objects o (omega (arith, none)) ∙ put_other objects g o _ (apart_first g o (times o.0 groups) none)

other_blanked : (b : Bool) (g o : ObjNo) (objects : List Object) → (o.0 ≡ g.0 → ⊥) → object_at (without (cond b (g ∷ []) [] ++ []) objects) o ≡ object_at objects o
other_blanked true g o objects d = put_other objects g o blank d
other_blanked false g o objects d = refl

pub other_lowered : (groups : List ObjNo) (k : Kept) (o : ObjNo) → times o.0 groups ≡ 0 → (object_at (all_lowered groups k).objects o ≡ object_at k.objects o) × (count_at (all_lowered groups k).counts o.0 ≡ count_at k.counts o.0)
other_lowered [] k o none = (refl, refl)
other_lowered (g ∷ groups) k o none =
    let d : o.0 ≡ g.0 → ⊥ = apart_first g o (times o.0 groups) none in
    let more = other_lowered groups (lowered g 1 k) o (omega (arith, none)) in
    (more.0 ∙ other_blanked (raised (less g 1) k.counts - 1 == 0) g o k.objects d, more.1 ∙ count_other k.counts g.0 o.0 _ d)

times_at : (g : ℕ) (objects : List Object) (i : ℕ) → times g (object_or (slice_get objects i)).memberships ≤ waited g objects
times_at g [] zero = omega arith
times_at g [] (suc i) = omega arith
times_at g (x ∷ objects) zero = omega arith
times_at g (x ∷ objects) (suc i) = let more : times g (object_or (slice_get objects i)).memberships ≤ waited g objects = times_at g objects i in omega (arith, more)

single : (x : Object) → is_open x ≡ true → is_group x.kind ≡ false
single x opened = split (is_group x.kind) opened where
  split : (b : Bool) → cond b false (is_unset x.state) ≡ true → b ≡ false
  split true h = absurd (true≢false (sym h))
  split false h = refl

-- an element isn't one of the groups that wait for it
pub not_among : (objects : List Object) (counts : List ℕ) (o : ObjNo) → Fits [] [] objects counts → is_open (object_at objects o) ≡ true → times o.0 (object_at objects o).memberships ≡ 0
not_among objects counts o fits opened = ⊎_elim
    (λ t. absurd (true≢false (sym (fits.groups o (let most : times o.0 (object_at objects o).memberships ≤ waited o.0 objects = times_at o.0 objects o.0 in omega (arith, most, t.1))) ∙ single (object_at objects o) opened)))
    (λ f. omega (arith, f.1)) (leb_tells 1 (times o.0 (object_at objects o).memberships))

-- ---- all references that are dropped, at once

without_append : (os more : List ObjNo) (objects : List Object) → without (os ++ more) objects ≡ without more (without os objects)
without_append [] more objects = refl
without_append (o ∷ os) more objects = without_append os more (put objects o blank)

plain : (b : Bool) (o : ObjNo) → cond b (o ∷ []) [] ++ [] ≡ cond b (o ∷ []) []
plain true o = refl
plain false o = refl

pub all_at_once : (groups : List ObjNo) (o : ObjNo) (k : Kept) → lowered o 1 (all_lowered groups k) ≡ record { objects = without (freed (all_less groups ++ less o 1 ∷ []) k.counts) k.objects; counts = all_changed (all_less groups ++ less o 1 ∷ []) k.counts; room = k.room }
all_at_once [] o k = refl
all_at_once (g ∷ groups) o k =
    all_at_once groups o (lowered g 1 k) ∙ ap (λ objects. record { objects = objects; counts = all_changed (all_less groups ++ less o 1 ∷ []) (changed (less g 1) k.counts); room = k.room })
    (ap (λ os. without (freed (all_less groups ++ less o 1 ∷ []) (changed (less g 1) k.counts)) (without os k.objects)) (plain (raised (less g 1) k.counts - 1 == 0) g)
    ∙ sym (without_append (cond (raised (less g 1) k.counts - 1 == 0) (g ∷ []) []) (freed (all_less groups ++ less o 1 ∷ []) (changed (less g 1) k.counts)) k.objects))

pub freed_both : (groups : List ObjNo) (cs : List CountChange) (k : Kept) → freed (all_less groups) k.counts ++ freed cs (all_lowered groups k).counts ≡ freed (all_less groups ++ cs) k.counts
freed_both [] cs k = refl
freed_both (g ∷ groups) cs k =
    append_assoc (cond (raised (less g 1) k.counts - 1 == 0) (g ∷ []) []) (freed (all_less groups) (changed (less g 1) k.counts)) (freed cs (all_lowered groups (lowered g 1 k)).counts)
    ∙ ap (λ os. cond (raised (less g 1) k.counts - 1 == 0) (g ∷ []) [] ++ os) (freed_both groups cs (lowered g 1 k))

-- ---- the steps of a set

module _ (k k1 k2 k3 : Kept) (o : ObjNo) (state : State) (first second : List ObjNo)
    (one : first ≡ (object_at k.objects o).memberships) (two : second ≡ (object_at k.objects o).memberships)
    (s1 : k1 ≡ with_kept (set_open state o k.objects) k) (s2 : k2 ≡ with_kept (all_counted_down (is_error state) first k1.objects).objects k1) (s3 : k3 ≡ all_lowered second k2)
    (h : o.0 < length k.objects) (none : times o.0 (object_at k.objects o).memberships ≡ 0) where
  pub set_object : object_at k3.objects o ≡ with_state state (object_at k.objects o)
  set_object =
      ap (λ j. object_at j.objects o) s3 ∙ ((other_lowered second k2 o (ap (times o.0) two ∙ none)).0 ∙ (ap (λ j. object_at j.objects o) s2
      ∙ (other_counted (is_error state) first k1.objects o (ap (times o.0) one ∙ none) ∙ (ap (λ j. object_at j.objects o) s1 ∙ put_same k.objects o _ h))))

  pub set_count : count_at k3.counts o.0 ≡ count_at k.counts o.0
  set_count = ap (λ j. count_at j.counts o.0) s3 ∙ ((other_lowered second k2 o (ap (times o.0) two ∙ none)).1 ∙ (ap (λ j. count_at j.counts o.0) s2 ∙ ap (λ j. count_at j.counts o.0) s1))

  pub set_plain : k2 ≡ with_kept (set_to state o k.objects).objects k
  set_plain = s2 ∙ (ap (λ j. with_kept (all_counted_down (is_error state) first j.objects).objects j) s1 ∙ ap (λ gs. with_kept (all_counted_down (is_error state) gs (set_open state o k.objects)).objects k) one)

  pub set_whole : lowered o 1 k3 ≡ record { objects = without (freed (set_changes o k.objects) k.counts) (set_to state o k.objects).objects; counts = all_changed (set_changes o k.objects) k.counts; room = k.room }
  set_whole =
      ap (lowered o 1) s3 ∙ (all_at_once second o k2
      ∙ (ap (λ j. record { objects = without (freed (all_less second ++ less o 1 ∷ []) j.counts) j.objects; counts = all_changed (all_less second ++ less o 1 ∷ []) j.counts; room = j.room }) set_plain
      ∙ ap (λ gs. record { objects = without (freed (all_less gs ++ less o 1 ∷ []) k.counts) (set_to state o k.objects).objects; counts = all_changed (all_less gs ++ less o 1 ∷ []) k.counts; room = k.room }) two))

  pub set_freed : freed (all_less second) k2.counts ++ freed (less o 1 ∷ []) k3.counts ≡ freed (set_changes o k.objects) k.counts
  set_freed =
      ap (λ j. freed (all_less second) k2.counts ++ freed (less o 1 ∷ []) j.counts) s3 ∙ (freed_both second (less o 1 ∷ []) k2
      ∙ (ap (λ j. freed (all_less second ++ less o 1 ∷ []) j.counts) set_plain ∙ ap (λ gs. freed (all_less gs ++ less o 1 ∷ []) k.counts) two))

  pub set_can_drop : 0 < count_at k.counts o.0 → is_open (object_at k.objects o) ≡ true → is_unset state ≡ false → CanDrop 1 (count_at k3.counts o.0) (object_at k3.objects o)
  set_can_drop some opened set =
      let alone : is_group (object_at k.objects o).kind ≡ false = single (object_at k.objects o) opened in (
        omega arith,
        omega (arith, some, set_count),
        λ still. absurd (true≢false (sym still ∙ (ap is_open set_object ∙ (ap (λ b. cond b false (is_unset state)) alone ∙ set)))),
        λ grouped. absurd (true≢false (sym grouped ∙ (ap (λ x. is_group x.kind) set_object ∙ alone))),
      )
