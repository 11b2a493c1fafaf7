-- A set and an add: how many tasks they wake and objects they free at most, and that a set's drops can be taken.
use Rattle.std.proofs.Common.{◌≡◌, ◌≤◌, ◌<◌, ℕ, zero, suc, ◌+◌, ◌-◌, ◌==◌, ◌&&◌, nat_lt, nat_le, cond, Bool, true, false, List, [], ◌∷◌, ◌++◌, length, slice_get, refl, sym, ap, subst, ◌∙◌, arith, length-append, ⊎_elim}
use Rattle.std.proofs.lemmas.Bool.{le-leb, leb-true, and_parts}
use Rattle.std.proofs.lemmas.Bool.Decides.{eqb_tells}
use Rattle.ir_forms.specs.declared.runs.ObjNo.{ObjNo}
use Rattle.async_objects.specs.declared.kinds.State.{State}
use Rattle.async_objects.specs.declared.kinds.State.TheVariants.{Unset, Available, Error}
use Rattle.async_objects.specs.declared.object.Object.{Object}
use Rattle.async_objects.specs.Objects.{object_or, object_at, put, one_if, is_done, is_open, is_error, with_done, with_state, with_added, set_open, set_to, counted_down, all_counted_down, joined_by, added}
use Rattle.async_objects.specs.Counts.{CountChange, count_at, put_count, less, all_less, raised, changed, live, can_change, freed, set_changes}
use Rattle.async_objects.specs.Sound.{Fits, times, waited, awaiting}
use Rattle.async_objects.proofs.LoopLemmas.{count_same, count_other, one_most}
use Rattle.async_objects.proofs.ListLemmas.{by_eq}
use Rattle.async_objects.proofs.SlotLemmas.{one_for}
use Rattle.async_objects.proofs.SoundLemmas.{one_same, one_other, awaiting_put, awaiting_same}
use Rattle.async_objects.proofs.SetLemmas.{not_among}

-- ---- tasks that wake

down_waiting : (failed : Bool) (g : ObjNo) (objects : List Object) → length (counted_down failed g objects).tasks + awaiting (counted_down failed g objects).objects ≡ awaiting objects
down_waiting failed g objects = split (is_done after) where
  after : Object
  after = with_done failed (object_at objects g)

  split : (b : Bool) → length (cond b (object_at objects g).awaiters []) + awaiting (put objects g (cond b (record after { awaiters = [] }) after)) ≡ awaiting objects
  split true = let moved : awaiting (put objects g (record after { awaiters = [] })) + length (object_at objects g).awaiters ≡ awaiting objects + 0 = awaiting_put objects g.0 (record after { awaiters = [] }) (omega arith) in omega (arith, moved)
  split false = let same : awaiting (put objects g after) ≡ awaiting objects = awaiting_same objects g after refl in omega (arith, same)

all_waiting : (failed : Bool) (gs : List ObjNo) (objects : List Object) → length (all_counted_down failed gs objects).tasks + awaiting (all_counted_down failed gs objects).objects ≡ awaiting objects
all_waiting failed [] objects = omega arith
all_waiting failed (g ∷ gs) objects =
    let more : length (all_counted_down failed gs (counted_down failed g objects).objects).tasks + awaiting (all_counted_down failed gs (counted_down failed g objects).objects).objects ≡ awaiting (counted_down failed g objects).objects = all_waiting failed gs (counted_down failed g objects).objects in
    omega (arith, more, down_waiting failed g objects, length-append (counted_down failed g objects).tasks (all_counted_down failed gs (counted_down failed g objects).objects).tasks)

pub set_wakes : (state : State) (o : ObjNo) (objects : List Object) → length (set_to state o objects).tasks ≤ awaiting objects
set_wakes state o objects =
    let x : Object = object_at objects o in
    let opened : awaiting (set_open state o objects) + length x.awaiters ≡ awaiting objects + 0 = awaiting_put objects o.0 (with_state state x) (omega arith) in
    omega (arith, opened, all_waiting (is_error state) x.memberships (set_open state o objects), length-append x.awaiters (all_counted_down (is_error state) x.memberships (set_open state o objects)).tasks)

pub add_wakes : (element group : ObjNo) (objects : List Object) → length (added element group objects).tasks ≤ awaiting objects
add_wakes element group objects = split (object_at objects element).state where
  grouped : List Object
  grouped = put objects group (with_added (object_at objects group))

  same : awaiting grouped ≡ awaiting objects
  same = awaiting_same objects group (with_added (object_at objects group)) refl

  split : (s : State) → length (joined_by s element group grouped).tasks ≤ awaiting objects
  split Unset = omega arith
  split Available = omega (arith, same, down_waiting false group grouped)
  split Error = omega (arith, same, down_waiting true group grouped)

-- ---- a set's drops

can_drop_all : (ms : List ObjNo) (o : ObjNo) (counts : List ℕ) → ((g : ObjNo) → times g.0 ms ≤ count_at counts g.0) → times o.0 ms ≡ 0 → 0 < count_at counts o.0 →
    can_change (all_less ms ++ less o 1 ∷ []) counts ≡ true
can_drop_all [] o counts enough none some = ap (λ b. b && true) (le-leb 1 (raised (less o 1) counts) (omega (arith, some)))
can_drop_all (m ∷ ms) o counts enough none some =
    let here : times m.0 ms + one_if (m.0 == m.0) ≤ count_at counts m.0 = enough m in
    let one : one_if (m.0 == m.0) ≡ 1 = one_same m.0 in
    let fewer : List ℕ = changed (less m 1) counts in
    let same : count_at fewer m.0 ≡ raised (less m 1) counts - 1 = count_same counts m.0 _ in
    let other : (g : ObjNo) → (g.0 ≡ m.0 → ⊥) → count_at fewer g.0 ≡ count_at counts g.0 = λ g d. count_other counts m.0 g.0 _ d in
    let apart : o.0 ≡ m.0 → ⊥ = λ e. let at : one_if (m.0 == o.0) ≡ 1 = ap (λ n. one_if (m.0 == n)) e ∙ one_same m.0 in omega (arith, at, none) in
    let kept : count_at fewer o.0 ≡ count_at counts o.0 = other o apart in
    ap (λ b. b && can_change (all_less ms ++ less o 1 ∷ []) fewer) (le-leb 1 (raised (less m 1) counts) (omega (arith, here, one)))
    ∙ can_drop_all ms o fewer
    (λ g. ⊎_elim
    (λ t. subst (λ n. times n ms ≤ count_at fewer n) (sym t.1) (omega (arith, here, one, same)))
    (λ f. let old : times g.0 ms + one_if (m.0 == g.0) ≤ count_at counts g.0 = enough g in omega (arith, old, other g f.1, one_other m.0 g.0 f.1)) (eqb_tells g.0 m.0))
    (omega (arith, none)) (omega (arith, some, kept))

times_at : (g : ℕ) (objects : List Object) (i : ℕ) → times g (object_or (slice_get objects i)).memberships ≤ waited g objects
times_at g [] zero = omega arith
times_at g [] (suc i) = omega arith
times_at g (x ∷ objects) zero = omega arith
times_at g (x ∷ objects) (suc i) = let more : times g (object_or (slice_get objects i)).memberships ≤ waited g objects = times_at g objects i in omega (arith, more)

pub can_set : (objects : List Object) (counts : List ℕ) (o : ObjNo) → Fits [] [] objects counts → is_open (object_at objects o) ≡ true → 0 < count_at counts o.0 → can_change (set_changes o objects) counts ≡ true
can_set objects counts o fits opened some =
    can_drop_all (object_at objects o).memberships o counts
    (λ g. let counted = fits.counted g in let most : times g.0 (object_at objects o).memberships ≤ waited g.0 objects = times_at g.0 objects o.0 in omega (arith, counted, most))
    (not_among objects counts o fits opened) some

-- ---- no more go than are there

live_kept : (counts : List ℕ) (o n : ℕ) → live (put_count counts o n) + one_if (nat_lt 0 (count_at counts o)) ≡ live counts + one_if (nat_lt 0 n)
live_kept [] zero n = omega arith
live_kept [] (suc o) n = omega (arith, live_kept [] o n)
live_kept (c ∷ counts) zero n = omega arith
live_kept (c ∷ counts) (suc o) n = omega (arith, live_kept counts o n)

one_freed : (m : ObjNo) (cs : List CountChange) (counts : List ℕ) → 1 ≤ raised (less m 1) counts → length (freed cs (changed (less m 1) counts)) ≤ live (changed (less m 1) counts) → length (freed (less m 1 ∷ cs) counts) ≤ live counts
one_freed m cs counts enough more =
    let n : ℕ = raised (less m 1) counts - 1 in
    let kept : live (changed (less m 1) counts) + one_if (nat_lt 0 (count_at counts m.0)) ≡ live counts + one_if (nat_lt 0 n) = live_kept counts m.0 n in
    let one : one_if (nat_lt 0 (count_at counts m.0)) ≡ 1 = one_for (count_at counts m.0) (omega (arith, enough)) in
    by_eq n 0 (λ b. length (cond b (m ∷ []) [] ++ freed cs (changed (less m 1) counts)) ≤ live counts)
    (λ e. let none : one_if (nat_lt 0 n) ≡ 0 = ap (λ k. one_if (nat_lt 0 k)) e in omega (arith, kept, one, none, more))
    (λ d. omega (arith, kept, one, more, one_most (nat_lt 0 n)))

all_freed : (ms : List ObjNo) (o : ObjNo) (counts : List ℕ) → can_change (all_less ms ++ less o 1 ∷ []) counts ≡ true → length (freed (all_less ms ++ less o 1 ∷ []) counts) ≤ live counts
all_freed [] o counts can =
    one_freed o [] counts (leb-true 1 (raised (less o 1) counts) (and_parts (nat_le 1 (raised (less o 1) counts)) true can).0) (omega arith)
all_freed (m ∷ ms) o counts can =
    let both = and_parts (nat_le 1 (raised (less m 1) counts)) (can_change (all_less ms ++ less o 1 ∷ []) (changed (less m 1) counts)) can in
    one_freed m (all_less ms ++ less o 1 ∷ []) counts (leb-true 1 (raised (less m 1) counts) both.0) (all_freed ms o (changed (less m 1) counts) both.1)

pub set_frees : (objects : List Object) (counts : List ℕ) (o : ObjNo) → Fits [] [] objects counts → is_open (object_at objects o) ≡ true → 0 < count_at counts o.0 → length (freed (set_changes o objects) counts) ≤ live counts
set_frees objects counts o fits opened some = all_freed (object_at objects o).memberships o counts (can_set objects counts o fits opened some)
