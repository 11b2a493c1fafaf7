-- What calls keep of how groups, elements and counts fit together.
use Rattle.std.proofs.Common.{◌≡◌, ◌≤◌, ◌<◌, ℕ, zero, suc, ◌+◌, ◌==◌, cond, Bool, true, false, List, [], ◌∷◌, ◌++◌, length, Option, slice_get, slice_set, refl, sym, ap, subst, ◌∙◌, arith, ⊎_elim, length-append}
use Rattle.std.proofs.lemmas.Bool.Decides.{eqb_tells, leb_tells}
use Rattle.std.proofs.lemmas.Bool.{eq-eqb, true≢false, ltb-true}
use Rattle.std.proofs.lemmas.Option.{slice_get_past}
use Rattle.ir_forms.specs.declared.runs.ObjNo.{ObjNo}
use Rattle.ir_forms.specs.declared.runs.TaskNo.{TaskNo}
use Rattle.async_objects.specs.declared.kinds.Kind.{Kind}
use Rattle.async_objects.specs.declared.kinds.Kind.TheVariants.{Token, Value, Group}
use Rattle.async_objects.specs.declared.kinds.State.{State}
use Rattle.async_objects.specs.declared.kinds.Val.{Val}
use Rattle.async_objects.specs.declared.object.Object.{Object}
use Rattle.async_objects.specs.Objects.{blank, new_object, object_or, object_at, put, one_if, is_group, is_unset, is_open, takes_more, takes_by, with_state, with_added, with_membership, one_done}
use Rattle.async_objects.specs.Counts.{count_at}
use Rattle.async_objects.specs.Sound.{Fits, times, waited, awaiting}
use Rattle.async_objects.proofs.ListLemmas.{by_eq, set_none, get_front, get_end}

-- ---- objects by number

at_set : (objects : List Object) (i : ℕ) (x : Object) → i < length objects → object_or (slice_get (slice_set objects i x) i) ≡ x
at_set [] i x h = absurd (omega (arith, h))
at_set (y ∷ objects) zero x h = refl
at_set (y ∷ objects) (suc i) x h = at_set objects i x (omega (arith, h))

at_else : (objects : List Object) (i j : ℕ) (x : Object) → (j ≡ i → ⊥) → slice_get (slice_set objects i x) j ≡ slice_get objects j
at_else [] i j x d = ap (λ xs. slice_get xs j) (set_none i x)
at_else (y ∷ objects) zero zero x d = absurd (d refl)
at_else (y ∷ objects) zero (suc j) x d = refl
at_else (y ∷ objects) (suc i) zero x d = refl
at_else (y ∷ objects) (suc i) (suc j) x d = at_else objects i j x (λ e. d (ap suc e))

pub put_same : (objects : List Object) (o : ObjNo) (x : Object) → o.0 < length objects → object_at (put objects o x) o ≡ x
put_same objects o x h = at_set objects o.0 x h

pub put_other : (objects : List Object) (o g : ObjNo) (x : Object) → (g.0 ≡ o.0 → ⊥) → object_at (put objects o x) g ≡ object_at objects g
put_other objects o g x d = ap object_or (at_else objects o.0 g.0 x d)

is_number : (g o : ObjNo) → g.0 ≡ o.0 → g ≡ o
is_number g o e = λ i. record { 0 = e i }

-- what holds of the object that was put, and of the others, holds of all
pub put_cases : (P : ObjNo → Object → Type 0) (objects : List Object) (o : ObjNo) (x : Object) → o.0 < length objects → P o x → ((g : ObjNo) → (g.0 ≡ o.0 → ⊥) → P g (object_at objects g)) → (g : ObjNo) → P g (object_at (put objects o x) g)
put_cases P objects o x h there others g = ⊎_elim
    (λ t. subst (λ k. P k (object_at (put objects o x) k)) (sym (is_number g o t.1)) (subst (P o) (sym (put_same objects o x h)) there))
    (λ f. subst (P g) (sym (put_other objects o g x f.1)) (others g f.1)) (eqb_tells g.0 o.0)

pub past_blank : (objects : List Object) (o : ObjNo) → length objects ≤ o.0 → object_at objects o ≡ blank
past_blank objects o h = ap object_or (slice_get_past objects o.0 h)

-- ---- sums

pub waited_put : (g : ℕ) (objects : List Object) (i : ℕ) (x : Object) → i < length objects → waited g (slice_set objects i x) + times g (object_or (slice_get objects i)).memberships ≡ waited g objects + times g x.memberships
waited_put g [] i x h = absurd (omega (arith, h))
waited_put g (y ∷ objects) zero x h = omega arith
waited_put g (y ∷ objects) (suc i) x h = let more : waited g (slice_set objects i x) + times g (object_or (slice_get objects i)).memberships ≡ waited g objects + times g x.memberships = waited_put g objects i x (omega (arith, h)) in omega (arith, more)

pub awaiting_put : (objects : List Object) (i : ℕ) (x : Object) → length x.awaiters ≤ length (object_or (slice_get objects i)).awaiters → awaiting (slice_set objects i x) + length (object_or (slice_get objects i)).awaiters ≡ awaiting objects + length x.awaiters
awaiting_put [] zero x h = omega (arith, h)
awaiting_put [] (suc i) x h = omega (arith, h)
awaiting_put (y ∷ objects) zero x h = omega arith
awaiting_put (y ∷ objects) (suc i) x h = let more : awaiting (slice_set objects i x) + length (object_or (slice_get objects i)).awaiters ≡ awaiting objects + length x.awaiters = awaiting_put objects i x h in omega (arith, more)

pub awaiting_at : (objects : List Object) (i : ℕ) → length (object_or (slice_get objects i)).awaiters ≤ awaiting objects
awaiting_at [] zero = omega arith
awaiting_at [] (suc i) = omega arith
awaiting_at (y ∷ objects) zero = omega arith
awaiting_at (y ∷ objects) (suc i) = let more : length (object_or (slice_get objects i)).awaiters ≤ awaiting objects = awaiting_at objects i in omega (arith, more)

pub awaiting_grows : (objects : List Object) (i : ℕ) (x : Object) → i < length objects → awaiting (slice_set objects i x) + length (object_or (slice_get objects i)).awaiters ≡ awaiting objects + length x.awaiters
awaiting_grows [] i x h = absurd (omega (arith, h))
awaiting_grows (y ∷ objects) zero x h = omega arith
awaiting_grows (y ∷ objects) (suc i) x h = let more : awaiting (slice_set objects i x) + length (object_or (slice_get objects i)).awaiters ≡ awaiting objects + length x.awaiters = awaiting_grows objects i x (omega (arith, h)) in omega (arith, more)

pub waited_end : (g : ℕ) (objects : List Object) (x : Object) → waited g (objects ++ x ∷ []) ≡ waited g objects + times g x.memberships
waited_end g [] x = omega arith
waited_end g (y ∷ objects) x = omega (arith, waited_end g objects x)

pub awaiting_end : (objects : List Object) (x : Object) → awaiting (objects ++ x ∷ []) ≡ awaiting objects + length x.awaiters
awaiting_end [] x = omega arith
awaiting_end (y ∷ objects) x = omega (arith, awaiting_end objects x)

pub times_end : (g : ℕ) (ms : List ObjNo) (m : ObjNo) → times g (ms ++ m ∷ []) ≡ times g ms + one_if (m.0 == g)
times_end g [] m = refl
times_end g (n ∷ ms) m = omega (arith, times_end g ms m)

pub one_same : (n : ℕ) → one_if (n == n) ≡ 1
one_same n = ap one_if (eq-eqb n n refl)

pub one_other : (n g : ℕ) → (g ≡ n → ⊥) → one_if (n == g) ≡ 0
one_other n g d = by_eq n g (λ b. one_if b ≡ 0) (λ e. absurd (d (sym e))) (λ _. refl)

-- ---- kinds

open_single : (x : Object) → is_open x ≡ true → is_group x.kind ≡ false
open_single x h = split (is_group x.kind) h where
  split : (b : Bool) → cond b false (is_unset x.state) ≡ true → b ≡ false
  split true h = absurd (true≢false (sym h))
  split false h = refl

group_closed : (x : Object) → is_group x.kind ≡ true → is_open x ≡ false
group_closed x h = ap (λ b. cond b false (is_unset x.state)) h

set_closed : (x : Object) (state : State) → is_open x ≡ true → is_unset state ≡ false → is_open (with_state state x) ≡ false
set_closed x state opened h = ap (λ b. cond b false (is_unset state)) (open_single x opened) ∙ h

pub takes_group : (x : Object) → takes_more x ≡ true → (size : ℕ) × (x.kind ≡ Group size) × (x.members.added < size)
takes_group x h = split x.kind refl h where
  split : (k : Kind) → x.kind ≡ k → takes_by k x ≡ true → (size : ℕ) × (x.kind ≡ Group size) × (x.members.added < size)
  split Token e h = absurd (true≢false (sym h))
  split Value e h = absurd (true≢false (sym h))
  split (Group size) e h = (size, e, ltb-true x.members.added size h)

-- ---- the changes

-- who awaits an object, and what it holds, doesn't matter
pub fits_like : (d e : List ObjNo) (objects : List Object) (counts : List ℕ) (o : ObjNo) (p : Option Val) (a : List TaskNo) → o.0 < length objects → Fits d e objects counts →
    Fits d e (put objects o (record { kind = (object_at objects o).kind; state = (object_at objects o).state; payload = p; awaiters = a; memberships = (object_at objects o).memberships; members = (object_at objects o).members })) counts
fits_like d e objects counts o p a h fits =
    let x : Object = record { kind = (object_at objects o).kind; state = (object_at objects o).state; payload = p; awaiters = a; memberships = (object_at objects o).memberships; members = (object_at objects o).members } in
    let same : (g : ℕ) → waited g (put objects o x) ≡ waited g objects = λ g. let put_it : waited g (put objects o x) + times g (object_at objects o).memberships ≡ waited g objects + times g (object_at objects o).memberships = waited_put g objects o.0 x h in omega (arith, put_it) in
    record {
      elements = λ g size. put_cases (λ g y. y.kind ≡ Group size → waited g.0 (put objects o x) + times g.0 d + y.members.done ≡ y.members.added) objects o x h
          (λ k. let old = fits.elements o size k in omega (arith, old, same o.0)) (λ g' n k. let old = fits.elements g' size k in omega (arith, old, same g'.0)) g;
      within = λ g size. put_cases (λ g y. y.kind ≡ Group size → y.members.added ≤ size) objects o x h (fits.within o size) (λ g' n. fits.within g' size) g;
      failed = λ g size. put_cases (λ g y. y.kind ≡ Group size → y.members.failed ≤ y.members.done) objects o x h (fits.failed o size) (λ g' n. fits.failed g' size) g;
      counted = λ g. let old = fits.counted g in omega (arith, old, same g.0);
      groups = put_cases (λ g y. 0 < waited g.0 (put objects o x) + times g.0 d + times g.0 e → is_group y.kind ≡ true) objects o x h
          (λ l. fits.groups o (omega (arith, l, same o.0))) (λ g' n l. fits.groups g' (omega (arith, l, same g'.0)));
      open_there = put_cases (λ g y. is_open y ≡ true → 0 < count_at counts g.0) objects o x h (fits.open_there o) (λ g' n. fits.open_there g');
      closed = put_cases (λ g y. is_open y ≡ false → y.memberships ≡ []) objects o x h (fits.closed o) (λ g' n. fits.closed g');
    }

-- one element is set
pub fits_done : (d e : List ObjNo) (objects : List Object) (counts : List ℕ) (o : ObjNo) (failed : Bool) (a : List TaskNo) → o.0 < length objects → Fits (o ∷ d) e objects counts →
    Fits d e (put objects o (record { kind = (object_at objects o).kind; state = (object_at objects o).state; payload = (object_at objects o).payload; awaiters = a; memberships = (object_at objects o).memberships; members = one_done failed (object_at objects o).members })) counts
fits_done d e objects counts o failed a h fits =
    let x : Object = record { kind = (object_at objects o).kind; state = (object_at objects o).state; payload = (object_at objects o).payload; awaiters = a; memberships = (object_at objects o).memberships; members = one_done failed (object_at objects o).members } in
    let same : (g : ℕ) → waited g (put objects o x) ≡ waited g objects = λ g. let put_it : waited g (put objects o x) + times g (object_at objects o).memberships ≡ waited g objects + times g (object_at objects o).memberships = waited_put g objects o.0 x h in omega (arith, put_it) in
    record {
      elements = λ g size. put_cases (λ g y. y.kind ≡ Group size → waited g.0 (put objects o x) + times g.0 d + y.members.done ≡ y.members.added) objects o x h
          (λ k. let old = fits.elements o size k in omega (arith, old, same o.0, one_same o.0)) (λ g' n k. let old = fits.elements g' size k in omega (arith, old, same g'.0, one_other o.0 g'.0 n)) g;
      within = λ g size. put_cases (λ g y. y.kind ≡ Group size → y.members.added ≤ size) objects o x h (fits.within o size) (λ g' n. fits.within g' size) g;
      failed = λ g size. put_cases (λ g y. y.kind ≡ Group size → y.members.failed ≤ y.members.done) objects o x h (λ k. let old = fits.failed o size k in more failed old) (λ g' n. fits.failed g' size) g;
      counted = λ g. let old = fits.counted g in omega (arith, old, same g.0);
      groups = put_cases (λ g y. 0 < waited g.0 (put objects o x) + times g.0 d + times g.0 e → is_group y.kind ≡ true) objects o x h
          (λ l. fits.groups o (omega (arith, l, same o.0))) (λ g' n l. fits.groups g' (omega (arith, l, same g'.0)));
      open_there = put_cases (λ g y. is_open y ≡ true → 0 < count_at counts g.0) objects o x h (fits.open_there o) (λ g' n. fits.open_there g');
      closed = put_cases (λ g y. is_open y ≡ false → y.memberships ≡ []) objects o x h (fits.closed o) (λ g' n. fits.closed g');
    }
  where
    more : (failed : Bool) → (object_at objects o).members.failed ≤ (object_at objects o).members.done → (object_at objects o).members.failed + one_if failed ≤ (object_at objects o).members.done + 1
    more true l = omega (arith, l)
    more false l = omega (arith, l)

-- one more element is added
pub fits_added : (d e : List ObjNo) (objects : List Object) (counts : List ℕ) (o : ObjNo) → o.0 < length objects → takes_more (object_at objects o) ≡ true → Fits d e objects counts →
    Fits (o ∷ d) e (put objects o (with_added (object_at objects o))) counts
fits_added d e objects counts o h takes fits =
    let x : Object = with_added (object_at objects o) in
    let is = takes_group (object_at objects o) takes in
    let same : (g : ℕ) → waited g (put objects o x) ≡ waited g objects = λ g. let put_it : waited g (put objects o x) + times g (object_at objects o).memberships ≡ waited g objects + times g (object_at objects o).memberships = waited_put g objects o.0 x h in omega (arith, put_it) in
    record {
      elements = λ g size. put_cases (λ g y. y.kind ≡ Group size → waited g.0 (put objects o x) + times g.0 (o ∷ d) + y.members.done ≡ y.members.added) objects o x h
          (λ k. let old = fits.elements o size k in omega (arith, old, same o.0, one_same o.0)) (λ g' n k. let old = fits.elements g' size k in omega (arith, old, same g'.0, one_other o.0 g'.0 n)) g;
      within = λ g size. put_cases (λ g y. y.kind ≡ Group size → y.members.added ≤ size) objects o x h (λ k. let one : Group size ≡ Group is.0 = sym k ∙ is.1 in let sized : size ≡ is.0 = cc in omega (arith, is.2, sized)) (λ g' n. fits.within g' size) g;
      failed = λ g size. put_cases (λ g y. y.kind ≡ Group size → y.members.failed ≤ y.members.done) objects o x h (fits.failed o size) (λ g' n. fits.failed g' size) g;
      counted = λ g. let old = fits.counted g in omega (arith, old, same g.0);
      groups = put_cases (λ g y. 0 < waited g.0 (put objects o x) + times g.0 (o ∷ d) + times g.0 e → is_group y.kind ≡ true) objects o x h
          (λ l. ap is_group is.1) (λ g' n l. fits.groups g' (omega (arith, l, same g'.0, one_other o.0 g'.0 n)));
      open_there = put_cases (λ g y. is_open y ≡ true → 0 < count_at counts g.0) objects o x h (fits.open_there o) (λ g' n. fits.open_there g');
      closed = put_cases (λ g y. is_open y ≡ false → y.memberships ≡ []) objects o x h (fits.closed o) (λ g' n. fits.closed g');
    }

-- an element is set: the groups that waited for it are to be counted down, and to drop their references
pub fits_set : (objects : List Object) (counts : List ℕ) (o : ObjNo) (state : State) → o.0 < length objects → is_open (object_at objects o) ≡ true → is_unset state ≡ false → Fits [] [] objects counts →
    Fits (object_at objects o).memberships (object_at objects o).memberships (put objects o (with_state state (object_at objects o))) counts
fits_set objects counts o state h opened set fits =
    let x : Object = with_state state (object_at objects o) in
    let ms : List ObjNo = (object_at objects o).memberships in
    let same : (g : ℕ) → waited g (put objects o x) + times g ms ≡ waited g objects = λ g. let put_it : waited g (put objects o x) + times g ms ≡ waited g objects + 0 = waited_put g objects o.0 x h in omega (arith, put_it) in
    record {
      elements = λ g size. put_cases (λ g y. y.kind ≡ Group size → waited g.0 (put objects o x) + times g.0 ms + y.members.done ≡ y.members.added) objects o x h
          (λ k. let old = fits.elements o size k in omega (arith, old, same o.0)) (λ g' n k. let old = fits.elements g' size k in omega (arith, old, same g'.0)) g;
      within = λ g size. put_cases (λ g y. y.kind ≡ Group size → y.members.added ≤ size) objects o x h (fits.within o size) (λ g' n. fits.within g' size) g;
      failed = λ g size. put_cases (λ g y. y.kind ≡ Group size → y.members.failed ≤ y.members.done) objects o x h (fits.failed o size) (λ g' n. fits.failed g' size) g;
      counted = λ g. let old = fits.counted g in omega (arith, old, same g.0);
      groups = put_cases (λ g y. 0 < waited g.0 (put objects o x) + times g.0 ms + times g.0 ms → is_group y.kind ≡ true) objects o x h
          (λ l. fits.groups o (positive (waited o.0 (put objects o x)) (times o.0 ms) (waited o.0 objects) l (same o.0))) (λ g' n l. fits.groups g' (positive (waited g'.0 (put objects o x)) (times g'.0 ms) (waited g'.0 objects) l (same g'.0)));
      open_there = put_cases (λ g y. is_open y ≡ true → 0 < count_at counts g.0) objects o x h (λ l. absurd (true≢false (sym l ∙ set_closed (object_at objects o) state opened set))) (λ g' n. fits.open_there g');
      closed = put_cases (λ g y. is_open y ≡ false → y.memberships ≡ []) objects o x h (λ l. refl) (λ g' n. fits.closed g');
    }
  where
    positive : (a b c : ℕ) → 0 < a + b + b → a + b ≡ c → 0 < c + 0 + 0
    positive a b c l e = omega (arith, l, e)

-- a group waits for an element
pub fits_joined : (objects : List Object) (counts : List ℕ) (o g : ObjNo) → o.0 < length objects → is_open (object_at objects o) ≡ true → Fits (g ∷ []) (g ∷ []) objects counts →
    Fits [] [] (put objects o (with_membership g (object_at objects o))) counts
fits_joined objects counts o m h opened fits =
    let x : Object = with_membership m (object_at objects o) in
    let ms : List ObjNo = (object_at objects o).memberships in
    let same : (g : ℕ) → waited g (put objects o x) ≡ waited g objects + one_if (m.0 == g) = λ g. let put_it : waited g (put objects o x) + times g ms ≡ waited g objects + times g (ms ++ m ∷ []) = waited_put g objects o.0 x h in omega (arith, put_it, times_end g ms m) in
    record {
      elements = λ g size. put_cases (λ g y. y.kind ≡ Group size → waited g.0 (put objects o x) + 0 + y.members.done ≡ y.members.added) objects o x h
          (λ k. let old = fits.elements o size k in omega (arith, old, same o.0)) (λ g' n k. let old = fits.elements g' size k in omega (arith, old, same g'.0)) g;
      within = λ g size. put_cases (λ g y. y.kind ≡ Group size → y.members.added ≤ size) objects o x h (fits.within o size) (λ g' n. fits.within g' size) g;
      failed = λ g size. put_cases (λ g y. y.kind ≡ Group size → y.members.failed ≤ y.members.done) objects o x h (fits.failed o size) (λ g' n. fits.failed g' size) g;
      counted = λ g. let old = fits.counted g in omega (arith, old, same g.0);
      groups = put_cases (λ g y. 0 < waited g.0 (put objects o x) + 0 + 0 → is_group y.kind ≡ true) objects o x h
          (λ l. fits.groups o (omega (arith, l, same o.0))) (λ g' n l. fits.groups g' (omega (arith, l, same g'.0)));
      open_there = put_cases (λ g y. is_open y ≡ true → 0 < count_at counts g.0) objects o x h (fits.open_there o) (λ g' n. fits.open_there g');
      closed = put_cases (λ g y. is_open y ≡ false → y.memberships ≡ []) objects o x h (λ l. absurd (true≢false (sym opened ∙ l))) (λ g' n. fits.closed g');
    }

-- other counts, of which enough are left
pub fits_counts : (d e e' : List ObjNo) (objects : List Object) (counts counts' : List ℕ) → Fits d e objects counts →
    ((g : ObjNo) → waited g.0 objects + times g.0 e' ≤ count_at counts' g.0) → ((g : ObjNo) → 0 < times g.0 e' → is_group (object_at objects g).kind ≡ true) → ((x : ObjNo) → is_open (object_at objects x) ≡ true → 0 < count_at counts' x.0) →
    Fits d e' objects counts'
fits_counts d e e' objects counts counts' fits counted groups there = record {
  elements = fits.elements;
  within = fits.within;
  failed = fits.failed;
  counted = counted;
  groups = λ g l. ⊎_elim (λ t. groups g (omega (arith, t.1))) (λ f. fits.groups g (omega (arith, l, f.1))) (leb_tells 1 (times g.0 e'));
  open_there = there;
  closed = fits.closed;
}

-- an object that nothing waits for goes, with its count
pub fits_gone : (d e : List ObjNo) (objects : List Object) (counts counts' : List ℕ) (o : ObjNo) → o.0 < length objects → is_open (object_at objects o) ≡ false → waited o.0 objects + times o.0 d + times o.0 e ≡ 0 → ((g : ObjNo) → (g.0 ≡ o.0 → ⊥) → count_at counts' g.0 ≡ count_at counts g.0) → Fits d e objects counts → Fits d e (put objects o blank) counts'
fits_gone d e objects counts counts' o h closed none others fits =
    let same : (g : ℕ) → waited g (put objects o blank) ≡ waited g objects = λ g. let put_it : waited g (put objects o blank) + times g (object_at objects o).memberships ≡ waited g objects + 0 = waited_put g objects o.0 blank h in let alone : times g (object_at objects o).memberships ≡ 0 = ap (times g) (fits.closed o closed) in omega (arith, put_it, alone) in
    record {
      elements = λ g size. put_cases (λ g y. y.kind ≡ Group size → waited g.0 (put objects o blank) + times g.0 d + y.members.done ≡ y.members.added) objects o blank h
          (λ k. let is : Token ≡ Group size = k in cc) (λ g' n k. let old = fits.elements g' size k in omega (arith, old, same g'.0)) g;
      within = λ g size. put_cases (λ g y. y.kind ≡ Group size → y.members.added ≤ size) objects o blank h (λ k. omega arith) (λ g' n. fits.within g' size) g;
      failed = λ g size. put_cases (λ g y. y.kind ≡ Group size → y.members.failed ≤ y.members.done) objects o blank h (λ k. omega arith) (λ g' n. fits.failed g' size) g;
      counted = λ g. ⊎_elim (λ t. let zero_here : waited g.0 objects + times g.0 d + times g.0 e ≡ 0 = ap (λ k. waited k objects + times k d + times k e) t.1 ∙ none in omega (arith, zero_here, same g.0)) (λ f. let old = fits.counted g in omega (arith, old, same g.0, others g f.1)) (eqb_tells g.0 o.0);
      groups = put_cases (λ g y. 0 < waited g.0 (put objects o blank) + times g.0 d + times g.0 e → is_group y.kind ≡ true) objects o blank h
          (λ l. absurd (omega (arith, l, same o.0, none))) (λ g' n l. fits.groups g' (omega (arith, l, same g'.0)));
      open_there = put_cases (λ g y. is_open y ≡ true → 0 < count_at counts' g.0) objects o blank h (λ l. absurd (true≢false (sym l))) (λ g' n l. let old = fits.open_there g' l in omega (arith, old, others g' n));
      closed = put_cases (λ g y. is_open y ≡ false → y.memberships ≡ []) objects o blank h (λ l. refl) (λ g' n. fits.closed g');
    }

-- ---- an object is made

end_cases : (P : ObjNo → Object → Type 0) (objects : List Object) (x : Object) → ((g : ObjNo) → g.0 ≡ length objects → P g x) → ((g : ObjNo) → (g.0 ≡ length objects → ⊥) → P g (object_at objects g)) → (g : ObjNo) → P g (object_at (objects ++ x ∷ []) g)
end_cases P objects x there others g = ⊎_elim
    (λ t. subst (P g) (sym (ap (λ k. object_or (slice_get (objects ++ x ∷ []) k)) t.1 ∙ ap object_or (get_end objects x))) (there g t.1))
    (λ f. subst (P g) (sym (⊎_elim (λ l. past l.1 f.1) (λ l. ap object_or (get_front objects (x ∷ []) g.0 l.1)) (leb_tells (length objects) g.0))) (others g f.1)) (eqb_tells g.0 (length objects))
  where
    past : length objects ≤ g.0 → (g.0 ≡ length objects → ⊥) → object_at (objects ++ x ∷ []) g ≡ object_at objects g
    past l n =
        let longer : length (objects ++ x ∷ []) ≡ length objects + 1 = length-append objects (x ∷ []) in
        let beyond : length objects + 1 ≤ g.0 = grind (arith, l, n) in
        past_blank (objects ++ x ∷ []) g (omega (arith, longer, beyond)) ∙ sym (past_blank objects g l)

pub fits_created : (objects : List Object) (counts counts' : List ℕ) (kind : Kind) → ((g : ObjNo) → (g.0 ≡ length objects → ⊥) → count_at counts' g.0 ≡ count_at counts g.0) → 0 < count_at counts' (length objects) → Fits [] [] objects counts → Fits [] [] (objects ++ new_object kind ∷ []) counts'
fits_created objects counts counts' kind others some fits =
    let x : Object = new_object kind in
    let same : (g : ℕ) → waited g (objects ++ x ∷ []) ≡ waited g objects = λ g. let more : waited g (objects ++ x ∷ []) ≡ waited g objects + 0 = waited_end g objects x in omega (arith, more) in
    let none : (g : ObjNo) → g.0 ≡ length objects → waited g.0 objects ≡ 0 = λ g e. ⊎_elim (λ t. let blank_here : object_at objects g ≡ blank = past_blank objects g (omega (arith, e)) in absurd (true≢false (sym (fits.groups g (omega (arith, t.1))) ∙ ap (λ y. is_group y.kind) blank_here))) (λ f. omega (arith, f.1)) (leb_tells 1 (waited g.0 objects)) in
    record {
      elements = λ g size. end_cases (λ g y. y.kind ≡ Group size → waited g.0 (objects ++ x ∷ []) + 0 + y.members.done ≡ y.members.added) objects x
          (λ g' e k. omega (arith, same g'.0, none g' e)) (λ g' n k. let old = fits.elements g' size k in omega (arith, old, same g'.0)) g;
      within = λ g size. end_cases (λ g y. y.kind ≡ Group size → y.members.added ≤ size) objects x (λ g' e k. omega arith) (λ g' n. fits.within g' size) g;
      failed = λ g size. end_cases (λ g y. y.kind ≡ Group size → y.members.failed ≤ y.members.done) objects x (λ g' e k. omega arith) (λ g' n. fits.failed g' size) g;
      counted = λ g. ⊎_elim (λ t. omega (arith, same g.0, none g t.1)) (λ f. let old = fits.counted g in omega (arith, old, same g.0, others g f.1)) (eqb_tells g.0 (length objects));
      groups = end_cases (λ g y. 0 < waited g.0 (objects ++ x ∷ []) + 0 + 0 → is_group y.kind ≡ true) objects x (λ g' e l. absurd (omega (arith, l, same g'.0, none g' e))) (λ g' n l. fits.groups g' (omega (arith, l, same g'.0)));
      open_there = end_cases (λ g y. is_open y ≡ true → 0 < count_at counts' g.0) objects x (λ g' e l. subst (λ k. 0 < count_at counts' k) (sym e) some) (λ g' n l. let old = fits.open_there g' l in omega (arith, old, others g' n));
      closed = end_cases (λ g y. is_open y ≡ false → y.memberships ≡ []) objects x (λ g' e l. refl) (λ g' n. fits.closed g');
    }

-- ---- puts

pub put_self : (objects : List Object) (i : ℕ) → slice_set objects i (object_or (slice_get objects i)) ≡ objects
put_self [] i = set_none i (object_or (slice_get [] i))
put_self (y ∷ objects) zero = refl
put_self (y ∷ objects) (suc i) = ap (λ xs. y ∷ xs) (put_self objects i)

pub put_swap : (objects : List Object) (i j : ℕ) (x y : Object) → (i ≡ j → ⊥) → slice_set (slice_set objects i x) j y ≡ slice_set (slice_set objects j y) i x
put_swap [] i j x y d = ap (λ xs. slice_set xs j y) (set_none i x) ∙ (set_none j y ∙ sym (ap (λ xs. slice_set xs i x) (set_none j y) ∙ set_none i x))
put_swap (z ∷ objects) zero zero x y d = absurd (d refl)
put_swap (z ∷ objects) zero (suc j) x y d = refl
put_swap (z ∷ objects) (suc i) zero x y d = refl
put_swap (z ∷ objects) (suc i) (suc j) x y d = ap (λ xs. z ∷ xs) (put_swap objects i j x y (λ e. d (ap suc e)))

pub awaiting_same : (objects : List Object) (o : ObjNo) (x : Object) → length x.awaiters ≡ length (object_at objects o).awaiters → awaiting (put objects o x) ≡ awaiting objects
awaiting_same objects o x e =
    let moved : awaiting (put objects o x) + length (object_at objects o).awaiters ≡ awaiting objects + length x.awaiters = awaiting_put objects o.0 x (omega (arith, e)) in
    omega (arith, moved, e)

pub join_swap : (objects : List Object) (e g : ObjNo) → (g.0 ≡ e.0 → ⊥) →
    let joined : List Object = put objects e (with_membership g (object_at objects e)) in
    let grouped : List Object = put objects g (with_added (object_at objects g)) in
    put joined g (with_added (object_at joined g)) ≡ put grouped e (with_membership g (object_at grouped e))
join_swap objects e g d =
    ap (λ x. put (put objects e (with_membership g (object_at objects e))) g (with_added x)) (put_other objects e g _ d)
    ∙ (put_swap objects e.0 g.0 _ _ (λ s. d (sym s))
    ∙ sym (ap (λ x. put (put objects g (with_added (object_at objects g))) e (with_membership g x)) (put_other objects g e _ (λ s. d (sym s)))))
