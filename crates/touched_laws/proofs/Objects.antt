-- What calls make of objects where one that they don't touch is another.
use Rattle.std.proofs.Common.{◌≡◌, ◌<◌, ℕ, zero, suc, cond, Bool, true, false, List, [], ◌∷◌, ◌++◌, length, Some, slice_set, refl, sym, ap, ap₂, ◌∙◌}
use Rattle.ir_forms.specs.declared.runs.ObjNo.{ObjNo}
use Rattle.ir_forms.specs.declared.runs.TaskNo.{TaskNo}
use Rattle.async_objects.specs.declared.kinds.Kind.{Kind}
use Rattle.async_objects.specs.declared.kinds.State.{State}
use Rattle.async_objects.specs.declared.kinds.State.TheVariants.{Unset, Available, Error}
use Rattle.async_objects.specs.declared.kinds.Val.{Val}
use Rattle.async_objects.specs.declared.object.Object.{Object}
use Rattle.async_objects.specs.Objects.{Waking, object_at, put, new_object, is_done, is_error, created, stored, with_awaiter, awaited, waking, awake, with_done, counted_down, all_counted_down, with_state, set_open, set_to, with_added, with_membership, joined_by, added}
use Rattle.async_objects.proofs.ListLemmas.{set_front, set_none}
use Rattle.async_objects.proofs.LoopLemmas.{length_put}
use Rattle.async_objects.proofs.SoundLemmas.{put_other}
use Rattle.touched_laws.specs.Touched.{IsNone}

-- ---- two places of a list

set_both : {X : Type 0} (xs : List X) (i j : ℕ) (x y : X) → (j ≡ i → ⊥) → slice_set (slice_set xs i x) j y ≡ slice_set (slice_set xs j y) i x
set_both [] i j x y d = ap (λ zs. slice_set zs j y) (set_none i x) ∙ set_none j y ∙ sym (ap (λ zs. slice_set zs i x) (set_none j y) ∙ set_none i x)
set_both (z ∷ xs) zero zero x y d = absurd (d refl)
set_both (z ∷ xs) zero (suc j) x y d = refl
set_both (z ∷ xs) (suc i) zero x y d = refl
set_both (z ∷ xs) (suc i) (suc j) x y d = ap (λ zs. z ∷ zs) (set_both xs i j x y (λ e. d (ap suc e)))

pub cond_both : {X Y : Type 0} (f : X → Y) (b : Bool) (x y : X) → cond b (f x) (f y) ≡ f (cond b x y)
cond_both f true x y = refl
cond_both f false x y = refl

-- ---- one object is another

module _ (o : ObjNo) (x : Object) where
  -- with it in its place
  abbrev pub other : List Object → List Object
  other objects = put objects o x

  abbrev pub other_in : Waking → Waking
  other_in w = record { objects = other w.objects; tasks = w.tasks }

  pub sees : (objects : List Object) (p : ObjNo) → (p.0 ≡ o.0 → ⊥) → object_at (other objects) p ≡ object_at objects p
  sees objects p d = put_other objects o p x d

  pub puts : (objects : List Object) (p : ObjNo) (y : Object) → (p.0 ≡ o.0 → ⊥) → put (other objects) p y ≡ other (put objects p y)
  puts objects p y d = set_both objects o.0 p.0 x y d

  -- an object becomes what a function makes of it
  pub becomes : (f : Object → Object) (objects : List Object) (p : ObjNo) → (p.0 ≡ o.0 → ⊥) → put (other objects) p (f (object_at (other objects) p)) ≡ other (put objects p (f (object_at objects p)))
  becomes f objects p d = ap (λ y. put (other objects) p (f y)) (sees objects p d) ∙ puts objects p (f (object_at objects p)) d

  pub makes : (k : Kind) (objects : List Object) → o.0 < length objects → created k (other objects) ≡ other (created k objects)
  makes k objects h = sym (set_front objects (new_object k ∷ []) o.0 x h)

  pub length_stays : (objects : List Object) → length (other objects) ≡ length objects
  length_stays objects = length_put objects o.0 x

  pub stores : (p : ObjNo) (v : Val) (objects : List Object) → (p.0 ≡ o.0 → ⊥) → stored p v (other objects) ≡ other (stored p v objects)
  stores p v objects d = becomes (λ y. record y { payload = Some v }) objects p d

  pub awaits : (p : ObjNo) (t : TaskNo) (objects : List Object) → (p.0 ≡ o.0 → ⊥) → awaited p t (other objects) ≡ other (awaited p t objects)
  awaits p t objects d =
      ap (λ y. cond (is_done y) (other objects) (put (other objects) p (with_awaiter t y))) (sees objects p d)
      ∙ ap (λ l. cond (is_done (object_at objects p)) (other objects) l) (puts objects p (with_awaiter t (object_at objects p)) d)
      ∙ cond_both other (is_done (object_at objects p)) objects (put objects p (with_awaiter t (object_at objects p)))

  -- ---- setting, and adding to a group

  counts_down : (failed : Bool) (g : ObjNo) (objects : List Object) → (g.0 ≡ o.0 → ⊥) → counted_down failed g (other objects) ≡ other_in (counted_down failed g objects)
  counts_down failed g objects d =
      let was : Object = object_at objects g in
      ap (λ y. record { objects = put (other objects) g (awake (with_done failed y)); tasks = waking (with_done failed y) }) (sees objects g d)
      ∙ ap (λ (l : List Object). record { objects = l; tasks = waking (with_done failed was) }) (puts objects g (awake (with_done failed was)) d)

  -- the groups that come after the first
  abbrev rest_down : Bool → List ObjNo → Waking → Waking
  rest_down failed gs first =
      let others : Waking = all_counted_down failed gs first.objects in
      record { objects = others.objects; tasks = first.tasks ++ others.tasks }

  all_count_down : (failed : Bool) (gs : List ObjNo) (objects : List Object) → IsNone o gs → all_counted_down failed gs (other objects) ≡ other_in (all_counted_down failed gs objects)
  all_count_down failed [] objects h = refl
  all_count_down failed (g ∷ gs) objects h =
      let first : Waking = counted_down failed g objects in
      ap (rest_down failed gs) (counts_down failed g objects h.0)
      ∙ ap (λ (w : Waking). record { objects = w.objects; tasks = first.tasks ++ w.tasks }) (all_count_down failed gs first.objects h.1)

  -- how its groups count down, and whom it wakes itself
  abbrev set_by : State → ObjNo → Object → List Object → Waking
  set_by state p y objects =
      let groups : Waking = all_counted_down (is_error state) y.memberships objects in
      record { objects = groups.objects; tasks = y.awaiters ++ groups.tasks }

  pub sets : (state : State) (p : ObjNo) (objects : List Object) → (p.0 ≡ o.0 → ⊥) → IsNone o (object_at objects p).memberships → set_to state p (other objects) ≡ other_in (set_to state p objects)
  sets state p objects d h =
      let was : Object = object_at objects p in
      ap (λ y. set_by state p y (put (other objects) p (with_state state y))) (sees objects p d)
      ∙ ap (set_by state p was) (puts objects p (with_state state was) d)
      ∙ ap (λ (w : Waking). record { objects = w.objects; tasks = was.awaiters ++ w.tasks }) (all_count_down (is_error state) was.memberships (set_open state p objects) h)

  joins : (state : State) (element group : ObjNo) (objects : List Object) → (element.0 ≡ o.0 → ⊥) → (group.0 ≡ o.0 → ⊥) → joined_by state element group (other objects) ≡ other_in (joined_by state element group objects)
  joins Unset element group objects d e = ap (λ (l : List Object). record { objects = l; tasks = [] }) (becomes (with_membership group) objects element d)
  joins Available element group objects d e = counts_down (is_error Available) group objects e
  joins Error element group objects d e = counts_down (is_error Error) group objects e

  pub adds : (element group : ObjNo) (objects : List Object) → (element.0 ≡ o.0 → ⊥) → (group.0 ≡ o.0 → ⊥) → added element group (other objects) ≡ other_in (added element group objects)
  adds element group objects d e =
      let after : List Object = put objects group (with_added (object_at objects group)) in
      ap₂ (λ (y : Object) (l : List Object). joined_by y.state element group l) (sees objects element d) (becomes with_added objects group e)
      ∙ joins (object_at objects element).state element group after d e
