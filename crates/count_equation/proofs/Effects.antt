-- What a step does to the equation: a working frame goes on, and counts change with it.
use Rattle.std.proofs.Common.{◌≡◌, ◌⊎◌, inl, inr, ℕ, zero, suc, ◌+◌, ◌-◌, ◌≤◌, ◌==◌, cond, Bool, true, false, List, [], ◌∷◌, ◌++◌, length, Option, Some, None, refl, sym, ap, ◌∙◌, subst, arith}
use Rattle.std.specs.Prelude.{slice_get, slice_set}
use Rattle.std.proofs.lemmas.Bool.Decides.{nat_tests}
use Rattle.ir_forms.specs.declared.runs.ObjNo.{ObjNo}
use Rattle.low_forms.specs.declared.code.LowModule.{LowModule}
use Rattle.async_objects.specs.declared.object.Object.{Object}
use Rattle.async_objects.specs.declared.kinds.Val.{Val}
use Rattle.async_objects.specs.Objects.{blank, object_or}
use Rattle.async_objects.specs.Counts.{count_at, put_count, without}
use Rattle.async_objects.proofs.LoopLemmas.{count_same, count_other, length_put}
use Rattle.task_stack.specs.declared.frames.Place.{Place}
use Rattle.task_stack.specs.declared.frames.Saved.TheVariants as saved
use Rattle.task_stack.specs.Frames.{Stack, place_after}
use Rattle.task_stack.specs.Local.{with_top}
use Rattle.own_tables.specs.declared.table.OwnTable.{OwnTable}
use Rattle.step_core.specs.declared.tasks.Task.{Task}
use Rattle.step_core.specs.Core.{own_count}
use Rattle.count_sums.specs.Sums.{total, point, owned}
use Rattle.count_sums.proofs.Sums.{decide, point_here, point_other, total_set}
use Rattle.count_equation.specs.Equation.{at_place, working, below_owns, stack_owns, task_owns, owed, Stands, StandsWorking, AllStand}

-- ---- objects by number

-- what the object of a number keeps itself
abbrev pub keeps : List Object → ℕ → ℕ
keeps objects o = own_count (object_or (slice_get objects o))

pub keeps_put : (objects : List Object) (k : ℕ) (x : Object) → own_count x ≡ keeps objects k → (o : ℕ) → keeps (slice_set objects k x) o ≡ keeps objects o
keeps_put [] zero x e o = refl
keeps_put [] (suc k) x e o = refl
keeps_put (y ∷ objects) zero x e zero = e
keeps_put (y ∷ objects) zero x e (suc o) = refl
keeps_put (y ∷ objects) (suc k) x e zero = refl
keeps_put (y ∷ objects) (suc k) x e (suc o) = keeps_put objects k x e o

pub keeps_end : (objects : List Object) (x : Object) (o : ℕ) → keeps (objects ++ x ∷ []) o ≡ keeps objects o + point (length objects) (own_count x) o
keeps_end [] x zero = let z : own_count blank ≡ 0 = refl in omega (arith, z)
keeps_end [] x (suc o) =
    let a : keeps [] o ≡ 0 = refl in
    let b : keeps [] (suc o) ≡ 0 = refl in
    omega (arith, a, b)
keeps_end (y ∷ objects) x zero = omega arith
keeps_end (y ∷ objects) x (suc o) = keeps_end objects x o

pub length_end : (objects : List Object) (x : Object) → length (objects ++ x ∷ []) ≡ suc (length objects)
length_end [] x = refl
length_end (y ∷ objects) x = ap suc (length_end objects x)

-- ---- counts by number

pub count_changed : (counts : List ℕ) (p more less : ℕ) → less ≤ count_at counts p + more → (o : ℕ)
    → count_at (put_count counts p ((count_at counts p + more) - less)) o + point p less o ≡ count_at counts o + point p more o
count_changed counts p more less fits o = step (decide p o)
  where
    step : (p ≡ o) ⊎ (p ≡ o → ⊥) → count_at (put_count counts p ((count_at counts p + more) - less)) o + point p less o ≡ count_at counts o + point p more o
    step (inl same) =
        subst (λ q. count_at (put_count counts p ((count_at counts p + more) - less)) q + point p less q ≡ count_at counts q + point p more q) same
        (let a : count_at (put_count counts p ((count_at counts p + more) - less)) p ≡ (count_at counts p + more) - less = count_same counts p ((count_at counts p + more) - less) in
        let b : point p less p ≡ less = point_here p less in
        let c : point p more p ≡ more = point_here p more in
        omega (arith, a, b, c, fits))
    step (inr other) =
        let a : count_at (put_count counts p ((count_at counts p + more) - less)) o ≡ count_at counts o = count_other counts p o ((count_at counts p + more) - less) (λ e. other (sym e)) in
        let b : point p less o ≡ 0 = point_other p less o other in
        let c : point p more o ≡ 0 = point_other p more o other in
        omega (arith, a, b, c)

-- ---- tasks by number

get_same : {X : Type 0} (xs : List X) (t : ℕ) (x y z : X) → slice_get xs t ≡ Some x → slice_get (slice_set xs t y) t ≡ Some z → y ≡ z
get_same [] t x y z e there = cc
get_same (w ∷ xs) zero x y z e there = cc
get_same (w ∷ xs) (suc t) x y z e there = get_same xs t x y z e there

get_other : {X : Type 0} (xs : List X) (t u : ℕ) (y : X) → (t ≡ u → ⊥) → slice_get (slice_set xs t y) u ≡ slice_get xs u
get_other [] zero u y d = refl
get_other [] (suc t) u y d = refl
get_other (x ∷ xs) zero zero y d = absurd (d refl)
get_other (x ∷ xs) zero (suc u) y d = refl
get_other (x ∷ xs) (suc t) zero y d = refl
get_other (x ∷ xs) (suc t) (suc u) y d = get_other xs t u y (λ e. d (ap suc e))

module _ (code : LowModule) (table : OwnTable) where
  pub stand_set : (tasks : List (Option Task)) (t : ℕ) (old new : Option Task) → slice_get tasks t ≡ Some old → AllStand code tasks → StandsWorking code new → AllStand code (slice_set tasks t new)
  stand_set tasks t old new there all stands u task is = step (decide t u)
    where
      step : (t ≡ u) ⊎ (t ≡ u → ⊥) → StandsWorking code task
      step (inl same) = subst (StandsWorking code) (get_same tasks t old new task there (subst (λ v. slice_get (slice_set tasks t new) v ≡ Some task) (sym same) is)) stands
      step (inr other) = all u task (sym (get_other tasks t u new other) ∙ is)

  pub stands_on : (p : Place) → Stands code p → Stands code (place_after None p)
  stands_on p s = record { func = s.func; there = s.there; reached = s.reached }

  -- the equation, by parts of the state
  abbrev pub Equal : List (Option Task) → List Object → List ℕ → Type 0
  Equal tasks objects counts = (o : ℕ) → count_at counts o ≡ owed code table o tasks objects

  -- a working frame without a copy, which becomes another one
  module _ (stack : Stack) (plain : stack.top.saved ≡ saved.Nothing) (p : Place) (regs : List Val) where
    abbrev pub here : Place
    here = stack.top.current.place

    abbrev pub gone_on : Stack
    gone_on = with_top stack (record { current = record { place = p; regs = regs }; saved = stack.top.saved })

    pub owns_now : (o : ℕ) → stack_owns code table o stack ≡ owned (at_place code table here) o stack.top.current.regs + total (below_owns code table o) stack.below
    owns_now o = ap (λ s. owned (working code table here s) o stack.top.current.regs + total (below_owns code table o) stack.below) plain

    pub owns_then : (o : ℕ) → stack_owns code table o gone_on ≡ owned (at_place code table p) o regs + total (below_owns code table o) stack.below
    owns_then o = ap (λ s. owned (working code table p s) o regs + total (below_owns code table o) stack.below) plain

    -- counts change by as much as what the frame owns and what objects keep
    pub moves : (tasks : List (Option Task)) (objects objects' : List Object) (counts counts' : List ℕ) (t : ℕ) (parked parked' : Option ObjNo)
        → slice_get tasks t ≡ Some (Some (record { stack = stack; parked = parked })) → Equal tasks objects counts
        → ((o : ℕ) → count_at counts' o + (owned (at_place code table here) o stack.top.current.regs + keeps objects o) ≡ count_at counts o + (owned (at_place code table p) o regs + keeps objects' o))
        → Equal (slice_set tasks t (Some (record { stack = gone_on; parked = parked' }))) objects' counts'
    moves tasks objects objects' counts counts' t parked parked' there equal change o =
        let new : Option Task = Some (record { stack = gone_on; parked = parked' }) in
        let old : Option Task = Some (record { stack = stack; parked = parked }) in
        let a : total (task_owns code table o) (slice_set tasks t new) + stack_owns code table o stack ≡ total (task_owns code table o) tasks + stack_owns code table o gone_on = total_set (task_owns code table o) tasks t old new there in
        let b : count_at counts o ≡ total (task_owns code table o) tasks + keeps objects o = equal o in
        let c : stack_owns code table o stack ≡ owned (at_place code table here) o stack.top.current.regs + total (below_owns code table o) stack.below = owns_now o in
        let d : stack_owns code table o gone_on ≡ owned (at_place code table p) o regs + total (below_owns code table o) stack.below = owns_then o in
        let e : count_at counts' o + (owned (at_place code table here) o stack.top.current.regs + keeps objects o) ≡ count_at counts o + (owned (at_place code table p) o regs + keeps objects' o) = change o in
        omega (arith, a, b, c, d, e)

  -- an object whose count has come to 0 keeps nothing, so it may be taken out
  pub taken_out : (tasks : List (Option Task)) (objects : List Object) (counts : List ℕ) (p : ObjNo) (n : ℕ) (done : Bool) → (n == 0) ≡ done → count_at counts p.0 ≡ n → Equal tasks objects counts
      → Equal tasks (without (cond done (p ∷ []) [] ++ []) objects) counts
  taken_out tasks objects counts p n false is at_n equal = equal
  taken_out tasks objects counts p n true is at_n equal = λ o.
      let zero' : n ≡ 0 = grind (arith, nat_tests, is) in
      let e : count_at counts p.0 ≡ total (task_owns code table p.0) tasks + keeps objects p.0 = equal p.0 in
      let none : own_count blank ≡ keeps objects p.0 = (let k : keeps objects p.0 ≡ 0 = omega (arith, zero', e, at_n) in sym k) in
      equal o ∙ ap (λ k. total (task_owns code table o) tasks + k) (sym (keeps_put objects p.0 blank none o))

pub length_without : (objects : List Object) (p : ObjNo) (done : Bool) → length (without (cond done (p ∷ []) [] ++ []) objects) ≡ length objects
length_without objects p true = length_put objects p.0 blank
length_without objects p false = refl
