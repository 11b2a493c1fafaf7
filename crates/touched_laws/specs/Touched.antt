-- What a step sees of the objects: those that it uses, and the groups that wait for one of these.
use Rattle.std.specs.Prelude.{◌≡◌, ◌<◌, ℕ, List, [], ◌∷◌, ◌++◌, length, ⊤}
use Rattle.ir_forms.specs.declared.runs.ObjNo.{ObjNo}
use Rattle.low_forms.specs.declared.code.LowModule.{LowModule}
use Rattle.async_objects.specs.declared.object.Object.{Object}
use Rattle.async_objects.specs.Objects.{object_at, put}
use Rattle.step_core.specs.State.{Plain, with_objects}
use Rattle.step_core.specs.Shared.{Took, Stuck, Idle, Stopped, Takes}
use Rattle.step_core.specs.Plain.{plain_step, uses, changes}

-- the groups that wait for these objects
abbrev pub groups_of : List ObjNo → List Object → List ObjNo
groups_of [] objects = []
groups_of (o ∷ os) objects = (object_at objects o).memberships ++ groups_of os objects

-- these objects and the groups that wait for them
abbrev pub with_groups : List ObjNo → List Object → List ObjNo
with_groups os objects = os ++ groups_of os objects

-- the objects that the next step of a task touches
abbrev pub touches : LowModule → Plain → ℕ → List ObjNo
touches code s t = with_groups (uses code s t) s.objects

-- the object is none of these
abbrev pub IsNone : ObjNo → List ObjNo → Type 0
IsNone o [] = ⊤
IsNone o (p ∷ ps) = (p.0 ≡ o.0 → ⊥) × IsNone o ps

-- the object of this number is another one
abbrev pub with_object : ObjNo → Object → Plain → Plain
with_object o x s = with_objects s (put s.objects o x)

-- the step that ends in the changed state
abbrev pub then_changed : (Plain → Plain) → Took Plain → Took Plain
then_changed f Stuck = Stuck
then_changed f Idle = Idle
then_changed f (Stopped l) = Stopped l
then_changed f (Takes after wakes act) = Takes (f after) wakes act

-- So a step sees nothing of an object that was made and that it doesn't touch, such as what is left of a released one: it is the
-- same where that object is any other, and leaves it.
abbrev pub StepSeesTouched : Type 0
StepSeesTouched = (code : LowModule) (s : Plain) (t : ℕ) (o : ObjNo) (x : Object) → o.0 < length s.objects → IsNone o (touches code s t) →
    plain_step code (with_object o x s) t ≡ then_changed (with_object o x) (plain_step code s t)

abbrev pub ChangesSeeTouched : Type 0
ChangesSeeTouched = (code : LowModule) (s : Plain) (t : ℕ) (o : ObjNo) (x : Object) → IsNone o (touches code s t) →
    changes code (with_object o x s) t ≡ changes code s t
