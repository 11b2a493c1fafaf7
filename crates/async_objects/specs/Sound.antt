-- What every table of objects keeps: how groups and the elements that they wait for fit together, and with the counts.
use Rattle.std.specs.Prelude.{◌≡◌, ◌≤◌, ◌<◌, ℕ, ◌+◌, ◌-◌, ◌==◌, true, false, List, [], ◌∷◌, length}
use Rattle.ir_forms.specs.declared.runs.ObjNo.{ObjNo}
use Rattle.async_objects.specs.declared.kinds.Kind.TheVariants.{Group}
use Rattle.async_objects.specs.declared.object.Object.{Object}
use Rattle.async_objects.specs.Objects.{one_if, is_group, is_open, object_at}
use Rattle.async_objects.specs.Counts.{count_at}

-- how often a group stands in a list
abbrev pub times : ℕ → List ObjNo → ℕ
times g [] = 0
times g (m ∷ ms) = times g ms + one_if (m.0 == g)

-- how many elements wait to count the group down
abbrev pub waited : ℕ → List Object → ℕ
waited g [] = 0
waited g (x ∷ objects) = waited g objects + times g x.memberships

-- how many tasks await objects
abbrev pub awaiting : List Object → ℕ
awaiting [] = 0
awaiting (x ∷ objects) = awaiting objects + length x.awaiters

-- how many of its elements a group waits for
abbrev pub pending : Object → ℕ
pending x = x.members.added - x.members.done

-- while some groups are still to be counted down, and some are still to drop a reference
pub record Fits (uncounted undropped : List ObjNo) (objects : List Object) (counts : List ℕ) : Type 0 where
  -- a group's elements are those that it waits for and those that are set
  pub elements : (g : ObjNo) (size : ℕ) → (object_at objects g).kind ≡ Group size → waited g.0 objects + times g.0 uncounted + (object_at objects g).members.done ≡ (object_at objects g).members.added
  pub within : (g : ObjNo) (size : ℕ) → (object_at objects g).kind ≡ Group size → (object_at objects g).members.added ≤ size
  pub failed : (g : ObjNo) (size : ℕ) → (object_at objects g).kind ≡ Group size → (object_at objects g).members.failed ≤ (object_at objects g).members.done
  -- each is a reference
  pub counted : (g : ObjNo) → waited g.0 objects + times g.0 undropped ≤ count_at counts g.0
  pub groups : (g : ObjNo) → 0 < waited g.0 objects + times g.0 uncounted + times g.0 undropped → is_group (object_at objects g).kind ≡ true
  -- what isn't set is there
  pub open_there : (x : ObjNo) → is_open (object_at objects x) ≡ true → 0 < count_at counts x.0
  -- and alone waits to count groups down
  pub closed : (x : ObjNo) → is_open (object_at objects x) ≡ false → (object_at objects x).memberships ≡ []

-- between calls
abbrev pub IsSound : List Object → List ℕ → Type 0
IsSound objects counts = Fits [] [] objects counts × (length objects ≡ length counts)
