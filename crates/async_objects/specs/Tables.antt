-- What `Objects` is seen as, and what its calls answer.
use Rattle.std.specs.Prelude.{◌≡◌, ◌≤◌, ◌<◌, ℕ, ◌-◌, true, false, List, [], ◌∷◌}
use Rattle.ir_forms.specs.declared.runs.ObjNo.{ObjNo}
use Rattle.ir_forms.specs.declared.runs.TaskNo.{TaskNo}
use Rattle.async_objects.specs.declared.kinds.Kind.{Kind}
use Rattle.async_objects.specs.declared.kinds.Kind.TheVariants.{Group}
use Rattle.async_objects.specs.declared.kinds.State.{State}
use Rattle.async_objects.specs.declared.kinds.Awaited.{Awaited}
use Rattle.async_objects.specs.declared.kinds.Awaited.TheVariants.{Ready, Parked}
use Rattle.async_objects.specs.declared.kinds.Dropped.{Dropped}
use Rattle.async_objects.specs.declared.kinds.Dropped.TheVariants.{Last, Left}
use Rattle.async_objects.specs.declared.kinds.CreateError.{CreateError}
use Rattle.async_objects.specs.declared.kinds.CreateError.TheVariants as create_error
use Rattle.async_objects.specs.declared.kinds.AddError.{AddError}
use Rattle.async_objects.specs.declared.kinds.AddError.TheVariants as add_error
use Rattle.async_objects.specs.declared.object.Object.{Object}
use Rattle.async_objects.specs.Objects.{is_done, is_group, is_open, takes_more, object_at, created, awaited, set_to, added}
use Rattle.async_objects.specs.Counts.{CountChange, live, less, more, all_changed, freed, without, create_changes, add_changes, set_changes}
use Rattle.async_objects.specs.Sound.{pending}

pub record Table : Type 0 where
  -- so many objects may be there
  pub limit : ℕ
  -- while fewer are there, making one takes no memory
  pub room : ℕ
  -- while fewer tasks await, an await takes no memory
  pub waiters : ℕ
  -- by number, in the order of making
  pub objects : List Object
  pub counts : List ℕ

-- ---- tables after calls

-- these objects in place of those that were, and then these changes of counts: what comes to 0 is taken out
abbrev pub changed_to : List Object → List CountChange → Table → Table
changed_to objects changes t = record {
  limit = t.limit;
  room = t.room;
  waiters = t.waiters;
  objects = without (freed changes t.counts) objects;
  counts = all_changed changes t.counts;
}

abbrev pub with_objects : List Object → Table → Table
with_objects objects t = record { limit = t.limit; room = t.room; waiters = t.waiters; objects = objects; counts = t.counts }

abbrev pub with_created : Kind → Table → Table
with_created kind t = record { limit = t.limit; room = t.room; waiters = t.waiters; objects = created kind t.objects; counts = all_changed (create_changes kind t.objects) t.counts }

abbrev pub with_set : State → ObjNo → Table → Table
with_set state o t = changed_to (set_to state o t.objects).objects (set_changes o t.objects) t

abbrev pub with_element : ObjNo → ObjNo → Table → Table
with_element element group t = record { limit = t.limit; room = t.room; waiters = t.waiters; objects = (added element group t.objects).objects; counts = all_changed (add_changes element group t.objects) t.counts }

abbrev pub with_less : ObjNo → ℕ → Table → Table
with_less o n t = changed_to t.objects (less o n ∷ []) t

abbrev pub with_more : ObjNo → ℕ → Table → Table
with_more o n t = record { limit = t.limit; room = t.room; waiters = t.waiters; objects = t.objects; counts = all_changed (more o n ∷ []) t.counts }

-- ---- what calls answer

-- why no object was made
abbrev pub CreateCause : CreateError → Table → Type 0
CreateCause (create_error.ObjectsFull n) t = (n ≡ live t.counts) × (live t.counts ≡ t.limit)
CreateCause create_error.OutOfMemory t = (live t.counts < t.limit) × (t.room ≤ live t.counts)

-- why no element was added
abbrev pub AddCause : AddError → Object → Type 0
AddCause (add_error.GroupFull size) g = (g.kind ≡ Group size) × (g.members.added ≡ size)
AddCause add_error.OutOfMemory g = takes_more g ≡ true

-- a task goes on where the object is done, and else is its last awaiter
abbrev pub IsAwaited : Awaited → ObjNo → TaskNo → Table → Table → Type 0
IsAwaited Ready o task old new = (is_done (object_at old.objects o) ≡ true) × (new ≡ old)
IsAwaited Parked o task old new = (is_done (object_at old.objects o) ≡ false) × (new ≡ with_objects (awaited o task old.objects) old)

-- the last references were dropped, or some are left
abbrev pub IsDropped : Dropped → ℕ → ℕ → Type 0
IsDropped Last n count = count ≡ n
IsDropped Left n count = n < count

-- so many references may be dropped: enough are left for those that the object keeps itself
abbrev pub CanDrop : ℕ → ℕ → Object → Type 0
CanDrop n count x = (1 ≤ n) × (n ≤ count) × (is_open x ≡ true → n < count) × (is_group x.kind ≡ true → pending x ≤ count - n)

-- all references may go: a token or value is set, and a group waits for no element
abbrev pub CanRelease : Object → Type 0
CanRelease x = (is_open x ≡ false) × (is_group x.kind ≡ true → pending x ≡ 0)
