-- What is kept after calls.
use Rattle.std.specs.Prelude.{ℕ, ◌<◌, ◌≤◌, List, [], ◌∷◌}
use Rattle.ir_forms.specs.declared.runs.ObjNo.{ObjNo}
use Rattle.async_objects.specs.declared.kinds.Kind.{Kind}
use Rattle.async_objects.specs.declared.kinds.Kind.TheVariants.{Group}
use Rattle.async_objects.specs.declared.object.Object.{Object}
use Rattle.async_objects.specs.Counts.{less, more, all_changed, freed, without}
use Rattle.async_objects.specs.Objects.{object_at, put, with_added, with_membership}
use Rattle.async_objects.specs.Slots.{Kept}

-- other objects
abbrev pub with_kept : List Object → Kept → Kept
with_kept objects k = record { objects = objects; counts = k.counts; room = k.room }

-- so many references to an object are dropped, and it is taken out with the last of them
abbrev pub lowered : ObjNo → ℕ → Kept → Kept
lowered o n k = record { objects = without (freed (less o n ∷ []) k.counts) k.objects; counts = all_changed (less o n ∷ []) k.counts; room = k.room }

-- one reference to each of these in turn
abbrev pub all_lowered : List ObjNo → Kept → Kept
all_lowered [] k = k
all_lowered (o ∷ os) k = all_lowered os (lowered o 1 k)

-- a group has an element that isn't set yet
abbrev pub CanCount : Object → Type 0
CanCount g = (g.members.done < g.members.added) × (g.members.failed ≤ g.members.done)

-- a group that has no more elements than its size
abbrev pub filled_by : Kind → ℕ → Type 0
filled_by (Group size) n = n ≤ size
filled_by _ n = ⊥

abbrev pub IsFilled : Object → Type 0
IsFilled g = filled_by g.kind g.members.added

-- a group waits for one more element, and has a reference for it
abbrev pub joined : ObjNo → ObjNo → Kept → Kept
joined element group k =
    let grouped : List Object = put k.objects group (with_added (object_at k.objects group)) in
    record {
      objects = put grouped element (with_membership group (object_at grouped element));
      counts = all_changed (more group 1 ∷ []) k.counts;
      room = k.room;
    }
