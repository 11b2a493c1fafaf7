-- Tokens, values and groups by number, without their counts, and what each call does to them. The list never gets
-- shorter: what is left of a released object is blank.
use Rattle.std.specs.Prelude.{ℕ, ◌+◌, ◌==◌, nat_lt, Bool, true, false, cond, List, [], ◌∷◌, ◌++◌, Option, Some, None, slice_get, slice_set}
use Rattle.ir_forms.specs.declared.runs.ObjNo.{ObjNo}
use Rattle.ir_forms.specs.declared.runs.TaskNo.{TaskNo}
use Rattle.async_objects.specs.declared.kinds.Kind.{Kind}
use Rattle.async_objects.specs.declared.kinds.Kind.TheVariants.{Token, Group}
use Rattle.async_objects.specs.declared.kinds.State.{State}
use Rattle.async_objects.specs.declared.kinds.State.TheVariants.{Unset, Available, Error}
use Rattle.async_objects.specs.declared.kinds.Val.{Val}
use Rattle.async_objects.specs.declared.object.Members.{Members}
use Rattle.async_objects.specs.declared.object.Object.{Object}

-- ---- one object

abbrev pub no_members : Members
no_members = record { added = 0; done = 0; failed = 0 }

-- as it is made
abbrev pub new_object : Kind → Object
new_object kind = record { kind = kind; state = Unset; payload = None; awaiters = []; memberships = []; members = no_members }

-- what is left of a released one: a token that is available, which holds nothing
abbrev pub blank : Object
blank = record { kind = Token; state = Available; payload = None; awaiters = []; memberships = []; members = no_members }

abbrev pub is_group : Kind → Bool
is_group (Group size) = true
is_group _ = false

abbrev pub is_unset : State → Bool
is_unset Unset = true
is_unset _ = false

abbrev pub is_error : State → Bool
is_error Error = true
is_error _ = false

-- the state of a group of this size: in error where an element failed
abbrev pub group_state : ℕ → Members → State
group_state size members = cond (nat_lt 0 members.failed) Error (cond (members.done == size) Available Unset)

abbrev pub state_by : Kind → Object → State
state_by (Group size) x = group_state size x.members
state_by _ x = x.state

abbrev pub state_of : Object → State
state_of x = state_by x.kind x

-- a token or value that is set, and a group of which as many elements as its size are set
abbrev pub done_by : Kind → Object → Bool
done_by (Group size) x = x.members.done == size
done_by _ x = cond (is_unset x.state) false true

abbrev pub is_done : Object → Bool
is_done x = done_by x.kind x

-- a token or a value that isn't set
abbrev pub is_open : Object → Bool
is_open x = cond (is_group x.kind) false (is_unset x.state)

-- a group that has fewer elements than its size takes one more; what is no group takes none
abbrev pub takes_by : Kind → Object → Bool
takes_by (Group size) x = nat_lt x.members.added size
takes_by _ x = false

abbrev pub takes_more : Object → Bool
takes_more x = takes_by x.kind x

-- ---- objects by number

-- one that was never made reads as a blank one
abbrev pub object_or : Option Object → Object
object_or (Some x) = x
object_or None = blank

abbrev pub object_at : List Object → ObjNo → Object
object_at objects o = object_or (slice_get objects o.0)

-- the object of this number becomes this one
abbrev pub put : List Object → ObjNo → Object → List Object
put objects o x = slice_set objects o.0 x

-- objects after a change, and the tasks that it wakes, in order
pub record Waking : Type 0 where
  pub objects : List Object
  pub tasks : List TaskNo

-- ---- making, storing and awaiting

abbrev pub created : Kind → List Object → List Object
created kind objects = objects ++ new_object kind ∷ []

abbrev pub stored : ObjNo → Val → List Object → List Object
stored o payload objects = put objects o (record (object_at objects o) { payload = Some payload })

abbrev pub with_awaiter : TaskNo → Object → Object
with_awaiter task x = record x { awaiters = x.awaiters ++ task ∷ [] }

-- a task is the last awaiter of an object that isn't done
abbrev pub awaited : ObjNo → TaskNo → List Object → List Object
awaited o task objects = cond (is_done (object_at objects o)) objects (put objects o (with_awaiter task (object_at objects o)))

-- ---- setting

-- a done object's awaiters wake, and are its awaiters no longer
abbrev pub waking : Object → List TaskNo
waking x = cond (is_done x) x.awaiters []

abbrev pub awake : Object → Object
awake x = cond (is_done x) (record x { awaiters = [] }) x

abbrev pub one_if : Bool → ℕ
one_if true = 1
one_if false = 0

-- one more element is set, in error or not
abbrev pub one_done : Bool → Members → Members
one_done failed m = record m { done = m.done + 1; failed = m.failed + one_if failed }

abbrev pub with_done : Bool → Object → Object
with_done failed g = record g { members = one_done failed g.members }

-- a group that waits for one element less, and wakes its awaiters where it is thereby done
abbrev pub counted_down : Bool → ObjNo → List Object → Waking
counted_down failed g objects =
    let after : Object = with_done failed (object_at objects g) in
    record { objects = put objects g (awake after); tasks = waking after }

-- these groups in turn
abbrev pub all_counted_down : Bool → List ObjNo → List Object → Waking
all_counted_down failed [] objects = record { objects = objects; tasks = [] }
all_counted_down failed (g ∷ gs) objects =
    let first : Waking = counted_down failed g objects in
    let others : Waking = all_counted_down failed gs first.objects in
    record { objects = others.objects; tasks = first.tasks ++ others.tasks }

-- nobody and no group waits for it any longer
abbrev pub with_state : State → Object → Object
with_state state x = record x { state = state; awaiters = []; memberships = [] }

abbrev pub set_open : State → ObjNo → List Object → List Object
set_open state o objects = put objects o (with_state state (object_at objects o))

-- a token or value is set: its awaiters wake, then each group that waits for it counts down, in the order of membership
abbrev pub set_to : State → ObjNo → List Object → Waking
set_to state o objects =
    let x : Object = object_at objects o in
    let groups : Waking = all_counted_down (is_error state) x.memberships (set_open state o objects) in
    record { objects = groups.objects; tasks = x.awaiters ++ groups.tasks }

-- ---- adding to a group

abbrev pub with_added : Object → Object
with_added g = record g { members = record (g.members) { added = g.members.added + 1 } }

abbrev pub with_membership : ObjNo → Object → Object
with_membership g x = record x { memberships = x.memberships ++ g ∷ [] }

-- an element that isn't set is waited for; one that is set counts at once
abbrev pub joined_by : State → ObjNo → ObjNo → List Object → Waking
joined_by Unset element group objects =
    record { objects = put objects element (with_membership group (object_at objects element)); tasks = [] }
joined_by state element group objects = counted_down (is_error state) group objects

abbrev pub added : ObjNo → ObjNo → List Object → Waking
added element group objects =
    joined_by (object_at objects element).state element group (put objects group (with_added (object_at objects group)))
