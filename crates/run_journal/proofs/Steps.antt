-- The steps of a task: what they leave, and what they make.
use Rattle.std.proofs.Common.{◌≡◌, ℕ, ◌+◌, ◌≤◌, Bool, true, false, cond, List, [], ◌∷◌, ◌++◌, ◌%◌, ◌^◌, drop, length, Option, Some, None, slice_get, slice_set, refl, sym, ap, subst, ◌∙◌, arith, length-append, length-set}
use Rattle.ir_forms.specs.declared.runs.ObjNo.{ObjNo}
use Rattle.ir_forms.specs.declared.runs.TaskNo.{TaskNo}
use Rattle.low_forms.specs.declared.code.Instr.{Instr}
use Rattle.low_forms.specs.declared.code.LowFunc.{LowFunc}
use Rattle.low_forms.specs.declared.code.LowModule.{LowModule}
use Rattle.source_meaning.specs.Values.{maybe}
use Rattle.async_objects.specs.declared.kinds.Kind.{Kind}
use Rattle.async_objects.specs.declared.kinds.Kind.TheVariants.{Token, Value, Group}
use Rattle.async_objects.specs.declared.kinds.State as the_state
use Rattle.async_objects.specs.declared.kinds.State.TheVariants.{Unset, Available, Error}
use Rattle.async_objects.specs.declared.kinds.Val.{Val}
use Rattle.async_objects.specs.declared.kinds.Val.TheVariants as val
use Rattle.async_objects.specs.declared.object.Object.{Object}
use Rattle.async_objects.specs.Objects.{Waking, object_at, is_done, is_error, is_group, is_open, takes_more, created, put, awaited, with_awaiter, counted_down, all_counted_down, set_open, set_to, joined_by, added, with_added}
use Rattle.async_objects.specs.Counts.{CountChange, can_change, freed, without}
use Rattle.task_stack.specs.declared.frames.Frame.{Frame}
use Rattle.task_stack.specs.Frames.{Stack}
use Rattle.task_stack.specs.Local as local
use Rattle.task_stack.specs.Local.{Local, operands, free_step}
use Rattle.task_stack.specs.Registers.{value, number}
use Rattle.task_stack.specs.Shared.{kept, next_of, passed}
use Rattle.step_core.specs.declared.ends.RootEnd.{RootEnd}
use Rattle.step_core.specs.declared.ends.RootEnd.TheVariants.{Returned, FailedAt}
use Rattle.step_core.specs.declared.limits.Limit.{Limit}
use Rattle.step_core.specs.declared.limits.Limit.TheVariants as limit
use Rattle.step_core.specs.declared.limits.Limits.{Limits}
use Rattle.step_core.specs.declared.rows.SharedRow.{SharedRow}
use Rattle.step_core.specs.declared.rows.SharedRow.TheVariants as row
use Rattle.step_core.specs.declared.tasks.Task.{Task}
use Rattle.step_core.specs.Rows.{shared_row}
use Rattle.step_core.specs.State.{Plain, task_at, live_tasks, cells_of, ready, counted, with_task, woken}
use Rattle.step_core.specs.Shared.{Act, Adds, Sets, Took, Stuck, Idle, Stopped, Takes, on, outs, numbers, asked_sizes, can_allocate, cell_there, on_object, on_buffer, where_so, wakes, root_ends, task_ends, adds, adds_by, sets, shared_step}
use Rattle.step_core.specs.Plain.{by_local, ready_step, plain_step, shared_at, changes}
use Rattle.step_core.specs.Core.{Core, overlay, counting, limited, limited_step, limit_at, may_step, core_step}
use Rattle.step_core.specs.Runs.{after, is_local, next_is_local}
use Rattle.step_core.specs.Tasks.{in_table, stack_at, IsReady}
use Rattle.step_core.proofs.Live.{live_over, table_set}
use Rattle.step_core.proofs.TakeLemmas.{woken_length}
use Rattle.run_journal.specs.Within.{step_within}

-- ---- objects keep their number

without_length : (os : List ObjNo) (objects : List Object) → length (without os objects) ≡ length objects
without_length [] objects = refl
without_length (o ∷ os) objects = without_length os (put objects o _) ∙ length-set objects o.0 _

down_length : (failed : Bool) (g : ObjNo) (objects : List Object) → length (counted_down failed g objects).objects ≡ length objects
down_length failed g objects = length-set objects g.0 _

all_down_length : (failed : Bool) (gs : List ObjNo) (objects : List Object) → length (all_counted_down failed gs objects).objects ≡ length objects
all_down_length failed [] objects = refl
all_down_length failed (g ∷ gs) objects = all_down_length failed gs (counted_down failed g objects).objects ∙ down_length failed g objects

set_length : (state : the_state.State) (o : ObjNo) (objects : List Object) → length (set_to state o objects).objects ≡ length objects
set_length state o objects = all_down_length (is_error state) (object_at objects o).memberships (set_open state o objects) ∙ length-set objects o.0 _

joined_length : (state : the_state.State) (element group : ObjNo) (objects : List Object) → length (joined_by state element group objects).objects ≡ length objects
joined_length Unset element group objects = length-set objects element.0 _
joined_length Available element group objects = down_length (is_error Available) group objects
joined_length Error element group objects = down_length (is_error Error) group objects

added_length : (element group : ObjNo) (objects : List Object) → length (added element group objects).objects ≡ length objects
added_length element group objects =
    joined_length (object_at objects element).state element group (put objects group (with_added (object_at objects group))) ∙ length-set objects group.0 _

awaited_at : (b : Bool) (o : ObjNo) (task : TaskNo) (objects : List Object) →
    length (cond b objects (put objects o (with_awaiter task (object_at objects o)))) ≡ length objects
awaited_at true o task objects = refl
awaited_at false o task objects = length-set objects o.0 _

awaited_length : (o : ObjNo) (task : TaskNo) (objects : List Object) → length (awaited o task objects) ≡ length objects
awaited_length o task objects = awaited_at (is_done (object_at objects o)) o task objects

-- ---- a step that is taken makes at most one task, one object and one buffer, and one of a ready task isn't idle

pub record Grew (s after : Plain) : Type 0 where
  pub steps : after.steps ≡ s.steps + 1
  pub tasks : length after.tasks ≤ length s.tasks + 1
  pub objects : length after.objects ≤ length s.objects + 1
  pub buffers : length after.buffers ≤ length s.buffers + 1

abbrev Makes : Plain → Took Plain → Type 0
Makes s Stuck = Unit {0}
Makes s Idle = ⊥
Makes s (Stopped l) = Unit {0}
Makes s (Takes after wakes act) = Grew s after

put_grew : (s : Plain) (objects : List Object) (buffers : List (List ℕ)) (root_end : Option RootEnd) (t : ℕ) (task : Option Task) →
    length objects ≤ length s.objects + 1 → length buffers ≤ length s.buffers + 1 →
    Grew s (record { tasks = slice_set s.tasks t task; objects = objects; buffers = buffers; arguments = s.arguments; root_end = root_end; steps = s.steps + 1 })
put_grew s objects buffers root_end t task few cells =
    record { steps = refl; tasks = (let same = length-set s.tasks t task in omega (arith, same)); objects = few; buffers = cells }

goes_grew : (s : Plain) (t : ℕ) (task : Option Task) → Grew s (counted (with_task s t task))
goes_grew s t task = put_grew s s.objects s.buffers s.root_end t task (omega arith) (omega arith)

wakes_grew : (s : Plain) (t : ℕ) (stack : Stack) (w : Waking) (act : Act) → length w.objects ≡ length s.objects → Makes s (wakes s t stack w act)
wakes_grew s t stack w act same = record {
  steps = refl;
  tasks = (let long = woken_length w.tasks (slice_set s.tasks t (Some (ready stack))) ∙ length-set s.tasks t (Some (ready stack)) in omega (arith, long));
  objects = omega (arith, same);
  buffers = omega arith;
}

object_makes : (s : Plain) (v : Val) (go : ObjNo → Took Plain) → ((o : ObjNo) → Makes s (go o)) → Makes s (on_object v go)
object_makes s (val.Number n) go all = tt
object_makes s (val.Buffer b rank dims) go all = tt
object_makes s (val.Object o) go all = all o

buffer_makes : (s : Plain) (v : Val) (go : ℕ → List ℕ → Took Plain) → ((b : ℕ) (dims : List ℕ) → Makes s (go b dims)) → Makes s (on_buffer v go)
buffer_makes s (val.Number n) go all = tt
buffer_makes s (val.Buffer b rank dims) go all = all b _
buffer_makes s (val.Object o) go all = tt

maybe_makes : {X : Type 0} (s : Plain) (o : Option X) (go : X → Took Plain) → ((x : X) → Makes s (go x)) → Makes s (maybe Stuck go o)
maybe_makes s None go all = tt
maybe_makes s (Some x) go all = all x

so_makes : (s : Plain) (b : Bool) (took : Took Plain) → Makes s took → Makes s (where_so b took)
so_makes s true took makes = makes
so_makes s false took makes = tt

root_makes : (s : Plain) (t : ℕ) (below : List Frame) (is_root : Bool) (e : RootEnd) → Makes s (root_ends s t below is_root e)
root_makes s t [] true e = put_grew s s.objects s.buffers (Some e) t None (omega arith) (omega arith)
root_makes s t [] false e = tt
root_makes s t (frame ∷ below) true e = tt
root_makes s t (frame ∷ below) false e = tt

task_makes : (s : Plain) (t : ℕ) (below : List Frame) (is_root : Bool) → Makes s (task_ends s t below is_root)
task_makes s t [] true = tt
task_makes s t [] false = goes_grew s t None
task_makes s t (frame ∷ below) true = tt
task_makes s t (frame ∷ below) false = tt

objects_makes : (s : Plain) (objects : List Object) (t : ℕ) (task : Option Task) → length objects ≡ length s.objects →
    Grew s (record { tasks = slice_set s.tasks t task; objects = objects; buffers = s.buffers; arguments = s.arguments; root_end = s.root_end; steps = s.steps + 1 })
objects_makes s objects t task same = put_grew s objects s.buffers s.root_end t task (omega (arith, same)) (omega arith)

more_objects : (s : Plain) (x : Object) (t : ℕ) (task : Option Task) →
    Grew s (record { tasks = slice_set s.tasks t task; objects = s.objects ++ x ∷ []; buffers = s.buffers; arguments = s.arguments; root_end = s.root_end; steps = s.steps + 1 })
more_objects s x t task =
    put_grew s (s.objects ++ x ∷ []) s.buffers s.root_end t task (let long = length-append s.objects (x ∷ []) in omega (arith, long)) (omega arith)

same_objects : (s : Plain) (o : ObjNo) (x : Object) (t : ℕ) (task : Option Task) →
    Grew s (record { tasks = slice_set s.tasks t task; objects = slice_set s.objects o.0 x; buffers = s.buffers; arguments = s.arguments; root_end = s.root_end; steps = s.steps + 1 })
same_objects s o x t task = objects_makes s (slice_set s.objects o.0 x) t task (length-set s.objects o.0 x)

cells_makes : (s : Plain) (buffers : List (List ℕ)) (t : ℕ) (task : Option Task) → length buffers ≤ length s.buffers + 1 →
    Grew s (record { tasks = slice_set s.tasks t task; objects = s.objects; buffers = buffers; arguments = s.arguments; root_end = s.root_end; steps = s.steps + 1 })
cells_makes s buffers t task few = put_grew s s.objects buffers s.root_end t task (omega arith) few

more_cells : (s : Plain) (cells : List ℕ) (t : ℕ) (task : Option Task) →
    Grew s (record { tasks = slice_set s.tasks t task; objects = s.objects; buffers = s.buffers ++ cells ∷ []; arguments = s.arguments; root_end = s.root_end; steps = s.steps + 1 })
more_cells s cells t task = cells_makes s (s.buffers ++ cells ∷ []) t task (let long = length-append s.buffers (cells ∷ []) in omega (arith, long))

same_cells : (s : Plain) (b : ℕ) (cells : List ℕ) (t : ℕ) (task : Option Task) →
    Grew s (record { tasks = slice_set s.tasks t task; objects = s.objects; buffers = slice_set s.buffers b cells; arguments = s.arguments; root_end = s.root_end; steps = s.steps + 1 })
same_cells s b cells t task = cells_makes s (slice_set s.buffers b cells) t task (let long = length-set s.buffers b cells in omega (arith, long))

resumes_grew : (s : Plain) (t : ℕ) (task made : Option Task) →
    Grew s (record { tasks = slice_set s.tasks t task ++ made ∷ []; objects = s.objects; buffers = s.buffers; arguments = s.arguments; root_end = s.root_end; steps = s.steps + 1 })
resumes_grew s t task made = record {
  steps = refl;
  tasks = (let long = length-append (slice_set s.tasks t task) (made ∷ []) in let same = length-set s.tasks t task in omega (arith, long, same));
  objects = omega arith;
  buffers = omega arith;
}

full_or : (s : Plain) (b : Bool) (l : Limit) (took : Took Plain) → Makes s took → Makes s (cond b took (Stopped l))
full_or s true l took makes = makes
full_or s false l took makes = tt

adds_makes : (k : Kind) (s : Plain) (t : ℕ) (stack : Stack) (i : Instr) (x g : ObjNo) → Makes s (adds_by k s t stack i x g)
adds_makes Token s t stack i x g = tt
adds_makes Value s t stack i x g = tt
adds_makes (Group size) s t stack i x g =
    let rank : ℕ = (object_at s.objects g).members.added in
    full_or s (takes_more (object_at s.objects g)) (limit.Group size) _
    (wakes_grew s t (on stack i (val.Number rank ∷ [])) (added x g s.objects) (Adds g x rank) (added_length x g s.objects))

add_makes : (b : Bool) (s : Plain) (t : ℕ) (stack : Stack) (i : Instr) (x g : ObjNo) →
    Makes s (cond b Stuck (adds_by (object_at s.objects g).kind s t stack i x g))
add_makes true s t stack i x g = tt
add_makes false s t stack i x g = adds_makes (object_at s.objects g).kind s t stack i x g

sets_makes : (state : the_state.State) (s : Plain) (t : ℕ) (stack : Stack) (o : ObjNo) → Makes s (sets state s t stack o)
sets_makes state s t stack o =
    so_makes s (is_open (object_at s.objects o)) (wakes s t (passed stack) (set_to state o s.objects) (Sets o state))
    (wakes_grew s t (passed stack) (set_to state o s.objects) (Sets o state) (set_length state o s.objects))

awaits_makes : (s : Plain) (t : ℕ) (task : Option Task) (o : ObjNo) (awaiter : TaskNo) →
    Grew s (record { tasks = slice_set s.tasks t task; objects = awaited o awaiter s.objects; buffers = s.buffers; arguments = s.arguments; root_end = s.root_end; steps = s.steps + 1 })
awaits_makes s t task o awaiter = objects_makes s (awaited o awaiter s.objects) t task (awaited_length o awaiter s.objects)

shared_makes : (r : SharedRow) (f : LowFunc) (i : Instr) (vs : List Val) (s : Plain) (t : ℕ) (stack : Stack) → Makes s (shared_step r f i vs s t stack)
shared_makes row.Allocate f i vs s t stack = so_makes s (can_allocate (asked_sizes f i vs)) _ (more_cells s _ t _)
shared_makes row.Deallocate f i vs s t stack = goes_grew s t _
shared_makes row.LoadCell f i vs s t stack =
    buffer_makes s (value vs 0) _ (λ b dims. maybe_makes s (cell_there (cells_of s b) dims (numbers (drop 1 vs))) _ (λ c. goes_grew s t _))
shared_makes row.StoreCell f i vs s t stack =
    buffer_makes s (value vs 1) _ (λ b dims. maybe_makes s (cell_there (cells_of s b) dims (numbers (drop 2 vs))) _ (λ c. same_cells s b _ t _))
shared_makes row.Return f i vs s t stack = root_makes s t stack.below stack.is_root (Returned (outs f.results vs))
shared_makes row.Fail f i vs s t stack = root_makes s t stack.below stack.is_root (FailedAt (number vs 0 % 2 ^ 32))
shared_makes row.Finish f i vs s t stack = task_makes s t stack.below stack.is_root
shared_makes row.Create f i vs s t stack = more_objects s _ t _
shared_makes row.CreateGroup f i vs s t stack = more_objects s _ t _
shared_makes row.AddToGroup f i vs s t stack =
    object_makes s (value vs 0) _ (λ x. object_makes s (value vs 1) _ (λ g. add_makes (is_group (object_at s.objects x).kind) s t stack i x g))
shared_makes row.Resume f i vs s t stack = maybe_makes s (kept stack) _ (λ copy. resumes_grew s t _ _)
shared_makes row.Await f i vs s t stack = object_makes s (value vs 0) _ (λ o. awaits_makes s t _ o _)
shared_makes row.AwaitAndResume f i vs s t stack = maybe_makes s (kept stack) _ (λ copy. object_makes s (value vs 0) _ (λ o. awaits_makes s t _ o _))
shared_makes row.IsError f i vs s t stack = object_makes s (value vs 0) _ (λ o. so_makes s (is_done (object_at s.objects o)) _ (goes_grew s t _))
shared_makes row.Store f i vs s t stack =
    object_makes s (value vs 1) _ (λ o. so_makes s (is_open (object_at s.objects o)) _ (same_objects s o _ t _))
shared_makes row.Load f i vs s t stack = object_makes s (value vs 0) _ (λ o. maybe_makes s (object_at s.objects o).payload _ (λ v. goes_grew s t _))
shared_makes row.SetAvailable f i vs s t stack = object_makes s (value vs 0) _ (λ o. sets_makes Available s t stack o)
shared_makes row.SetError f i vs s t stack = object_makes s (value vs 0) _ (λ o. sets_makes Error s t stack o)
shared_makes row.Absent f i vs s t stack = tt

local_makes : (l : Local) (code : LowModule) (s : Plain) (t : ℕ) (stack : Stack) → Makes s (by_local l code s t stack)
local_makes (local.Done next counts) code s t stack = goes_grew s t _
local_makes local.Shared code s t stack = maybe_makes s (next_of code stack) _ (λ n. shared_makes (shared_row n.instr.kind) n.func n.instr (operands stack n.instr) s t stack)
local_makes local.Stuck code s t stack = tt
local_makes local.Deep code s t stack = tt

makes_grew : (s : Plain) (took : Took Plain) (next : Plain) (ws : List TaskNo) (act : Act) → Makes s took → took ≡ Takes next ws act → Grew s next
makes_grew s took next ws act makes is = subst (Makes s) is makes

ready_grew : (code : LowModule) (s : Plain) (t : ℕ) (stack : Stack) (parked : Option ObjNo) (next : Plain) (ws : List TaskNo) (act : Act) →
    maybe (by_local (free_step code stack) code s t stack) (λ o. Idle) parked ≡ Takes next ws act → Grew s next
ready_grew code s t stack None next ws act is = makes_grew s _ next ws act (local_makes (free_step code stack) code s t stack) is
ready_grew code s t stack (Some o) next ws act is = absurd (cc)

plain_at : (code : LowModule) (s : Plain) (t : ℕ) (o : Option Task) (next : Plain) (ws : List TaskNo) (act : Act) →
    maybe Idle (ready_step code s t) o ≡ Takes next ws act → Grew s next
plain_at code s t None next ws act is = absurd (cc)
plain_at code s t (Some task) next ws act is = ready_grew code s t task.stack task.parked next ws act is

plain_grew : (code : LowModule) (s : Plain) (t : ℕ) (next : Plain) (ws : List TaskNo) (act : Act) → plain_step code s t ≡ Takes next ws act → Grew s next
plain_grew code s t next ws act is = plain_at code s t (task_at s t) next ws act is

-- ---- counts and limits over a plain step

changed_or : (b : Bool) (made : Core) (ms ws : List TaskNo) (a act : Act) (next : Core) → cond b (Takes made ms a) Stuck ≡ Takes next ws act → (next ≡ made) × (ms ≡ ws) × (a ≡ act)
changed_or true made ms ws a act next is = (cc, cc, cc)
changed_or false made ms ws a act next is = absurd (cc)

pub overlay_takes : (may : Bool) (c : Core) (cs : List CountChange) (took : Took Plain) (next : Core) (ws : List TaskNo) (act : Act) → overlay may c cs took ≡ Takes next ws act →
    (made : Plain) × (took ≡ Takes made ws act) × (next ≡ counting c cs made)
overlay_takes may c cs Stuck next ws act is = absurd (cc)
overlay_takes may c cs Idle next ws act is = absurd (cc)
overlay_takes true c cs (Stopped l) next ws act is = absurd (cc)
overlay_takes false c cs (Stopped l) next ws act is = absurd (cc)
overlay_takes true c cs (Takes made ms a) next ws act is =
    let both = changed_or (can_change cs c.counts) (counting c cs made) ms ws a act next is in
    (made, (let w = both.1 in let x = both.2 in cc), both.0)
overlay_takes false c cs (Takes made ms a) next ws act is = absurd (cc)

pub limited_takes : (passed : Option Limit) (took : Took Core) (next : Core) (ws : List TaskNo) (act : Act) → limited passed took ≡ Takes next ws act → took ≡ Takes next ws act
limited_takes passed Stuck next ws act is = is
limited_takes passed Idle next ws act is = is
limited_takes passed (Stopped l) next ws act is = is
limited_takes None (Takes made ms a) next ws act is = is
limited_takes (Some l) (Takes made ms a) next ws act is = absurd (cc)

pub after_takes : (took : Took Core) (next : Core) → after took ≡ Some next → (ws : List TaskNo) × (act : Act) × (took ≡ Takes next ws act)
after_takes Stuck next is = absurd (cc)
after_takes Idle next is = absurd (cc)
after_takes (Stopped l) next is = absurd (cc)
after_takes (Takes made ms a) next is = (ms, a, (let same : made ≡ next = cc in ap (λ x. Takes x ms a) same))

-- the plain step under a step that is taken
pub record Under (code : LowModule) (c next : Core) (t : ℕ) : Type 0 where
  pub made : Plain
  pub wakes : List TaskNo
  pub act : Act
  pub plain : plain_step code c.plain t ≡ Takes made wakes act
  pub core : core_step code c t ≡ Takes next wakes act
  pub counts : next ≡ counting c (changes code c.plain t) made

pub under : (l : Limits) (code : LowModule) (c next : Core) (t : ℕ) → step_within l code t c ≡ Some next → Under code c next t
under l code c next t is =
    let took = after_takes (limited_step l code c t) next is in
    let core : core_step code c t ≡ Takes next took.0 took.1 = limited_takes (limit_at l code c t) (core_step code c t) next took.0 took.1 took.2 in
    let plain = overlay_takes (may_step code c t) c (changes code c.plain t) (plain_step code c.plain t) next took.0 took.1 core in
    record { made = plain.0; wakes = took.0; act = took.1; plain = plain.1; core = core; counts = plain.2 }

-- a step that is taken within limits is taken without them
pub step_free : (l : Limits) (code : LowModule) (c next : Core) (t : ℕ) → step_within l code t c ≡ Some next → after (core_step code c t) ≡ Some next
step_free l code c next t is = let u = under l code c next t is in ap after u.core

pub record Grows (c next : Core) : Type 0 where
  pub steps : next.plain.steps ≡ c.plain.steps + 1
  pub tasks : length next.plain.tasks ≤ length c.plain.tasks + 1
  pub objects : length next.plain.objects ≤ length c.plain.objects + 1
  pub buffers : length next.plain.buffers ≤ length c.plain.buffers + 1

counting_grows : (c : Core) (cs : List CountChange) (made : Plain) → Grew c.plain made → Grows c (counting c cs made)
counting_grows c cs made grew = record {
  steps = grew.steps;
  tasks = grew.tasks;
  objects = (let same = without_length (freed cs c.counts) made.objects in omega (arith, same, grew.objects));
  buffers = grew.buffers;
}

pub step_grows : (l : Limits) (code : LowModule) (c next : Core) (t : ℕ) → step_within l code t c ≡ Some next → Grows c next
step_grows l code c next t is =
    let u = under l code c next t is in
    subst (Grows c) (sym u.counts) (counting_grows c (changes code c.plain t) u.made (plain_grew code c.plain t u.made u.wakes u.act u.plain))

-- ---- local steps

-- so many local steps were taken: nothing is new, and the task is there and ready
pub record OnlySteps (c next : Core) (t n : ℕ) : Type 0 where
  pub steps : next.plain.steps ≡ c.plain.steps + n
  pub tasks : length next.plain.tasks ≡ length c.plain.tasks
  pub objects : length next.plain.objects ≡ length c.plain.objects
  pub buffers : length next.plain.buffers ≡ length c.plain.buffers
  pub live : live_tasks next.plain.tasks ≡ live_tasks c.plain.tasks
  pub ready : IsReady c.plain.tasks t → IsReady next.plain.tasks t

pub no_steps : (c : Core) (t : ℕ) → OnlySteps c c t 0
no_steps c t = record { steps = omega arith; tasks = refl; objects = refl; buffers = refl; live = refl; ready = λ r. r }

pub more_steps : (c d e : Core) (t n m : ℕ) → OnlySteps c d t n → OnlySteps d e t m → OnlySteps c e t (n + m)
more_steps c d e t n m first second = record {
  steps = omega (arith, first.steps, second.steps);
  tasks = second.tasks ∙ first.tasks;
  objects = second.objects ∙ first.objects;
  buffers = second.buffers ∙ first.buffers;
  live = second.live ∙ first.live;
  ready = λ r. second.ready (first.ready r);
}

record Put (s made : Plain) (t : ℕ) : Type 0 where
  task : Task
  there : in_table s.tasks t ≡ Some task
  stack : Stack
  is : made ≡ counted (with_task s t (Some (ready stack)))

local_put : (l : Local) (code : LowModule) (s : Plain) (t : ℕ) (task : Task) (made : Plain) (ws : List TaskNo) (act : Act) → in_table s.tasks t ≡ Some task →
    is_local l ≡ true → by_local l code s t task.stack ≡ Takes made ws act → Put s made t
local_put (local.Done next counts) code s t task made ws act there is took = record { task = task; there = there; stack = next; is = cc }
local_put local.Shared code s t task made ws act there is took = absurd (cc)
local_put local.Stuck code s t task made ws act there is took = absurd (cc)
local_put local.Deep code s t task made ws act there is took = absurd (cc)

parked_put : (code : LowModule) (s : Plain) (t : ℕ) (task : Task) (parked : Option ObjNo) (made : Plain) (ws : List TaskNo) (act : Act) → in_table s.tasks t ≡ Some task →
    is_local (free_step code task.stack) ≡ true → maybe (by_local (free_step code task.stack) code s t task.stack) (λ o. Idle) parked ≡ Takes made ws act → Put s made t
parked_put code s t task None made ws act there is took = local_put (free_step code task.stack) code s t task made ws act there is took
parked_put code s t task (Some o) made ws act there is took = absurd (cc)

put_at : (code : LowModule) (s : Plain) (t : ℕ) (o : Option Task) (made : Plain) (ws : List TaskNo) (act : Act) → in_table s.tasks t ≡ o →
    maybe false (λ task. is_local (free_step code task.stack)) o ≡ true → maybe Idle (ready_step code s t) o ≡ Takes made ws act → Put s made t
put_at code s t None made ws act there is took = absurd (cc)
put_at code s t (Some task) made ws act there is took = parked_put code s t task task.parked made ws act there is took

counting_only : (c : Core) (cs : List CountChange) (t : ℕ) (task : Task) (stack : Stack) → in_table c.plain.tasks t ≡ Some task →
    OnlySteps c (counting c cs (counted (with_task c.plain t (Some (ready stack))))) t 1
counting_only c cs t task stack there = record {
  steps = refl;
  tasks = length-set c.plain.tasks t (Some (ready stack));
  objects = without_length (freed cs c.counts) c.plain.objects;
  buffers = refl;
  live = live_over c.plain.tasks t task (ready stack) there;
  ready = λ r. (let put = table_set c.plain.tasks t task (Some (ready stack)) there in rw put refl);
}

pub local_only : (l : Limits) (code : LowModule) (c next : Core) (t : ℕ) → next_is_local code c t ≡ true → step_within l code t c ≡ Some next → OnlySteps c next t 1
local_only l code c next t is step =
    let u = under l code c next t step in
    let p = put_at code c.plain t (task_at c.plain t) u.made u.wakes u.act refl is u.plain in
    let same : next ≡ counting c (changes code c.plain t) (counted (with_task c.plain t (Some (ready p.stack)))) =
    u.counts ∙ ap (counting c (changes code c.plain t)) p.is in
    subst (λ x. OnlySteps c x t 1) (sym same) (counting_only c (changes code c.plain t) t p.task p.stack p.there)

-- ---- a ready task isn't idle

changed_idle : (b : Bool) (made : Core) (ms : List TaskNo) (a : Act) → cond b (Takes made ms a) Stuck ≡ Idle → ⊥
changed_idle true made ms a is = cc
changed_idle false made ms a is = cc

overlay_idle : (may : Bool) (c : Core) (cs : List CountChange) (took : Took Plain) → overlay may c cs took ≡ Idle → took ≡ Idle
overlay_idle may c cs Stuck is = cc
overlay_idle may c cs Idle is = refl
overlay_idle true c cs (Stopped l) is = cc
overlay_idle false c cs (Stopped l) is = cc
overlay_idle true c cs (Takes made ms a) is = absurd (changed_idle (can_change cs c.counts) (counting c cs made) ms a is)
overlay_idle false c cs (Takes made ms a) is = cc

limited_idle : (passed : Option Limit) (took : Took Core) → limited passed took ≡ Idle → took ≡ Idle
limited_idle passed Stuck is = cc
limited_idle passed Idle is = refl
limited_idle passed (Stopped l) is = cc
limited_idle None (Takes made ms a) is = cc
limited_idle (Some l) (Takes made ms a) is = cc

pub never_idle : (l : Limits) (code : LowModule) (c : Core) (t : ℕ) → IsReady c.plain.tasks t → limited_step l code c t ≡ Idle → ⊥
never_idle l code c t r is =
    let plain : plain_step code c.plain t ≡ Idle =
    overlay_idle (may_step code c t) c (changes code c.plain t) (plain_step code c.plain t) (limited_idle (limit_at l code c t) (core_step code c t) is) in
    let here : plain_step code c.plain t ≡ by_local (free_step code (stack_at c.plain.tasks t)) code c.plain t (stack_at c.plain.tasks t) = ap (λ o. maybe Idle (ready_step code c.plain t) o) r in
    subst (Makes c.plain) (sym here ∙ plain) (local_makes (free_step code (stack_at c.plain.tasks t)) code c.plain t (stack_at c.plain.tasks t))
