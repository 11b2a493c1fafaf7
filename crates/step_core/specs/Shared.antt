-- Shared steps, counts of references aside. A step sees the state, the stack of its task, and the next instruction.
use Rattle.std.specs.Prelude.{ℕ, ◌%◌, ◌^◌, nat_le, cond, Bool, true, false, List, [], ◌∷◌, ◌++◌, map, drop, length, replicate, Option, Some, None, slice_get, slice_set}
use Rattle.ir_forms.specs.declared.runs.ObjNo.{ObjNo}
use Rattle.ir_forms.specs.declared.runs.Out.{Out}
use Rattle.ir_forms.specs.declared.runs.TaskNo.{TaskNo}
use Rattle.ir_forms.specs.declared.types.Ty.{Ty}
use Rattle.ir_forms.specs.declared.types.Ty.TheVariants as ty
use Rattle.ir_forms.specs.Shapes.{product, most_cells}
use Rattle.low_forms.specs.declared.code.Instr.{Instr}
use Rattle.low_forms.specs.declared.code.LowFunc.{LowFunc}
use Rattle.low_forms.specs.Registers.{type_at}
use Rattle.source_meaning.specs.Parts.{dims_of}
use Rattle.source_meaning.specs.Rows.{bit, cell_from, sizes}
use Rattle.source_meaning.specs.Start.{out_type}
use Rattle.source_meaning.specs.Values.{maybe}
use Rattle.async_objects.specs.declared.kinds.Kind.{Kind}
use Rattle.async_objects.specs.declared.kinds.Kind.TheVariants as kind
use Rattle.async_objects.specs.declared.kinds.State as the
use Rattle.async_objects.specs.declared.kinds.State.TheVariants.{Available, Error}
use Rattle.async_objects.specs.declared.kinds.Val.{Val}
use Rattle.async_objects.specs.declared.kinds.Val.TheVariants.{Number, Buffer, Object}
use Rattle.async_objects.specs.Objects.{Waking, object_at, is_group, is_done, is_error, is_open, state_of, takes_more, created, stored, awaited, set_to, added}
use Rattle.task_stack.specs.declared.frames.Activation.{Activation}
use Rattle.task_stack.specs.declared.frames.Frame.{Frame}
use Rattle.task_stack.specs.Registers.{value, number, dims_in, number_in}
use Rattle.task_stack.specs.Frames.{Stack, copied_stack}
use Rattle.task_stack.specs.Shared.{moved, passed, kept, resumed, becomes}
use Rattle.step_core.specs.declared.limits.Limit.{Limit}
use Rattle.step_core.specs.declared.limits.Limit.TheVariants as limit
use Rattle.step_core.specs.declared.rows.SharedRow.{SharedRow}
use Rattle.step_core.specs.declared.rows.SharedRow.TheVariants as row
use Rattle.step_core.specs.declared.ends.RootEnd.{RootEnd}
use Rattle.step_core.specs.declared.ends.RootEnd.TheVariants.{Returned, FailedAt}
use Rattle.step_core.specs.State.{Plain, with_task, with_objects, with_buffers, counted, ready, woken, cells_of, buffer_val}

-- what a step does that others can see, by numbers
pub data Act : Type 0 where
  Nothing : Act
  Reads : (buffer cell : ℕ) → Act
  Writes : (buffer cell : ℕ) → Act
  Allocates : (buffer cells : ℕ) → Act
  Creates : (object : ObjNo) → Act
  Adds : (group element : ObjNo) (rank : ℕ) → Act
  Launches : (task : TaskNo) → Act
  -- it sees whether an object is in error
  Looks : (object : ObjNo) → Act
  Sets : (object : ObjNo) (state : the.State) → Act
  Ends : Act

-- A step of a task: what it needs doesn't hold, or the task isn't there or is parked, or a limit stops it, or it is taken.
-- Then some tasks are new or ready again, in order.
pub data Took (S : Type 0) : Type 0 where
  Stuck : Took S
  Idle : Took S
  Stopped : (l : Limit) → Took S
  Takes : (after : S) (wakes : List TaskNo) (act : Act) → Took S

-- ---- how a task goes on

-- behind its instruction, with these results
abbrev pub on : Stack → Instr → List Val → Stack
on stack i vs = moved i.results vs stack

-- the task goes on, in a state in which all else is changed
abbrev pub goes_on : Plain → ℕ → Stack → Act → Took Plain
goes_on s t stack act = Takes (counted (with_task s t (Some (ready stack)))) [] act

-- and these others are ready again
abbrev pub wakes : Plain → ℕ → Stack → Waking → Act → Took Plain
wakes s t stack w act =
    let after : Plain = counted (with_task (with_objects s w.objects) t (Some (ready stack))) in
    Takes (record after { tasks = woken w.tasks after.tasks }) w.tasks act

-- ---- what an instruction names

abbrev pub on_object : Val → (ObjNo → Took Plain) → Took Plain
on_object (Object o) go = go o
on_object _ go = Stuck

abbrev pub on_buffer : Val → (ℕ → List ℕ → Took Plain) → Took Plain
on_buffer (Buffer b rank dims) go = go b (dims_in (Buffer b rank dims))
on_buffer _ go = Stuck

-- it goes on where this holds
abbrev pub where_so : Bool → Took Plain → Took Plain
where_so so go = cond so go Stuck

-- ---- cells

abbrev pub numbers : List Val → List ℕ
numbers vs = map number_in vs

-- the sizes that an allocation asks for
abbrev pub asked_sizes : LowFunc → Instr → List Val → List ℕ
asked_sizes f i vs = sizes (dims_of (type_at f i.results 0)) (numbers vs)

abbrev pub all_within : ℕ → List ℕ → Bool
all_within most [] = true
all_within most (n ∷ ns) = cond (nat_le n most) (all_within most ns) false

-- at most four, none of them too large
abbrev pub can_allocate : List ℕ → Bool
can_allocate ns = cond (nat_le (length ns) 4) (all_within most_cells ns) false

abbrev pub allocates : List ℕ → Plain → ℕ → Stack → Instr → Took Plain
allocates ns s t stack i = where_so (can_allocate ns)
    (goes_on (with_buffers s (s.buffers ++ replicate (product ns) 0 ∷ [])) t (on stack i (buffer_val (length s.buffers) ns ∷ []))
    (Allocates (length s.buffers) (product ns)))

-- the number of a cell that is there
abbrev pub cell_there : List ℕ → List ℕ → List ℕ → Option (ℕ × ℕ)
cell_there cells dims indices = maybe None (λ c. maybe None (λ n. Some (c, n)) (slice_get cells c)) (cell_from 0 dims indices)

abbrev pub loads_cell : Plain → ℕ → Stack → Instr → List Val → Took Plain
loads_cell s t stack i vs = on_buffer (value vs 0)
    (λ b dims. maybe Stuck (λ c. goes_on s t (on stack i (Number c.1 ∷ [])) (Reads b c.0)) (cell_there (cells_of s b) dims (numbers (drop 1 vs))))

abbrev pub stores_cell : Plain → ℕ → Stack → Instr → List Val → Took Plain
stores_cell s t stack i vs = on_buffer (value vs 1)
    (λ b dims. maybe Stuck
    (λ c. goes_on (with_buffers s (slice_set s.buffers b (slice_set (cells_of s b) c.0 (number vs 0)))) t (passed stack) (Writes b c.0))
    (cell_there (cells_of s b) dims (numbers (drop 2 vs))))

-- ---- ends

-- numbers of these types
abbrev pub outs : List Ty → List Val → List Out
outs [] vs = []
outs (t ∷ ts) [] = []
outs (t ∷ ts) (v ∷ vs) = record { ty = out_type t; bits = number_in v } ∷ outs ts vs

-- the root's last frame ends so
abbrev pub root_ends : Plain → ℕ → List Frame → Bool → RootEnd → Took Plain
root_ends s t [] true e = Takes (record (counted (with_task s t None)) { root_end = Some e }) [] Ends
root_ends s t _ _ e = Stuck

-- the only frame of a launched task ends
abbrev pub task_ends : Plain → ℕ → List Frame → Bool → Took Plain
task_ends s t [] false = Takes (counted (with_task s t None)) [] Ends
task_ends s t _ _ = Stuck

-- ---- objects

-- a token, or a value, by the type of its register
abbrev pub kind_of : Option Ty → Kind
kind_of (Some (ty.Value v)) = kind.Value
kind_of _ = kind.Token

abbrev pub creates : Kind → Plain → ℕ → Stack → Instr → Took Plain
creates k s t stack i =
    let o : ObjNo = record { 0 = length s.objects } in
    goes_on (with_objects s (created k s.objects)) t (on stack i (Object o ∷ [])) (Creates o)

-- the task goes on as this, once the object is done
abbrev pub awaits : Plain → ℕ → Stack → ObjNo → Took Plain
awaits s t stack o =
    let parked : Option ObjNo = cond (is_done (object_at s.objects o)) None (Some o) in
    Takes (counted (with_task (with_objects s (awaited o (record { 0 = t }) s.objects)) t (Some (record { stack = stack; parked = parked })))) [] Nothing

abbrev pub looks : Plain → ℕ → Stack → Instr → ObjNo → Took Plain
looks s t stack i o = where_so (is_done (object_at s.objects o))
    (goes_on s t (on stack i (Number (bit (is_error (state_of (object_at s.objects o)))) ∷ [])) (Looks o))

abbrev pub stores : Plain → ℕ → Stack → Val → ObjNo → Took Plain
stores s t stack v o = where_so (is_open (object_at s.objects o)) (goes_on (with_objects s (stored o v s.objects)) t (passed stack) Nothing)

abbrev pub loads : Plain → ℕ → Stack → Instr → ObjNo → Took Plain
loads s t stack i o = maybe Stuck (λ v. goes_on s t (on stack i (v ∷ [])) Nothing) (object_at s.objects o).payload

abbrev pub sets : the.State → Plain → ℕ → Stack → ObjNo → Took Plain
sets state s t stack o = where_so (is_open (object_at s.objects o)) (wakes s t (passed stack) (set_to state o s.objects) (Sets o state))

-- a full group stops the run
abbrev pub adds_by : Kind → Plain → ℕ → Stack → Instr → ObjNo → ObjNo → Took Plain
adds_by (kind.Group size) s t stack i x g =
    let rank : ℕ = (object_at s.objects g).members.added in
    cond (takes_more (object_at s.objects g)) (wakes s t (on stack i (Number rank ∷ [])) (added x g s.objects) (Adds g x rank)) (Stopped (limit.Group size))
adds_by _ s t stack i x g = Stuck

-- a group is no element
abbrev pub adds : Plain → ℕ → Stack → Instr → ObjNo → ObjNo → Took Plain
adds s t stack i x g = cond (is_group (object_at s.objects x).kind) Stuck (adds_by (object_at s.objects g).kind s t stack i x g)

-- the kept copy is a new task, with the next number
abbrev pub resumes : Plain → ℕ → Stack → Activation → Took Plain
resumes s t stack copy =
    let new : TaskNo = record { 0 = length s.tasks } in
    let after : Plain = counted (with_task s t (Some (ready (resumed stack)))) in
    Takes (record after { tasks = after.tasks ++ Some (ready (copied_stack copy)) ∷ [] }) (new ∷ []) (Launches new)

-- ---- by the next instruction

abbrev pub shared_step : SharedRow → LowFunc → Instr → List Val → Plain → ℕ → Stack → Took Plain
shared_step row.Allocate f i vs s t stack = allocates (asked_sizes f i vs) s t stack i
shared_step row.Deallocate f i vs s t stack = goes_on s t (passed stack) Nothing
shared_step row.LoadCell f i vs s t stack = loads_cell s t stack i vs
shared_step row.StoreCell f i vs s t stack = stores_cell s t stack i vs
shared_step row.Return f i vs s t stack = root_ends s t stack.below stack.is_root (Returned (outs f.results vs))
shared_step row.Fail f i vs s t stack = root_ends s t stack.below stack.is_root (FailedAt (number vs 0 % 2 ^ 32))
shared_step row.Finish f i vs s t stack = task_ends s t stack.below stack.is_root
shared_step row.Create f i vs s t stack = creates (kind_of (type_at f i.results 0)) s t stack i
shared_step row.CreateGroup f i vs s t stack = creates (kind.Group (number vs 0)) s t stack i
shared_step row.AddToGroup f i vs s t stack = on_object (value vs 0) (λ x. on_object (value vs 1) (λ g. adds s t stack i x g))
shared_step row.Resume f i vs s t stack = maybe Stuck (resumes s t stack) (kept stack)
shared_step row.Await f i vs s t stack = on_object (value vs 0) (awaits s t (passed stack))
shared_step row.AwaitAndResume f i vs s t stack =
    maybe Stuck (λ copy. on_object (value vs 0) (awaits s t (becomes copy stack))) (kept stack)
shared_step row.IsError f i vs s t stack = on_object (value vs 0) (looks s t stack i)
shared_step row.Store f i vs s t stack = on_object (value vs 1) (stores s t stack (value vs 0))
shared_step row.Load f i vs s t stack = on_object (value vs 0) (loads s t stack i)
shared_step row.SetAvailable f i vs s t stack = on_object (value vs 0) (sets Available s t stack)
shared_step row.SetError f i vs s t stack = on_object (value vs 0) (sets Error s t stack)
shared_step row.Absent f i vs s t stack = Stuck
