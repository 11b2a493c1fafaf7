-- Whether a task can go on: its next step is taken, or a limit stops it. And what each shared row needs for that, as a
-- function of what the row sees.
use Rattle.std.specs.Option.{is_some}
use Rattle.std.specs.Prelude.{ℕ, ◌+◌, ◌-◌, ◌^◌, ◌<◌, nat_le, cond, Bool, true, false, List, [], drop, length, Option, Some, None}
use Rattle.low_forms.specs.declared.code.Instr.{Instr}
use Rattle.low_forms.specs.declared.code.LowFunc.{LowFunc}
use Rattle.low_forms.specs.declared.code.LowModule.{LowModule}
use Rattle.source_meaning.specs.Values.{maybe}
use Rattle.ir_forms.specs.declared.runs.ObjNo.{ObjNo}
use Rattle.async_objects.specs.declared.kinds.Val.{Val}
use Rattle.async_objects.specs.declared.object.Object.{Object}
use Rattle.async_objects.specs.Objects.{object_at, is_group, is_done, is_open}
use Rattle.async_objects.specs.Counts.{count_at, is_there}
use Rattle.task_stack.specs.declared.frames.Frame.{Frame}
use Rattle.task_stack.specs.Registers.{value}
use Rattle.task_stack.specs.Frames.{Stack}
use Rattle.task_stack.specs.Shared.{kept, next_of}
use Rattle.task_stack.specs.Local as local
use Rattle.task_stack.specs.Local.{Local, operands, free_step}
use Rattle.task_stack.specs.declared.steps.CountStep.{CountStep}
use Rattle.step_core.specs.declared.rows.SharedRow.{SharedRow}
use Rattle.step_core.specs.declared.rows.SharedRow.TheVariants as row
use Rattle.step_core.specs.Shared.{Took, Stuck, Idle, Stopped, Takes, numbers, asked_sizes, can_allocate}
use Rattle.step_core.specs.Parts.{named, cell_named}
use Rattle.step_core.specs.Rows.{shared_row}
use Rattle.step_core.specs.State.{task_at}
use Rattle.step_core.specs.Core.{Core, own_count}
use Rattle.step_core.specs.declared.tasks.Task.{Task}

-- neither stuck nor idle
abbrev pub is_enabled : {S : Type 0} → Took S → Bool
is_enabled Stuck = false
is_enabled Idle = false
is_enabled (Stopped l) = true
is_enabled (Takes after wakes act) = true

-- ---- what steps that count references need: the object is there, and a drop leaves those that it keeps itself

abbrev pub counts_can : CountStep → List Object → List ℕ → Bool
counts_can n objects counts = cond (is_there counts n.object) (cond n.adds true (nat_le (n.n + own_count (object_at objects n.object)) (count_at counts n.object.0))) false

-- ---- what shared rows need

-- the only frame, of the root or of another task
abbrev pub is_only : List Frame → Bool → Bool → Bool
is_only [] true true = true
is_only [] false false = true
is_only _ _ _ = false

-- the value names an object that is there, of which this holds
abbrev pub of_named : Val → List ℕ → (ObjNo → Bool) → Bool
of_named v counts holds = maybe false holds (named v counts)

-- an element that is no group, and a group
abbrev pub can_add : List Object → ObjNo → ObjNo → Bool
can_add objects x g = cond (is_group (object_at objects x).kind) false (is_group (object_at objects g).kind)

abbrev pub row_can : SharedRow → LowFunc → Instr → List Val → List Object → List ℕ → List (List ℕ) → Stack → Bool
row_can row.Allocate f i vs objects counts buffers stack = can_allocate (asked_sizes f i vs)
row_can row.Deallocate f i vs objects counts buffers stack = true
row_can row.LoadCell f i vs objects counts buffers stack = is_some (cell_named (value vs 0) (numbers (drop 1 vs)) buffers)
row_can row.StoreCell f i vs objects counts buffers stack = is_some (cell_named (value vs 1) (numbers (drop 2 vs)) buffers)
row_can row.Return f i vs objects counts buffers stack = is_only stack.below stack.is_root true
row_can row.Fail f i vs objects counts buffers stack = is_only stack.below stack.is_root true
row_can row.Finish f i vs objects counts buffers stack = is_only stack.below stack.is_root false
row_can row.Create f i vs objects counts buffers stack = true
row_can row.CreateGroup f i vs objects counts buffers stack = true
row_can row.AddToGroup f i vs objects counts buffers stack = of_named (value vs 0) counts (λ x. of_named (value vs 1) counts (λ g. can_add objects x g))
row_can row.Resume f i vs objects counts buffers stack = is_some (kept stack)
row_can row.Await f i vs objects counts buffers stack = of_named (value vs 0) counts (λ o. true)
row_can row.AwaitAndResume f i vs objects counts buffers stack = cond (is_some (kept stack)) (of_named (value vs 0) counts (λ o. true)) false
row_can row.IsError f i vs objects counts buffers stack = of_named (value vs 0) counts (λ o. is_done (object_at objects o))
row_can row.Store f i vs objects counts buffers stack = of_named (value vs 1) counts (λ o. is_open (object_at objects o))
row_can row.Load f i vs objects counts buffers stack = of_named (value vs 0) counts (λ o. is_some (object_at objects o).payload)
row_can row.SetAvailable f i vs objects counts buffers stack = of_named (value vs 0) counts (λ o. is_open (object_at objects o))
row_can row.SetError f i vs objects counts buffers stack = of_named (value vs 0) counts (λ o. is_open (object_at objects o))
row_can row.Absent f i vs objects counts buffers stack = false

-- ---- what a task needs

-- by the local step of its stack, without the limit on frames
abbrev pub local_can : Local → LowModule → List Object → List ℕ → List (List ℕ) → Stack → Bool
local_can (local.Done after counted) code objects counts buffers stack = maybe true (λ n. counts_can n objects counts) counted
local_can local.Shared code objects counts buffers stack =
    maybe false (λ n. row_can (shared_row n.instr.kind) n.func n.instr (operands stack n.instr) objects counts buffers stack) (next_of code stack)
local_can local.Stuck code objects counts buffers stack = false
local_can local.Deep code objects counts buffers stack = true

abbrev pub stack_can : LowModule → List Object → List ℕ → List (List ℕ) → Stack → Bool
stack_can code objects counts buffers stack = local_can (free_step code stack) code objects counts buffers stack

-- it isn't parked
abbrev pub task_can : LowModule → List Object → List ℕ → List (List ℕ) → Option Task → Bool
task_can code objects counts buffers task = maybe false (λ it. maybe (stack_can code objects counts buffers it.stack) (λ o. false) it.parked) task

abbrev pub core_can : LowModule → Core → ℕ → Bool
core_can code c t = task_can code c.plain.objects c.counts c.plain.buffers (task_at c.plain t)

-- ---- whether numbers are left for a step more: of steps, tasks, objects and buffers

abbrev pub NumbersAreLeft : Core → Type 0
NumbersAreLeft c = (c.plain.steps < 2 ^ 40) × (length c.plain.tasks < 2 ^ 32 - 1) × (length c.plain.objects < 2 ^ 32 - 1) × (length c.plain.buffers < 2 ^ 32 - 1)
