-- Shared steps, by the parts of a state that they see: what a row makes of its task.
use Rattle.std.specs.Prelude.{◌≡◌, ℕ, ◌+◌, ◌-◌, ◌^◌, nat_lt, nat_le, min, cond, true, List, [], ◌∷◌, ◌++◌, length, take, Option, Some, None, slice_set}
use Rattle.ir_forms.specs.declared.runs.ObjNo.{ObjNo}
use Rattle.ir_forms.specs.declared.runs.TaskNo.{TaskNo}
use Rattle.ir_forms.specs.Shapes.{product}
use Rattle.low_forms.specs.declared.code.Instr.{Instr}
use Rattle.low_forms.specs.declared.code.LowFunc.{LowFunc}
use Rattle.source_meaning.specs.Values.{maybe}
use Rattle.async_objects.specs.declared.kinds.Kind.{Kind}
use Rattle.async_objects.specs.declared.kinds.State as the_state
use Rattle.async_objects.specs.declared.kinds.Val.{Val}
use Rattle.async_objects.specs.declared.kinds.Val.TheVariants.{Buffer, Object}
use Rattle.async_objects.specs.Counts.{is_there, live, create_changes, set_changes}
use Rattle.async_objects.specs.Tables.{Table}
use Rattle.task_stack.specs.Frames.{Stack}
use Rattle.step_core.specs.declared.ends.RootEnd.{RootEnd}
use Rattle.step_core.specs.declared.limits.Limits.{Limits}
use Rattle.step_core.specs.declared.parts.Row.{Row}
use Rattle.step_core.specs.declared.parts.Row.TheVariants as the
use Rattle.step_core.specs.declared.limits.Limit.TheVariants as limit
use Rattle.step_core.specs.declared.rows.SharedRow.{SharedRow}
use Rattle.step_core.specs.declared.tasks.Task.{Task}
use Rattle.step_core.specs.State.{cells_used, ready, woken}
use Rattle.step_core.specs.Shared.{Act, Took, Stuck, Stopped, Takes, cell_there, allocates, on_object, creates, awaits, sets, shared_step}
use Rattle.step_core.specs.Plain.{object_in, of_object, shared_uses, shared_changes}
use Rattle.step_core.specs.Cells.{cells_in}
use Rattle.step_core.specs.Tasks.{put_task}
use Rattle.step_core.specs.Core.{Core, all_there, overlay, unless, row_limit, limited}

-- the limited step of a ready task whose next instruction is shared and of this row
abbrev pub row_step : Limits → SharedRow → LowFunc → Instr → List Val → Core → ℕ → Stack → Took Core
row_step l row f i vs c t stack =
    limited (row_limit l row f i vs c) (overlay (all_there (shared_uses row vs) c.counts) c (shared_changes row f i vs c.plain) (shared_step row f i vs c.plain t stack))

-- of a row that makes an object of this kind
abbrev pub create_step : Kind → Limits → Instr → Core → ℕ → Stack → Took Core
create_step k l i c t stack =
    limited (unless (nat_lt (live c.counts) l.objects) (limit.Objects (live c.counts))) (overlay true c (create_changes k c.plain.objects) (creates k c.plain t stack i))

-- of a row that allocates a buffer of these sizes
abbrev pub allocate_step : List ℕ → Limits → Instr → Core → ℕ → Stack → Took Core
allocate_step ns l i c t stack =
    limited (unless (nat_le (cells_used c.plain.buffers + product ns) l.cells) (limit.Cells (cells_used c.plain.buffers))) (overlay true c [] (allocates ns c.plain t stack i))

-- of a row that awaits what the value names, and goes on with this stack
abbrev pub await_step : Val → Stack → Core → ℕ → Took Core
await_step v after c t = limited None (overlay (all_there (object_in v) c.counts) c [] (on_object v (awaits c.plain t after)))

-- of a row that sets what the value names
abbrev pub set_step : the_state.State → Val → Core → ℕ → Stack → Took Core
set_step state v c t stack =
    limited None (overlay (all_there (object_in v) c.counts) c (of_object v (λ o. set_changes o c.plain.objects)) (on_object v (sets state c.plain t stack)))

-- the object that a value names, where it is there
abbrev pub named : Val → List ℕ → Option ObjNo
named (Object o) counts = cond (is_there counts o) (Some o) None
named _ counts = None

-- a number as it is kept in 64 bits: larger ones are the largest
abbrev pub capped : ℕ → ℕ
capped n = min n (2 ^ 64 - 1)

-- the cell of a buffer that these indices name, where it is there: the buffer's number, and the cell's
abbrev pub cell_named : Val → List ℕ → List (List ℕ) → Option (ℕ × ℕ)
cell_named (Buffer b rank dims) indices buffers = maybe None (λ c. Some (b, c.0)) (cell_there (cells_in buffers b) (take rank dims) indices)
cell_named _ indices buffers = None

-- ---- parts of a state

abbrev pub with_table : Table → Core → Core
with_table table c = record {
  plain = record { tasks = c.plain.tasks; objects = table.objects; buffers = c.plain.buffers; arguments = c.plain.arguments; root_end = c.plain.root_end; steps = c.plain.steps };
  counts = table.counts;
  gone = c.gone;
}

abbrev pub with_buffers : List (List ℕ) → Core → Core
with_buffers buffers c = record {
  plain = record { tasks = c.plain.tasks; objects = c.plain.objects; buffers = buffers; arguments = c.plain.arguments; root_end = c.plain.root_end; steps = c.plain.steps };
  counts = c.counts;
  gone = c.gone;
}

abbrev pub with_gone : List ObjNo → Core → Core
with_gone gone c = record { plain = c.plain; counts = c.counts; gone = gone }

abbrev pub with_parts : Table → List (List ℕ) → List ObjNo → Core → Core
with_parts table buffers gone c = record {
  plain = record { tasks = c.plain.tasks; objects = table.objects; buffers = buffers; arguments = c.plain.arguments; root_end = c.plain.root_end; steps = c.plain.steps };
  counts = table.counts;
  gone = gone;
}

-- ---- the state after a step of a task, whose parts are these already

abbrev pub with_tasks : List (Option Task) → Option RootEnd → Core → Core
with_tasks tasks root_end c = record {
  plain = record { tasks = tasks; objects = c.plain.objects; buffers = c.plain.buffers; arguments = c.plain.arguments; root_end = root_end; steps = c.plain.steps + 1 };
  counts = c.counts;
  gone = c.gone;
}

-- the task goes on with this stack or is parked, and these others are ready again
abbrev pub gone_on : Core → ℕ → Stack → Option ObjNo → List TaskNo → Core
gone_on c t stack parked wakes = with_tasks (woken wakes (put_task c.plain.tasks t stack parked)) c.plain.root_end c

-- the task goes on with the first stack, and a new one has the second
abbrev pub launched : Core → ℕ → Stack → Stack → Core
launched c t stack copy = with_tasks (put_task c.plain.tasks t stack None ++ Some (ready copy) ∷ []) c.plain.root_end c

-- the root's end, if this is one, or the one that was
abbrev pub end_or : Option RootEnd → Option RootEnd → Option RootEnd
end_or None old = old
end_or (Some e) old = Some e

-- the task is over
abbrev pub over : Core → ℕ → Option RootEnd → Core
over c t root_end = with_tasks (slice_set c.plain.tasks t None) (end_or root_end c.plain.root_end) c

-- What a row makes of its task, where the parts were those of the first state and are those of the second, and the stack
-- likewise. The tasks that the step wakes are added to the list.
abbrev pub IsRow : Row → (old new : Core) → (before after : List TaskNo) → ℕ → (first second : Stack) → Took Core → Type 0
IsRow the.Stuck old new before after t first second took = (took ≡ Stuck) × (new ≡ old) × (after ≡ before) × (second ≡ first)
IsRow (the.Stop l) old new before after t first second took = (took ≡ Stopped l) × (new ≡ old) × (after ≡ before) × (second ≡ first)
IsRow (the.Goes parked) old new before after t first second took =
    (wakes : List TaskNo) × (act : Act) × (after ≡ before ++ wakes) × (took ≡ Takes (gone_on new t second parked wakes) wakes act)
IsRow (the.Launches copy) old new before after t first second took =
    (act : Act) × (after ≡ before) × (took ≡ Takes (launched new t second copy) (record { 0 = length new.plain.tasks } ∷ []) act)
IsRow (the.Ends root_end) old new before after t first second took =
    (act : Act) × (after ≡ before) × (took ≡ Takes (over new t root_end) [] act)

-- ---- rows that see some parts alone

-- the task's stack
abbrev pub StackRow : (Core → ℕ → Stack → Took Core) → Row → (first second : Stack) → Type 0
StackRow step row first second = (c : Core) (woken : List TaskNo) (t : ℕ) → IsRow row c c woken woken t first second (step c t first)

-- the objects too
abbrev pub ObjectRow : (Core → ℕ → Stack → Took Core) → Row → (old new : Table) → (first second : Stack) → Type 0
ObjectRow step row old new first second =
    (rest : Core) (woken : List TaskNo) (t : ℕ) → IsRow row (with_table old rest) (with_table new rest) woken woken t first second (step (with_table old rest) t first)

-- the objects, of which it awaits one for this task
abbrev pub AwaitRow : (Core → Took Core) → Row → TaskNo → (old new : Table) → (first second : Stack) → Type 0
AwaitRow step row task old new first second =
    (rest : Core) (woken : List TaskNo) → IsRow row (with_table old rest) (with_table new rest) woken woken task.0 first second (step (with_table old rest))

-- or the cells
abbrev pub CellRow : (Core → ℕ → Stack → Took Core) → Row → (old new : List (List ℕ)) → (first second : Stack) → Type 0
CellRow step row old new first second =
    (rest : Core) (woken : List TaskNo) (t : ℕ) → IsRow row (with_buffers old rest) (with_buffers new rest) woken woken t first second (step (with_buffers old rest) t first)

-- the objects and the list of those that are gone, and it wakes tasks
abbrev pub WakingRow : (Core → ℕ → Stack → Took Core) → Row → (old new : Table) → (gone gone' : List ObjNo) → (before after : List TaskNo) → (first second : Stack) → Type 0
WakingRow step row old new gone gone' before after first second =
    (rest : Core) (t : ℕ) → IsRow row (with_gone gone (with_table old rest)) (with_gone gone' (with_table new rest)) before after t first second (step (with_gone gone (with_table old rest)) t first)
