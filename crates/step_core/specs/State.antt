-- The state of a run, counts of references aside: tasks, objects and buffers by number, and the root's end.
use Rattle.std.specs.Prelude.{ℕ, ◌+◌, ◌-◌, List, [], ◌∷◌, map, length, Option, Some, None, slice_get, slice_set}
use Rattle.ir_forms.specs.declared.args.ArgValue.{ArgValue}
use Rattle.ir_forms.specs.declared.args.ArgValue.TheVariants as arg
use Rattle.ir_forms.specs.declared.runs.Buffer.{Buffer}
use Rattle.ir_forms.specs.declared.runs.FuncNo.{FuncNo}
use Rattle.ir_forms.specs.declared.runs.TaskNo.{TaskNo}
use Rattle.ir_forms.specs.declared.types.OutTy.{OutTy}
use Rattle.ir_forms.specs.declared.types.OutTy.TheVariants as out
use Rattle.ir_forms.specs.declared.types.Ty.{Ty}
use Rattle.ir_forms.specs.declared.types.Ty.TheVariants as ty
use Rattle.low_forms.specs.declared.code.Reg.{Reg}
use Rattle.low_forms.specs.declared.code.LowFunc.{LowFunc}
use Rattle.low_forms.specs.Registers.{reg_type}
use Rattle.source_meaning.specs.Start.{out_cell}
use Rattle.source_meaning.specs.Values.{maybe, or_else}
use Rattle.async_objects.specs.declared.kinds.Val.{Val}
use Rattle.async_objects.specs.declared.kinds.Val.TheVariants as val
use Rattle.async_objects.specs.declared.object.Object.{Object}
use Rattle.task_stack.specs.Frames.{Stack, root_stack}
use Rattle.step_core.specs.declared.ends.End.{End}
use Rattle.step_core.specs.declared.ends.End.TheVariants as end
use Rattle.step_core.specs.declared.ends.Counts.{Counts}
use Rattle.step_core.specs.declared.ends.RootEnd.{RootEnd}
use Rattle.step_core.specs.declared.ends.RootEnd.TheVariants.{Returned, FailedAt}
use Rattle.step_core.specs.declared.cells.ArgBuffer.{ArgBuffer}
use Rattle.step_core.specs.declared.tasks.Task.{Task}

pub record Plain : Type 0 where
  -- in the order of launching, the root first; one that has ended is None
  pub tasks : List (Option Task)
  -- in the order of making; the list never gets shorter
  pub objects : List Object
  -- the cells of each buffer, row by row, those of the parameters first
  pub buffers : List (List ℕ)
  pub arguments : List ArgBuffer
  pub root_end : Option RootEnd
  -- how many steps were taken
  pub steps : ℕ

-- ---- parts

abbrev pub task_at : Plain → ℕ → Option Task
task_at s t = or_else None (slice_get s.tasks t)

-- how many tasks have not ended
abbrev pub live_tasks : List (Option Task) → ℕ
live_tasks [] = 0
live_tasks (Some task ∷ tasks) = live_tasks tasks + 1
live_tasks (None ∷ tasks) = live_tasks tasks

-- how many cells there are; they are never given back
abbrev pub cells_used : List (List ℕ) → ℕ
cells_used [] = 0
cells_used (cells ∷ buffers) = length cells + cells_used buffers

abbrev pub cells_of : Plain → ℕ → List ℕ
cells_of s b = or_else [] (slice_get s.buffers b)

-- ---- changes

abbrev pub with_task : Plain → ℕ → Option Task → Plain
with_task s t task = record s { tasks = slice_set s.tasks t task }

abbrev pub with_objects : Plain → List Object → Plain
with_objects s objects = record s { objects = objects }

abbrev pub with_buffers : Plain → List (List ℕ) → Plain
with_buffers s buffers = record s { buffers = buffers }

-- one more step was taken
abbrev pub counted : Plain → Plain
counted s = record s { steps = s.steps + 1 }

abbrev pub ready : Stack → Task
ready stack = record { stack = stack; parked = None }

-- a task is no longer parked
abbrev pub made_ready : Option Task → Option Task
made_ready task = maybe None (λ it. Some (ready it.stack)) task

abbrev pub woken : List TaskNo → List (Option Task) → List (Option Task)
woken [] tasks = tasks
woken (t ∷ ts) tasks = woken ts (slice_set tasks t.0 (made_ready (or_else None (slice_get tasks t.0))))

-- ---- the start

-- a buffer has at most four dimensions
abbrev pub buffer_val : ℕ → List ℕ → Val
buffer_val number (a ∷ b ∷ c ∷ d ∷ dims) = val.Buffer number 4 (a ∷ b ∷ c ∷ d ∷ [])
buffer_val number (a ∷ b ∷ c ∷ []) = val.Buffer number 3 (a ∷ b ∷ c ∷ 0 ∷ [])
buffer_val number (a ∷ b ∷ []) = val.Buffer number 2 (a ∷ b ∷ 0 ∷ 0 ∷ [])
buffer_val number (a ∷ []) = val.Buffer number 1 (a ∷ 0 ∷ 0 ∷ 0 ∷ [])
buffer_val number [] = val.Buffer number 0 (0 ∷ 0 ∷ 0 ∷ 0 ∷ [])

-- what the parameters hold, whose buffers have the numbers from this one on
abbrev pub argument_vals : ℕ → List ArgValue → List Val
argument_vals b [] = []
argument_vals b (arg.Number n ∷ args) = val.Number n ∷ argument_vals b args
argument_vals b (arg.Cells dims cells ∷ args) = buffer_val b dims ∷ argument_vals (b + 1) args

abbrev pub argument_cells : List ArgValue → List (List ℕ)
argument_cells [] = []
argument_cells (arg.Number n ∷ args) = argument_cells args
argument_cells (arg.Cells dims cells ∷ args) = cells ∷ argument_cells args

-- the type of a buffer's cells
abbrev pub cell_type : Option Ty → OutTy
cell_type (Some (ty.Memref m)) = out_cell m.elem
cell_type _ = out.Index

-- the buffers of these parameters, whose places are those from j on, and the buffers' numbers those from b on
abbrev pub argument_buffers : LowFunc → ℕ → ℕ → List Reg → List ArgValue → List ArgBuffer
argument_buffers f j b [] args = []
argument_buffers f j b (r ∷ rs) [] = []
argument_buffers f j b (r ∷ rs) (arg.Number n ∷ args) = argument_buffers f (j + 1) b rs args
argument_buffers f j b (r ∷ rs) (arg.Cells dims cells ∷ args) =
    record { argument = j; buffer = b; cell = cell_type (reg_type f r) } ∷ argument_buffers f (j + 1) (b + 1) rs args

-- the root alone, at the start of a function with these arguments
abbrev pub start_in : FuncNo → LowFunc → List ArgValue → Plain
start_in n f args = record {
  tasks = Some (ready (root_stack n f (argument_vals 0 args))) ∷ [];
  objects = [];
  buffers = argument_cells args;
  arguments = argument_buffers f 0 0 f.params args;
  root_end = None;
  steps = 0;
}

-- ---- the end

abbrev pub buffer_out : Plain → ArgBuffer → Buffer
buffer_out s a = record { argument = a.argument; cells = map (λ n. record { ty = a.cell; bits = n }) (cells_of s a.buffer) }

-- with the cells of the arguments as they are
abbrev pub end_by : Plain → RootEnd → End
end_by s (Returned results) = end.Done results (map (buffer_out s) s.arguments)
end_by s (FailedAt op) = end.Failed op

abbrev pub end_of : Plain → Option End
end_of s = maybe None (λ e. Some (end_by s e)) s.root_end

-- how many tasks, objects and steps were made so far; the root isn't counted
abbrev pub counts_of : Plain → Counts
counts_of s = record { tasks = length s.tasks - 1; objects = length s.objects; steps = s.steps }
