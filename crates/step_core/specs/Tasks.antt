-- Tasks by number, and the changes of one of them.
use Rattle.std.specs.Prelude.{◌≡◌, ℕ, false, List, [], Option, Some, None, IsSome, slice_get, slice_set}
use Rattle.ir_forms.specs.declared.runs.ObjNo.{ObjNo}
use Rattle.source_meaning.specs.Values.{maybe, or_else}
use Rattle.task_stack.specs.declared.frames.Saved.TheVariants.{Nothing}
use Rattle.task_stack.specs.Frames.{Stack}
use Rattle.step_core.specs.declared.tasks.Task.{Task}
use Rattle.step_core.specs.State.{ready}

-- the tasks by number, and so many more take no memory beside their stacks
pub record Slots : Type 0 where
  pub tasks : List (Option Task)
  pub room : ℕ

-- the task of this number, if it was made and has not ended
abbrev pub in_table : List (Option Task) → ℕ → Option Task
in_table tasks t = or_else None (slice_get tasks t)

-- a stack that stands nowhere
abbrev pub no_stack : Stack
no_stack = record {
  is_root = false;
  top = record { current = record { place = record { func = record { 0 = 0 }; block = record { 0 = 0 }; at = 0 }; regs = [] }; saved = Nothing };
  below = [];
}

-- the stack of a task that is there
abbrev pub stack_at : List (Option Task) → ℕ → Stack
stack_at tasks t = maybe no_stack (λ task. task.stack) (in_table tasks t)

-- it is there and not parked
abbrev pub IsReady : List (Option Task) → ℕ → Type 0
IsReady tasks t = in_table tasks t ≡ Some (ready (stack_at tasks t))

-- it isn't there, or is parked
abbrev pub waits : Option Task → Type 0
waits None = Unit {0}
waits (Some task) = IsSome task.parked

abbrev pub IsIdle : List (Option Task) → ℕ → Type 0
IsIdle tasks t = waits (in_table tasks t)

-- the task has this stack, and may be parked
abbrev pub put_task : List (Option Task) → ℕ → Stack → Option ObjNo → List (Option Task)
put_task tasks t stack parked = slice_set tasks t (Some (record { stack = stack; parked = parked }))
