-- What `Core` is seen as: code, limits and the state; and what a step answers.
use Rattle.std.specs.Prelude.{◌≡◌, ◌⊎◌, ℕ, List, [], ◌++◌, Option}
use Rattle.ir_forms.specs.declared.runs.ObjNo.{ObjNo}
use Rattle.ir_forms.specs.declared.runs.TaskNo.{TaskNo}
use Rattle.low_forms.specs.declared.code.LowModule.{LowModule}
use Rattle.async_objects.specs.Tables.{Table}
use Rattle.step_core.specs.declared.cells.ArgBuffer.{ArgBuffer}
use Rattle.step_core.specs.declared.ends.RootEnd.{RootEnd}
use Rattle.step_core.specs.declared.ends.Step.{Step}
use Rattle.step_core.specs.declared.ends.Step.TheVariants as step
use Rattle.step_core.specs.declared.limits.Limits.{Limits}
use Rattle.step_core.specs.declared.tasks.Task.{Task}
use Rattle.step_core.specs.Shared.{Act, Took, Stuck, Idle, Stopped, Takes}
use Rattle.step_core.specs.Core.{Core}
use Rattle.step_core.specs.Parts.{row_step}
use Rattle.step_core.specs.Rows.{shared_row}
use Rattle.source_meaning.specs.Values.{maybe}
use Rattle.task_stack.specs.Frames.{Stack}
use Rattle.task_stack.specs.Local.{operands}
use Rattle.task_stack.specs.Shared.{next_of}

pub record Running : Type 0 where
  pub code : LowModule
  pub limits : Limits
  pub core : Core

-- the state of these parts
abbrev pub core_of : List (Option Task) → Table → List (List ℕ) → List ArgBuffer → Option RootEnd → ℕ → List ObjNo → Core
core_of tasks table buffers arguments root_end steps gone = record {
  plain = record { tasks = tasks; objects = table.objects; buffers = buffers; arguments = arguments; root_end = root_end; steps = steps };
  counts = table.counts;
  gone = gone;
}

-- after a step that is taken, and makes these tasks ready
abbrev pub Taken : Running → Running → List TaskNo → Took Core → Type 0
Taken old new wakes took = (act : Act) × (took ≡ Takes new.core wakes act) × (new.code ≡ old.code) × (new.limits ≡ old.limits)

-- The answer of a step, where the run was the first and is now the second. What it makes ready is added to these lists.
abbrev pub IsAnswer : Step → Running → Running → List TaskNo → List TaskNo → Took Core → Type 0
IsAnswer step.Stepped old new before after took = (wakes : List TaskNo) × (after ≡ before ++ wakes) × Taken old new wakes took
IsAnswer step.NotReady old new before after took = ((took ≡ Stuck) ⊎ (took ≡ Idle)) × (new ≡ old) × (after ≡ before)
IsAnswer (step.Stop l) old new before after took = (took ≡ Stopped l) × (new ≡ old) × (after ≡ before)

-- the same of a step that makes nothing ready
abbrev pub IsTaken : Step → Running → Running → Took Core → Type 0
IsTaken step.Stepped old new took = Taken old new [] took
IsTaken step.NotReady old new took = ((took ≡ Stuck) ⊎ (took ≡ Idle)) × (new ≡ old)
IsTaken (step.Stop l) old new took = (took ≡ Stopped l) × (new ≡ old)

-- ---- shared steps

-- the step of a task with this stack, whose next instruction is shared
abbrev pub next_took : Limits → LowModule → Core → ℕ → Stack → Took Core
next_took l code c t stack = maybe Stuck (λ n. row_step l (shared_row n.instr.kind) n.func n.instr (operands stack n.instr) c t stack) (next_of code stack)
