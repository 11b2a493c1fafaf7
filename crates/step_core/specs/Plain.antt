-- The step of one task, counts of references aside; and beside it which objects it uses, and how it changes their counts,
-- as functions of the state before it.
use Rattle.std.specs.Prelude.{ℕ, cond, List, [], ◌∷◌, ◌++◌, Option}
use Rattle.ir_forms.specs.declared.runs.ObjNo.{ObjNo}
use Rattle.low_forms.specs.declared.code.Instr.{Instr}
use Rattle.low_forms.specs.declared.code.LowFunc.{LowFunc}
use Rattle.low_forms.specs.declared.code.LowModule.{LowModule}
use Rattle.low_forms.specs.Registers.{type_at}
use Rattle.source_meaning.specs.Values.{maybe}
use Rattle.async_objects.specs.declared.kinds.Kind.TheVariants as kind
use Rattle.async_objects.specs.declared.kinds.Val.{Val}
use Rattle.async_objects.specs.declared.kinds.Val.TheVariants.{Object}
use Rattle.async_objects.specs.Counts.{CountChange, more, less, create_changes, add_changes, set_changes}
use Rattle.task_stack.specs.declared.steps.CountStep.{CountStep}
use Rattle.task_stack.specs.Registers.{value, number}
use Rattle.task_stack.specs.Frames.{Stack}
use Rattle.task_stack.specs.Local as local
use Rattle.task_stack.specs.Local.{Local, operands, free_step}
use Rattle.task_stack.specs.Shared.{next_of}
use Rattle.step_core.specs.declared.rows.SharedRow.{SharedRow}
use Rattle.step_core.specs.declared.rows.SharedRow.TheVariants as row
use Rattle.step_core.specs.Rows.{shared_row}
use Rattle.step_core.specs.declared.tasks.Task.{Task}
use Rattle.step_core.specs.State.{Plain, task_at}
use Rattle.step_core.specs.Shared.{Took, Stuck, Idle, Nothing, goes_on, kind_of, shared_step}

-- ---- the step

abbrev pub shared_at : LowModule → Plain → ℕ → Stack → Took Plain
shared_at code s t stack =
    maybe Stuck (λ n. shared_step (shared_row n.instr.kind) n.func n.instr (operands stack n.instr) s t stack) (next_of code stack)

abbrev pub by_local : Local → LowModule → Plain → ℕ → Stack → Took Plain
by_local (local.Done after counts) code s t stack = goes_on s t after Nothing
by_local local.Shared code s t stack = shared_at code s t stack
by_local local.Stuck code s t stack = Stuck
by_local local.Deep code s t stack = Stuck

abbrev pub ready_step : LowModule → Plain → ℕ → Task → Took Plain
ready_step code s t task = maybe (by_local (free_step code task.stack) code s t task.stack) (λ o. Idle) task.parked

abbrev pub plain_step : LowModule → Plain → ℕ → Took Plain
plain_step code s t = maybe Idle (ready_step code s t) (task_at s t)

-- ---- the objects that it uses

abbrev pub object_in : Val → List ObjNo
object_in (Object o) = o ∷ []
object_in _ = []

abbrev pub shared_uses : SharedRow → List Val → List ObjNo
shared_uses row.AddToGroup vs = object_in (value vs 0) ++ object_in (value vs 1)
shared_uses row.Await vs = object_in (value vs 0)
shared_uses row.AwaitAndResume vs = object_in (value vs 0)
shared_uses row.IsError vs = object_in (value vs 0)
shared_uses row.Store vs = object_in (value vs 1)
shared_uses row.Load vs = object_in (value vs 0)
shared_uses row.SetAvailable vs = object_in (value vs 0)
shared_uses row.SetError vs = object_in (value vs 0)
shared_uses _ vs = []

-- the instructions that count references use what they count
abbrev pub counting_uses : Option CountStep → List ObjNo
counting_uses counts = maybe [] (λ c. c.object ∷ []) counts

abbrev pub uses_by : Local → LowModule → Stack → List ObjNo
uses_by (local.Done after counts) code stack = counting_uses counts
uses_by local.Shared code stack = maybe [] (λ n. shared_uses (shared_row n.instr.kind) (operands stack n.instr)) (next_of code stack)
uses_by local.Stuck code stack = []
uses_by local.Deep code stack = []

abbrev pub uses : LowModule → Plain → ℕ → List ObjNo
uses code s t = maybe [] (λ task. uses_by (free_step code task.stack) code task.stack) (task_at s t)

-- ---- how it changes their counts, in order

abbrev pub counting_change : CountStep → CountChange
counting_change c = cond c.adds (more c.object c.n) (less c.object c.n)

abbrev pub counting_changes : Option CountStep → List CountChange
counting_changes counts = maybe [] (λ c. counting_change c ∷ []) counts

abbrev pub of_object : Val → (ObjNo → List CountChange) → List CountChange
of_object (Object o) go = go o
of_object _ go = []

abbrev pub shared_changes : SharedRow → LowFunc → Instr → List Val → Plain → List CountChange
shared_changes row.Create f i vs s = create_changes (kind_of (type_at f i.results 0)) s.objects
shared_changes row.CreateGroup f i vs s = create_changes (kind.Group (number vs 0)) s.objects
shared_changes row.AddToGroup f i vs s = of_object (value vs 0) (λ x. of_object (value vs 1) (λ g. add_changes x g s.objects))
shared_changes row.SetAvailable f i vs s = of_object (value vs 0) (λ o. set_changes o s.objects)
shared_changes row.SetError f i vs s = of_object (value vs 0) (λ o. set_changes o s.objects)
shared_changes _ f i vs s = []

abbrev pub changes_by : Local → LowModule → Plain → Stack → List CountChange
changes_by (local.Done after counts) code s stack = counting_changes counts
changes_by local.Shared code s stack =
    maybe [] (λ n. shared_changes (shared_row n.instr.kind) n.func n.instr (operands stack n.instr) s) (next_of code stack)
changes_by local.Stuck code s stack = []
changes_by local.Deep code s stack = []

abbrev pub changes : LowModule → Plain → ℕ → List CountChange
changes code s t = maybe [] (λ task. changes_by (free_step code task.stack) code s task.stack) (task_at s t)
