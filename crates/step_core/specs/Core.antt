-- The whole core: the plain step with the counts of references laid over it, by which objects go. A step is taken where
-- the plain step is, the objects that it uses are there, no count falls below 0, and no instruction drops a reference that
-- an object keeps itself.
use Rattle.std.specs.Prelude.{◌≡◌, ◌⊎◌, ℕ, ◌+◌, nat_lt, nat_le, cond, Bool, true, false, List, [], ◌∷◌, ◌++◌, Option, Some, None}
use Rattle.ir_forms.specs.declared.args.ArgValue.{ArgValue}
use Rattle.ir_forms.specs.declared.runs.FuncNo.{FuncNo}
use Rattle.ir_forms.specs.declared.runs.ObjNo.{ObjNo}
use Rattle.ir_forms.specs.declared.runs.TaskNo.{TaskNo}
use Rattle.ir_forms.specs.Shapes.{product}
use Rattle.low_forms.specs.declared.code.Instr.{Instr}
use Rattle.low_forms.specs.declared.code.LowFunc.{LowFunc}
use Rattle.low_forms.specs.declared.code.LowModule.{LowModule}
use Rattle.source_meaning.specs.Values.{maybe}
use Rattle.async_objects.specs.declared.kinds.Val.{Val}
use Rattle.async_objects.specs.declared.object.Object.{Object}
use Rattle.async_objects.specs.Objects.{one_if, object_at, is_group, is_open}
use Rattle.async_objects.specs.Counts.{CountChange, count_at, is_there, live, can_change, all_changed, freed, without}
use Rattle.async_objects.specs.Sound.{pending}
use Rattle.task_stack.specs.declared.steps.CountStep.{CountStep}
use Rattle.task_stack.specs.Frames.{Stack, most_frames}
use Rattle.task_stack.specs.Local as local
use Rattle.task_stack.specs.Local.{Local, operands, free_step, local_step}
use Rattle.task_stack.specs.Shared.{next_of}
use Rattle.step_core.specs.declared.ends.Step.{Step}
use Rattle.step_core.specs.declared.ends.Step.TheVariants as step
use Rattle.step_core.specs.declared.limits.Limit.{Limit}
use Rattle.step_core.specs.declared.limits.Limit.TheVariants as limit
use Rattle.step_core.specs.declared.limits.Limits.{Limits}
use Rattle.step_core.specs.declared.rows.SharedRow.{SharedRow}
use Rattle.step_core.specs.declared.rows.SharedRow.TheVariants as row
use Rattle.step_core.specs.Rows.{shared_row}
use Rattle.step_core.specs.State.{Plain, task_at, live_tasks, cells_used, with_objects, start_in}
use Rattle.step_core.specs.Shared.{Act, Took, Stuck, Idle, Stopped, Takes, asked_sizes}
use Rattle.step_core.specs.Plain.{plain_step, uses, changes}

pub record Core : Type 0 where
  pub plain : Plain
  -- by object's number; one that is 0 isn't there
  pub counts : List ℕ
  -- the objects that are no longer there, in the order in which they went
  pub gone : List ObjNo

-- ---- the step, without limits other than the size of a group

abbrev pub all_there : List ObjNo → List ℕ → Bool
all_there [] counts = true
all_there (o ∷ os) counts = cond (is_there counts o) (all_there os counts) false

-- how many references an object keeps itself: a token or value that isn't set has one, and a group has one for each element
-- that it waits for
abbrev pub own_count : Object → ℕ
own_count x = cond (is_group x.kind) (pending x) (one_if (is_open x))

-- a drop leaves these
abbrev pub leaves_own : Core → CountStep → Bool
leaves_own c s = cond s.adds true (nat_le (s.n + own_count (object_at c.plain.objects s.object)) (count_at c.counts s.object.0))

abbrev pub leaves_by : Local → Core → Bool
leaves_by (local.Done after counts) c = maybe true (leaves_own c) counts
leaves_by _ c = true

abbrev pub leaves : LowModule → Core → ℕ → Bool
leaves code c t = maybe true (λ task. leaves_by (free_step code task.stack) c) (task_at c.plain t)

-- what a step needs beside what the plain step needs
abbrev pub may_step : LowModule → Core → ℕ → Bool
may_step code c t = cond (leaves code c t) (all_there (uses code c.plain t) c.counts) false

-- the state after a plain step, with these changes of counts
abbrev pub counting : Core → List CountChange → Plain → Core
counting c cs after = record {
  plain = with_objects after (without (freed cs c.counts) after.objects);
  counts = all_changed cs c.counts;
  gone = c.gone ++ freed cs c.counts;
}

abbrev pub overlay : Bool → Core → List CountChange → Took Plain → Took Core
overlay may c cs Stuck = Stuck
overlay may c cs Idle = Idle
overlay may c cs (Stopped l) = cond may (Stopped l) Stuck
overlay may c cs (Takes after wakes act) = cond may (cond (can_change cs c.counts) (Takes (counting c cs after) wakes act) Stuck) Stuck

abbrev pub core_step : LowModule → Core → ℕ → Took Core
core_step code c t = overlay (may_step code c t) c (changes code c.plain t) (plain_step code c.plain t)

-- ---- limits: which one the next step of a task would pass

abbrev pub unless : Bool → Limit → Option Limit
unless fits l = cond fits None (Some l)

abbrev pub row_limit : Limits → SharedRow → LowFunc → Instr → List Val → Core → Option Limit
row_limit l row.Create f i vs c = unless (nat_lt (live c.counts) l.objects) (limit.Objects (live c.counts))
row_limit l row.CreateGroup f i vs c = unless (nat_lt (live c.counts) l.objects) (limit.Objects (live c.counts))
row_limit l row.Resume f i vs c = unless (nat_lt (live_tasks c.plain.tasks) l.tasks) (limit.Tasks (live_tasks c.plain.tasks))
row_limit l row.Allocate f i vs c =
    unless (nat_le (cells_used c.plain.buffers + product (asked_sizes f i vs)) l.cells) (limit.Cells (cells_used c.plain.buffers))
row_limit l _ f i vs c = None

abbrev pub limit_by : Local → Limits → LowModule → Core → Stack → Option Limit
limit_by (local.Done after counts) l code c stack = None
limit_by local.Shared l code c stack =
    maybe None (λ n. row_limit l (shared_row n.instr.kind) n.func n.instr (operands stack n.instr) c) (next_of code stack)
limit_by local.Stuck l code c stack = None
limit_by local.Deep l code c stack = Some (limit.Stack most_frames)

abbrev pub limit_at : Limits → LowModule → Core → ℕ → Option Limit
limit_at l code c t = maybe None (λ task. limit_by (local_step code task.stack) l code c task.stack) (task_at c.plain t)

-- what a step needs is looked at before its limit
abbrev pub limited : Option Limit → Took Core → Took Core
limited passed Stuck = Stuck
limited passed Idle = Idle
limited passed (Stopped l) = Stopped l
limited passed (Takes after wakes act) = maybe (Takes after wakes act) Stopped passed

abbrev pub limited_step : Limits → LowModule → Core → ℕ → Took Core
limited_step l code c t = limited (limit_at l code c t) (core_step code c t)

-- ---- the start, and what a step answers

abbrev pub start : FuncNo → LowFunc → List ArgValue → Core
start n f args = record { plain = start_in n f args; counts = []; gone = [] }

-- the answer of a step, where the core was the first and is now the second
abbrev pub IsStep : Step → Core → Core → Took Core → Type 0
IsStep step.Stepped old new took = (wakes : List TaskNo) × (act : Act) × (took ≡ Takes new wakes act)
IsStep step.NotReady old new took = ((took ≡ Stuck) ⊎ (took ≡ Idle)) × (new ≡ old)
IsStep (step.Stop l) old new took = (took ≡ Stopped l) × (new ≡ old)
