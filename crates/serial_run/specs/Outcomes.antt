-- How a run ends that is taken entry by entry.
use Rattle.std.specs.Prelude.{◌≡◌, ◌⊎◌, ◌<◌, ◌≤◌, ◌^◌, ℕ, List, length, Some}
use Rattle.ir_forms.specs.declared.args.ArgValue.{ArgValue}
use Rattle.ir_forms.specs.declared.runs.FuncNo.{FuncNo}
use Rattle.low_forms.specs.declared.code.LowFunc.{LowFunc}
use Rattle.low_forms.specs.declared.code.LowModule.{LowModule}
use Rattle.step_core.specs.declared.ends.Entry.{Entry}
use Rattle.step_core.specs.declared.limits.Limit.{Limit}
use Rattle.step_core.specs.declared.limits.Limits.{Limits}
use Rattle.step_core.specs.State.{live_tasks}
use Rattle.step_core.specs.Shared as shared
use Rattle.step_core.specs.Core.{Core, core_step, limited_step, start}
use Rattle.step_core.specs.Runs.{IsFinished, burst, longest_burst, replay}
use Rattle.step_core.specs.Tasks.{IsIdle}
use Rattle.run_journal.specs.Within.{burst_within}
use Rattle.serial_run.specs.declared.outcome.Outcome.{Outcome}
use Rattle.serial_run.specs.declared.outcome.Outcome.TheVariants.{Finished, Short, Stopped, Spent}

-- no step was taken yet
abbrev pub IsStart : Core → Type 0
IsStart c = (n : FuncNo) × (f : LowFunc) × (args : List ArgValue) × (c ≡ start n f args) × (length args < 2 ^ 31)

abbrev pub IsPossible : LowModule → Core → List Entry → Type 0
IsPossible code start journal = (s : Core) × (replay code journal start ≡ Some s)

abbrev pub IsUnfinished : Core → Type 0
IsUnfinished c = IsFinished c → ⊥

-- the task's local steps end before a step that would pass this limit
abbrev pub StopsAt : Limit → Limits → LowModule → Core → ℕ → Type 0
StopsAt limit limits code s t =
    ((burst_within limits code longest_burst t s).0 < longest_burst)
    × (limited_step limits code (burst_within limits code longest_burst t s).1 t ≡ shared.Stopped limit)

-- those of some task do
abbrev pub MeetsLimit : Limit → Limits → LowModule → Core → Type 0
MeetsLimit limit limits code s = (t : ℕ) × StopsAt limit limits code s t

-- a task's local steps end before a step whose needs don't hold
abbrev pub IsStuck : LowModule → Core → ℕ → Type 0
IsStuck code s t = ((burst code longest_burst t s).0 < longest_burst) × (core_step code (burst code longest_burst t s).1 t ≡ shared.Stuck)

-- each task that is left is parked, or one is stuck
abbrev pub IsHeldUp : LowModule → Core → Type 0
IsHeldUp code s = ((t : ℕ) → IsIdle s.plain.tasks t) ⊎ ((t : ℕ) × IsStuck code s t)

-- From this start the journal leads to `last`, where the run is finished or the journal has as many entries as it may; or it
-- has fewer and leads to a state that isn't finished, in which a limit stops a task, or which is held up with so many tasks
-- left.
abbrev pub HasOutcome : Limits → LowModule → ℕ → Core → List Entry → Core → Outcome → Type 0
HasOutcome limits code most start journal last Finished =
    (replay code journal start ≡ Some last) × IsFinished last × (length journal ≤ most)
HasOutcome limits code most start journal last (Stopped limit) =
    (s : Core) × (replay code journal start ≡ Some s) × IsUnfinished s × MeetsLimit limit limits code s × (length journal < most)
HasOutcome limits code most start journal last Spent =
    (replay code journal start ≡ Some last) × IsUnfinished last × (length journal ≡ most)
HasOutcome limits code most start journal last (Short parked) =
    (s : Core) × (replay code journal start ≡ Some s) × IsUnfinished s × (parked ≡ live_tasks s.plain.tasks) × IsHeldUp code s × (length journal < most)
