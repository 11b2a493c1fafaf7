-- What became of a task's turn.
use Rattle.std.specs.Prelude.{◌≡◌, ℕ, length, Some}
use Rattle.low_forms.specs.declared.code.LowModule.{LowModule}
use Rattle.step_core.specs.declared.limits.Limits.{Limits}
use Rattle.step_core.specs.State.{live_tasks}
use Rattle.step_core.specs.Core.{Core}
use Rattle.run_journal.specs.Within.{entry_within}
use Rattle.serial_run.specs.Outcomes.{IsStuck, StopsAt}
use Rattle.serial_run.specs.declared.driver.Turn.{Turn}
use Rattle.serial_run.specs.declared.driver.Turn.TheVariants.{Taken, Stopped, Stuck}

-- as many tasks were made and are left
abbrev pub SameTasks : Core → Core → Type 0
SameTasks old new = (live_tasks new.plain.tasks ≡ live_tasks old.plain.tasks) × (length new.plain.tasks ≡ length old.plain.tasks)

-- The turn of this task, where the state was the first and is now the second.
abbrev pub IsTurn : Turn → Limits → LowModule → Core → Core → ℕ → Type 0
IsTurn (Taken entry) l code old new t = entry_within l code old entry ≡ Some new
IsTurn (Stopped limit) l code old new t = StopsAt limit l code old t × SameTasks old new
IsTurn Stuck l code old new t = IsStuck code old t × SameTasks old new
