-- What a replay tells of the first entry that isn't possible.
use Rattle.std.specs.Prelude.{◌≡◌, ℕ, zero, suc, ◌+◌, List, [], ◌∷◌, Option, Some, None, is_some, ⊤}
use Rattle.low_forms.specs.declared.code.LowModule.{LowModule}
use Rattle.source_meaning.specs.Values.{maybe}
use Rattle.task_stack.specs.Frames.{Stack}
use Rattle.task_stack.specs.Local.{Local, Done, local_step}
use Rattle.step_core.specs.declared.ends.Entry.{Entry}
use Rattle.step_core.specs.declared.limits.Limits.{Limits}
use Rattle.step_core.specs.declared.tasks.Task.{Task}
use Rattle.step_core.specs.State.{task_at}
use Rattle.step_core.specs.Core.{Core}
use Rattle.step_core.specs.Runs.{longest_burst}
use Rattle.run_journal.specs.Within.{burst_within, entry_within}
use Rattle.run_journal.specs.declared.faults.TaskLook.{TaskLook}
use Rattle.run_journal.specs.declared.faults.ReplayFault.{ReplayFault}
use Rattle.run_journal.specs.declared.faults.ReplayFault.TheVariants.{NotARun, OutOfMemory}

-- one more where a step is taken
abbrev pub one_ahead : (Stack → ℕ) → Local → ℕ
one_ahead more (Done after counts) = more after + 1
one_ahead more _ = 0

-- how many steps a stack can take alone in a row, at most so many, whatever references they count
unfoldable pub local_ahead : LowModule → ℕ → Stack → ℕ
local_ahead code zero stack = 0
local_ahead code (suc most) stack = one_ahead (local_ahead code most) (local_step code stack)

-- whether a task is parked, and how many local steps it can take in a row; those of a parked one are its stack's, which
-- stands behind the await
abbrev pub look_of : Limits → LowModule → Core → ℕ → Task → TaskLook
look_of l code c t task = record {
  parked = is_some task.parked;
  local = maybe (burst_within l code longest_burst t c).0 (λ o. local_ahead code longest_burst task.stack) task.parked;
}

abbrev pub look : Limits → LowModule → Core → ℕ → Option TaskLook
look l code c t = maybe None (λ task. Some (look_of l code c t task)) (task_at c.plain t)

-- the first entry that isn't possible, where the first of these has this number
abbrev pub fault_at : ℕ → Entry → Option TaskLook → (Core → Option ReplayFault) → Option Core → Option ReplayFault
fault_at k entry seen later None = Some (NotARun k entry seen)
fault_at k entry seen later (Some after) = later after

abbrev pub first_fault : Limits → LowModule → ℕ → List Entry → Core → Option ReplayFault
first_fault l code k [] c = None
first_fault l code k (entry ∷ entries) c =
    fault_at k entry (look l code c entry.task) (first_fault l code (k + 1) entries) (entry_within l code c entry)

abbrev pub HasReplayFault : Limits → LowModule → Core → List Entry → ReplayFault → Type 0
HasReplayFault l code start entries (NotARun k named kept) = first_fault l code 0 entries start ≡ Some (NotARun k named kept)
HasReplayFault l code start entries OutOfMemory = ⊤
