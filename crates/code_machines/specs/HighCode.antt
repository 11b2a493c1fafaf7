-- Code with the high rows as a machine. Who takes a step is a task, by its number.
use Rattle.std.specs.Prelude.{◌≡◌, ℕ, ◌-◌, not, Bool, true, false, List, [], ◌∷◌, length, Option, Some, None, slice_get}
use Rattle.std.specs.Option.{option_map}
use Rattle.ir_forms.specs.declared.args.ArgValue.{ArgValue}
use Rattle.ir_forms.specs.declared.runs.FuncNo.{FuncNo}
use Rattle.low_forms.specs.declared.code.LowFunc.{LowFunc}
use Rattle.low_forms.specs.declared.code.LowModule.{LowModule}
use Rattle.machines.specs.Machine.{Machine}
use Rattle.machines.specs.Machine as machine
use Rattle.source_meaning.specs.declared.ends.SourceEnd.{SourceEnd}
use Rattle.source_meaning.specs.Values.{maybe}
use Rattle.task_stack.specs.Shared.{next_of}
use Rattle.step_core.specs.declared.ends.RootEnd.{RootEnd}
use Rattle.step_core.specs.declared.ends.RootEnd.TheVariants.{Returned, FailedAt}
use Rattle.step_core.specs.State.{Plain, task_at, live_tasks, end_of}
use Rattle.step_core.specs.Shared as core
use Rattle.step_core.specs.Shared.{Act, Took, Stuck, Idle, Stopped, Takes}
use Rattle.step_core.specs.High.{High, Ref, Element, Group, outcome, has_failed, high_step, start}
use Rattle.code_machines.specs.Numbered.{Numbered, Reads, Writes, Allocs, Creates, Adds, Launches, Awaits, AwaitsAll, Ends, source_end}
use Rattle.code_machines.specs.Uses.{is_used}

-- the result of the instruction that a task takes next is read
abbrev pub next_is_used : LowModule → Plain → ℕ → Bool
next_is_used code s t = maybe false (λ task. maybe false (λ n. is_used n.func n.instr) (next_of code task.stack)) (task_at s t)

abbrev pub ended_well : RootEnd → Bool
ended_well (Returned results) = true
ended_well (FailedAt op) = false

-- a task that has just ended did so without failure
abbrev pub ends_well : High → ℕ → Bool
ends_well h t = maybe (maybe false ended_well h.plain.root_end) (λ o. not (has_failed o)) (outcome h t)

-- a group's size
abbrev pub size_in : High → ℕ → ℕ
size_in h k = maybe 0 (λ g. g.size) (slice_get h.groups k)

abbrev pub looks_at : ℕ → Option Ref → List Numbered
looks_at t (Some (Element q j)) = Awaits t q j ∷ []
looks_at t (Some (Group k)) = AwaitsAll t k ∷ []
looks_at t None = []

abbrev pub creates_at : High → ℕ → Option Ref → List Numbered
creates_at after t (Some (Group k)) = Creates t k (size_in after k) ∷ []
creates_at after t _ = []

abbrev pub adds_at : ℕ → Option Ref → Option Ref → Bool → List Numbered
adds_at t (Some (Group k)) (Some (Element q j)) used = Adds t k q j used ∷ []
adds_at t _ _ used = []

-- what a step from the first state to the second shows
abbrev pub high_shown : LowModule → High → High → ℕ → Act → List Numbered
high_shown code h after t core.Nothing = []
high_shown code h after t (core.Reads b c) = Reads t b c ∷ []
high_shown code h after t (core.Writes b c) = Writes t b c ∷ []
high_shown code h after t (core.Allocates b n) = Allocs t b n ∷ []
high_shown code h after t (core.Creates o) = creates_at after t (slice_get after.refs o.0)
high_shown code h after t (core.Adds g x rank) = adds_at t (slice_get h.refs g.0) (slice_get h.refs x.0) (next_is_used code h.plain t)
high_shown code h after t (core.Launches q) = Launches t q.0 (length after.refs - length h.refs - 1) ∷ []
high_shown code h after t (core.Looks o) = looks_at t (slice_get h.refs o.0)
high_shown code h after t (core.Sets o state) = []
high_shown code h after t core.Ends = Ends t (ends_well after t) ∷ []

abbrev pub high_took : LowModule → High → ℕ → Took High → machine.Took High Numbered
high_took code h t Stuck = machine.Stuck
high_took code h t Idle = machine.Idle
high_took code h t (Stopped l) = machine.Stopped
high_took code h t (Takes after wakes act) = machine.Takes after (high_shown code h after t act)

-- no task is left, and the root ended so
abbrev pub HasEnded : Plain → SourceEnd → Type 0
HasEnded s e = (live_tasks s.tasks ≡ 0) × (option_map source_end (end_of s) ≡ Some e)

-- The function of this number with these arguments.
abbrev pub high : LowModule → FuncNo → LowFunc → List ArgValue → Machine Numbered SourceEnd
high code n f args = record {
  State = High;
  Who = ℕ;
  start = start n f args;
  step = λ h t. high_took code h t (high_step code h t);
  Ended = λ h e. HasEnded h.plain e;
}
