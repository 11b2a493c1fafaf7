-- Runs of the core, in any order of tasks, without limits other than the sizes of groups; and journals.
use Rattle.std.specs.Prelude.{◌≡◌, ℕ, zero, suc, ◌+◌, nat_lt, nat_eq, cond, Bool, true, false, List, [], ◌∷◌, ◌++◌, Option, Some, None, IsSome}
use Rattle.ir_forms.specs.declared.args.ArgValue.{ArgValue}
use Rattle.ir_forms.specs.declared.runs.FuncNo.{FuncNo}
use Rattle.low_forms.specs.declared.code.LowFunc.{LowFunc}
use Rattle.low_forms.specs.declared.code.LowModule.{LowModule}
use Rattle.source_meaning.specs.Values.{maybe}
use Rattle.task_stack.specs.declared.frames.Place.{Place}
use Rattle.task_stack.specs.Local as local
use Rattle.task_stack.specs.Local.{Local, free_step}
use Rattle.step_core.specs.declared.ends.Entry.{Entry}
use Rattle.step_core.specs.declared.tasks.Task.{Task}
use Rattle.step_core.specs.State.{task_at, live_tasks}
use Rattle.step_core.specs.Shared.{Act, Took, Takes}
use Rattle.step_core.specs.Core.{Core, core_step, start}

-- the state after a step that is taken
abbrev pub after : Took Core → Option Core
after (Takes c wakes act) = Some c
after _ = None

abbrev pub step : LowModule → ℕ → Core → Option Core
step code t c = after (core_step code c t)

-- what follows, if there is something
abbrev pub and_then : {X Y : Type 0} → (X → Option Y) → Option X → Option Y
and_then f o = maybe None f o

-- each of these tasks takes a step, one after another
unfoldable pub run : LowModule → List ℕ → Core → Option Core
run code [] c = Some c
run code (t ∷ ts) c = and_then (run code ts) (step code t c)

-- a state that some run from the start comes to
abbrev pub IsReached : LowModule → FuncNo → LowFunc → List ArgValue → Core → Type 0
IsReached code n f args c = (ts : List ℕ) × (run code ts (start n f args) ≡ Some c)

-- the root has ended, and no task is left
abbrev pub IsFinished : Core → Type 0
IsFinished c = IsSome c.plain.root_end × (live_tasks c.plain.tasks ≡ 0)

-- ---- what a run shows: of each step the task, where it stood, and what it did

pub record Event : Type 0 where
  pub task : ℕ
  pub place : Place
  pub act : Act

abbrev pub event_of : ℕ → Option Task → Act → List Event
event_of t task act = maybe [] (λ it. record { task = t; place = it.stack.top.current.place; act = act } ∷ []) task

abbrev pub shown : Core → ℕ → Took Core → List Event
shown c t (Takes after wakes act) = event_of t (task_at c.plain t) act
shown c t _ = []

abbrev pub shown_on : (Core → List Event) → Took Core → List Event
shown_on go (Takes c wakes act) = go c
shown_on go _ = []

-- up to the first step that can't be taken
unfoldable pub events : LowModule → List ℕ → Core → List Event
events code [] c = []
events code (t ∷ ts) c = shown c t (core_step code c t) ++ shown_on (events code ts) (core_step code c t)

-- ---- bursts and journals

abbrev pub is_local : Local → Bool
is_local local.Shared = false
is_local _ = true

-- the task's next instruction is a step of the task alone
abbrev pub next_is_local : LowModule → Core → ℕ → Bool
next_is_local code c t = maybe false (λ task. is_local (free_step code task.stack)) (task_at c.plain t)

abbrev pub one_local : LowModule → ℕ → Core → Option Core
one_local code t c = cond (next_is_local code c t) (step code t c) None

abbrev pub one_more : Option (ℕ × Core) → Core → ℕ × Core
one_more None c = (0, c)
one_more (Some more) c = (more.0 + 1, more.1)

-- how many local steps a task can take in a row, at most so many, and the state after them
unfoldable pub burst : LowModule → ℕ → ℕ → Core → ℕ × Core
burst code zero t c = (0, c)
burst code (suc most) t c = one_more (maybe None (λ next. Some (burst code most t next)) (one_local code t c)) c

-- a burst has at most this many
abbrev pub longest_burst : ℕ
longest_burst = 4096

-- below the longest burst the shared step that follows is taken too
abbrev pub after_burst : LowModule → ℕ → ℕ × Core → Option Core
after_burst code t taken = cond (nat_lt taken.0 longest_burst) (step code t taken.1) (Some taken.1)

-- an entry is possible where its number is that of the task's local steps
abbrev pub entry_after : LowModule → Core → Entry → Option Core
entry_after code c entry =
    let taken : ℕ × Core = burst code longest_burst entry.task c in
    cond (nat_eq entry.local taken.0) (after_burst code entry.task taken) None

abbrev pub replay : LowModule → List Entry → Core → Option Core
replay code [] c = Some c
replay code (entry ∷ entries) c = and_then (replay code entries) (entry_after code c entry)
