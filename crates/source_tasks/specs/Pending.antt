-- What is pending before a task's next operation.
use Rattle.std.specs.Prelude.{ℕ, List, ◌∷◌, Option, Some, None}
use Rattle.source_meaning.specs.Tasks.{Loop, Pending, Awaits, Joining, Failing, Task}
use Rattle.source_tasks.specs.declared.pending.Due.{Due}
use Rattle.source_tasks.specs.declared.pending.Due.TheVariants as due
use Rattle.source_tasks.specs.Numbers.{param_names}

-- what is pending before an operation
abbrev pub due_at : ℕ → Due → Pending
due_at at (due.Await x param) = Awaits at x (param_names param)
due_at at (due.Join loop) = Joining at loop
due_at at due.Fail = Failing at

-- the loop whose end comes first of what is pending
abbrev pub joined_in : List Pending → Option Loop
joined_in (Joining at loop ∷ more) = Some loop
joined_in _ = None

-- the loop whose end is the task's next step
abbrev pub joined : Task → Option Loop
joined t = joined_in t.pending
