-- How the parts of a task are seen as those of the definitions.
use Rattle.std.specs.Prelude.{◌≡◌, [], Option, Some, None}
use Rattle.ir_verify.specs.declared.place.Nest.TheVariants.{InFunction}
use Rattle.source_meaning.specs.Parts.{Node}
use Rattle.source_meaning.specs.Tasks.{Scope, After, Joins, Turns, Tests, Repeats, Returns, Tries, Task, Next, Goes, Ends, Gave}
use Rattle.source_meaning.specs.Flow.{fails}
use Rattle.source_tasks.specs.declared.frames.Follow.{Follow}
use Rattle.source_tasks.specs.declared.frames.Follow.TheVariants as follow
use Rattle.source_tasks.specs.declared.task.Did.{Did}
use Rattle.source_tasks.specs.declared.task.Did.TheVariants as did

-- the function with no values, where none was kept
abbrev pub saved_scope : Option Scope → Scope
saved_scope None = record { func = 0; nest = InFunction; env = [] }
saved_scope (Some scope) = scope

-- what follows the region of an operation, with the scope that was kept
abbrev pub after_of : Follow → Node → Scope → After
after_of follow.Joins o scope = Joins o.results
after_of (follow.Turns i upper step) o scope = Turns o i upper step
after_of follow.Tests o scope = Tests o
after_of follow.Repeats o scope = Repeats o
after_of follow.Returns o scope = Returns scope o.results
after_of follow.Tries o scope = Tries scope o.results

-- what a step that asks nothing came to, where the task is then this one, is this next step
abbrev pub IsNext : Did → Task → Next → Type 0
IsNext did.Went t n = n ≡ Goes t
IsNext (did.Gave vs) t n = n ≡ Ends (Gave vs)
IsNext (did.Fails at) t n = n ≡ fails at t
