-- What a step of the code asks, and how it stands to the next step of the definitions.
use Rattle.std.specs.Prelude.{◌≡◌, ◌≤◌, ℕ, List, [], Option, Some, None, slice_get}
use Rattle.ir_forms.specs.declared.ops.ValueNo.{ValueNo}
use Rattle.ir_forms.specs.Shapes.{product, most_cells}
use Rattle.source_meaning.specs.declared.values.Val.{Val}
use Rattle.source_meaning.specs.Parts.{Node, func_ops}
use Rattle.source_meaning.specs.Tasks.{Program, Loop, Task, Ask, Reads, Writes, Allocs, Creates, Adds, Launches, Enters, JoinsAll, AwaitsOne, AwaitsAll, Next, Goes, Asks, Ends, Gave, FailedAt}
use Rattle.source_meaning.specs.Flow.{scope_of, fails}
use Rattle.source_tasks.specs.Numbers.{capped}
use Rattle.source_tasks.specs.Pending.{joined}
use Rattle.source_tasks.specs.declared.step.Asked.{Asked}
use Rattle.source_tasks.specs.declared.step.Asked.TheVariants as asked
use Rattle.source_tasks.specs.declared.step.Step.{Step}
use Rattle.source_tasks.specs.declared.step.Step.TheVariants as step

-- ---- what a step came to

-- this is asked, by a step of this task
abbrev pub IsAsk : Asked → Task → Ask → Type 0
IsAsk (asked.Reads b c) t ask = (i : ℕ) × (ask ≡ Reads b i) × (c ≡ capped i)
IsAsk (asked.Writes b c n) t ask = (i : ℕ) × (ask ≡ Writes b i n) × (c ≡ capped i)
IsAsk (asked.Allocs dims cells) t ask = (ask ≡ Allocs dims) × (cells ≡ product dims) × (cells ≤ most_cells)
IsAsk (asked.Creates size) t ask = ask ≡ Creates size
IsAsk (asked.Adds g x used) t ask = ask ≡ Adds g x used
IsAsk (asked.Launches child results) t ask = ask ≡ Launches child results
IsAsk (asked.Enters total split) t ask = (loop : Loop) × (ask ≡ Enters loop) × (loop.total ≡ total) × (loop.split ≡ split)
IsAsk (asked.JoinsAll total) t ask = (loop : Loop) × (joined t ≡ Some loop) × (ask ≡ JoinsAll loop) × (loop.total ≡ total)
IsAsk (asked.AwaitsOne x) t ask = ask ≡ AwaitsOne x
IsAsk (asked.AwaitsAll g) t ask = ask ≡ AwaitsAll g

-- what a step came to, where the task was the first and is now the second, is this next step
abbrev pub IsStep : Step → Task → Task → Next → Type 0
IsStep step.Went before t n = n ≡ Goes t
IsStep (step.Asks at asked names) before t n = (ask : Ask) × IsAsk asked before ask × (n ≡ Asks at ask names t)
IsStep (step.Gave vs) before t n = n ≡ Ends (Gave vs)
IsStep (step.Failed at) before t n = n ≡ Ends (FailedAt at)

-- what an operation asks for these names, or its failure, is this next step
abbrev pub IsPosed : Option Asked → List ValueNo → Node → Task → Next → Type 0
IsPosed None xs o t n = n ≡ fails o.at t
IsPosed (Some asked) xs o t n = (ask : Ask) × ((before : Task) → IsAsk asked before ask) × (n ≡ Asks o.at ask xs t)

-- ---- where a run begins

-- the task of a function with these values of its parameters
abbrev pub task_of : Program → ℕ → List Val → Task
task_of p k vs = record { pending = []; rest = func_ops (slice_get p.funcs k); frames = []; scope = scope_of p k vs }
