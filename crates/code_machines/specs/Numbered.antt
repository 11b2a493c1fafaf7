-- What runs of code show, by numbers: tasks in the order of launching, the root 0; groups and buffers in the order of making.
-- A token or value is a task's at a place: the token's is 0, and the values' are those from 1 on.
use Rattle.std.specs.Prelude.{ℕ, Bool}
use Rattle.source_meaning.specs.declared.ends.SourceEnd.{SourceEnd}
use Rattle.source_meaning.specs.declared.ends.SourceEnd.TheVariants.{Done, Failed}
use Rattle.step_core.specs.declared.ends.End.{End}
use Rattle.step_core.specs.declared.ends.End.TheVariants as end

pub data Numbered : Type 0 where
  Reads : (task buffer cell : ℕ) → Numbered
  Writes : (task buffer cell : ℕ) → Numbered
  Allocs : (task buffer cells : ℕ) → Numbered
  Creates : (task group size : ℕ) → Numbered
  Adds : (task group maker place : ℕ) (used : Bool) → Numbered
  Launches : (task child values : ℕ) → Numbered
  Awaits : (task maker place : ℕ) → Numbered
  AwaitsAll : (task group : ℕ) → Numbered
  Ends : (task : ℕ) (ok : Bool) → Numbered

-- the end of a run, as sequential runs have it
abbrev pub source_end : End → SourceEnd
source_end (end.Done results buffers) = Done results buffers
source_end (end.Failed op) = Failed op
