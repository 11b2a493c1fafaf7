-- How the stack of a running task stands to a running task of the source at any time.
use Rattle.std.specs.Prelude.{◌≡◌, ◌⊎◌, ℕ, Some, None}
use Rattle.low_forms.specs.declared.code.LowModule.{LowModule}
use Rattle.source_meaning.specs.Steps.{next}
use Rattle.source_meaning.specs.Tasks.{Program, Task, Next, Goes, Asks, Ends}
use Rattle.task_stack.specs.Frames.{Stack}
use Rattle.step_core.specs.Shared.{Took, Stuck}
use Rattle.step_core.specs.High.{High, high_step}
use Rattle.block_carry.specs.Same.{Known}
use Rattle.block_carry.specs.Laid.{AreLaid}
use Rattle.block_carry.specs.Stands.{Stands}
use Rattle.block_carry.specs.Follows.{quiet, quiets, IsReady, AsksSo, EndsSo, Comes}
use Rattle.block_carry.specs.Taken.{HasTask, KnowsCells, KnowsGroups}

module _ (p : Program) (code : LowModule) where
  -- steps that show nothing lead to where the stack stands at the task
  abbrev pub IsAhead : Known → Task → Stack → Type 0
  IsAhead k t s = (n : ℕ) × (a : Stack) × (quiets code n s ≡ Some a) × Stands p code k t a

  -- or to where it does what the task does next
  abbrev pub Holds : Known → Task → Stack → Type 0
  Holds k t s = IsAhead k t s ⊎ Comes p code k s (next p t)

  -- the stack does at once what the task does next, which isn't a step that shows nothing
  abbrev pub DoesSo : Known → Stack → Next → Type 0
  DoesSo k s (Goes t) = ⊥
  DoesSo k s (Asks number ask xs t) = AsksSo p code k number ask xs t s
  DoesSo k s (Ends o) = EndsSo p code k o s

  -- the task takes a step that shows nothing, after which the stack holds it
  abbrev pub GoesAlong : Known → Task → Stack → Type 0
  GoesAlong k t s = (after : Task) × (next p t ≡ Goes after) × Holds k after s

-- behind a step that shows nothing the stack holds the task as before, or the task as it is behind its own such step
abbrev pub QuietHolds : Type 0
QuietHolds = (p : Program) (code : LowModule) → AreLaid p code → (k : Known) (t : Task) (s a : Stack) → Holds p code k t s → IsReady t → quiet code s ≡ Some a → Holds p code k t a ⊎ GoesAlong p code k t a

-- a stack that takes no step that shows nothing does what the task does next
abbrev pub StopsSo : Type 0
StopsSo = (p : Program) (code : LowModule) → AreLaid p code → (k : Known) (t : Task) (s : Stack) → Holds p code k t s → IsReady t → quiet code s ≡ None → DoesSo p code k s (next p t)

-- ---- the machine of code with the high rows

-- a step isn't stuck
abbrev pub IsFine : Took High → Type 0
IsFine Stuck = ⊥
IsFine _ = Unit {0}

-- what is known holds of a state
pub record Knows (k : Known) (h : High) : Type 0 where
  pub refs : k.refs ≡ h.refs
  pub cells : KnowsCells k h
  pub groups : KnowsGroups k h

-- The step of a task whose stack holds one of the source isn't stuck.
abbrev pub NeverStuckHere : Type 0
NeverStuckHere = (p : Program) (code : LowModule) → AreLaid p code → (k : Known) (h : High) (t : ℕ) (u : Task) (s : Stack) → HasTask h t s → Knows k h → Holds p code k u s → IsReady u → IsFine (high_step code h t)
