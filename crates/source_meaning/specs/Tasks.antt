-- A task by itself: what it has still to do, what it asks of the shared state, and how it goes on after the answer.
use Rattle.std.specs.Prelude.{ℕ, Bool, List, [], ◌∷◌, Option, Some, None}
use Rattle.ir_forms.specs.declared.ops.Func.{Func}
use Rattle.ir_forms.specs.declared.ops.Op.{Op}
use Rattle.ir_forms.specs.declared.ops.ValueNo.{ValueNo}
use Rattle.ir_verify.specs.declared.place.Nest.{Nest}
use Rattle.ir_forms.specs.declared.names.ElementName.{ElementName}
use Rattle.ir_forms.specs.declared.names.MadeName.{MadeName}
use Rattle.source_meaning.specs.declared.values.Val.{Val}
use Rattle.source_meaning.specs.Values.{Env, bind}
use Rattle.source_meaning.specs.Parts.{Node}

-- The functions of a module, and for each of them whether a task calls it and all operands in it.
pub record Program : Type 0 where
  pub funcs : List Func
  pub called : List Bool
  pub uses : List (List ValueNo)

-- The place of the function whose operations are taken, what is nearest of task, parallel loop and function there, and its values.
pub record Scope : Type 0 where
  pub func : ℕ
  pub nest : Nest
  pub env : Env

-- What follows a region: the results of its operation are bound; the next turn of a loop, whose variable, bound and
-- step are these bits; a test of `scf.while`, or its next round; the caller, whose call failed or not.
pub data After : Type 0 where
  Joins : List ValueNo → After
  Turns : Node → ℕ → ℕ → ℕ → After
  Tests : Node → After
  Repeats : Node → After
  Returns : Scope → List ValueNo → After
  Tries : Scope → List ValueNo → After

-- one dimension of a parallel loop
pub record Span : Type 0 where
  pub lower : ℕ
  pub step : ℕ
  pub turns : ℕ

-- a parallel loop that is entered: its body with the values that it sees, its dimensions, and how many iterations it has
pub record Loop : Type 0 where
  pub scope : Scope
  pub params : List ValueNo
  pub body : List Op
  pub spans : List Span
  pub total : ℕ
  pub split : Bool

-- What a task does before its next operation: an await whose value is bound, the end of a parallel loop, a failure. The
-- number is that of the operation at which it fails.
pub data Pending : Type 0 where
  Awaits : ℕ → ElementName → List ValueNo → Pending
  Joining : ℕ → Loop → Pending
  Failing : ℕ → Pending

-- What is left: first what is pending, then the operations of the region, then what follows each region round it.
pub record Task : Type 0 where
  pub pending : List Pending
  pub rest : List Op
  pub frames : List (After × List Op)
  pub scope : Scope

-- What a task asks of the shared state: an action with what the state needs to take it.
pub data Ask : Type 0 where
  Reads : MadeName → ℕ → Ask
  Writes : MadeName → ℕ → ℕ → Ask
  Allocs : List ℕ → Ask
  Creates : ℕ → Ask
  Adds : MadeName → ElementName → Bool → Ask
  Launches : Task → ℕ → Ask
  Enters : Loop → Ask
  JoinsAll : Loop → Ask
  AwaitsOne : ElementName → Ask
  AwaitsAll : MadeName → Ask

-- The values of the last operation, or the number of the one at which it failed.
pub data Outcome : Type 0 where
  Gave : List Val → Outcome
  FailedAt : ℕ → Outcome

-- Some values for the names that wait for them, or the error.
abbrev pub Answer : Type 0
Answer = Option (List Val)

-- The next step: one that nothing shared sees; one that asks, with the operation at which an error fails, the names that
-- get the answer, and the task that goes on; or the task's end.
pub data Next : Type 0 where
  Goes : Task → Next
  Asks : ℕ → Ask → List ValueNo → Task → Next
  Ends : Outcome → Next

-- the task with these values under these names
abbrev pub bound : List ValueNo → List Val → Task → Task
bound xs vs t = record t { scope = record t.scope { env = bind xs vs t.scope.env } }

-- the task after the answer
abbrev pub resumed : ℕ → List ValueNo → Task → Answer → Task
resumed at xs t None = record t { pending = Failing at ∷ [] }
resumed at xs t (Some vs) = bound xs vs t

-- the task after a step to which this was answered
abbrev pub told : Next → Task → Answer → Task
told (Goes t) before answer = t
told (Asks at ask xs t) before answer = resumed at xs t answer
told (Ends outcome) before answer = before
