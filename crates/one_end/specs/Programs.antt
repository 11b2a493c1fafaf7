-- What tasks ask of what they share, and what they are told.
use Rattle.std.specs.Prelude.{◌≡◌, ℕ, Bool, true, false, List, length, Option, Some}
use Rattle.ir_forms.specs.declared.names.Action.{Action}
use Rattle.ir_forms.specs.declared.names.ElementName.{ElementName}
use Rattle.ir_forms.specs.declared.names.MadeName.{MadeName}
use Rattle.ir_forms.specs.declared.names.Action.TheVariants.{Read, Write, Alloc, Create, Add, Launch, Enter, JoinAll, Await, AwaitAll, End}

-- the values that a task ends with, or the number of the operation at which it failed
pub data Outcome (V : Type 0) : Type 0 where
  Gave : V → Outcome V
  FailedAt : ℕ → Outcome V

-- An action with all that it takes: a written number, what a launched task or each iteration begins with, a task's outcome.
pub data Act (D V : Type 0) : Type 0 where
  Reads : MadeName → ℕ → Act D V
  Writes : MadeName → ℕ → ℕ → Act D V
  Allocs : ℕ → Act D V
  Creates : ℕ → Act D V
  Adds : MadeName → ElementName → Bool → Act D V
  Launches : D → ℕ → Act D V
  Enters : List D → Bool → Act D V
  JoinsAll : Act D V
  AwaitsOne : ElementName → Act D V
  AwaitsAll : MadeName → Act D V
  Ends : Outcome V → Act D V

-- nothing, the number of a cell or a used rank, the values of a task, or the error
pub data Answer (V : Type 0) : Type 0 where
  Done : Answer V
  Number : ℕ → Answer V
  Gives : V → Answer V
  Error : Answer V

-- What the root begins with, the cells at the start, and the action that a task takes within so many silent steps, by what
-- it began with and the answers to its actions, the last one first: it comes to one action at most.
pub record Program (D V : Type 0) : Type 0 where
  pub root : D
  pub cells : MadeName → ℕ → ℕ
  pub acts : D → List (Answer V) → ℕ → Option (Act D V)
  pub one : (d : D) (answers : List (Answer V)) (m n : ℕ) (a b : Act D V) → acts d answers m ≡ Some a → acts d answers n ≡ Some b → a ≡ b

-- it ended without failure
abbrev pub is_good : {V : Type 0} → Option (Outcome V) → Bool
is_good (Some (Gave v)) = true
is_good _ = false

-- what is shown of an action
abbrev pub shown : {D V : Type 0} → Act D V → Action
shown (Reads b i) = Read b i
shown (Writes b i n) = Write b i
shown (Allocs n) = Alloc n
shown (Creates n) = Create n
shown (Adds g x used) = Add g x used
shown (Launches d r) = Launch r
shown (Enters ds is_split) = Enter (length ds) is_split
shown JoinsAll = JoinAll
shown (AwaitsOne x) = Await x
shown (AwaitsAll g) = AwaitAll g
shown (Ends o) = End (is_good (Some o))
