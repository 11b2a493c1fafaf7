-- A module's function as a program: each task takes its next action as the meaning of source modules says.
use Rattle.std.specs.Prelude.{◌≡◌, ℕ, zero, suc, ◌+◌, List, [], ◌∷◌, map, length, Option, Some, None, slice_get}
use Rattle.ir_forms.specs.declared.args.ArgValue.{ArgValue}
use Rattle.ir_forms.specs.declared.names.ElementName.{ElementName}
use Rattle.ir_forms.specs.declared.names.ElementName.TheVariants.{Token, Value}
use Rattle.ir_forms.specs.declared.names.MadeName.{MadeName}
use Rattle.ir_forms.specs.declared.names.MadeName.TheVariants.{Made}
use Rattle.ir_forms.specs.Names.{Path, launched_by, iteration_of}
use Rattle.ir_forms.specs.Shapes.{product}
use Rattle.one_end.specs.Programs as one
use Rattle.source_meaning.specs.declared.values.Val.{Val}
use Rattle.source_meaning.specs.declared.values.Val.TheVariants.{Number, Memory, Element, Group}
use Rattle.source_meaning.specs.Values.{nothing, or_else}
use Rattle.source_meaning.specs.Tasks.{Program, Loop, Task, Ask, Reads, Writes, Allocs, Creates, Adds, Launches, Enters, JoinsAll, AwaitsOne, AwaitsAll, Outcome, Gave, FailedAt, Answer, Next, Goes, Asks, Ends, resumed}
use Rattle.source_meaning.specs.Steps.{next}
use Rattle.source_meaning.specs.World.{cell, elements_of, numbers_from}
use Rattle.source_meaning.specs.Start.{first_world, root_task}
use Rattle.source_meaning.specs.Sequential.{iteration}
use Rattle.source_meaning.specs.TaskOrder.{and_then}
use Rattle.one_end.specs.OneEnd.{OneEndOf}

-- a task with its path
pub record Begin : Type 0 where
  pub path : Path
  pub task : Task

-- values that a task ends with
abbrev pub Values : Type 0
Values = List Val

-- ---- what a task does by itself

-- the task's next step that asks or ends, behind at most n others
abbrev pub settled : Program → ℕ → Next → Option Next
settled p zero (Goes t) = None
settled p (suc n) (Goes t) = settled p n (next p t)
settled p n (Asks at ask xs t) = Some (Asks at ask xs t)
settled p n (Ends o) = Some (Ends o)

-- What a task gets whose action, the k-th of its path q, was answered so. A rank that isn't used is told as nothing.
abbrev pub reply : Path → ℕ → Ask → one.Answer Values → Answer
reply q k (Reads b i) (one.Number n) = Some (Number n ∷ [])
reply q k (Reads b i) a = Some (nothing ∷ [])
reply q k (Writes b i n) a = Some []
reply q k (Allocs dims) a = Some (Memory (Made q k) dims ∷ [])
reply q k (Creates n) a = Some (Group (Made q k) ∷ [])
reply q k (Adds g x used) (one.Number n) = Some (Number n ∷ [])
reply q k (Adds g x used) a = Some (nothing ∷ [])
reply q k (Launches t r) a = Some (elements_of (launched_by q k) r)
reply q k (Enters loop) a = Some []
reply q k (JoinsAll loop) one.Done = Some []
reply q k (JoinsAll loop) a = None
reply q k (AwaitsOne (Token p)) (one.Gives vs) = Some []
reply q k (AwaitsOne (Value p j)) (one.Gives vs) = Some (or_else nothing (slice_get vs j) ∷ [])
reply q k (AwaitsOne x) a = None
reply q k (AwaitsAll g) one.Done = Some []
reply q k (AwaitsAll g) a = None

-- the task after that answer; an end has none
abbrev pub replied : Path → ℕ → one.Answer Values → Next → Option Task
replied q k a (Asks at ask xs t) = Some (resumed at xs t (reply q k ask a))
replied q k a _ = None

-- the task after these answers to its actions, the last one first, with at most n quiet steps before each action
abbrev pub standing : Program → Begin → List (one.Answer Values) → ℕ → Option Task
standing p b [] n = Some b.task
standing p b (a ∷ older) n = and_then (λ t. and_then (replied b.path (suc (length older)) a) (settled p n (next p t))) (standing p b older n)

-- ---- as actions

abbrev pub ended_as : Outcome → one.Outcome Values
ended_as (Gave vs) = one.Gave vs
ended_as (FailedAt at) = one.FailedAt at

-- the action that an asking is, as the k-th of q
abbrev pub asked : Path → ℕ → Ask → one.Act Begin Values
asked q k (Reads b i) = one.Reads b i
asked q k (Writes b i n) = one.Writes b i n
asked q k (Allocs dims) = one.Allocs (product dims)
asked q k (Creates n) = one.Creates n
asked q k (Adds g x used) = one.Adds g x used
asked q k (Launches t r) = one.Launches (record { path = launched_by q k; task = t }) r
asked q k (Enters loop) = one.Enters (map (λ i. record { path = iteration_of q k i; task = iteration loop i }) (numbers_from 0 loop.total)) loop.split
asked q k (JoinsAll loop) = one.JoinsAll
asked q k (AwaitsOne x) = one.AwaitsOne x
asked q k (AwaitsAll g) = one.AwaitsAll g

-- the action, or the end, that a step is
abbrev pub acted : Path → ℕ → Next → Option (one.Act Begin Values)
acted q k (Goes t) = None
acted q k (Asks at ask xs t) = Some (asked q k ask)
acted q k (Ends o) = Some (one.Ends (ended_as o))

-- the action that the task takes after these answers
abbrev pub acts : Program → Begin → List (one.Answer Values) → ℕ → Option (one.Act Begin Values)
acts p b answers n = and_then (λ t. and_then (acted b.path (suc (length answers))) (settled p n (next p t))) (standing p b answers n)

-- the function with these arguments, as a program
pub record IsProgram (p : Program) (entry : ℕ) (args : List ArgValue) (program : one.Program Begin Values) : Type 0 where
  pub root : program.root ≡ record { path = []; task = root_task p entry args }
  pub cells : (b : MadeName) (i : ℕ) → program.cells b i ≡ cell (first_world args) b i
  pub acts : (b : Begin) (answers : List (one.Answer Values)) (n : ℕ) → program.acts b answers n ≡ acts p b answers n

-- each function of a module is a program, and so has one end
abbrev pub FunctionsAreProgramsOfOneEnd : Type 0
FunctionsAreProgramsOfOneEnd = (p : Program) (entry : ℕ) (args : List ArgValue) → (program : one.Program Begin Values) × IsProgram p entry args program × OneEndOf Begin Values program
