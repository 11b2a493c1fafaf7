-- Runs in any order of tasks: lists of actions, the last one first, each of which its task takes where it is enabled.
use Rattle.std.specs.Prelude.{◌≡◌, ◌<◌, ◌≤◌, ℕ, zero, suc, nat_eq, cond, ◌&&◌, Bool, true, false, List, [], ◌∷◌, ◌++◌, map, length, Option, Some, None}
use Rattle.ir_forms.specs.declared.names.ElementName.{ElementName}
use Rattle.ir_forms.specs.declared.names.MadeName.{MadeName}
use Rattle.ir_forms.specs.declared.names.TraceEntry.{TraceEntry}
use Rattle.ir_forms.specs.declared.names.MadeName.TheVariants.{Argument, Made}
use Rattle.ir_forms.specs.Names.{Path, launched_by, iteration_of, same_path, same_made, maker}
use Rattle.one_end.specs.Programs.{Outcome, Gave, Act, Reads, Writes, Creates, Adds, Launches, Enters, JoinsAll, AwaitsOne, AwaitsAll, Ends, Answer, Done, Number, Gives, Error, Program, is_good, shown}

-- an action that a task took, with the answer
pub record Event (D V : Type 0) : Type 0 where
  pub task : Path
  pub act : Act D V
  pub answer : Answer V

-- what was done, the last first
abbrev pub Log : (D V : Type 0) → Type 0
Log D V = List (Event D V)

-- the thing, or this where there is none
abbrev pub or_else : {X : Type 0} → X → Option X → X
or_else d None = d
or_else d (Some x) = x

-- the first of the two that is there
abbrev pub either : {X : Type 0} → Option X → Option X → Option X
either None y = y
either (Some x) y = Some x

-- ---- a task by itself

-- what it did
abbrev pub history : {D V : Type 0} → Log D V → Path → Log D V
history [] p = []
history (e ∷ log) p = cond (same_path e.task p) (e ∷ history log p) (history log p)

-- how many actions it took
abbrev pub taken : {D V : Type 0} → Log D V → Path → ℕ
taken log p = length (history log p)

-- the answers to them
abbrev pub answers : {D V : Type 0} → Log D V → Path → List (Answer V)
answers log p = map (λ e. e.answer) (history log p)

-- the outcome that such an action gives
abbrev pub ends_as : {D V : Type 0} → Act D V → Option (Outcome V)
ends_as (Ends o) = Some o
ends_as _ = None

-- the outcome, where the last action is an end
abbrev pub last_end : {D V : Type 0} → Log D V → Option (Outcome V)
last_end [] = None
last_end (e ∷ log) = ends_as e.act

-- the task's outcome, if it has ended
abbrev pub outcome : {D V : Type 0} → Log D V → Path → Option (Outcome V)
outcome log p = last_end (history log p)

-- the task has ended
abbrev pub Ended : {D V : Type 0} → Log D V → Path → Type 0
Ended {D} {V} log p = (o : Outcome V) × (outcome log p ≡ Some o)

-- how many iterations the parallel loop has that is entered so; else as before
abbrev pub turns_of : {D V : Type 0} → Act D V → ℕ → ℕ
turns_of (Enters ds is_split) before = length ds
turns_of _ before = before

-- how many the loop has that was entered last
abbrev pub turns_in : {D V : Type 0} → Log D V → ℕ
turns_in [] = 0
turns_in (e ∷ log) = turns_of e.act (turns_in log)

-- how many the loop has that the task entered last
abbrev pub turns : {D V : Type 0} → Log D V → Path → ℕ
turns log p = turns_in (history log p)

-- ---- which tasks there are

-- what the iteration q begins with, where these are what the iterations from i on begin with
abbrev pub iteration_made : {D : Type 0} → Path → ℕ → Path → ℕ → List D → Option D
iteration_made p k q i [] = None
iteration_made p k q i (d ∷ ds) = cond (same_path (iteration_of p k i) q) (Some d) (iteration_made p k q (suc i) ds)

-- what the task q begins with, if the k-th action of p makes it
abbrev pub made_by : {D V : Type 0} → Act D V → Path → ℕ → Path → Option D
made_by (Launches d r) p k q = cond (same_path (launched_by p k) q) (Some d) None
made_by (Enters ds is_split) p k q = iteration_made p k q 0 ds
made_by _ p k q = None

-- what a task begins with, if it was made
abbrev pub begun : {D V : Type 0} → Program D V → Log D V → Path → Option D
begun program [] q = cond (same_path [] q) (Some program.root) None
begun program (e ∷ log) q = either (begun program log q) (made_by e.act e.task (suc (taken log e.task)) q)

-- ---- what tasks share

-- the number that such an action puts into the cell
abbrev pub written : {D V : Type 0} → Act D V → MadeName → ℕ → Option ℕ
written (Writes c j n) b i = cond (same_made c b && nat_eq j i) (Some n) None
written _ b i = None

-- the number in a cell
abbrev pub cell : {D V : Type 0} → Program D V → Log D V → MadeName → ℕ → ℕ
cell program [] b i = program.cells b i
cell program (e ∷ log) b i = or_else (cell program log b i) (written e.act b i)

-- the element that such an action adds to the group
abbrev pub joins : {D V : Type 0} → Act D V → MadeName → List ElementName
joins (Adds h x used) g = cond (same_made h g) (x ∷ []) []
joins _ g = []

-- the elements of a group
abbrev pub members : {D V : Type 0} → Log D V → MadeName → List ElementName
members [] g = []
members (e ∷ log) g = joins e.act g ++ members log g

-- the size of the group that such an action creates
abbrev pub size_in : {D V : Type 0} → Act D V → Option ℕ
size_in (Creates n) = Some n
size_in _ = None

-- the size, where the action is the k-th of p and this is the group's name
abbrev pub size_made : {D V : Type 0} → Act D V → Path → ℕ → MadeName → Option ℕ
size_made a p k (Argument j) = None
size_made a p k (Made q n) = cond (same_path p q && nat_eq k n) (size_in a) None

-- the size of a group, if it was created; no argument is a group, and its name is that of an empty one
abbrev pub size : {D V : Type 0} → Log D V → MadeName → Option ℕ
size [] (Argument j) = Some 0
size [] (Made q n) = None
size (e ∷ log) g = either (size log g) (size_made e.act e.task (suc (taken log e.task)) g)

-- each element has the property
abbrev pub Each : {X : Type 0} → (X → Type 0) → List X → Type 0
Each P [] = Unit {0}
Each P (x ∷ xs) = P x × Each P xs

-- each element passes the test
abbrev pub all_of : {X : Type 0} → (X → Bool) → List X → Bool
all_of test [] = true
all_of test (x ∷ xs) = cond (test x) (all_of test xs) false

-- all numbers below n pass
abbrev pub all_below : (ℕ → Bool) → ℕ → Bool
all_below test zero = true
all_below test (suc n) = cond (test n) (all_below test n) false

-- a group with room for one more
pub record HasRoom {D V : Type 0} (log : Log D V) (g : MadeName) : Type 0 where
  pub most : ℕ
  pub created : size log g ≡ Some most
  pub room : length (members log g) < most

-- a group that is full, of ended tasks
pub record IsComplete {D V : Type 0} (log : Log D V) (g : MadeName) : Type 0 where
  pub most : ℕ
  pub created : size log g ≡ Some most
  pub full : most ≤ length (members log g)
  pub ended : Each (λ x. Ended log (maker x)) (members log g)

-- the task p can take the action
abbrev pub Can : {D V : Type 0} → Log D V → Path → Act D V → Type 0
Can log p (Adds g x used) = HasRoom log g
Can log p JoinsAll = (i : ℕ) → i < turns log p → Ended log (iteration_of p (taken log p) i)
Can log p (AwaitsOne x) = Ended log (maker x)
Can log p (AwaitsAll g) = IsComplete log g
Can log p _ = Unit {0}

-- nothing, or the error
abbrev pub unless_failed : {V : Type 0} → Bool → Answer V
unless_failed true = Done
unless_failed false = Error

-- the values of a task that is awaited, or the error
abbrev pub awaited : {V : Type 0} → Option (Outcome V) → Answer V
awaited (Some (Gave v)) = Gives v
awaited _ = Error

-- What the action answers. The rank of an add is told where it is used.
abbrev pub answer : {D V : Type 0} → Program D V → Log D V → Path → Act D V → Answer V
answer program log p (Reads b i) = Number (cell program log b i)
answer program log p (Adds g x true) = Number (length (members log g))
answer program log p JoinsAll = unless_failed (all_below (λ i. is_good (outcome log (iteration_of p (taken log p) i))) (turns log p))
answer program log p (AwaitsOne x) = awaited (outcome log (maker x))
answer program log p (AwaitsAll g) = unless_failed (all_of (λ x. is_good (outcome log (maker x))) (members log g))
answer program log p _ = Done

-- ---- runs

-- this is the next action of its task, and it can be taken
pub record Takes {D V : Type 0} (program : Program D V) (log : Log D V) (e : Event D V) : Type 0 where
  pub begin : D
  pub made : begun program log e.task ≡ Some begin
  pub lives : outcome log e.task ≡ None
  pub steps : ℕ
  pub acts : program.acts begin (answers log e.task) steps ≡ Some e.act
  pub can : Can log e.task e.act
  pub told : e.answer ≡ answer program log e.task e.act

-- each action was taken so
abbrev pub IsRun : {D V : Type 0} → Program D V → Log D V → Type 0
IsRun program [] = Unit {0}
IsRun program (e ∷ log) = Takes program log e × IsRun program log

-- each task that was made has ended
abbrev pub IsFinished : {D V : Type 0} → Program D V → Log D V → Type 0
IsFinished {D} {V} program log = (p : Path) (d : D) → begun program log p ≡ Some d → Ended log p

-- the task comes to an action, and can take it
pub record IsEnabled {D V : Type 0} (program : Program D V) (log : Log D V) (p : Path) : Type 0 where
  pub begin : D
  pub made : begun program log p ≡ Some begin
  pub lives : outcome log p ≡ None
  pub steps : ℕ
  pub next : Act D V
  pub acts : program.acts begin (answers log p) steps ≡ Some next
  pub can : Can log p next

-- ---- what is shown

-- what a run shows of an action
abbrev pub entry_of : {D V : Type 0} → Event D V → TraceEntry
entry_of e = record { task = e.task; action = shown e.act }

-- the trace of a run, in order
abbrev pub trace_of : {D V : Type 0} → Log D V → List TraceEntry
trace_of [] = []
trace_of (e ∷ log) = trace_of log ++ entry_of e ∷ []
