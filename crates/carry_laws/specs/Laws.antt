-- What programs have in common whose tasks agree one by one.
use Rattle.std.specs.Prelude.{◌≡◌, ◌≤◌, ℕ, List, is_some}
use Rattle.ir_forms.specs.declared.args.ArgValue.{ArgValue}
use Rattle.ir_forms.specs.declared.names.TraceEntry.{TraceEntry}
use Rattle.ir_forms.specs.declared.ops.Module.{Module}
use Rattle.ir_forms.specs.Names.{Path}
use Rattle.source_meaning.specs.declared.ends.SourceEnd.{SourceEnd}
use Rattle.source_meaning.specs.Tasks.{Program, Task}
use Rattle.source_meaning.specs.World.{World}
use Rattle.source_meaning.specs.Sequential.{IsProgram, Means}
use Rattle.source_meaning.specs.TaskOrder.{Order, IsReached, task_at, Finishes}
use Rattle.source_meaning.specs.Runs.{Ends, IsUnspent}
use Rattle.carry_laws.specs.Agreement.{Agreement}

-- each follows from the other
abbrev pub BothWays : Type 0 → Type 0 → Type 0
BothWays A B = (A → B) × (B → A)

-- tasks of the first program and of the second
abbrev pub Relation : Type 1
Relation = Program → Program → Task → Task → Type 0

-- the sequential runs that end by their root have the same ends and traces
abbrev pub SameEnds : Relation → (World → Type 0) → Type 0
SameEnds like kept = (p q : Program) (entry : ℕ) (args : List ArgValue) → Agreement (like p q) kept p q entry args →
    (end : SourceEnd) (trace : List TraceEntry) → BothWays (Ends p entry args end trace) (Ends q entry args end trace)

-- the finished runs in any order of tasks have the same ends and traces
abbrev pub SameFinishes : Relation → (World → Type 0) → Type 0
SameFinishes like kept = (p q : Program) (entry : ℕ) (args : List ArgValue) → Agreement (like p q) kept p q entry args →
    (trace : List TraceEntry) (end : SourceEnd) → BothWays (Finishes p entry args trace end) (Finishes q entry args trace end)

-- a state that the second program's runs come to, which shares and shows the same and in which the same tasks haven't ended
pub record IsLike (q : Program) (entry : ℕ) (args : List ArgValue) (s : Order) : Type 0 where
  pub at : Order
  pub reached : IsReached q entry args at
  pub world : at.world ≡ s.world
  pub log : at.log ≡ s.log
  pub live : (r : Path) → is_some (task_at at r) ≡ is_some (task_at s r)

-- there is one for each state that runs of the first program come to, finished or not
abbrev pub FollowsEach : Program → Program → ℕ → List ArgValue → Type 0
FollowsEach p q entry args = (s : Order) → IsReached p entry args s → IsLike q entry args s

-- so it is for agreeing programs, both ways
abbrev pub SameStates : Relation → (World → Type 0) → Type 0
SameStates like kept = (p q : Program) (entry : ℕ) (args : List ArgValue) → Agreement (like p q) kept p q entry args → FollowsEach p q entry args × FollowsEach q p entry args

-- with each fuel from some number on, the function of this module has this end and trace
abbrev pub MeansAtLast : Module → ℕ → List ArgValue → SourceEnd → List TraceEntry → Type 0
MeansAtLast program entry args end trace = (least : ℕ) × ((fuel : ℕ) → least ≤ fuel → Means program entry args fuel end trace)

-- what the function of a module means with some fuel that isn't spent, that of the other means with each fuel from some number on
abbrev pub FollowsIn : Module → Module → ℕ → List ArgValue → Type 0
FollowsIn one other entry args = (fuel : ℕ) (end : SourceEnd) (trace : List TraceEntry) → Means one entry args fuel end trace → IsUnspent end → MeansAtLast other entry args end trace

-- so it is for two modules whose programs' tasks agree, both ways
abbrev pub SameMeaning : Relation → (World → Type 0) → Type 0
SameMeaning like kept = (one other : Module) (p q : Program) (entry : ℕ) (args : List ArgValue) → IsProgram one p → IsProgram other q → Agreement (like p q) kept p q entry args →
    FollowsIn one other entry args × FollowsIn other one entry args
