-- The laws: a step at such a row is followed by steps of code with the high rows that show the same, to states that agree again.
use Rattle.std.specs.Prelude.{◌≡◌, ◌⊎◌, ℕ, Bool, true, false, List, [], ◌∷◌, Option, Some, None, slice_get}
use Rattle.op_table.specs.declared.kind.OpKind.TheVariants as op
use Rattle.ir_forms.specs.declared.args.ArgValue.{ArgValue}
use Rattle.ir_forms.specs.declared.runs.FuncNo.{FuncNo}
use Rattle.low_forms.specs.declared.code.Instr.{Instr}
use Rattle.low_forms.specs.declared.code.LowFunc.{LowFunc}
use Rattle.low_forms.specs.declared.code.LowKind.{LowKind}
use Rattle.low_forms.specs.declared.code.LowKind.TheVariants.{Row}
use Rattle.low_forms.specs.declared.code.LowModule.{LowModule}
use Rattle.low_forms.specs.WellFormed.{WellFormed}
use Rattle.machines.specs.Simulates.{IsSafe, Owes}
use Rattle.task_stack.specs.declared.effects.Effect.{Effect}
use Rattle.task_stack.specs.declared.effects.Effect.TheVariants as effect
use Rattle.task_stack.specs.Effects.{effect_of}
use Rattle.task_stack.specs.declared.frames.Frame.{Frame}
use Rattle.step_core.specs.declared.tasks.Task.{Task}
use Rattle.step_core.specs.State.{Plain, start_in}
use Rattle.step_core.specs.Rows.{shared_row}
use Rattle.step_core.specs.High.{High, start}
use Rattle.code_machines.specs.Objects.{Objects, objects}
use Rattle.coro_lower.specs.declared.label.End.{End}
use Rattle.coro_lower.specs.declared.label.End.TheVariants as end
use Rattle.coro_lower.specs.Layout.{end_of}
use Rattle.coro_lower.specs.Shape.{lowered}
use Rattle.coro_laws.specs.Half.{HalfLowered}
use Rattle.coro_laws.specs.Laws.{lowered_code}
use Rattle.plain_carry.specs.Alike.{stays, is_of_cells}
use Rattle.coro_carry.specs.Machines.{numbered_plain, strict_high}
use Rattle.coro_carry.specs.Relation.{View, view, AtRow, AtLoad, Saves, Suspends, Tests, Tested, at_row, at_failure, at_load, Match, lands, saves, suspends, tests, tested, Grows, Agree}

-- ---- what is owed for a step of a task

-- the states of both
abbrev pub AgreeAt : LowModule → Plain × Objects → High → Type 0
AgreeAt code a h = Agree code a.0 a.1 h

pub record Running (code : LowModule) (n : FuncNo) (f g : LowFunc) (args : List ArgValue) (s : Plain) (k : Objects) (h : High) (t : ℕ) (task task' : Task) : Type 0 where
  pub well : WellFormed code
  pub half : HalfLowered code
  pub agree : Agree code s k h
  pub now : slice_get s.tasks t ≡ Some (Some task)
  pub now' : slice_get h.plain.tasks t ≡ Some (Some task')
  pub safe : IsSafe (numbered_plain (lowered_code code) n f args) (strict_high code n g args) (AgreeAt code) h

abbrev pub Followed : LowModule → FuncNo → LowFunc → LowFunc → List ArgValue → Plain → Objects → High → ℕ → Type 0
Followed code n f g args s k h t =
    Owes (numbered_plain (lowered_code code) n f args) (strict_high code n g args) (AgreeAt code) ((numbered_plain (lowered_code code) n f args).step (s, k) t) h

-- where a run of a plain function starts, the states agree
abbrev pub StartAgrees : Type 0
StartAgrees =
    (code : LowModule) (n : FuncNo) (f : LowFunc) (args : List ArgValue) → WellFormed code → HalfLowered code → slice_get code.funcs n.0 ≡ Some f → f.coroutine ≡ false →
    Agree code (start_in n (lowered f) args) objects.first (start n f args)

-- ---- rows that both codes have

abbrev pub is_kept_row : Effect → LowKind → Bool
is_kept_row effect.Shared kind = is_of_cells (shared_row kind)
is_kept_row e kind = stays e

-- an instruction that isn't a high row, and speaks of no object
abbrev pub is_kept : LowKind → Bool
is_kept kind = is_kept_row (effect_of kind) kind

abbrev pub InnerFollows : Type 0
InnerFollows =
    (code : LowModule) (n : FuncNo) (f g : LowFunc) (args : List ArgValue) (s : Plain) (k : Objects) (h : High) (t : ℕ) (task task' : Task) (r : Running code n f g args s k h t task task')
    (at : AtRow code (view s k h) t task task') (i : Instr) (is : List Instr) → at.rest.instrs ≡ i ∷ is → is_kept i.kind ≡ true → Followed code n f g args s k h t

-- ---- branches

abbrev pub is_branch : LowKind → Bool
is_branch (Row op.CfBr) = true
is_branch (Row op.CfCondBr) = true
is_branch _ = false

abbrev pub JumpFollows : Type 0
JumpFollows =
    (code : LowModule) (n : FuncNo) (f g : LowFunc) (args : List ArgValue) (s : Plain) (k : Objects) (h : High) (t : ℕ) (task task' : Task) (r : Running code n f g args s k h t task task')
    (at : AtRow code (view s k h) t task task') → at.rest.instrs ≡ [] → is_branch at.rest.term.instr.kind ≡ true → Followed code n f g args s k h t

-- ---- calls of plain functions

abbrev pub CallFollows : Type 0
CallFollows =
    (code : LowModule) (n : FuncNo) (f g : LowFunc) (args : List ArgValue) (s : Plain) (k : Objects) (h : High) (t : ℕ) (task task' : Task) (r : Running code n f g args s k h t task task')
    (at : AtRow code (view s k h) t task task') → at.rest.instrs ≡ [] → at.rest.term.instr.kind ≡ Row op.AioCall → Followed code n f g args s k h t

abbrev pub is_return : LowKind → Bool
is_return (Row op.FuncReturn) = true
is_return (Row op.AioFail) = true
is_return _ = false

-- a return or a failure, with a frame to go back to
abbrev pub ReturnFollows : Type 0
ReturnFollows =
    (code : LowModule) (n : FuncNo) (f g : LowFunc) (args : List ArgValue) (s : Plain) (k : Objects) (h : High) (t : ℕ) (task task' : Task) (r : Running code n f g args s k h t task task')
    (at : AtRow code (view s k h) t task task') → at.rest.instrs ≡ [] → end_of at.func at.block ≡ end.Stays → (task'.stack.below ≡ [] → ⊥) → is_return at.rest.term.instr.kind ≡ true → Followed code n f g args s k h t

-- ---- an await of a task

-- its state is saved
abbrev pub SaveFollows : Type 0
SaveFollows =
    (code : LowModule) (n : FuncNo) (f g : LowFunc) (args : List ArgValue) (s : Plain) (k : Objects) (h : High) (t : ℕ) (task task' : Task) (r : Running code n f g args s k h t task task')
    (at : AtRow code (view s k h) t task task') → at.rest.instrs ≡ [] → end_of at.func at.block ≡ end.Suspends → Followed code n f g args s k h t

-- what a save keeps is what goes on: the frame becomes the copy, and the task waits unless the object is done
abbrev pub ResumeFollows : Type 0
ResumeFollows =
    (code : LowModule) (n : FuncNo) (f g : LowFunc) (args : List ArgValue) (s : Plain) (k : Objects) (h : High) (t : ℕ) (task task' : Task) (r : Running code n f g args s k h t task task') →
    Saves code (view s k h) t task task' → Followed code n f g args s k h t

-- at the suspend it is parked, or goes on to the test
abbrev pub SuspendFollows : Type 0
SuspendFollows =
    (code : LowModule) (n : FuncNo) (f g : LowFunc) (args : List ArgValue) (s : Plain) (k : Objects) (h : High) (t : ℕ) (task task' : Task) (r : Running code n f g args s k h t task task') →
    Suspends code (view s k h) t task task' → Followed code n f g args s k h t

-- ---- an await of a plain function, in which the whole task waits

abbrev pub WaitFollows : Type 0
WaitFollows =
    (code : LowModule) (n : FuncNo) (f g : LowFunc) (args : List ArgValue) (s : Plain) (k : Objects) (h : High) (t : ℕ) (task task' : Task) (r : Running code n f g args s k h t task task')
    (at : AtRow code (view s k h) t task task') → at.rest.instrs ≡ [] → end_of at.func at.block ≡ end.Waits → Followed code n f g args s k h t

-- ---- behind it

-- the test whether what was awaited is in error: the second code's task goes on
abbrev pub TestFollows : Type 0
TestFollows =
    (code : LowModule) (n : FuncNo) (f g : LowFunc) (args : List ArgValue) (s : Plain) (k : Objects) (h : High) (t : ℕ) (task task' : Task) (r : Running code n f g args s k h t task task') →
    Tests code (view s k h) t task task' → Followed code n f g args s k h t

-- the branch by the test
abbrev pub BranchFollows : Type 0
BranchFollows =
    (code : LowModule) (n : FuncNo) (f g : LowFunc) (args : List ArgValue) (s : Plain) (k : Objects) (h : High) (t : ℕ) (task task' : Task) (r : Running code n f g args s k h t task task') →
    Tested code (view s k h) t task task' → Followed code n f g args s k h t

-- the load of the value
abbrev pub LoadFollows : Type 0
LoadFollows =
    (code : LowModule) (n : FuncNo) (f g : LowFunc) (args : List ArgValue) (s : Plain) (k : Objects) (h : High) (t : ℕ) (task task' : Task) (r : Running code n f g args s k h t task task') →
    AtLoad code (view s k h) t task task' → Followed code n f g args s k h t

-- ---- all of these together

-- a block that ends so, with such a terminator, and these frames below
abbrev pub CoversEnd : End → LowKind → List Frame → Type 0
CoversEnd end.Stays kind below = (is_branch kind ≡ true) ⊎ ((kind ≡ Row op.AioCall) ⊎ ((is_return kind ≡ true) × (below ≡ [] → ⊥)))
CoversEnd end.Waits kind below = Unit {0}
CoversEnd end.Suspends kind below = Unit {0}
CoversEnd end.Gives kind below = ⊥
CoversEnd end.Fails kind below = ⊥

abbrev pub CoversRow : End → List Instr → LowKind → List Frame → Type 0
CoversRow e [] kind below = CoversEnd e kind below
CoversRow e (i ∷ is) kind below = is_kept i.kind ≡ true

-- a task is at none of the rows that are left: a launch, a row of groups, the end of a task or of the run, and the way to the block that sets
-- errors
abbrev pub Covers : (code : LowModule) (V : View) (t : ℕ) (task task' : Task) → Match code V t task task' → Type 0
Covers code V t task task' (lands (at_row a)) = CoversRow (end_of a.func a.block) a.rest.instrs a.rest.term.instr.kind task'.stack.below
Covers code V t task task' (lands (at_failure a)) = ⊥
Covers code V t task task' (lands (at_load a)) = Unit {0}
Covers code V t task task' (saves a) = Unit {0}
Covers code V t task task' (suspends a) = Unit {0}
Covers code V t task task' (tests a) = Unit {0}
Covers code V t task task' (tested a) = Unit {0}

abbrev pub CoveredFollows : Type 0
CoveredFollows =
    (code : LowModule) (n : FuncNo) (f g : LowFunc) (args : List ArgValue) (s : Plain) (k : Objects) (h : High) (t : ℕ) (task task' : Task) (r : Running code n f g args s k h t task task') →
    (m : Match code (view s k h) t task task') → Covers code (view s k h) t task task' m → Followed code n f g args s k h t

-- ---- tasks stand where they stood where objects are made

abbrev pub MatchGrows : Type 0
MatchGrows = (code : LowModule) (V after : View) (t : ℕ) (task task' : Task) → Grows V after → Match code V t task task' → Match code after t task task'
