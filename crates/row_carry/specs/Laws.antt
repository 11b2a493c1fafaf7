-- The laws: where a group is made, at rows that code of blocks doesn't have, and at the root's end, a step of code with coroutines is followed.
use Rattle.std.specs.Prelude.{◌≡◌, ◌⊎◌, ℕ, Bool, true, false, List, [], ◌∷◌, Option, Some, None, slice_get}
use Rattle.op_table.specs.declared.kind.OpKind.TheVariants as op
use Rattle.ir_forms.specs.declared.args.ArgValue.{ArgValue}
use Rattle.ir_forms.specs.declared.runs.FuncNo.{FuncNo}
use Rattle.low_forms.specs.declared.code.Instr.{Instr}
use Rattle.low_forms.specs.declared.code.LowFunc.{LowFunc}
use Rattle.low_forms.specs.declared.code.LowKind.{LowKind}
use Rattle.low_forms.specs.declared.code.LowKind.TheVariants.{Row}
use Rattle.low_forms.specs.declared.code.LowModule.{LowModule}
use Rattle.machines.specs.Simulates.{Ends}
use Rattle.step_core.specs.declared.rows.SharedRow.{SharedRow}
use Rattle.step_core.specs.declared.rows.SharedRow.TheVariants as row
use Rattle.step_core.specs.declared.tasks.Task.{Task}
use Rattle.step_core.specs.Rows.{shared_row}
use Rattle.step_core.specs.State.{Plain}
use Rattle.step_core.specs.Shared.{Took, Takes}
use Rattle.step_core.specs.High.{High, Outcome, outcome, start, high_step}
use Rattle.code_machines.specs.Objects.{Objects}
use Rattle.coro_lower.specs.declared.label.End.{End}
use Rattle.coro_lower.specs.declared.label.End.TheVariants as end
use Rattle.coro_lower.specs.Layout.{end_of}
use Rattle.coro_laws.specs.Laws.{lowered_code}
use Rattle.coro_carry.specs.Machines.{numbered_plain, strict_high}
use Rattle.coro_carry.specs.Relation.{View, view, AtRow, at_row, Match, lands, Agree}
use Rattle.coro_carry.specs.Laws.{AgreeAt, Running, Followed, is_kept, is_return, CoversEnd, Covers}

-- ---- a group is made

abbrev pub makes_group : LowKind → Type 0
makes_group kind = kind ≡ Row op.AsyncRuntimeCreateGroup

abbrev pub CreateFollows : Type 0
CreateFollows =
    (code : LowModule) (n : FuncNo) (f g : LowFunc) (args : List ArgValue) (s : Plain) (k : Objects) (h : High) (t : ℕ) (task task' : Task) (r : Running code n f g args s k h t task task')
    (at : AtRow code (view s k h) t task task') (i : Instr) (is : List Instr) → at.rest.instrs ≡ i ∷ is → makes_group i.kind → Followed code n f g args s k h t

-- ---- rows that only code with coroutines has

abbrev pub is_absent_row : SharedRow → Bool
is_absent_row row.Finish = true
is_absent_row row.Create = true
is_absent_row row.Resume = true
is_absent_row row.Await = true
is_absent_row row.AwaitAndResume = true
is_absent_row row.IsError = true
is_absent_row row.Store = true
is_absent_row row.Load = true
is_absent_row row.SetAvailable = true
is_absent_row row.SetError = true
is_absent_row _ = false

abbrev pub is_absent : LowKind → Bool
is_absent kind = is_absent_row (shared_row kind)

-- code of blocks is stuck at them, and a safe run never stands there
abbrev pub AbsentFollows : Type 0
AbsentFollows =
    (code : LowModule) (n : FuncNo) (f g : LowFunc) (args : List ArgValue) (s : Plain) (k : Objects) (h : High) (t : ℕ) (task task' : Task) (r : Running code n f g args s k h t task task')
    (at : AtRow code (view s k h) t task task') (i : Instr) (is : List Instr) → at.rest.instrs ≡ i ∷ is → is_absent i.kind ≡ true → Followed code n f g args s k h t

-- the same where a block ends in such a row
abbrev pub AbsentEndFollows : Type 0
AbsentEndFollows =
    (code : LowModule) (n : FuncNo) (f g : LowFunc) (args : List ArgValue) (s : Plain) (k : Objects) (h : High) (t : ℕ) (task task' : Task) (r : Running code n f g args s k h t task task')
    (at : AtRow code (view s k h) t task task') → at.rest.instrs ≡ [] → end_of at.func at.block ≡ end.Stays → is_absent at.rest.term.instr.kind ≡ true → Followed code n f g args s k h t

-- ---- the end of the root, and of the run

-- the task is the root, the first of all, which has not ended, and its last frame works
pub record IsRoot (h : High) (t : ℕ) (task' : Task) : Type 0 where
  pub root : task'.stack.is_root ≡ true
  pub alone : task'.stack.below ≡ []
  pub first : t ≡ 0
  pub runs : outcome h t ≡ None

abbrev pub RootEndFollows : Type 0
RootEndFollows =
    (code : LowModule) (n : FuncNo) (f g : LowFunc) (args : List ArgValue) (s : Plain) (k : Objects) (h : High) (t : ℕ) (task task' : Task) (r : Running code n f g args s k h t task task')
    (at : AtRow code (view s k h) t task task') → at.rest.instrs ≡ [] → end_of at.func at.block ≡ end.Stays → IsRoot h t task' → is_return at.rest.term.instr.kind ≡ true → Followed code n f g args s k h t

-- the root is the first task, and has not ended while it is there
pub record HasRoot (h : High) : Type 0 where
  pub first : (t : ℕ) (task : Task) → slice_get h.plain.tasks t ≡ Some (Some task) → task.stack.is_root ≡ true → (t ≡ 0) × (outcome h t ≡ None)
  pub some : (o : Option Outcome) × (slice_get h.outcomes 0 ≡ Some o)

abbrev pub KeepsRoot : Took High → Type 0
KeepsRoot (Takes after wakes act) = HasRoot after
KeepsRoot _ = Unit {0}

-- so it is at the start, and after each step
abbrev pub RootStarts : Type 0
RootStarts = (n : FuncNo) (f : LowFunc) (args : List ArgValue) → HasRoot (start n f args)

abbrev pub RootStays : Type 0
RootStays = (code : LowModule) (h : High) (t : ℕ) → HasRoot h → KeepsRoot (high_step code h t)

-- where code with coroutines has ended, so has code of blocks, and so
abbrev pub EndsFollow : Type 0
EndsFollow =
    (code : LowModule) (n : FuncNo) (f g : LowFunc) (args : List ArgValue) (s : Plain) (k : Objects) (h : High) → Agree code s k h →
    Ends (numbered_plain (lowered_code code) n f args) (strict_high code n g args) (AgreeAt code) (s, k) h

-- ---- all of these together

abbrev pub CoversInstr : LowKind → Type 0
CoversInstr kind = (is_kept kind ≡ true) ⊎ (makes_group kind ⊎ (is_absent kind ≡ true))

-- the root's last frame ends there
abbrev pub EndsRoot : High → ℕ → Task → End → LowKind → Type 0
EndsRoot h t task' e kind = IsRoot h t task' × (e ≡ end.Stays) × (is_return kind ≡ true)

abbrev pub CoversMore : High → ℕ → Task → End → List Instr → LowKind → Type 0
CoversMore h t task' e [] kind = CoversEnd e kind task'.stack.below ⊎ (EndsRoot h t task' e kind ⊎ ((e ≡ end.Stays) × (is_absent kind ≡ true)))
CoversMore h t task' e (i ∷ is) kind = CoversInstr i.kind

-- what `Covers` has, and these rows: left are a launch, adding to a group, the end of a launched task, and the way to the block that sets
-- errors
abbrev pub CoversRows : (code : LowModule) (V : View) (h : High) (t : ℕ) (task task' : Task) → Match code V t task task' → Type 0
CoversRows code V h t task task' (lands (at_row a)) = CoversMore h t task' (end_of a.func a.block) a.rest.instrs a.rest.term.instr.kind
CoversRows code V h t task task' m = Covers code V t task task' m

abbrev pub RowsFollow : Type 0
RowsFollow =
    (code : LowModule) (n : FuncNo) (f g : LowFunc) (args : List ArgValue) (s : Plain) (k : Objects) (h : High) (t : ℕ) (task task' : Task) (r : Running code n f g args s k h t task task') →
    (m : Match code (view s k h) t task task') → CoversRows code (view s k h) h t task task' m → Followed code n f g args s k h t
