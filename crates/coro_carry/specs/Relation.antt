-- When a state of the code that the pass makes stands for one of code with the high rows. Of a task's frames each stands at the same row in
-- both, or the first code's is within the rows that an await became. Objects are compared by what they stand for.
--
-- These phases of a task are stated: at a row that both codes have, at the load of an awaited value, on the way to the block that sets errors,
-- and those of an await. Those of launches and of ends of tasks are not.
use Rattle.std.specs.Prelude.{◌≡◌, ◌≤◌, ℕ, suc, ◌==◌, cond, Bool, true, false, List, [], ◌∷◌, ◌++◌, map, length, Option, Some, None, slice_get}
use Rattle.op_table.specs.declared.kind.OpKind.TheVariants as op
use Rattle.ir_forms.specs.declared.runs.FuncNo.{FuncNo}
use Rattle.ir_forms.specs.declared.runs.ObjNo.{ObjNo}
use Rattle.low_forms.specs.declared.code.Block.{Block}
use Rattle.low_forms.specs.declared.code.Instr.{Instr}
use Rattle.low_forms.specs.declared.code.LowFunc.{LowFunc}
use Rattle.low_forms.specs.declared.code.LowKind.TheVariants.{Await}
use Rattle.low_forms.specs.declared.code.LowModule.{LowModule}
use Rattle.low_forms.specs.declared.code.Reg.{Reg}
use Rattle.low_forms.specs.declared.code.Target.{Target}
use Rattle.low_forms.specs.declared.code.Term.{Term}
use Rattle.low_forms.specs.Places.{Remaining, remaining_in, remaining}
use Rattle.source_meaning.specs.Values.{maybe, or_else}
use Rattle.source_meaning.specs.Rows.{bit}
use Rattle.async_objects.specs.declared.kinds.Val.{Val}
use Rattle.async_objects.specs.declared.kinds.Val.TheVariants as val
use Rattle.async_objects.specs.declared.object.Object.{Object}
use Rattle.async_objects.specs.Objects.{is_error, is_done, is_open, state_of}
use Rattle.task_stack.specs.declared.frames.Activation.{Activation}
use Rattle.task_stack.specs.declared.frames.Frame.{Frame}
use Rattle.task_stack.specs.declared.frames.Place.{Place}
use Rattle.task_stack.specs.declared.frames.Saved.TheVariants.{Nothing, Kept, Copied}
use Rattle.task_stack.specs.Registers.{held, bind}
use Rattle.task_stack.specs.Frames.{into, went}
use Rattle.task_stack.specs.Local.{with_top}
use Rattle.step_core.specs.declared.tasks.Task.{Task}
use Rattle.step_core.specs.State.{Plain, ready}
use Rattle.step_core.specs.High as high
use Rattle.step_core.specs.High.{High, Outcome, Ref, Gathering, has_failed}
use Rattle.code_machines.specs.Objects as as_object
use Rattle.code_machines.specs.Objects.{Stands, Objects}
use Rattle.coro_lower.specs.declared.label.End.{End}
use Rattle.coro_lower.specs.declared.label.End.TheVariants as end
use Rattle.coro_lower.specs.declared.label.Label.{Label}
use Rattle.coro_lower.specs.declared.label.Label.TheVariants.{Body, Next, SetsError}
use Rattle.coro_lower.specs.Layout.{end_of, place, target_at}
use Rattle.coro_lower.specs.Registers.{flag, saved, made, handle}
use Rattle.coro_lower.specs.Rows.{row, called}
use Rattle.coro_lower.specs.Shape as shape
use Rattle.coro_lower.specs.Shape.{jump, suspend, term_of, before_end, lowered}
use Rattle.coro_laws.specs.Half.{is_emptied}
use Rattle.plain_carry.specs.Alike.{stands_for, AlikeVal, AlikeRegs, AllBelow}

-- ---- what tasks see of each other

-- an object, whoever waits for it aside
abbrev pub face : Object → Object
face x = record x { awaiters = []; memberships = [] }

-- what the objects hold and stand for; and what the second code's objects stand for, its tasks have ended with, and its groups have
pub record View : Type 0 where
  pub faces : List Object
  pub stands : List Stands
  pub refs : List Ref
  pub outcomes : List (Option Outcome)
  pub groups : List Gathering

abbrev pub view : Plain → Objects → High → View
view s k h = record { faces = map face s.objects; stands = k.stands; refs = h.refs; outcomes = h.outcomes; groups = h.groups }

-- ---- what is set

abbrev pub outcome_of : View → ℕ → Option Outcome
outcome_of V q = or_else None (slice_get V.outcomes q)

-- an object that is available holds the value that its task gave at this place
abbrev pub Holding : View → Object → Outcome → ℕ → Type 0
Holding V x (high.Gave vals) (suc j) = (w : Val) → slice_get vals j ≡ Some w → (v : Val) × (x.payload ≡ Some v) × AlikeVal V.stands V.refs v w
Holding V x _ _ = Unit {0}

-- tasks by number have all ended; one of them failed
abbrev pub all_over : List (Option Outcome) → List ℕ → Bool
all_over outcomes [] = true
all_over outcomes (q ∷ qs) = maybe false (λ e. all_over outcomes qs) (or_else None (slice_get outcomes q))

abbrev pub one_bad : List (Option Outcome) → List ℕ → Bool
one_bad outcomes [] = false
one_bad outcomes (q ∷ qs) = cond (maybe false has_failed (or_else None (slice_get outcomes q))) true (one_bad outcomes qs)

-- a group that is full, of tasks that have ended
pub record Gathered (V : View) (x : Object) (k : ℕ) : Type 0 where
  pub group : Gathering
  pub there : slice_get V.groups k ≡ Some group
  pub full : (length group.members == group.size) ≡ true
  pub over : all_over V.outcomes group.members ≡ true
  pub failed : one_bad V.outcomes group.members ≡ is_error (state_of x)

-- a token or value of a task that has ended
pub record Given (V : View) (x : Object) (q j : ℕ) : Type 0 where
  pub outcome : Outcome
  pub ended : outcome_of V q ≡ Some outcome
  pub failed : has_failed outcome ≡ is_error (state_of x)
  pub holding : Holding V x outcome j

-- what an object that is done stands for has ended, and is in error where that failed
abbrev pub Settled : View → Object → Option Stands → Type 0
Settled V x (Some (as_object.Element q j)) = Given V x q j
Settled V x (Some (as_object.Group k)) = Gathered V x k
Settled V x _ = ⊥

-- ---- frames

-- the register of the first code holds an object that stands for this and isn't set
pub record Holds (V : View) (v : Val) (what : Stands) : Type 0 where
  pub object : ObjNo
  pub holds : v ≡ val.Object object
  pub stands : slice_get V.stands object.0 ≡ Some what
  pub face : Object
  pub there : slice_get V.faces object.0 ≡ Some face
  pub unset : is_open face ≡ true

-- registers of a frame of the task t: those of the function are alike, and a coroutine's holds its token and values
pub record Data (V : View) (t : ℕ) (f : LowFunc) (regs regs' : List Val) : Type 0 where
  pub own : AlikeRegs V.stands V.refs (length f.regs) regs regs'
  pub objects : f.coroutine ≡ true → (j : ℕ) → j ≤ length f.results → Holds V (held regs (made f j).0) (as_object.Element t j)

-- a place of the second code
pub record Above (code : LowModule) (p : Place) (f : LowFunc) (b : Block) (rest : Remaining) : Type 0 where
  pub func : slice_get code.funcs p.func.0 ≡ Some f
  pub block : slice_get f.blocks p.block.0 ≡ Some b
  pub here : remaining_in b.instrs b.term p.at ≡ Some rest

-- a place of the first code, in the same function, at which this remains
pub record Below (p p' : Place) (f : LowFunc) (rest : Remaining) : Type 0 where
  pub func : p.func ≡ p'.func
  pub here : remaining (lowered f) p.block.0 p.at ≡ Some rest

-- what remains of a block, as the pass writes it
abbrev pub remains : End → LowFunc → ℕ → Remaining → Remaining
remains e f k rest = record { instrs = map called rest.instrs ++ before_end e f k rest.term.instr.operands; term = term_of e f k rest.term }

-- both stand at the same row
pub record SameRow (code : LowModule) (p p' : Place) (f : LowFunc) (b : Block) (rest : Remaining) : Type 0 where
  pub above : Above code p' f b rest
  pub stays : is_emptied (end_of f b) ≡ false
  pub below : Below p p' f (remains (end_of f b) f p'.block.0 rest)

-- frames that wait in calls
pub record Waits (code : LowModule) (V : View) (t : ℕ) (frame frame' : Frame) : Type 0 where
  pub func : LowFunc
  pub block : Block
  pub rest : Remaining
  pub last : rest.instrs ≡ []
  pub row : SameRow code frame.current.place frame'.current.place func block rest
  pub both : Data V t func frame.current.regs frame'.current.regs
  pub saved : frame.saved ≡ Nothing

abbrev pub AllWait : LowModule → View → ℕ → List Frame → List Frame → Type 0
AllWait code V t [] [] = Unit {0}
AllWait code V t [] (frame' ∷ frames') = ⊥
AllWait code V t (frame ∷ frames) [] = ⊥
AllWait code V t (frame ∷ frames) (frame' ∷ frames') = Waits code V t frame frame' × AllWait code V t frames frames'

-- the frames below the working ones
pub record Under (code : LowModule) (V : View) (t : ℕ) (task task' : Task) : Type 0 where
  pub root : task.stack.is_root ≡ task'.stack.is_root
  pub frames : AllWait code V t task.stack.below task'.stack.below

-- ---- phases of a task: where the working frames stand

abbrev pub top : Task → Activation
top task = task.stack.top.current

-- at a row that both have
pub record AtRow (code : LowModule) (V : View) (t : ℕ) (task task' : Task) : Type 0 where
  pub func : LowFunc
  pub block : Block
  pub rest : Remaining
  pub row : SameRow code (top task).place (top task').place func block rest
  pub both : Data V t func (top task).regs (top task').regs
  pub saved : task.stack.top.saved ≡ Nothing
  pub ready : task.parked ≡ None
  pub under : Under code V t task task'

-- in a failure block of a coroutine, while the first code is on its way to the block that sets errors
pub record AtFailure (code : LowModule) (V : View) (t : ℕ) (task task' : Task) : Type 0 where
  pub func : LowFunc
  pub block : Block
  pub rest : Remaining
  pub above : Above code (top task').place func block rest
  pub fails : is_emptied (end_of func block) ≡ true
  pub below : Below (top task).place (top task').place func (record { instrs = []; term = jump func SetsError })
  pub objects : func.coroutine ≡ true → (j : ℕ) → j ≤ length func.results → Holds V (held (top task).regs (made func j).0) (as_object.Element t j)
  pub saved : task.stack.top.saved ≡ Nothing
  pub ready : task.parked ≡ None
  pub under : Under code V t task task'

-- at the load of a value that the second code's registers hold already
pub record AtLoad (code : LowModule) (V : View) (t : ℕ) (task task' : Task) : Type 0 where
  pub func : LowFunc
  pub block : Block
  pub rest : Remaining
  pub awaited : Reg
  pub to : Reg
  pub others : List Reg
  pub above : Above code (top task').place func block rest
  pub stays : is_emptied (end_of func block) ≡ false
  pub below : Below (top task).place (top task').place func (record {
    instrs = row op.AsyncRuntimeLoad (awaited ∷ []) (to ∷ others) ∷ (remains (end_of func block) func (top task').place.block.0 rest).instrs;
    term = term_of (end_of func block) func (top task').place.block.0 rest.term;
  })
  pub few : AllBelow (length func.regs) (to ∷ others)
  pub before : List Val
  pub both : Data V t func (top task).regs before
  pub object : ObjNo
  pub holds : held (top task).regs awaited.0 ≡ val.Object object
  pub face : Object
  pub there : slice_get V.faces object.0 ≡ Some face
  pub value : Val
  pub value' : Val
  pub payload : face.payload ≡ Some value
  pub alike : AlikeVal V.stands V.refs value value'
  pub loaded : (top task').regs ≡ bind (to ∷ others) (value' ∷ []) before
  pub saved : task.stack.top.saved ≡ Nothing
  pub ready : task.parked ≡ None
  pub under : Under code V t task task'

-- the second code's frame stands at an await of this object
pub record Awaits (code : LowModule) (V : View) (t : ℕ) (task task' : Task) (regs : List Val) : Type 0 where
  pub func : LowFunc
  pub block : Block
  pub term : Term
  pub awaited : Reg
  pub above : Above code (top task').place func block (record { instrs = []; term = term })
  pub kind : term.instr.kind ≡ Await
  pub one : term.instr.operands ≡ awaited ∷ []
  pub both : Data V t func regs (top task').regs
  pub under : Under code V t task task'

-- the task waits for the object that the register holds, or it is done
abbrev pub WaitsFor : View → Option ObjNo → Val → Type 0
WaitsFor V (Some o) v = v ≡ val.Object o
WaitsFor V None v = (o : ObjNo) × (x : Object) × (v ≡ val.Object o) × (slice_get V.faces o.0 ≡ Some x) × (is_done x ≡ true)

-- the state is saved: before `await_and_resume`
pub record Saves (code : LowModule) (V : View) (t : ℕ) (task task' : Task) : Type 0 where
  pub copy : Activation
  pub kept : task.stack.top.saved ≡ Kept copy
  pub at : Awaits code V t task task' (top task).regs
  pub same : copy.regs ≡ (top task).regs
  pub ends : end_of at.func at.block ≡ end.Suspends
  pub below : Below (top task).place (top task').place at.func (record {
    instrs = row op.AsyncRuntimeAwaitAndResume (at.awaited ∷ handle at.func ∷ []) [] ∷ [];
    term = suspend at.func (saved at.func (top task').place.block.0) (Next (top task').place.block.0);
  })
  pub behind : Below copy.place (top task').place at.func (record { instrs = []; term = suspend at.func (saved at.func (top task').place.block.0) (Next (top task').place.block.0) })
  pub ready : task.parked ≡ None

-- suspended: at the suspend, as the copy
pub record Suspends (code : LowModule) (V : View) (t : ℕ) (task task' : Task) : Type 0 where
  pub copied : task.stack.top.saved ≡ Copied
  pub at : Awaits code V t task task' (top task).regs
  pub ends : end_of at.func at.block ≡ end.Suspends
  pub below : Below (top task).place (top task').place at.func (record { instrs = []; term = suspend at.func (saved at.func (top task').place.block.0) (Next (top task').place.block.0) })
  pub waits : WaitsFor V task.parked (held (top task).regs at.awaited.0)

-- before the test of what is awaited
pub record Tests (code : LowModule) (V : View) (t : ℕ) (task task' : Task) : Type 0 where
  pub at : Awaits code V t task task' (top task).regs
  pub saved : task.stack.top.saved ≡ Nothing
  pub below : Below (top task).place (top task').place at.func (record {
    instrs = shape.is_error at.func (top task').place.block.0 (at.awaited ∷ []) ∷ [];
    term = shape.branch at.func (top task').place.block.0 at.term.targets;
  })
  pub waits : WaitsFor V task.parked (held (top task).regs at.awaited.0)

-- at a row, in a failure block, or at a load
pub data Lands (code : LowModule) (V : View) (t : ℕ) (task task' : Task) : Type 0 where
  at_row : (is : AtRow code V t task task') → Lands code V t task task'
  at_failure : (is : AtFailure code V t task task') → Lands code V t task task'
  at_load : (is : AtLoad code V t task task') → Lands code V t task task'

-- the task after a jump of its working frame to the block of a label
abbrev pub jumped : LowFunc → Label → Task → Task
jumped f l task = ready (with_top task.stack (went (into (lowered f) (record { 0 = place f l })) [] task.stack.top))

-- behind the test: where the second code's task has gone on, the first code's lands with its branch
pub record Tested (code : LowModule) (V : View) (t : ℕ) (task task' : Task) : Type 0 where
  pub func : LowFunc
  pub number : ℕ
  pub targets : List Target
  pub below : Below (top task).place (top task').place func (record { instrs = []; term = shape.branch func number targets })
  pub there : slice_get code.funcs (top task').place.func.0 ≡ Some func
  pub failed : Bool
  pub flagged : held (top task).regs (flag func number).0 ≡ val.Number (bit failed)
  pub ready : task.parked ≡ None
  pub lands : Lands code V t (jumped func (Body (target_at targets (cond failed 1 0))) task) task'

-- a task of the first code against the same one of the second
pub data Match (code : LowModule) (V : View) (t : ℕ) (task task' : Task) : Type 0 where
  lands : (is : Lands code V t task task') → Match code V t task task'
  saves : (is : Saves code V t task task') → Match code V t task task'
  suspends : (is : Suspends code V t task task') → Match code V t task task'
  tests : (is : Tests code V t task task') → Match code V t task task'
  tested : (is : Tested code V t task task') → Match code V t task task'

abbrev pub MatchAt : LowModule → View → ℕ → Option (Option Task) → Option (Option Task) → Type 0
MatchAt code V t None None = Unit {0}
MatchAt code V t (Some None) (Some None) = Unit {0}
MatchAt code V t (Some (Some task)) (Some (Some task')) = Match code V t task task'
MatchAt code V t _ _ = ⊥

-- ---- what is there stays where more is made

pub record Grows (V after : View) : Type 0 where
  pub faces : (o : ℕ) (x : Object) → slice_get V.faces o ≡ Some x → slice_get after.faces o ≡ Some x
  pub stands : (o : ℕ) (r : Ref) → slice_get V.stands o ≡ Some (stands_for r) → slice_get after.stands o ≡ Some (stands_for r)
  pub refs : (o : ℕ) (r : Ref) → slice_get V.refs o ≡ Some r → slice_get after.refs o ≡ Some r

-- ---- states

pub record Agree (code : LowModule) (s : Plain) (k : Objects) (h : High) : Type 0 where
  pub buffers : s.buffers ≡ h.plain.buffers
  -- what a run ends with
  pub arguments : s.arguments ≡ h.plain.arguments
  pub root_end : s.root_end ≡ h.plain.root_end
  pub tasks : (t : ℕ) → MatchAt code (view s k h) t (slice_get s.tasks t) (slice_get h.plain.tasks t)
  -- groups and objects are counted alike
  pub counted : k.groups ≡ length h.groups
  pub as_many : length k.stands ≡ length s.objects
  -- what stands for something is there
  pub named : (o : ℕ) (what : Stands) → slice_get k.stands o ≡ Some what → (x : Object) × (slice_get (view s k h).faces o ≡ Some x)
  -- each object that is done is of what has ended
  pub settled : (o : ℕ) (x : Object) → slice_get (view s k h).faces o ≡ Some x → is_done x ≡ true → Settled (view s k h) x (slice_get k.stands o)
