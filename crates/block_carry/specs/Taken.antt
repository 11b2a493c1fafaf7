-- What the machine of code with the high rows does where a stack takes a step.
use Rattle.std.specs.Prelude.{◌≡◌, ℕ, Bool, true, false, List, [], ◌∷◌, ◌++◌, map, length, replicate, Option, Some, None, slice_get, slice_set}
use Rattle.ir_forms.specs.declared.names.ElementName.{ElementName}
use Rattle.ir_forms.specs.declared.names.MadeName.{MadeName}
use Rattle.ir_forms.specs.declared.runs.ObjNo.{ObjNo}
use Rattle.ir_forms.specs.declared.ops.ValueNo.{ValueNo}
use Rattle.ir_forms.specs.declared.runs.FuncNo.{FuncNo}
use Rattle.ir_forms.specs.Shapes.{product}
use Rattle.low_forms.specs.declared.code.LowFunc.{LowFunc}
use Rattle.low_forms.specs.declared.code.LowModule.{LowModule}
use Rattle.source_meaning.specs.declared.values.Val as source
use Rattle.source_meaning.specs.Tasks.{Program, Task, Reads, Writes, Allocs, Creates, Adds, AwaitsOne, AwaitsAll, Launches, Gave, FailedAt}
use Rattle.async_objects.specs.declared.kinds.Val.{Val}
use Rattle.async_objects.specs.declared.kinds.Val.TheVariants.{Number, Object}
use Rattle.task_stack.specs.Frames.{Stack, into, went}
use Rattle.task_stack.specs.Local.{operands, with_top}
use Rattle.task_stack.specs.Shared.{moved}
use Rattle.step_core.specs.State.{task_at, with_task, with_buffers, counted, ready, cells_of, buffer_val}
use Rattle.step_core.specs.Shared as core
use Rattle.step_core.specs.Shared.{Nothing, Ends, Took, Idle, Takes, outs}
use Rattle.step_core.specs.declared.ends.RootEnd.{RootEnd}
use Rattle.step_core.specs.declared.ends.RootEnd.TheVariants as end
use Rattle.step_core.specs.declared.ends.RootEnd.TheVariants.{Returned}
use Rattle.step_core.specs.High as high
use Rattle.step_core.specs.High.{High, Gathering, Group, adds_to, awaits_group, with_plain, outcome, given_at, launched_stack, launch_of, task_ends, high_step}
use Rattle.scf_blocks.specs.Code.{await, block_no}
use Rattle.block_carry.specs.Same.{Known, IsElement, AreSame}
use Rattle.block_carry.specs.Stands.{Stands}
use Rattle.block_carry.specs.Follows.{quiet, AsksSo, EndsSo}

-- the task of this number isn't over, and has this stack
abbrev pub HasTask : High → ℕ → Stack → Type 0
HasTask h t s = task_at h.plain t ≡ Some (ready s)

-- it goes on with this one
abbrev pub goes : High → ℕ → Stack → High
goes h t s = with_plain h (counted (with_task h.plain t (Some (ready s))))

-- with these cells in a buffer
abbrev pub with_cells : High → ℕ → List ℕ → High
with_cells h b cells = with_plain h (with_buffers h.plain (slice_set h.plain.buffers b cells))

-- what is known of the buffers' cells
abbrev pub KnowsCells : Known → High → Type 0
KnowsCells k h = k.cells ≡ map length h.plain.buffers

-- a step that shows nothing
abbrev pub QuietTaken : Type 0
QuietTaken = (code : LowModule) (h : High) (t : ℕ) (s a : Stack) → HasTask h t s → quiet code s ≡ Some a → high_step code h t ≡ Takes (goes h t a) [] Nothing

-- a read of a cell gives its number
abbrev pub ReadsTaken : Type 0
ReadsTaken = (p : Program) (code : LowModule) (k : Known) (h : High) (t : ℕ) (s : Stack) (number : ℕ) (b : MadeName) (c : ℕ) (xs : List ValueNo) (u : Task) → HasTask h t s → KnowsCells k h →
    (asks : AsksSo p code k number (Reads b c) xs u s) →
    (buffer : ℕ) × (n : ℕ) × (slice_get k.names.buffers buffer ≡ Some b) × (slice_get (cells_of h.plain buffer) c ≡ Some n)
    × (high_step code h t ≡ Takes (goes h t (moved asks.i.results (Number n ∷ []) s)) [] (core.Reads buffer c))

-- a write changes it
abbrev pub WritesTaken : Type 0
WritesTaken = (p : Program) (code : LowModule) (k : Known) (h : High) (t : ℕ) (s : Stack) (number : ℕ) (b : MadeName) (c n : ℕ) (xs : List ValueNo) (u : Task) → HasTask h t s → KnowsCells k h →
    AsksSo p code k number (Writes b c n) xs u s →
    (buffer : ℕ) × (slice_get k.names.buffers buffer ≡ Some b)
    × (high_step code h t ≡ Takes (goes (with_cells h buffer (slice_set (cells_of h.plain buffer) c n)) t (moved [] [] s)) [] (core.Writes buffer c))

-- an allocation makes a buffer behind all others
abbrev pub AllocsTaken : Type 0
AllocsTaken = (p : Program) (code : LowModule) (k : Known) (h : High) (t : ℕ) (s : Stack) (number : ℕ) (dims : List ℕ) (xs : List ValueNo) (u : Task) → HasTask h t s →
    (asks : AsksSo p code k number (Allocs dims) xs u s) →
    high_step code h t ≡ Takes (goes (with_plain h (with_buffers h.plain (h.plain.buffers ++ replicate (product dims) 0 ∷ []))) t (moved asks.i.results (buffer_val (length h.plain.buffers) dims ∷ []) s)) []
    (core.Allocates (length h.plain.buffers) (product dims))

-- a group is made behind all others, without elements
abbrev pub CreatesTaken : Type 0
CreatesTaken = (p : Program) (code : LowModule) (k : Known) (h : High) (t : ℕ) (s : Stack) (number n : ℕ) (xs : List ValueNo) (u : Task) → HasTask h t s →
    (asks : AsksSo p code k number (Creates n) xs u s) →
    high_step code h t ≡ Takes (goes (record h { refs = h.refs ++ Group (length h.groups) ∷ []; groups = h.groups ++ record { size = n; members = [] } ∷ [] }) t
    (moved asks.i.results (Object (record { 0 = length h.refs }) ∷ []) s)) [] (core.Creates (record { 0 = length h.refs }))

-- ---- awaits

-- what an await comes to by what it awaits: it goes on with what a task has given, or at its second target where the task has
-- failed, and is no step where the task isn't over
abbrev pub looked : High → ℕ → LowFunc → Stack → (go failure place : ℕ) → ObjNo → Option high.Outcome → Took High
looked h t f s go failure place o None = Idle
looked h t f s go failure place o (Some (high.Gave vals)) = Takes (goes h t (with_top s (went (into f (block_no go)) (given_at vals place) s.top))) [] (core.Looks o)
looked h t f s go failure place o (Some high.Failed) = Takes (goes h t (with_top s (went (into f (block_no failure)) [] s.top))) [] (core.Looks o)

abbrev pub AwaitsTaken : Type 0
AwaitsTaken = (p : Program) (code : LowModule) (k : Known) (h : High) (t : ℕ) (s : Stack) (number : ℕ) (x : ElementName) (xs : List ValueNo) (u : Task) → HasTask h t s → k.refs ≡ h.refs →
    (asks : AsksSo p code k number (AwaitsOne x) xs u s) →
    (o : ObjNo) × (q : ℕ) × (place : ℕ) × (slice_get h.refs o.0 ≡ Some (high.Element q place)) × IsElement k x (Some (high.Element q place))
    × (high_step code h t ≡ looked h t asks.f s asks.then.go asks.then.failure place o (outcome h q))

-- a launch makes a task that stands where the child of the source does
abbrev pub LaunchesTaken : Type 0
LaunchesTaken = (p : Program) (code : LowModule) (k : Known) (h : High) (t : ℕ) (s : Stack) (number : ℕ) (child : Task) (r : ℕ) (xs : List ValueNo) (u : Task) → HasTask h t s →
    (asks : AsksSo p code k number (Launches child r) xs u s) →
    (n : FuncNo) × (g : LowFunc) × Stands p code k child (launched_stack n g (operands s asks.i)) × (high_step code h t ≡ launch_of n g asks.i (operands s asks.i) h t s)

-- ---- ends

-- the last frame of a launched task gives what the task gives
abbrev pub GaveTaken : Type 0
GaveTaken = (p : Program) (code : LowModule) (k : Known) (h : High) (t : ℕ) (s : Stack) (vs : List source.Val) → HasTask h t s → s.is_root ≡ false → EndsSo p code k (Gave vs) s →
    (ws : List Val) × AreSame k vs ws × (high_step code h t ≡ task_ends (high.Gave ws) h t)

-- or fails
abbrev pub FailedTaken : Type 0
FailedTaken = (p : Program) (code : LowModule) (k : Known) (h : High) (t : ℕ) (s : Stack) (number : ℕ) → HasTask h t s → s.is_root ≡ false → EndsSo p code k (FailedAt number) s →
    high_step code h t ≡ task_ends high.Failed h t

-- with the root's end
abbrev pub with_end : High → ℕ → RootEnd → High
with_end h t e = with_plain h (record (counted (with_task h.plain t None)) { root_end = Some e })

-- the root's last frame gives what the root gives
abbrev pub RootGaveTaken : Type 0
RootGaveTaken = (p : Program) (code : LowModule) (k : Known) (h : High) (t : ℕ) (s : Stack) (vs : List source.Val) → HasTask h t s → s.is_root ≡ true → (ends : EndsSo p code k (Gave vs) s) →
    (ws : List Val) × AreSame k vs ws × (high_step code h t ≡ Takes (with_end h t (Returned (outs ends.f.results ws))) [] Ends)

-- or fails with the same number
abbrev pub RootFailedTaken : Type 0
RootFailedTaken = (p : Program) (code : LowModule) (k : Known) (h : High) (t : ℕ) (s : Stack) (number : ℕ) → HasTask h t s → s.is_root ≡ true → EndsSo p code k (FailedAt number) s →
    high_step code h t ≡ Takes (with_end h t (end.FailedAt number)) [] Ends

-- ---- groups

-- each group that has a name is there
abbrev pub KnowsGroups : Known → High → Type 0
KnowsGroups k h = (j : ℕ) (name : MadeName) → slice_get k.names.groups j ≡ Some name → (g : Gathering) × (slice_get h.groups j ≡ Some g)

-- an add puts the task of an element behind the group's elements, or a full group stops it
abbrev pub AddsTaken : Type 0
AddsTaken = (p : Program) (code : LowModule) (k : Known) (h : High) (t : ℕ) (s : Stack) (number : ℕ) (name : MadeName) (x : ElementName) (used : Bool) (xs : List ValueNo) (u : Task) → HasTask h t s → k.refs ≡ h.refs → KnowsGroups k h →
    (asks : AsksSo p code k number (Adds name x used) xs u s) →
    (g o : ObjNo) × (j q place : ℕ) × (group : Gathering) × (slice_get h.refs g.0 ≡ Some (Group j)) × (slice_get k.names.groups j ≡ Some name) × (slice_get h.groups j ≡ Some group)
    × (slice_get h.refs o.0 ≡ Some (high.Element q place)) × IsElement k x (Some (high.Element q place))
    × (high_step code h t ≡ adds_to group j q g o asks.i h t s)

-- an await of a group goes on where all its elements are there and over, at its second target where one of them has failed
abbrev pub AwaitsAllTaken : Type 0
AwaitsAllTaken = (p : Program) (code : LowModule) (k : Known) (h : High) (t : ℕ) (s : Stack) (number : ℕ) (name : MadeName) (xs : List ValueNo) (u : Task) → HasTask h t s → k.refs ≡ h.refs → KnowsGroups k h →
    (asks : AsksSo p code k number (AwaitsAll name) xs u s) →
    (o : ObjNo) × (j : ℕ) × (group : Gathering) × (slice_get h.refs o.0 ≡ Some (Group j)) × (slice_get k.names.groups j ≡ Some name) × (slice_get h.groups j ≡ Some group)
    × (high_step code h t ≡ awaits_group group asks.f (await asks.then.o (block_no asks.then.go) (block_no asks.then.failure)) o h t s)
