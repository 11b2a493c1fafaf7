-- What steps of code follow a step of a task of the source.
use Rattle.std.specs.Prelude.{◌≡◌, ◌<◌, ◌≤◌, ◌^◌, ◌+◌, ℕ, zero, suc, nat_le, cond, Bool, true, false, List, [], ◌∷◌, drop, map, length, Option, Some, None, IsSome, slice_get}
use Rattle.op_table.specs.declared.kind.OpKind.{OpKind}
use Rattle.op_table.specs.declared.kind.OpKind.TheVariants as op
use Rattle.ir_forms.specs.declared.ops.Op.{Op, out-Op}
use Rattle.ir_forms.specs.declared.ops.ValueNo.{ValueNo}
use Rattle.ir_forms.specs.declared.names.ElementName.{ElementName}
use Rattle.ir_forms.specs.declared.names.MadeName.{MadeName}
use Rattle.ir_forms.specs.Shapes.{product, most_cells}
use Rattle.low_forms.specs.declared.code.Instr.{Instr}
use Rattle.low_forms.specs.declared.code.LowFunc.{LowFunc}
use Rattle.low_forms.specs.declared.code.LowModule.{LowModule}
use Rattle.low_forms.specs.declared.code.LowKind.{LowKind}
use Rattle.low_forms.specs.declared.code.LowKind.TheVariants.{Row, Launch, Await}
use Rattle.low_forms.specs.declared.code.Reg.{Reg}
use Rattle.low_forms.specs.Registers.{type_at}
use Rattle.source_meaning.specs.Parts.{Node, region_of, params_in, dims_of}
use Rattle.source_meaning.specs.Rows.{cell_from, sizes, product_within, most_elements, are_bounds}
use Rattle.source_meaning.specs.declared.values.Val as source
use Rattle.source_meaning.specs.declared.values.Val.TheVariants.{Number, Memory, Element, Group}
use Rattle.source_meaning.specs.Values.{Env, maybe}
use Rattle.source_meaning.specs.Values as source_values
use Rattle.source_meaning.specs.Tasks.{Program, Pending, Task, Ask, Reads, Writes, Allocs, Creates, Adds, Launches, Enters, JoinsAll, AwaitsOne, AwaitsAll, Outcome, Gave, FailedAt, Next, Goes, Asks, Ends, bound, resumed}
use Rattle.source_meaning.specs.Steps as meaning
use Rattle.source_meaning.specs.Steps.{next}
use Rattle.async_objects.specs.declared.kinds.Val.{Val}
use Rattle.task_stack.specs.Registers.{value, number, number_in, values_at, held}
use Rattle.task_stack.specs.Frames.{Stack, into, went}
use Rattle.task_stack.specs.Local as local
use Rattle.task_stack.specs.Local.{Local, free_step, operands, with_top}
use Rattle.task_stack.specs.Shared.{next_of, passed, moved}
use Rattle.task_stack.specs.Shared as stack
use Rattle.step_core.specs.High.{launched_stack}
use Rattle.ir_forms.specs.declared.runs.FuncNo.{FuncNo}
use Rattle.low_forms.specs.declared.code.LowAttr.TheVariants as low
use Rattle.scf_blocks.specs.Code.{return, fail, await, block_no}
use Rattle.code_machines.specs.Uses.{is_used}
use Rattle.block_carry.specs.Same.{Known, IsSame, AreSame, Later}
use Rattle.block_carry.specs.Rows.{Computes, computed}
use Rattle.block_carry.specs.Laid.{Has}
use Rattle.block_carry.specs.Stands.{gives_of, Stands}
use Rattle.task_stack.specs.declared.effects.Number as one

-- ---- steps that show nothing

abbrev pub is_dealloc : LowKind → Bool
is_dealloc (Row op.MemrefDealloc) = true
is_dealloc _ = false

-- a deallocation is shared, but changes and shows nothing
abbrev pub passes : stack.Next → Stack → Option Stack
passes n s = cond (is_dealloc n.instr.kind) (Some (passed s)) None

abbrev pub quiet_by : Local → LowModule → Stack → Option Stack
quiet_by (local.Done after counts) code s = Some after
quiet_by local.Shared code s = maybe None (λ n. passes n s) (next_of code s)
quiet_by local.Stuck code s = None
quiet_by local.Deep code s = None

-- where a step that shows nothing leads to
abbrev pub quiet : LowModule → Stack → Option Stack
quiet code s = quiet_by (free_step code s) code s

-- so many such steps
abbrev pub quiets : LowModule → ℕ → Stack → Option Stack
quiets code zero s = Some s
quiets code (suc n) s = maybe None (quiets code n) (quiet code s)

-- ---- what is asked

-- the values as numbers
abbrev pub numbers : List Val → List ℕ
numbers vs = map number_in vs

-- how many values the shared state answers
abbrev pub answers : Ask → ℕ
answers (Reads b c) = 1
answers (Writes b c n) = 0
answers (Allocs dims) = 1
answers (Creates n) = 1
answers (Adds g x used) = 1
answers (Launches t r) = r + 1
answers (Enters loop) = 0
answers (JoinsAll loop) = 0
answers (AwaitsOne x) = gives_of x
answers (AwaitsAll g) = 0

-- an await is a terminator with two targets: the second is taken where what is awaited failed
abbrev pub is_await : Ask → Bool
is_await (AwaitsOne x) = true
is_await (AwaitsAll g) = true
is_await _ = false

-- the last frame ends here so
abbrev pub EndsWith : Known → LowFunc → (b i : ℕ) → List Val → Outcome → Type 0
EndsWith k f b i regs (Gave vs) = (rs : List Reg) × Has f b i [] (return rs) × AreSame k vs (values_at regs rs)
EndsWith k f b i regs (FailedAt number) = (r : Reg) × Has f b i [] (fail r) × (number_in (held regs r.0) ≡ number) × (number < 2 ^ 32)

module _ (p : Program) (code : LowModule) where
  -- an instruction with these values of its operands asks the same
  abbrev pub AsksFor : Known → LowFunc → Instr → List Val → Ask → Type 0
  AsksFor k f i vs (Reads b c) =
      (i.kind ≡ Row op.MemrefLoad) × (dims : List ℕ) × IsSame k (Memory b dims) (value vs 0) × (cell_from 0 dims (numbers (drop 1 vs)) ≡ Some c) × (c < product dims)
  AsksFor k f i vs (Writes b c n) =
      (i.kind ≡ Row op.MemrefStore) × (dims : List ℕ) × IsSame k (Memory b dims) (value vs 1) × (cell_from 0 dims (numbers (drop 2 vs)) ≡ Some c) × (c < product dims) × (number vs 0 ≡ n)
  AsksFor k f i vs (Allocs dims) = (i.kind ≡ Row op.MemrefAlloc) × (sizes (dims_of (type_at f i.results 0)) (numbers vs) ≡ dims) × (length dims ≤ 4) × IsSome (product_within most_cells dims)
  AsksFor k f i vs (Creates n) = (i.kind ≡ Row op.AsyncRuntimeCreateGroup) × (number vs 0 ≡ n)
  AsksFor k f i vs (Adds g x used) =
      (i.kind ≡ Row op.AsyncRuntimeAddToGroup) × IsSame k (Element x) (value vs 0) × IsSame k (Group g) (value vs 1) × (is_used f i ≡ used)
  AsksFor k f i vs (AwaitsOne x) = (i.kind ≡ Await) × IsSame k (Element x) (value vs 0)
  AsksFor k f i vs (AwaitsAll g) = (i.kind ≡ Await) × IsSame k (Group g) (value vs 0)
  AsksFor k f i vs (Launches t r) =
      (i.kind ≡ Launch) × (length i.results ≡ r + 1)
      × (h : FuncNo) × (g : LowFunc) × (i.attr ≡ low.Callee h) × (slice_get code.funcs h.0 ≡ Some g) × Stands p code k t (launched_stack h g vs)
  AsksFor k f i vs _ = ⊥

  -- behind an instruction the stack stands with the answer's values
  abbrev pub GoesOn : Known → LowFunc → Instr → Stack → List ValueNo → Task → Type 0
  GoesOn k f i s xs t = (after : Known) (vs : List source.Val) (ws : List Val) →
      Later k after → AreSame after vs ws → length xs ≤ length vs → Stands p code after (bound xs vs t) (moved i.results ws s)

  -- behind an await at the first target with the values, or at the second with the failure
  pub record Splits (k : Known) (f : LowFunc) (s : Stack) (number : ℕ) (xs : List ValueNo) (t : Task) : Type 0 where
    pub o : Reg
    pub go : ℕ
    pub failure : ℕ
    pub found : slice_get code.funcs s.top.current.place.func.0 ≡ Some f
    pub has : Has f s.top.current.place.block.0 s.top.current.place.at [] (await o (block_no go) (block_no failure))
    pub on : (after : Known) (vs : List source.Val) (ws : List Val) →
        Later k after → AreSame after vs ws → length xs ≤ length vs → Stands p code after (bound xs vs t) (with_top s (went (into f (block_no go)) ws s.top))
    pub fails : (after : Known) → Later k after → Stands p code after (resumed number xs t None) (with_top s (went (into f (block_no failure)) [] s.top))

  pub record AsksSo (k : Known) (number : ℕ) (ask : Ask) (xs : List ValueNo) (t : Task) (s : Stack) : Type 0 where
    pub f : LowFunc
    pub i : Instr
    pub is : next_of code s ≡ Some (record { func = f; instr = i })
    pub shared : free_step code s ≡ local.Shared
    pub asks : AsksFor k f i (operands s i) ask
    pub few : length xs ≤ answers ask
    pub then : cond (is_await ask) (Splits k f s number xs t) (GoesOn k f i s xs t)

  -- the stack's last frame ends as the task does
  pub record EndsSo (k : Known) (o : Outcome) (s : Stack) : Type 0 where
    pub f : LowFunc
    pub is : slice_get code.funcs s.top.current.place.func.0 ≡ Some f
    pub last : s.below ≡ []
    pub ends : EndsWith k f s.top.current.place.block.0 s.top.current.place.at s.top.current.regs o

  -- ---- steps

  -- Steps of code lead from a stack to where it does what the task does next: where the task takes a step that nothing shared
  -- sees, at least one, to a stack that stands where the task then does.
  abbrev pub Comes : Known → Stack → Next → Type 0
  Comes k s (Goes t) = (n : ℕ) × (a : Stack) × (quiets code (suc n) s ≡ Some a) × Stands p code k t a
  Comes k s (Asks number ask xs t) = (n : ℕ) × (a : Stack) × (quiets code n s ≡ Some a) × AsksSo k number ask xs t a
  Comes k s (Ends o) = (n : ℕ) × (a : Stack) × (quiets code n s ≡ Some a) × EndsSo k o a

-- ---- what an operation needs

abbrev pub IsMemory : source.Val → Type 0
IsMemory v = (b : MadeName) × (dims : List ℕ) × (v ≡ Memory b dims)

-- a buffer of these dimensions has a cell with these indices
abbrev pub HasCell : List ℕ → List ℕ → Type 0
HasCell dims indices = (c : ℕ) × (cell_from 0 dims indices ≡ Some c) × (c < product dims)

abbrev pub IsGroup : source.Val → Type 0
IsGroup v = (g : MadeName) × (v ≡ Group g)

-- a token or value of a task, whose values these names take
abbrev pub IsElementFor : List ValueNo → source.Val → Type 0
IsElementFor xs v = (x : ElementName) × (v ≡ Element x) × (length xs ≤ gives_of x)

-- each of these is one, for these names one by one
abbrev pub AreElementsFor : List ValueNo → List source.Val → Type 0
AreElementsFor xs [] = Unit {0}
AreElementsFor [] (v ∷ vs) = IsElementFor [] v × AreElementsFor [] vs
AreElementsFor (x ∷ xs) (v ∷ vs) = IsElementFor (x ∷ []) v × AreElementsFor xs vs

-- the values of the operands suit an operation that asks or repeats
abbrev pub Suits : OpKind → Node → List source.Val → Type 0
Suits op.MemrefLoad o vs = IsMemory (meaning.value vs 0) × HasCell (source_values.dims_in (meaning.value vs 0)) (meaning.numbers (drop 1 vs))
Suits op.MemrefStore o vs = IsMemory (meaning.value vs 1) × HasCell (source_values.dims_in (meaning.value vs 1)) (meaning.numbers (drop 2 vs))
Suits op.MemrefAlloc o vs = IsSome (product_within most_cells (meaning.asked_sizes o vs))
Suits op.AsyncCreateGroup o vs = nat_le (meaning.number vs 0) most_elements ≡ true
Suits op.AsyncAddToGroup o vs = IsElementFor [] (meaning.value vs 0) × IsGroup (meaning.value vs 1)
Suits op.AsyncAwait o vs = IsElementFor o.results (meaning.value vs 0)
Suits op.AsyncExecute o vs = AreElementsFor [] (meaning.group o vs 0) × AreElementsFor (params_in (region_of o 0)) (meaning.group o vs 1)
Suits op.AsyncAwaitAll o vs = IsGroup (meaning.value vs 0)
Suits op.ScfFor o vs = ((i : ℕ) × (meaning.value vs 0 ≡ Number i)) × (are_bounds (meaning.number vs 0) (meaning.number vs 1) (meaning.number vs 2) ≡ true) × (meaning.number vs 0 < 2 ^ 64) × (meaning.number vs 1 < 2 ^ 64)
Suits _ o vs = Unit {0}

-- one that computes has a result
abbrev pub HasResult : OpKind → Node → List source.Val → Type 0
HasResult kind o vs = (m : one.Number) → Computes kind m → IsSome (computed m o vs)

abbrev pub IsReadyFor : List Pending → List Op → Env → Type 0
IsReadyFor [] (o ∷ rest) env =
    Suits (out-Op o).kind (out-Op o) (source_values.values_at env (out-Op o).operands) × HasResult (out-Op o).kind (out-Op o) (source_values.values_at env (out-Op o).operands)
IsReadyFor _ _ env = Unit {0}

-- the task is before an operation that has a result with its values, or before none
abbrev pub IsReady : Task → Type 0
IsReady t = IsReadyFor t.pending t.rest t.scope.env
