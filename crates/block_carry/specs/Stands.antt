-- When the stack of a task in code of blocks stands where a task of the source does.
use Rattle.std.specs.Prelude.{◌≡◌, ◌<◌, ◌≤◌, ◌^◌, ℕ, ◌+◌, true, false, List, [], ◌∷◌, length, Some, slice_get}
use Rattle.ir_forms.specs.declared.ops.Op.{Op}
use Rattle.ir_forms.specs.declared.ops.ValueNo.{ValueNo}
use Rattle.low_forms.specs.declared.code.Reg.{Reg}
use Rattle.low_forms.specs.declared.code.LowAttr.{LowAttr}
use Rattle.low_forms.specs.declared.code.LowFunc.{LowFunc}
use Rattle.low_forms.specs.declared.code.LowModule.{LowModule}
use Rattle.source_meaning.specs.Parts.{Node, region_of, params_in}
use Rattle.source_meaning.specs.Values.{Env, named, number_in}
use Rattle.source_meaning.specs.Tasks.{Program, Scope, After, Joins, Turns, Tests, Repeats, Returns, Tries, Pending, Awaits, Joining, Failing, Task}
use Rattle.async_objects.specs.declared.kinds.Val.{Val}
use Rattle.task_stack.specs.declared.frames.Frame.{Frame}
use Rattle.task_stack.specs.Frames.{Stack}
use Rattle.task_stack.specs.Registers.{held}
use Rattle.ir_forms.specs.declared.names.ElementName.{ElementName}
use Rattle.ir_forms.specs.declared.names.ElementName.TheVariants.{Token, Value}
use Rattle.source_meaning.specs.declared.values.Val.TheVariants.{Element}
use Rattle.scf_blocks.specs.declared.body.Close.{Close}
use Rattle.scf_blocks.specs.declared.body.Close.TheVariants as close
use Rattle.scf_blocks.specs.Code.{reg_no, block_no, reg, await, call, known}
use Rattle.scf_blocks.specs.Code as blocks
use Rattle.block_carry.specs.Same.{Known, IsSame, Agree}
use Rattle.block_carry.specs.Laid.{Has, Takes, Opens, FailsAt, PassesOn, GivesBit, IsLaid, Begins, IsLoop, IsCycle}
use Rattle.block_carry.specs.Rows.{AreBefore}

-- ---- scopes within scopes

-- the values of the first scope are visible in the second, with the same registers
abbrev pub IsWithin : blocks.Scope → blocks.Scope → Type 0
IsWithin outer inner = (x : ℕ) (r : Reg) → known outer x ≡ Some r → known inner x ≡ Some r

-- a name has this number
abbrev pub HasNumber : Env → ValueNo → ℕ → Type 0
HasNumber env x n = number_in (named env x.0) ≡ n

-- how many values an element gives
abbrev pub gives_of : ElementName → ℕ
gives_of (Token q) = 0
gives_of (Value q j) = 1

module _ (p : Program) (code : LowModule) where
  -- ---- what waits

  -- the region ends at a block that takes these values
  pub record WaitsToJoin (place : ℕ) (f : LowFunc) (end : Close) (a : ℕ) (scope : blocks.Scope) (xs : List ValueNo) (rest : List Op) : Type 0 where
    pub b : ℕ
    pub n : ℕ
    pub outer : blocks.Scope
    pub end_outer : Close
    pub a_outer : ℕ
    pub closes : end ≡ close.Joins (block_no b)
    pub on : Begins p code place f end_outer a_outer b n xs outer rest
    pub within : IsWithin outer scope
    pub many : length xs ≡ a

  -- it ends at the head of a counted loop
  pub record WaitsToTurn (place : ℕ) (f : LowFunc) (end : Close) (a : ℕ) (scope : blocks.Scope) (env : Env) (o : Node) (i upper step : ℕ) (rest : List Op) : Type 0 where
    pub head : ℕ
    pub v : ℕ
    pub u : ValueNo
    pub s : ValueNo
    pub outer : blocks.Scope
    pub end_outer : Close
    pub a_outer : ℕ
    pub loop : IsLoop p code place f end_outer a_outer outer o rest u s head v
    pub closes : end ≡ close.Repeats (block_no head) (reg_no v) (reg outer s)
    pub within : IsWithin (blocks.with_values (loop.variable ∷ loop.carried) v outer) scope
    pub variable_is : HasNumber env loop.variable i
    pub upper_is : HasNumber env u upper
    pub step_is : HasNumber env s step
    pub small : upper < 2 ^ 64
    pub many : length loop.carried ≡ a

  -- it ends with the test of a loop
  pub record WaitsForTest (place : ℕ) (f : LowFunc) (end : Close) (a : ℕ) (scope : blocks.Scope) (o : Node) (rest : List Op) : Type 0 where
    pub head : ℕ
    pub second : ℕ
    pub exit : ℕ
    pub outer : blocks.Scope
    pub end_outer : Close
    pub a_outer : ℕ
    pub loop : IsCycle p code place f end_outer a_outer outer o rest head second exit
    pub closes : end ≡ close.Decides (block_no second) (block_no exit)
    pub within : IsWithin outer scope
    pub many : 1 + length (params_in (region_of o 1)) ≡ a

  -- it ends at the test's head
  pub record WaitsToRepeat (place : ℕ) (f : LowFunc) (end : Close) (a : ℕ) (scope : blocks.Scope) (o : Node) (rest : List Op) : Type 0 where
    pub head : ℕ
    pub second : ℕ
    pub exit : ℕ
    pub outer : blocks.Scope
    pub end_outer : Close
    pub a_outer : ℕ
    pub loop : IsCycle p code place f end_outer a_outer outer o rest head second exit
    pub closes : end ≡ close.Joins (block_no head)
    pub within : IsWithin outer scope
    pub many : length (params_in (region_of o 0)) ≡ a

  -- the frame of a caller waits at its call
  pub record WaitsInCall (frame : Frame) : Type 0 where
    pub f : LowFunc
    pub is : slice_get code.funcs frame.current.place.func.0 ≡ Some f
    pub callee : LowAttr
    pub args : List Reg
    pub ok : ℕ
    pub failure : ℕ
    pub has : Has f frame.current.place.block.0 frame.current.place.at [] (call callee args (block_no ok) (block_no failure))

  -- the function ends at a call of the frame below
  pub record WaitsToReturn (k : Known) (end : Close) (a : ℕ) (s : Scope) (xs : List ValueNo) (rest : List Op) (frame : Frame) : Type 0 where
    pub called : WaitsInCall frame
    pub n : ℕ
    pub outer : blocks.Scope
    pub end_outer : Close
    pub a_outer : ℕ
    pub closes : end ≡ close.Returns
    pub on : Begins p code s.func called.f end_outer a_outer called.ok n xs outer rest
    pub fails : PassesOn called.f called.failure
    pub many : length xs ≡ a
    pub agree : Agree k outer s.env frame.current.regs

  -- at one that is tried
  pub record WaitsToTell (k : Known) (end : Close) (a : ℕ) (s : Scope) (xs : List ValueNo) (rest : List Op) (frame : Frame) : Type 0 where
    pub called : WaitsInCall frame
    pub n : ℕ
    pub join : ℕ
    pub error : ℕ
    pub outer : blocks.Scope
    pub end_outer : Close
    pub a_outer : ℕ
    pub closes : end ≡ close.Returns
    pub on : Begins p code s.func called.f end_outer a_outer join n xs outer rest
    pub takes : Takes called.f called.ok []
    pub none : 0 ≡ a
    pub few : length xs ≤ 1
    pub good : GivesBit called.f called.ok true join outer
    pub catches : Takes called.f called.failure (reg_no error ∷ [])
    pub before : AreBefore outer error
    pub bad : GivesBit called.f called.failure false join outer
    pub agree : Agree k outer s.env frame.current.regs

  -- what waits for the end of the region that the task is in waits in the code, for an end of that kind
  pub data Fits (k : Known) : (place : ℕ) → LowFunc → Close → ℕ → blocks.Scope → Env → List (After × List Op) → List Frame → Type 0 where
    ends : (place : ℕ) (f : LowFunc) (a : ℕ) (scope : blocks.Scope) (env : Env) → Fits k place f close.Returns a scope env [] []
    joins : (place : ℕ) (f : LowFunc) (end : Close) (a : ℕ) (scope : blocks.Scope) (env : Env) (xs : List ValueNo) (rest : List Op) (frames : List (After × List Op)) (below : List Frame)
        (w : WaitsToJoin place f end a scope xs rest) → Fits k place f w.end_outer w.a_outer w.outer env frames below → Fits k place f end a scope env ((Joins xs, rest) ∷ frames) below
    turns : (place : ℕ) (f : LowFunc) (end : Close) (a : ℕ) (scope : blocks.Scope) (env : Env) (o : Node) (i upper step : ℕ) (rest : List Op) (frames : List (After × List Op)) (below : List Frame)
        (w : WaitsToTurn place f end a scope env o i upper step rest) → Fits k place f w.end_outer w.a_outer w.outer env frames below → Fits k place f end a scope env ((Turns o i upper step, rest) ∷ frames) below
    tests : (place : ℕ) (f : LowFunc) (end : Close) (a : ℕ) (scope : blocks.Scope) (env : Env) (o : Node) (rest : List Op) (frames : List (After × List Op)) (below : List Frame)
        (w : WaitsForTest place f end a scope o rest) → Fits k place f w.end_outer w.a_outer w.outer env frames below → Fits k place f end a scope env ((Tests o, rest) ∷ frames) below
    repeats : (place : ℕ) (f : LowFunc) (end : Close) (a : ℕ) (scope : blocks.Scope) (env : Env) (o : Node) (rest : List Op) (frames : List (After × List Op)) (below : List Frame)
        (w : WaitsToRepeat place f end a scope o rest) → Fits k place f w.end_outer w.a_outer w.outer env frames below → Fits k place f end a scope env ((Repeats o, rest) ∷ frames) below
    returns : (place : ℕ) (f : LowFunc) (end : Close) (a : ℕ) (scope : blocks.Scope) (env : Env) (s : Scope) (xs : List ValueNo) (rest : List Op) (frames : List (After × List Op)) (frame : Frame) (below : List Frame)
        (w : WaitsToReturn k end a s xs rest frame) → Fits k s.func w.called.f w.end_outer w.a_outer w.outer s.env frames below → Fits k place f end a scope env ((Returns s xs, rest) ∷ frames) (frame ∷ below)
    tries : (place : ℕ) (f : LowFunc) (end : Close) (a : ℕ) (scope : blocks.Scope) (env : Env) (s : Scope) (xs : List ValueNo) (rest : List Op) (frames : List (After × List Op)) (frame : Frame) (below : List Frame)
        (w : WaitsToTell k end a s xs rest frame) → Fits k s.func w.called.f w.end_outer w.a_outer w.outer s.env frames below → Fits k place f end a scope env ((Tries s xs, rest) ∷ frames) (frame ∷ below)

  -- ---- tasks

  -- From this instruction on stand the awaits that are pending, of the registers from r on among the first m, and then the
  -- operations.
  abbrev pub WaitsFrom : Known → List Val → (m r place : ℕ) → LowFunc → Close → (a b i n : ℕ) → blocks.Scope → List Op → List Pending → Type 0
  WaitsFrom k regs m r place f end a b i n scope rest [] = AreBefore scope n × IsLaid p code place f end a b i n scope rest
  WaitsFrom k regs m r place f end a b i n scope rest (Awaits number x xs ∷ more) =
      IsSame k (Element x) (held regs r) × (r < m) × (length xs ≤ gives_of x)
      × (go : ℕ) × (failure : ℕ) × (l : ℕ) × Has f b i [] (await (reg_no r) (block_no go) (block_no failure)) × FailsAt f failure number × Opens f go l xs scope × (m ≤ l)
      × WaitsFrom k regs m (r + 1) place f end a go 0 (l + length xs) (blocks.with_values xs l scope) rest more
  WaitsFrom k regs m r place f end a b i n scope rest _ = ⊥

  -- from this instruction on stands what is pending, and then the operations
  abbrev pub StandsAt : Known → List Val → (place : ℕ) → LowFunc → Close → (a b i n : ℕ) → blocks.Scope → List Op → List Pending → Type 0
  StandsAt k regs place f end a b i n scope rest [] = AreBefore scope n × IsLaid p code place f end a b i n scope rest
  StandsAt k regs place f end a b i n scope rest (Failing number ∷ more) = (i ≡ 0) × FailsAt f b number
  StandsAt k regs place f end a b i n scope rest (Joining number loop ∷ more) = ⊥
  StandsAt k regs place f end a b i n scope rest (Awaits number x xs ∷ more) = (m : ℕ) × (r : ℕ) × WaitsFrom k regs m r place f end a b i n scope rest (Awaits number x xs ∷ more)

  -- The stack stands where the task does: the frame that works at the code of the task's operations, with registers that
  -- agree with its values, and the frames below where calls wait.
  pub record Stands (k : Known) (t : Task) (s : Stack) : Type 0 where
    pub f : LowFunc
    pub is : slice_get code.funcs s.top.current.place.func.0 ≡ Some f
    pub end : Close
    pub a : ℕ
    pub n : ℕ
    pub scope : blocks.Scope
    pub agree : Agree k scope t.scope.env s.top.current.regs
    pub here : StandsAt k s.top.current.regs t.scope.func f end a s.top.current.place.block.0 s.top.current.place.at n scope t.rest t.pending
    pub fits : Fits k t.scope.func f end a scope t.scope.env t.frames s.below
