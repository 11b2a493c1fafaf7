-- Where the operations of a region are laid out in code of blocks.
use Rattle.std.specs.Prelude.{◌≡◌, ◌≤◌, ◌<◌, ◌^◌, ℕ, ◌+◌, ◌-◌, Bool, true, false, List, [], ◌∷◌, ◌++◌, length, Some, slice_get}
use Rattle.op_table.specs.declared.kind.OpKind.{OpKind}
use Rattle.op_table.specs.declared.kind.OpKind.TheVariants as op
use Rattle.ir_forms.specs.declared.ops.Func.{Func}
use Rattle.ir_forms.specs.declared.ops.Op.{Op, out-Op}
use Rattle.ir_forms.specs.declared.ops.ValueNo.{ValueNo}
use Rattle.ir_forms.specs.Ops.{ops_of}
use Rattle.low_forms.specs.declared.code.Reg.{Reg}
use Rattle.low_forms.specs.declared.code.LowAttr.TheVariants as low
use Rattle.low_forms.specs.declared.code.Instr.{Instr}
use Rattle.low_forms.specs.declared.code.LowKind.TheVariants.{Row, Launch}
use Rattle.low_forms.specs.declared.code.Term.{Term}
use Rattle.low_forms.specs.declared.code.LowFunc.{LowFunc}
use Rattle.low_forms.specs.declared.code.LowModule.{LowModule}
use Rattle.low_forms.specs.Owns.{params_of}
use Rattle.low_forms.specs.Places.{remaining}
use Rattle.low_forms.specs.Registers.{type_at, block_at}
use Rattle.ir_verify.specs.Calls.{callee_place}
use Rattle.source_meaning.specs.Parts.{Node, region_of, ops_in, params_in, width_of, names_of}
use Rattle.source_meaning.specs.Tasks.{Program}
use Rattle.scf_blocks.specs.declared.body.Close.{Close}
use Rattle.scf_blocks.specs.declared.body.Close.TheVariants.{Returns, Joins, Repeats, Decides}
use Rattle.scf_blocks.specs.Code.{Scope, reg_no, block_no, reg, regs, regs_from, with_values, br, cond_br, call, await, return, fail, constant, literal, add, less}
use Rattle.block_carry.specs.Rows.{AreVisible, AreNew, AreBefore, IsRow, IsComputing, Asks, IsLike}

-- ---- places

-- this remains of a block from an instruction on
abbrev pub Has : LowFunc → (block place : ℕ) → List Instr → Term → Type 0
Has f b i instrs t = remaining f b i ≡ Some (record { instrs = instrs; term = t })

-- how many bits the numbers of a register have
abbrev pub bits : LowFunc → ℕ → ℕ
bits f r = width_of (type_at f (reg_no r ∷ []) 0)

-- a block takes these registers
abbrev pub Takes : LowFunc → ℕ → List Reg → Type 0
Takes f b rs = params_of (block_at f (block_no b)) ≡ rs

-- a block takes these values, which are new, in the registers from n on, behind those of the scope
pub record Opens (f : LowFunc) (b n : ℕ) (xs : List ValueNo) (scope : Scope) : Type 0 where
  pub params : Takes f b (regs_from n xs)
  pub before : AreBefore scope n
  pub new : AreNew scope n xs

-- a block fails with the number of an operation
pub record FailsAt (f : LowFunc) (b number : ℕ) : Type 0 where
  pub m : ℕ
  pub params : Takes f b []
  pub has : Has f b 0 (constant (reg_no m) (literal number) ∷ []) (fail (reg_no m))
  pub wide : bits f m ≡ 64
  pub small : number < 2 ^ 32

-- a block passes a failure on
pub record PassesOn (f : LowFunc) (b : ℕ) : Type 0 where
  pub m : ℕ
  pub params : Takes f b (reg_no m ∷ [])
  pub has : Has f b 0 [] (fail (reg_no m))

-- a block gives this bit to another
pub record GivesBit (f : LowFunc) (b : ℕ) (bit : Bool) (to : ℕ) (scope : Scope) : Type 0 where
  pub m : ℕ
  pub has : Has f b 0 (constant (reg_no m) (low.Truth bit) ∷ []) (br (block_no to) (reg_no m ∷ []))
  pub narrow : bits f m ≡ 1
  pub before : AreBefore scope m

-- a region ends here with these values
abbrev pub Closes : LowFunc → Close → (b i n : ℕ) → Scope → List ValueNo → Type 0
Closes f Returns b i n scope vs = Has f b i [] (return (regs scope vs))
Closes f (Joins to) b i n scope vs = Has f b i [] (br to (regs scope vs))
Closes f (Repeats head variable step) b i n scope vs =
    Has f b i (add (reg_no n) variable step ∷ []) (br head (reg_no n ∷ regs scope vs)) × (bits f n ≡ 64)
Closes f (Decides after exit) b i n scope [] = ⊥
Closes f (Decides after exit) b i n scope (c ∷ vs) = Has f b i [] (cond_br (reg scope c) after exit (regs scope vs))

-- ---- kinds

-- the operations that end a region
pub data Ends : OpKind → Type 0 where
  func_return : Ends op.FuncReturn
  scf_yield : Ends op.ScfYield
  async_yield : Ends op.AsyncYield
  scf_condition : Ends op.ScfCondition

-- ---- tasks

-- An instruction launches the function at a place with an operation's operands and with what its region takes from outside.
pub record IsLaunch (scope : Scope) (n : ℕ) (o : Node) (captured : List ValueNo) (i : Instr) (place : ℕ) : Type 0 where
  pub kind_is : i.kind ≡ Launch
  pub callee : i.attr ≡ low.Callee (record { 0 = place })
  pub operands : i.operands ≡ regs scope (o.operands ++ captured)
  pub results : i.results ≡ regs_from n o.results
  pub visible : AreVisible scope (o.operands ++ captured)
  pub new : AreNew scope n o.results
  pub some : 1 ≤ length o.results

-- for each of these operands the names that get its value: none, or the parameter of its place
abbrev pub names_for : List ValueNo → List ValueNo → List (List ValueNo)
names_for params [] = []
names_for [] (v ∷ vs) = [] ∷ names_for [] vs
names_for (x ∷ xs) (v ∷ vs) = (x ∷ []) ∷ names_for xs vs

-- The registers from r on are awaited from an instruction on, each for these names; m registers are the function's
-- parameters. It ends at an instruction from which other values are visible.
abbrev pub AreAwaited : LowFunc → (number m r : ℕ) → List (List ValueNo) → (b i n : ℕ) → Scope → (b2 i2 n2 : ℕ) → Scope → Type 0
AreAwaited f number m r [] b i n scope b2 i2 n2 inner = (b ≡ b2) × (i ≡ i2) × (n ≡ n2) × (scope ≡ inner)
AreAwaited f number m r (xs ∷ names) b i n scope b2 i2 n2 inner =
    (go : ℕ) × (failure : ℕ) × (l : ℕ) × Has f b i [] (await (reg_no r) (block_no go) (block_no failure)) × FailsAt f failure number × Opens f go l xs scope × (m ≤ l)
    × AreAwaited f number m (r + 1) names go 0 (l + length xs) (with_values xs l scope) b2 i2 n2 inner

-- ---- operations

module _ (p : Program) (code : LowModule) (place : ℕ) where
  -- The operations of a region of the function at a place are laid out in f from an instruction of a block on, where these
  -- values are visible and n is the next register. The region ends so, with a values.
  pub data IsLaid : LowFunc → Close → (a b i n : ℕ) → Scope → List Op → Type 0 where
    -- the region's values are those of its last operation; where there is none it has none
    gives : (f : LowFunc) (end : Close) (a b i n : ℕ) (scope : Scope) (o : Op) (rest : List Op) →
        Ends (out-Op o).kind → length (out-Op o).operands ≡ a → AreVisible scope (out-Op o).operands → Closes f end b i n scope (out-Op o).operands →
        IsLaid f end a b i n scope (o ∷ rest)
    gives_nothing : (f : LowFunc) (end : Close) (a b i n : ℕ) (scope : Scope) → 0 ≡ a → Closes f end b i n scope [] → IsLaid f end a b i n scope []
    computes : (f : LowFunc) (end : Close) (a b i n : ℕ) (scope : Scope) (o : Op) (rest : List Op) (x : Instr) (more : List Instr) (t : Term) →
        Has f b i (x ∷ more) t → IsRow (Row (out-Op o).kind) scope n (out-Op o) x → IsComputing f (out-Op o) x →
        IsLaid f end a b (i + 1) (n + length (out-Op o).results) (with_values (out-Op o).results n scope) rest →
        IsLaid f end a b i n scope (o ∷ rest)
    asks : (f : LowFunc) (end : Close) (a b i n : ℕ) (scope : Scope) (o : Op) (rest : List Op) (x : Instr) (more : List Instr) (t : Term) (l : OpKind) (k : Asks (out-Op o).kind l) →
        Has f b i (x ∷ more) t → IsRow (Row l) scope n (out-Op o) x → IsLike k p place f (out-Op o) x →
        IsLaid f end a b (i + 1) (n + length (out-Op o).results) (with_values (out-Op o).results n scope) rest →
        IsLaid f end a b i n scope (o ∷ rest)
    asserts : (f : LowFunc) (end : Close) (a b i n : ℕ) (scope : Scope) (o : Op) (rest : List Op) (c : ValueNo) (cs : List ValueNo) (go failure : ℕ) →
        (out-Op o).kind ≡ op.CfAssert → (out-Op o).operands ≡ c ∷ cs → AreVisible scope (c ∷ []) →
        Has f b i [] (cond_br (reg scope c) (block_no go) (block_no failure) []) → FailsAt f failure (out-Op o).at → Opens f go n [] scope →
        IsLaid f end a go 0 n scope rest →
        IsLaid f end a b i n scope (o ∷ rest)
    branches : (f : LowFunc) (end : Close) (a b i n : ℕ) (scope : Scope) (o : Op) (rest : List Op) (c : ValueNo) (cs : List ValueNo) (first second join m l : ℕ) →
        (out-Op o).kind ≡ op.ScfIf → (out-Op o).operands ≡ c ∷ cs → AreVisible scope (c ∷ []) →
        Has f b i [] (cond_br (reg scope c) (block_no first) (block_no second) []) →
        Opens f first n [] scope → IsLaid f (Joins (block_no join)) (length (out-Op o).results) first 0 n scope (ops_in (region_of (out-Op o) 0)) →
        Opens f second m [] scope → IsLaid f (Joins (block_no join)) (length (out-Op o).results) second 0 m scope (ops_in (region_of (out-Op o) 1)) →
        Opens f join l (out-Op o).results scope → IsLaid f end a join 0 (l + length (out-Op o).results) (with_values (out-Op o).results l scope) rest →
        IsLaid f end a b i n scope (o ∷ rest)
    -- a counted loop: its head takes the variable and what is carried, tests the variable, and goes to the body or the exit
    counts : (f : LowFunc) (end : Close) (a b i n : ℕ) (scope : Scope) (o : Op) (rest : List Op) (lower upper step : ValueNo) (inits : List ValueNo) (head v body m exit l test : ℕ) (variable : ValueNo) (carried : List ValueNo) →
        (out-Op o).kind ≡ op.ScfFor → (out-Op o).operands ≡ lower ∷ upper ∷ step ∷ inits → AreVisible scope (lower ∷ upper ∷ step ∷ inits) →
        Has f b i [] (br (block_no head) (reg scope lower ∷ regs scope inits)) →
        params_in (region_of (out-Op o) 0) ≡ variable ∷ carried → Opens f head v (variable ∷ carried) scope → bits f v ≡ 64 →
        Has f head 0 (less (reg_no test) (reg_no v) (reg scope upper) ∷ []) (cond_br (reg_no test) (block_no body) (block_no exit) []) →
        v + 1 + length carried ≤ test →
        Opens f body m [] (with_values (variable ∷ carried) v scope) →
        IsLaid f (Repeats (block_no head) (reg_no v) (reg scope step)) (length carried) body 0 m (with_values (variable ∷ carried) v scope) (ops_in (region_of (out-Op o) 0)) →
        length (out-Op o).results ≡ length carried → length inits ≡ length carried → AreNew scope (v + 1) (out-Op o).results →
        Opens f exit l [] (with_values (out-Op o).results (v + 1) scope) →
        IsLaid f end a exit 0 l (with_values (out-Op o).results (v + 1) scope) rest →
        IsLaid f end a b i n scope (o ∷ rest)
    -- a loop with a test: its first region decides between its second and what follows
    cycles : (f : LowFunc) (end : Close) (a b i n : ℕ) (scope : Scope) (o : Op) (rest : List Op) (head v second m exit l : ℕ) →
        (out-Op o).kind ≡ op.ScfWhile → length (out-Op o).operands ≡ length (params_in (region_of (out-Op o) 0)) → length (out-Op o).results ≡ length (params_in (region_of (out-Op o) 1)) → AreVisible scope (out-Op o).operands → Has f b i [] (br (block_no head) (regs scope (out-Op o).operands)) →
        Opens f head v (params_in (region_of (out-Op o) 0)) scope →
        IsLaid f (Decides (block_no second) (block_no exit)) (1 + length (params_in (region_of (out-Op o) 1))) head 0 (v + length (params_in (region_of (out-Op o) 0))) (with_values (params_in (region_of (out-Op o) 0)) v scope) (ops_in (region_of (out-Op o) 0)) →
        Opens f second m (params_in (region_of (out-Op o) 1)) scope →
        IsLaid f (Joins (block_no head)) (length (params_in (region_of (out-Op o) 0))) second 0 (m + length (params_in (region_of (out-Op o) 1))) (with_values (params_in (region_of (out-Op o) 1)) m scope) (ops_in (region_of (out-Op o) 1)) →
        Opens f exit l (out-Op o).results scope → IsLaid f end a exit 0 (l + length (out-Op o).results) (with_values (out-Op o).results l scope) rest →
        IsLaid f end a b i n scope (o ∷ rest)
    calls : (f : LowFunc) (end : Close) (a b i n : ℕ) (scope : Scope) (o : Op) (rest : List Op) (g ok failure l : ℕ) (callee : Func) →
        (out-Op o).kind ≡ op.FuncCall → length (out-Op o).results ≡ length callee.results → callee_place p.funcs (out-Op o).attr ≡ Some g → slice_get p.funcs g ≡ Some callee → length (out-Op o).operands ≡ length callee.params →
        AreVisible scope (out-Op o).operands → Has f b i [] (call (low.Callee (record { 0 = g })) (regs scope (out-Op o).operands) (block_no ok) (block_no failure)) →
        PassesOn f failure → Opens f ok l (out-Op o).results scope →
        IsLaid f end a ok 0 (l + length (out-Op o).results) (with_values (out-Op o).results l scope) rest →
        IsLaid f end a b i n scope (o ∷ rest)
    tries : (f : LowFunc) (end : Close) (a b i n : ℕ) (scope : Scope) (o : Op) (rest : List Op) (g ok failure code join l : ℕ) (callee : Func) →
        (out-Op o).kind ≡ op.AioTryCall → length (out-Op o).results ≤ 1 → length callee.results ≡ 0 → callee_place p.funcs (out-Op o).attr ≡ Some g → slice_get p.funcs g ≡ Some callee → length (out-Op o).operands ≡ length callee.params →
        AreVisible scope (out-Op o).operands → Has f b i [] (call (low.Callee (record { 0 = g })) (regs scope (out-Op o).operands) (block_no ok) (block_no failure)) →
        Takes f ok [] → GivesBit f ok true join scope →
        Takes f failure (reg_no code ∷ []) → AreBefore scope code → GivesBit f failure false join scope →
        Opens f join l (out-Op o).results scope →
        IsLaid f end a join 0 (l + length (out-Op o).results) (with_values (out-Op o).results l scope) rest →
        IsLaid f end a b i n scope (o ∷ rest)
    awaits : (f : LowFunc) (end : Close) (a b i n : ℕ) (scope : Scope) (o : Op) (rest : List Op) (c : ValueNo) (cs : List ValueNo) (go failure l : ℕ) →
        (out-Op o).kind ≡ op.AsyncAwait → (out-Op o).operands ≡ c ∷ cs → AreVisible scope (c ∷ []) →
        Has f b i [] (await (reg scope c) (block_no go) (block_no failure)) → FailsAt f failure (out-Op o).at → Opens f go l (out-Op o).results scope →
        IsLaid f end a go 0 (l + length (out-Op o).results) (with_values (out-Op o).results l scope) rest →
        IsLaid f end a b i n scope (o ∷ rest)
    awaits_all : (f : LowFunc) (end : Close) (a b i n : ℕ) (scope : Scope) (o : Op) (rest : List Op) (c : ValueNo) (cs : List ValueNo) (go failure : ℕ) →
        (out-Op o).kind ≡ op.AsyncAwaitAll → (out-Op o).operands ≡ c ∷ cs → AreVisible scope (c ∷ []) →
        Has f b i [] (await (reg scope c) (block_no go) (block_no failure)) → FailsAt f failure (out-Op o).at → Opens f go n [] scope →
        IsLaid f end a go 0 n scope rest →
        IsLaid f end a b i n scope (o ∷ rest)
    -- a task is launched: its function awaits the dependencies and values, and does the operations of the region
    launches : (f : LowFunc) (end : Close) (a b i n : ℕ) (scope : Scope) (o : Op) (rest : List Op) (x : Instr) (more : List Instr) (t : Term) (h : ℕ) (g : LowFunc) (tokens values captured : List ValueNo) (b2 i2 n2 : ℕ) (inner : Scope) →
        (out-Op o).kind ≡ op.AsyncExecute → (out-Op o).operands ≡ tokens ++ values → (out-Op o).groups ≡ length tokens ∷ length values ∷ [] →
        Has f b i (x ∷ more) t → IsLaunch scope n (out-Op o) captured x h → slice_get code.funcs h ≡ Some g → g.params ≡ regs_from 0 ((out-Op o).operands ++ captured) →
        AreAwaited g (out-Op o).at (length ((out-Op o).operands ++ captured)) 0 (names_for [] tokens ++ names_for (params_in (region_of (out-Op o) 0)) values) 0 0 (length ((out-Op o).operands ++ captured))
        (with_values captured (length (out-Op o).operands) []) b2 i2 n2 inner →
        IsLaid g Returns (length (out-Op o).results - 1) b2 i2 n2 inner (ops_in (region_of (out-Op o) 0)) →
        IsLaid f end a b (i + 1) (n + length (out-Op o).results) (with_values (out-Op o).results n scope) rest →
        IsLaid f end a b i n scope (o ∷ rest)

  -- ---- regions that wait for others

  -- these operations are laid out from the start of a block on, which takes these values
  pub record Begins (f : LowFunc) (end : Close) (a b n : ℕ) (xs : List ValueNo) (scope : Scope) (ops : List Op) : Type 0 where
    pub opens : Opens f b n xs scope
    pub laid : IsLaid f end a b 0 (n + length xs) (with_values xs n scope) ops

  -- a counted loop and what follows it
  pub record IsLoop (f : LowFunc) (end : Close) (a : ℕ) (scope : Scope) (o : Node) (rest : List Op) (upper step : ValueNo) (head v : ℕ) : Type 0 where
    pub variable : ValueNo
    pub carried : List ValueNo
    pub body : ℕ
    pub m : ℕ
    pub exit : ℕ
    pub l : ℕ
    pub test : ℕ
    pub params : params_in (region_of o 0) ≡ variable ∷ carried
    pub opens : Opens f head v (variable ∷ carried) scope
    pub wide : bits f v ≡ 64
    pub has : Has f head 0 (less (reg_no test) (reg_no v) (reg scope upper) ∷ []) (cond_br (reg_no test) (block_no body) (block_no exit) [])
    pub before : v + 1 + length carried ≤ test
    pub turn : Begins f (Repeats (block_no head) (reg_no v) (reg scope step)) (length carried) body m [] (with_values (variable ∷ carried) v scope) (ops_in (region_of o 0))
    pub many : length o.results ≡ length carried
    pub new : AreNew scope (v + 1) o.results
    pub on : Begins f end a exit l [] (with_values o.results (v + 1) scope) rest
    pub visible : AreVisible scope (upper ∷ step ∷ [])

  -- a loop with a test and what follows it
  pub record IsCycle (f : LowFunc) (end : Close) (a : ℕ) (scope : Scope) (o : Node) (rest : List Op) (head second exit : ℕ) : Type 0 where
    pub v : ℕ
    pub m : ℕ
    pub l : ℕ
    pub many : length o.results ≡ length (params_in (region_of o 1))
    pub first : Begins f (Decides (block_no second) (block_no exit)) (1 + length (params_in (region_of o 1))) head v (params_in (region_of o 0)) scope (ops_in (region_of o 0))
    pub then : Begins f (Joins (block_no head)) (length (params_in (region_of o 0))) second m (params_in (region_of o 1)) scope (ops_in (region_of o 1))
    pub on : Begins f end a exit l o.results scope rest

-- ---- modules

-- a function is laid out under its place
pub record IsLaidFunc (p : Program) (code : LowModule) (place : ℕ) (func : Func) : Type 0 where
  pub f : LowFunc
  pub is : slice_get code.funcs place ≡ Some f
  pub params : f.params ≡ regs_from 0 (names_of func.params)
  pub new : AreNew [] 0 (names_of func.params)
  pub laid : IsLaid p code place f Returns (length func.results) 0 0 (length (names_of func.params)) (with_values (names_of func.params) 0 []) (ops_of func.body)

-- each function of the source is
abbrev pub AreLaid : Program → LowModule → Type 0
AreLaid p code = (place : ℕ) (func : Func) → slice_get p.funcs place ≡ Some func → IsLaidFunc p code place func
