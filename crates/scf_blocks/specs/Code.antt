-- The blocks of a tree of operations.
use Rattle.std.specs.Prelude.{ℕ, ◌+◌, nat_eq, cond, true, false, List, [], ◌∷◌, ◌++◌, length, map, Option, Some, None}
use Rattle.int_ops.specs.declared.Pred.TheVariants.{Slt}
use Rattle.int_ops.specs.declared.Width.TheVariants.{W1, W64}
use Rattle.op_table.specs.declared.kind.OpKind.TheVariants.{ArithAddi, ArithCmpi, ArithConstant, CfBr, CfCondBr, AioCall, AioFail, FuncReturn}
use Rattle.ir_forms.specs.declared.ops.Attr.{Attr}
use Rattle.ir_forms.specs.declared.ops.Attr.TheVariants as attr
use Rattle.ir_forms.specs.declared.ops.Func.{Func}
use Rattle.ir_forms.specs.declared.ops.ValueNo.{ValueNo}
use Rattle.ir_forms.specs.declared.types.Ty.{Ty}
use Rattle.ir_forms.specs.declared.types.Ty.TheVariants.{Int, Index}
use Rattle.ir_verify.specs.Names.{first_named}
use Rattle.low_forms.specs.declared.code.Reg.{Reg}
use Rattle.low_forms.specs.declared.code.BlockNo.{BlockNo}
use Rattle.low_forms.specs.declared.code.LowKind.{LowKind}
use Rattle.low_forms.specs.declared.code.LowKind.TheVariants.{Row, Await}
use Rattle.low_forms.specs.declared.code.LowAttr.{LowAttr}
use Rattle.low_forms.specs.declared.code.LowAttr.TheVariants as low
use Rattle.low_forms.specs.declared.code.Instr.{Instr}
use Rattle.low_forms.specs.declared.code.Target.{Target}
use Rattle.low_forms.specs.declared.code.Term.{Term}
use Rattle.low_forms.specs.declared.code.Block.{Block}
use Rattle.scf_blocks.specs.declared.body.Failure.{Failure}
use Rattle.scf_blocks.specs.declared.body.Failure.TheVariants.{Constant, Passed}
use Rattle.scf_blocks.specs.declared.body.Close.{Close}
use Rattle.scf_blocks.specs.declared.body.Close.TheVariants.{Returns, Joins, Repeats, Decides}
use Rattle.scf_blocks.specs.Tree.{Var, values_of, types_in, Ops, gives, decides, plain, asserts, branches, counts, cycles, calls, tries, awaits}

-- ---- values and registers

-- the values that are visible, each with its register, the last one first
abbrev pub Scope : Type 0
Scope = List (ValueNo × Reg)

abbrev pub reg_no : ℕ → Reg
reg_no n = record { 0 = n }

abbrev pub block_no : ℕ → BlockNo
block_no b = record { 0 = b }

abbrev pub known : Scope → ℕ → Option Reg
known [] x = None
known (y ∷ scope) x = cond (nat_eq y.0.0 x) (Some y.1) (known scope x)

-- a value that isn't visible reads as the first register
abbrev pub or_first : Option Reg → Reg
or_first None = reg_no 0
or_first (Some r) = r

abbrev pub reg : Scope → ValueNo → Reg
reg scope x = or_first (known scope x.0)

abbrev pub regs : Scope → List ValueNo → List Reg
regs scope xs = map (reg scope) xs

-- an operand that is missing reads so too
abbrev pub operand : Scope → Option ValueNo → Reg
operand scope None = reg_no 0
operand scope (Some x) = reg scope x

-- these values get the registers from n on
abbrev pub with_values : List ValueNo → ℕ → Scope → Scope
with_values [] n scope = scope
with_values (x ∷ xs) n scope = with_values xs (n + 1) ((x, reg_no n) ∷ scope)

abbrev pub with_vars : List Var → ℕ → Scope → Scope
with_vars xs n scope = with_values (values_of xs) n scope

-- a register for each, from n on
abbrev pub regs_from : {A : Type 0} → ℕ → List A → List Reg
regs_from n [] = []
regs_from n (x ∷ xs) = reg_no n ∷ regs_from (n + 1) xs

-- ---- instructions and terminators

abbrev pub instr : LowKind → List Reg → List Reg → LowAttr → Instr
instr kind operands results a = record { kind = kind; operands = operands; results = results; attr = a }

abbrev pub target : BlockNo → List Reg → Target
target b args = record { block = b; args = args }

abbrev pub ends_with : LowKind → List Reg → LowAttr → List Target → Term
ends_with kind operands a targets = record { instr = instr kind operands [] a; targets = targets }

abbrev pub br : BlockNo → List Reg → Term
br b args = ends_with (Row CfBr) [] low.None (target b args ∷ [])

abbrev pub cond_br : Reg → BlockNo → BlockNo → List Reg → Term
cond_br c on off args = ends_with (Row CfCondBr) (c ∷ []) low.None (target on args ∷ target off args ∷ [])

abbrev pub call : LowAttr → List Reg → BlockNo → BlockNo → Term
call callee args ok failed = ends_with (Row AioCall) args callee (target ok [] ∷ target failed [] ∷ [])

abbrev pub await : Reg → BlockNo → BlockNo → Term
await o go failure = ends_with Await (o ∷ []) low.None (target go [] ∷ target failure [] ∷ [])

abbrev pub return : List Reg → Term
return vs = ends_with (Row FuncReturn) vs low.None []

abbrev pub fail : Reg → Term
fail r = ends_with (Row AioFail) (r ∷ []) low.None []

abbrev pub constant : Reg → LowAttr → Instr
constant r a = instr (Row ArithConstant) [] (r ∷ []) a

abbrev pub literal : ℕ → LowAttr
literal n = low.Literal false n

abbrev pub add : Reg → Reg → Reg → Instr
add sum a b = instr (Row ArithAddi) (a ∷ b ∷ []) (sum ∷ []) low.None

abbrev pub less : Reg → Reg → Reg → Instr
less test a b = instr (Row ArithCmpi) (a ∷ b ∷ []) (test ∷ []) (low.Pred Slt)

abbrev pub truth : Ty
truth = Int W1

-- the code of a failure
abbrev pub code_type : Ty
code_type = Int W64

-- a function by its place; one that isn't there is none
abbrev pub callee_at : Option ℕ → LowAttr
callee_at None = low.None
callee_at (Some k) = low.Callee (record { 0 = k })

-- what an instruction carries; functions are named by their places
abbrev pub low_attr : List Func → Attr → LowAttr
low_attr funcs attr.None = low.None
low_attr funcs (attr.Literal negative magnitude) = low.Literal negative magnitude
low_attr funcs (attr.Truth bit) = low.Truth bit
low_attr funcs (attr.Pred p) = low.Pred p
low_attr funcs (attr.Text text) = low.None
low_attr funcs (attr.Callee name) = callee_at (first_named funcs name)

-- ---- how many blocks, which registers and which failures operations make

abbrev pub blocks_of : Ops → ℕ
blocks_of (gives vs) = 0
blocks_of (decides c vs) = 0
blocks_of (plain kind a args rs rest) = blocks_of rest
blocks_of (asserts at c rest) = 1 + blocks_of rest
blocks_of (branches c on off rs rest) = 3 + (blocks_of on + (blocks_of off + blocks_of rest))
blocks_of (counts lower upper step inits params body rs rest) = 3 + (blocks_of body + blocks_of rest)
blocks_of (cycles inits params before passed after rs rest) = 3 + (blocks_of before + (blocks_of after + blocks_of rest))
blocks_of (calls a args rs rest) = 1 + blocks_of rest
blocks_of (tries a args rs rest) = 3 + blocks_of rest
blocks_of (awaits at o rs rest) = 1 + blocks_of rest

-- the types of the registers, in the order of the blocks
abbrev pub types_of : Ops → List Ty
types_of (gives vs) = []
types_of (decides c vs) = []
types_of (plain kind a args rs rest) = types_in rs ++ types_of rest
types_of (asserts at c rest) = types_of rest
types_of (branches c on off rs rest) = types_of on ++ (types_of off ++ (types_in rs ++ types_of rest))
types_of (counts lower upper step inits params body rs rest) = types_in params ++ truth ∷ (types_of body ++ Index ∷ types_of rest)
types_of (cycles inits params before passed after rs rest) =
    types_in params ++ (types_of before ++ (types_in passed ++ (types_of after ++ (types_in rs ++ types_of rest))))
types_of (calls a args rs rest) = types_in rs ++ types_of rest
types_of (tries a args rs rest) = truth ∷ code_type ∷ truth ∷ (types_in rs ++ types_of rest)
types_of (awaits at o rs rest) = types_in rs ++ types_of rest

abbrev pub regs_of : Ops → ℕ
regs_of ops = length (types_of ops)

-- what can fail, in the order of the text: its own number is the code, or a call's code is passed on
abbrev pub fails_of : Ops → List Failure
fails_of (gives vs) = []
fails_of (decides c vs) = []
fails_of (plain kind a args rs rest) = fails_of rest
fails_of (asserts at c rest) = Constant at ∷ fails_of rest
fails_of (branches c on off rs rest) = fails_of on ++ (fails_of off ++ fails_of rest)
fails_of (counts lower upper step inits params body rs rest) = fails_of body ++ fails_of rest
fails_of (cycles inits params before passed after rs rest) = fails_of before ++ (fails_of after ++ fails_of rest)
fails_of (calls a args rs rest) = Passed ∷ fails_of rest
fails_of (tries a args rs rest) = fails_of rest
fails_of (awaits at o rs rest) = Constant at ∷ fails_of rest

abbrev pub failures_of : Ops → ℕ
failures_of ops = length (fails_of ops)

-- ---- code

-- what is still to be written of the open block, and the blocks behind it
pub record Code : Type 0 where
  pub instrs : List Instr
  pub term : Term
  pub blocks : List Block

abbrev pub instr_then : Instr → Code → Code
instr_then i c = record { instrs = i ∷ c.instrs; term = c.term; blocks = c.blocks }

abbrev pub ends_by : Term → List Block → Code
ends_by t blocks = record { instrs = []; term = t; blocks = blocks }

abbrev pub block_of : List Reg → Code → List Block
block_of params c = record { params = params; instrs = c.instrs; term = c.term } ∷ c.blocks

-- how a region ends with its values, where n is the next register: a loop adds its step behind all else
abbrev pub close : Close → ℕ → List Reg → Code
close Returns n vs = ends_by (return vs) []
close (Joins b) n vs = ends_by (br b vs) []
close (Repeats head variable step) n vs = instr_then (add (reg_no n) variable step) (ends_by (br head (reg_no n ∷ vs)) [])
close (Decides after exit) n vs = ends_by (br after vs) []

-- the registers that it makes
abbrev pub close_types : Close → List Ty
close_types (Repeats head variable step) = Index ∷ []
close_types _ = []

-- how it ends with a condition
abbrev pub decide : Close → ℕ → Reg → List Reg → Code
decide (Decides after exit) n c vs = ends_by (cond_br c after exit vs) []
decide end n c vs = close end n vs

-- a block that gives this bit to another
abbrev pub bit_code : Reg → LowAttr → BlockNo → Code
bit_code r bit b = instr_then (constant r bit) (ends_by (br b (r ∷ [])) [])

module _ (funcs : List Func) where
  -- the code of operations that begin in block b, where n is the next register and j the next failure block
  abbrev pub code_of : Ops → (b n j : ℕ) → Scope → Close → Code
  code_of (gives vs) b n j scope end = close end n (regs scope vs)
  code_of (decides c vs) b n j scope end = decide end n (operand scope c) (regs scope vs)
  code_of (plain kind a args rs rest) b n j scope end =
      instr_then (instr kind (regs scope args) (regs_from n rs) (low_attr funcs a)) (code_of rest b (n + length rs) j (with_vars rs n scope) end)
  code_of (asserts at c rest) b n j scope end =
      ends_by (cond_br (operand scope c) (block_no (b + 1)) (block_no j) []) (block_of [] (code_of rest (b + 1) n (j + 1) scope end))
  code_of (branches c on off rs rest) b n j scope end =
      let b2 : ℕ = b + (2 + blocks_of on) in
      let b3 : ℕ = b + (3 + (blocks_of on + blocks_of off)) in
      let n3 : ℕ = n + regs_of on + regs_of off in
      ends_by (cond_br (operand scope c) (block_no (b + 1)) (block_no b2) [])
      (block_of [] (code_of on (b + 1) n j scope (Joins (block_no b3)))
      ++ (block_of [] (code_of off b2 (n + regs_of on) (j + failures_of on) scope (Joins (block_no b3)))
      ++ block_of (regs_from n3 rs) (code_of rest b3 (n3 + length rs) (j + failures_of on + failures_of off) (with_vars rs n3 scope) end)))
  code_of (counts lower upper step inits params body rs rest) b n j scope end =
      let n2 : ℕ = n + length params in
      let n3 : ℕ = n2 + 1 + regs_of body in
      let b3 : ℕ = b + (3 + blocks_of body) in
      ends_by (br (block_no (b + 1)) (operand scope lower ∷ regs scope inits))
      (block_of (regs_from n params) (instr_then (less (reg_no n2) (reg_no n) (operand scope upper)) (ends_by (cond_br (reg_no n2) (block_no (b + 2)) (block_no b3) []) []))
      ++ (block_of [] (code_of body (b + 2) (n2 + 1) j (with_vars params n scope) (Repeats (block_no (b + 1)) (reg_no n) (operand scope step)))
      ++ block_of [] (code_of rest b3 (n3 + 1) (j + failures_of body) (with_values rs (n + 1) scope) end)))
  code_of (cycles inits params before passed after rs rest) b n j scope end =
      let b2 : ℕ = b + (2 + blocks_of before) in
      let b3 : ℕ = b + (3 + (blocks_of before + blocks_of after)) in
      let n2 : ℕ = n + length params + regs_of before in
      let n3 : ℕ = n2 + length passed + regs_of after in
      ends_by (br (block_no (b + 1)) (regs scope inits))
      (block_of (regs_from n params) (code_of before (b + 1) (n + length params) j (with_vars params n scope) (Decides (block_no b2) (block_no b3)))
      ++ (block_of (regs_from n2 passed) (code_of after b2 (n2 + length passed) (j + failures_of before) (with_vars passed n2 scope) (Joins (block_no (b + 1))))
      ++ block_of (regs_from n3 rs) (code_of rest b3 (n3 + length rs) (j + failures_of before + failures_of after) (with_vars rs n3 scope) end)))
  code_of (calls a args rs rest) b n j scope end =
      ends_by (call (low_attr funcs a) (regs scope args) (block_no (b + 1)) (block_no j))
      (block_of (regs_from n rs) (code_of rest (b + 1) (n + length rs) (j + 1) (with_vars rs n scope) end))
  code_of (tries a args rs rest) b n j scope end =
      ends_by (call (low_attr funcs a) (regs scope args) (block_no (b + 1)) (block_no (b + 2)))
      (block_of [] (bit_code (reg_no n) (low.Truth true) (block_no (b + 3)))
      ++ (block_of (reg_no (n + 1) ∷ []) (bit_code (reg_no (n + 2)) (low.Truth false) (block_no (b + 3)))
      ++ block_of (regs_from (n + 3) rs) (code_of rest (b + 3) (n + 3 + length rs) j (with_vars rs (n + 3) scope) end)))
  code_of (awaits at o rs rest) b n j scope end =
      ends_by (await (operand scope o) (block_no (b + 1)) (block_no j))
      (block_of (regs_from n rs) (code_of rest (b + 1) (n + length rs) (j + 1) (with_vars rs n scope) end))

-- ---- failure blocks; each has one register, from m on

abbrev pub failure_block : ℕ → Failure → Block
failure_block m (Constant at) = record { params = []; instrs = constant (reg_no m) (literal at) ∷ []; term = fail (reg_no m) }
failure_block m Passed = record { params = reg_no m ∷ []; instrs = []; term = fail (reg_no m) }

abbrev pub failure_blocks : ℕ → List Failure → List Block
failure_blocks m [] = []
failure_blocks m (f ∷ fs) = failure_block m f ∷ failure_blocks (m + 1) fs

abbrev pub code_types : List Failure → List Ty
code_types [] = []
code_types (f ∷ fs) = code_type ∷ code_types fs
