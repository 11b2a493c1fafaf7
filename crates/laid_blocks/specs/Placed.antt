-- Where the operations of a tree stand in a function of blocks: which instructions and terminators are where.
use Rattle.std.specs.Prelude.{◌≡◌, ℕ, ◌+◌, true, false, List, [], ◌∷◌, length, Some, slice_get}
use Rattle.ir_forms.specs.declared.ops.Func.{Func}
use Rattle.ir_forms.specs.declared.types.Ty.{Ty}
use Rattle.low_forms.specs.declared.code.Reg.{Reg}
use Rattle.low_forms.specs.declared.code.Instr.{Instr}
use Rattle.low_forms.specs.declared.code.Term.{Term}
use Rattle.low_forms.specs.declared.code.LowAttr.{LowAttr}
use Rattle.low_forms.specs.declared.code.LowAttr.TheVariants as low
use Rattle.low_forms.specs.declared.code.LowFunc.{LowFunc}
use Rattle.low_forms.specs.Owns.{params_of}
use Rattle.low_forms.specs.Places.{remaining}
use Rattle.low_forms.specs.Registers.{block_at}
use Rattle.scf_blocks.specs.declared.body.Failure.{Failure}
use Rattle.scf_blocks.specs.declared.body.Failure.TheVariants.{Constant, Passed}
use Rattle.scf_blocks.specs.declared.body.Close.{Close}
use Rattle.scf_blocks.specs.declared.body.Close.TheVariants.{Joins, Repeats, Decides}
use Rattle.scf_blocks.specs.Tree.{types_in, Ops, gives, decides, plain, asserts, branches, counts, cycles, calls, tries, awaits}
use Rattle.scf_blocks.specs.Code.{Scope, reg_no, block_no, operand, regs, regs_from, with_values, with_vars, instr, less, br, cond_br, call, await, fail, constant, literal, low_attr, truth, code_type, blocks_of, regs_of, failures_of, Code, close, close_types, decide}

-- a list has these elements from a place on
abbrev pub From : {A : Type 0} → List A → ℕ → List A → Type 0
From all n [] = Unit {0}
From all n (x ∷ xs) = (slice_get all n ≡ Some x) × From all (n + 1) xs

module _ (f : LowFunc) where
  -- this remains of a block from an instruction on
  abbrev pub Has : (block place : ℕ) → List Instr → Term → Type 0
  Has b i instrs t = remaining f b i ≡ Some (record { instrs = instrs; term = t })

  -- the instruction at a place of a block
  abbrev pub HasInstr : (block place : ℕ) → Instr → Type 0
  HasInstr b i x = (more : List Instr) × (t : Term) × Has b i (x ∷ more) t

  -- a block takes these registers
  abbrev pub Takes : ℕ → List Reg → Type 0
  Takes b rs = params_of (block_at f (block_no b)) ≡ rs

  -- the registers from n on have these types
  abbrev pub HaveTypes : ℕ → List Ty → Type 0
  HaveTypes n ts = From f.regs n ts

  -- the block of a failure, with its register
  abbrev pub Fails : (block register : ℕ) → Failure → Type 0
  Fails j m (Constant at) = Takes j [] × Has j 0 (constant (reg_no m) (literal at) ∷ []) (fail (reg_no m)) × HaveTypes m (code_type ∷ [])
  Fails j m Passed = Takes j (reg_no m ∷ []) × Has j 0 [] (fail (reg_no m)) × HaveTypes m (code_type ∷ [])

  -- a region ends so, where n is the next register
  abbrev pub EndsBy : Close → (block place n : ℕ) → Code → Type 0
  EndsBy end b i n c = Has b i c.instrs c.term × HaveTypes n (close_types end)

  -- a block gives this bit to another, in a register of its own
  abbrev pub Bit : (block register : ℕ) → LowAttr → ℕ → Type 0
  Bit b r bit to = Has b 0 (constant (reg_no r) bit ∷ []) (br (block_no to) (reg_no r ∷ [])) × HaveTypes r (truth ∷ [])

  module _ (funcs : List Func) where
    -- The operations stand from an instruction of block b on, where n is the next register, j the next block of a failure, and
    -- m that block's register.
    abbrev pub IsPlaced : Ops → (b i n j m : ℕ) → Scope → Close → Type 0
    IsPlaced (gives vs) b i n j m scope end = EndsBy end b i n (close end n (regs scope vs))
    IsPlaced (decides c vs) b i n j m scope end = EndsBy end b i n (decide end n (operand scope c) (regs scope vs))
    IsPlaced (plain kind a args rs rest) b i n j m scope end =
        HasInstr b i (instr kind (regs scope args) (regs_from n rs) (low_attr funcs a)) × HaveTypes n (types_in rs)
        × IsPlaced rest b (i + 1) (n + length rs) j m (with_vars rs n scope) end
    IsPlaced (asserts at c rest) b i n j m scope end =
        Has b i [] (cond_br (operand scope c) (block_no (b + 1)) (block_no j) []) × Fails j m (Constant at)
        × Takes (b + 1) [] × IsPlaced rest (b + 1) 0 n (j + 1) (m + 1) scope end
    IsPlaced (branches c on off rs rest) b i n j m scope end =
        let b2 : ℕ = b + (2 + blocks_of on) in
        let b3 : ℕ = b + (3 + (blocks_of on + blocks_of off)) in
        let n3 : ℕ = n + regs_of on + regs_of off in
        Has b i [] (cond_br (operand scope c) (block_no (b + 1)) (block_no b2) [])
        × Takes (b + 1) [] × IsPlaced on (b + 1) 0 n j m scope (Joins (block_no b3))
        × Takes b2 [] × IsPlaced off b2 0 (n + regs_of on) (j + failures_of on) (m + failures_of on) scope (Joins (block_no b3))
        × Takes b3 (regs_from n3 rs) × HaveTypes n3 (types_in rs)
        × IsPlaced rest b3 0 (n3 + length rs) (j + failures_of on + failures_of off) (m + failures_of on + failures_of off) (with_vars rs n3 scope) end
    IsPlaced (counts lower upper step inits params body rs rest) b i n j m scope end =
        let n2 : ℕ = n + length params in
        let n3 : ℕ = n2 + 1 + regs_of body in
        let b3 : ℕ = b + (3 + blocks_of body) in
        Has b i [] (br (block_no (b + 1)) (operand scope lower ∷ regs scope inits))
        × Takes (b + 1) (regs_from n params) × HaveTypes n (types_in params) × HaveTypes n2 (truth ∷ [])
        × Has (b + 1) 0 (less (reg_no n2) (reg_no n) (operand scope upper) ∷ []) (cond_br (reg_no n2) (block_no (b + 2)) (block_no b3) [])
        × Takes (b + 2) [] × IsPlaced body (b + 2) 0 (n2 + 1) j m (with_vars params n scope) (Repeats (block_no (b + 1)) (reg_no n) (operand scope step))
        × Takes b3 [] × IsPlaced rest b3 0 (n3 + 1) (j + failures_of body) (m + failures_of body) (with_values rs (n + 1) scope) end
    IsPlaced (cycles inits params before passed after rs rest) b i n j m scope end =
        let b2 : ℕ = b + (2 + blocks_of before) in
        let b3 : ℕ = b + (3 + (blocks_of before + blocks_of after)) in
        let n2 : ℕ = n + length params + regs_of before in
        let n3 : ℕ = n2 + length passed + regs_of after in
        Has b i [] (br (block_no (b + 1)) (regs scope inits))
        × Takes (b + 1) (regs_from n params) × HaveTypes n (types_in params)
        × IsPlaced before (b + 1) 0 (n + length params) j m (with_vars params n scope) (Decides (block_no b2) (block_no b3))
        × Takes b2 (regs_from n2 passed) × HaveTypes n2 (types_in passed)
        × IsPlaced after b2 0 (n2 + length passed) (j + failures_of before) (m + failures_of before) (with_vars passed n2 scope) (Joins (block_no (b + 1)))
        × Takes b3 (regs_from n3 rs) × HaveTypes n3 (types_in rs)
        × IsPlaced rest b3 0 (n3 + length rs) (j + failures_of before + failures_of after) (m + failures_of before + failures_of after) (with_vars rs n3 scope) end
    IsPlaced (calls a args rs rest) b i n j m scope end =
        Has b i [] (call (low_attr funcs a) (regs scope args) (block_no (b + 1)) (block_no j)) × Fails j m Passed
        × Takes (b + 1) (regs_from n rs) × HaveTypes n (types_in rs)
        × IsPlaced rest (b + 1) 0 (n + length rs) (j + 1) (m + 1) (with_vars rs n scope) end
    IsPlaced (tries a args rs rest) b i n j m scope end =
        Has b i [] (call (low_attr funcs a) (regs scope args) (block_no (b + 1)) (block_no (b + 2)))
        × Takes (b + 1) [] × Bit (b + 1) n (low.Truth true) (b + 3)
        × Takes (b + 2) (reg_no (n + 1) ∷ []) × HaveTypes (n + 1) (code_type ∷ []) × Bit (b + 2) (n + 2) (low.Truth false) (b + 3)
        × Takes (b + 3) (regs_from (n + 3) rs) × HaveTypes (n + 3) (types_in rs)
        × IsPlaced rest (b + 3) 0 (n + 3 + length rs) j m (with_vars rs (n + 3) scope) end
    IsPlaced (awaits at o rs rest) b i n j m scope end =
        Has b i [] (await (operand scope o) (block_no (b + 1)) (block_no j)) × Fails j m (Constant at)
        × Takes (b + 1) (regs_from n rs) × HaveTypes n (types_in rs)
        × IsPlaced rest (b + 1) 0 (n + length rs) (j + 1) (m + 1) (with_vars rs n scope) end
