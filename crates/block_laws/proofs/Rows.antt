-- What holds of each row that structured operations become.
use Rattle.std.proofs.Common.{◌≡◌, ℕ, zero, suc, ◌+◌, ◌&&◌, Bool, true, false, List, [], ◌∷◌, ◌++◌, map, length, Option, Some, None, refl, sym, subst}
use Rattle.op_table.specs.declared.kind.OpKind.{OpKind}
use Rattle.op_table.specs.declared.kind.OpKind.TheVariants.{ArithAddi, ArithCmpi, ArithConstant, CfBr, CfCondBr, AioCall, AioFail, FuncReturn}
use Rattle.int_ops.specs.declared.Pred.TheVariants.{Slt}
use Rattle.ir_forms.specs.declared.ops.Attr.{Attr}
use Rattle.ir_forms.specs.declared.ops.Func.{Func}
use Rattle.ir_forms.specs.declared.ops.Op.{Op, Op-F, roll-Op}
use Rattle.ir_forms.specs.declared.ops.Op.TheFolds.{fold-roll-Op, fold-roll-Region, ind-Op}
use Rattle.ir_forms.specs.declared.ops.Region.{Region, Region-F, roll-Region}
use Rattle.ir_forms.specs.Ops.{ops_of}
use Rattle.low_forms.specs.declared.code.Reg.{Reg}
use Rattle.low_forms.specs.declared.code.LowKind.{LowKind}
use Rattle.low_forms.specs.declared.code.LowKind.TheVariants.{Row, Await}
use Rattle.low_forms.specs.declared.code.LowAttr.{LowAttr}
use Rattle.low_forms.specs.declared.code.LowAttr.TheVariants as low
use Rattle.low_forms.specs.declared.code.Instr.{Instr}
use Rattle.low_forms.specs.declared.code.Block.{Block}
use Rattle.low_forms.specs.Registers.{every}
use Rattle.low_forms.proofs.Words.{and_both}
use Rattle.scf_blocks.specs.declared.role.Role.{Role}
use Rattle.scf_blocks.specs.declared.role.Role.TheVariants as role
use Rattle.scf_blocks.specs.declared.body.Failure.{Failure}
use Rattle.scf_blocks.specs.declared.body.Failure.TheVariants.{Constant, Passed}
use Rattle.scf_blocks.specs.declared.body.Close.{Close}
use Rattle.scf_blocks.specs.declared.body.Close.TheVariants.{Returns, Joins, Repeats, Decides}
use Rattle.scf_blocks.specs.Tree.{Ops, gives, decides, plain, asserts, branches, counts, cycles, calls, tries, awaits, Nested, nested_at, Parts, parts_of, op_before, op_step, region_step, chained, role_of, tree_before, nested_of, tree}
use Rattle.scf_blocks.specs.Code.{Scope, Code, code_of, block_of, blocks_of, regs_of, failures_of, close, decide, reg_no, block_no, regs, regs_from, operand, with_values, with_vars, low_attr, less, cond_br, instr_then, ends_by, bit_code, fails_of, failure_blocks}
use Rattle.scf_blocks.specs.Lowered.{lowered_func, func_tree}
use Rattle.block_laws.proofs.Words.{every_append}

-- what a row is, and what it carries
abbrev pub Test : Type 0
Test = LowKind → LowAttr → Bool

abbrev pub Passes : Test → List Func → Role → Type 0
Passes p funcs (role.Plain kind) = (a : Attr) → p kind (low_attr funcs a) ≡ true
Passes p funcs _ = Unit {0}

-- the rows that operations become pass the test, and so do those that the pass makes of itself
pub record EachPasses (p : Test) (funcs : List Func) : Type 0 where
  pub own : (kind : OpKind) → Passes p funcs (role_of kind)
  pub adds : p (Row ArithAddi) low.None ≡ true
  pub compares : p (Row ArithCmpi) (low.Pred Slt) ≡ true
  pub bit : (b : Bool) → p (Row ArithConstant) (low.Truth b) ≡ true
  pub goes : p (Row CfBr) low.None ≡ true
  pub chooses : p (Row CfCondBr) low.None ≡ true
  pub called : (a : Attr) → p (Row AioCall) (low_attr funcs a) ≡ true
  pub waits : p Await low.None ≡ true
  pub returns : p (Row FuncReturn) low.None ≡ true

-- and so do those of failure blocks
pub record FailsPass (p : Test) : Type 0 where
  pub constant : (n : ℕ) → p (Row ArithConstant) (low.Literal false n) ≡ true
  pub ends : p (Row AioFail) low.None ≡ true

-- the code of a function, before its failure blocks
abbrev pub code_blocks : List Func → Func → List Block
code_blocks funcs f = block_of [] (code_of funcs (func_tree f) 0 (length f.params) (blocks_of (func_tree f) + 1) (with_vars f.params 0 []) Returns)

module _ (p : Test) where
  abbrev pub instr_passes : Instr → Bool
  instr_passes i = p i.kind i.attr

  abbrev pub block_passes : Block → Bool
  block_passes b = every instr_passes b.instrs && instr_passes b.term.instr

  pub failures_pass : FailsPass p → (m : ℕ) (fs : List Failure) → every block_passes (failure_blocks m fs) ≡ true
  failures_pass h m [] = refl
  failures_pass h m (Constant at ∷ fs) = and_both _ (every block_passes (failure_blocks (m + 1) fs)) (and_both _ (p (Row AioFail) low.None) (and_both (p (Row ArithConstant) (low.Literal false at)) true (h.constant at) refl) h.ends) (failures_pass h (m + 1) fs)
  failures_pass h m (Passed ∷ fs) = and_both (p (Row AioFail) low.None) (every block_passes (failure_blocks (m + 1) fs)) h.ends (failures_pass h (m + 1) fs)

  module _ (funcs : List Func) (h : EachPasses p funcs) where
    -- the rows of plain operations
    abbrev Own : Ops → Type 0
    Own (gives vs) = Unit {0}
    Own (decides c vs) = Unit {0}
    Own (plain kind a args rs rest) = (p kind (low_attr funcs a) ≡ true) × Own rest
    Own (asserts at c rest) = Own rest
    Own (branches c on off rs rest) = Own on × Own off × Own rest
    Own (counts lower upper step inits params body rs rest) = Own body × Own rest
    Own (cycles inits params before passed after rs rest) = Own before × Own after × Own rest
    Own (calls a args rs rest) = Own rest
    Own (tries a args rs rest) = Own rest
    Own (awaits at o rs rest) = Own rest

    abbrev EachOwn : List Nested → Type 0
    EachOwn [] = Unit {0}
    EachOwn (n ∷ ns) = Own n.ops × EachOwn ns

    own_at : (ns : List Nested) (k : ℕ) → EachOwn ns → Own (nested_at ns k).ops
    own_at [] k is = tt
    own_at (n ∷ ns) zero is = is.0
    own_at (n ∷ ns) (suc k) is = own_at ns k is.1

    before_own : (r : Role) (o : Parts) (ns : List Nested) (rest : Ops) → Passes p funcs r → EachOwn ns → Own rest → Own (op_before r o ns rest)
    before_own (role.Plain kind) o ns rest is each more = (is o.attr, more)
    before_own role.Assertion o ns rest is each more = more
    before_own role.Choice o ns rest is each more = (own_at ns 0 each, own_at ns 1 each, more)
    before_own role.Counted o ns rest is each more = (own_at ns 0 each, more)
    before_own role.Tested o ns rest is each more = (own_at ns 0 each, own_at ns 1 each, more)
    before_own role.Call o ns rest is each more = more
    before_own role.TriedCall o ns rest is each more = more
    before_own role.Await o ns rest is each more = more
    before_own role.End o ns rest is each more = tt
    before_own role.Condition o ns rest is each more = tt
    before_own role.Nothing o ns rest is each more = more

    -- ---- the tree of operations

    abbrev OpOwn : Op → Type 0
    OpOwn op = (rest : Ops) → Own rest → Own (tree_before op rest)

    abbrev RegionOwn : Region → Type 0
    RegionOwn region = Own (nested_of region).ops

    ops_chained : (ys : List ((op : Op) × OpOwn op)) → Own (chained (map tree_before (map (λ y. y.0) ys)))
    ops_chained [] = tt
    ops_chained (y ∷ ys) = y.1 (chained (map tree_before (map (λ y. y.0) ys))) (ops_chained ys)

    regions_each : (ys : List ((region : Region) × RegionOwn region)) → EachOwn (map nested_of (map (λ y. y.0) ys))
    regions_each [] = tt
    regions_each (y ∷ ys) = (y.1, regions_each ys)

    made_own : (x : Op-F Op Region) → EachOwn (map nested_of x.regions) → OpOwn (roll-Op x)
    unfolding tree_before nested_of
    made_own x each rest more =
        subst (λ (f : Ops → Ops). Own (f rest)) (sym (fold-roll-Op (Ops → Ops) Nested op_step region_step x))
        (before_own (role_of x.kind) (parts_of x) (map nested_of x.regions) rest (h.own x.kind) each more)

    held_own : (x : Region-F Op Region) → Own (chained (map tree_before x.ops)) → RegionOwn (roll-Region x)
    unfolding tree_before nested_of
    held_own x more = subst (λ (n : Nested). Own n.ops) (sym (fold-roll-Region (Ops → Ops) Nested op_step region_step x)) more

    op_own : (op : Op) → OpOwn op
    op_own = ind-Op OpOwn RegionOwn
        (λ x y is. made_own x (subst (λ (z : Op-F Op Region). EachOwn (map nested_of z.regions)) is (regions_each y.regions)))
        (λ x y is. held_own x (subst (λ (z : Region-F Op Region). Own (chained (map tree_before z.ops))) is (ops_chained y.ops)))

    tree_own : (ops : List Op) → Own (tree ops)
    tree_own [] = tt
    tree_own (op ∷ ops) = op_own op (tree ops) (tree_own ops)

    -- ---- code

    record Keeps (c : Code) : Type 0 where
      instrs : every instr_passes c.instrs ≡ true
      term : instr_passes c.term.instr ≡ true
      blocks : every block_passes c.blocks ≡ true

    lone_keeps : (i : Instr) (c : Code) → instr_passes i ≡ true → Keeps c → Keeps (instr_then i c)
    lone_keeps i c is k = record { instrs = and_both (instr_passes i) (every instr_passes c.instrs) is k.instrs; term = k.term; blocks = k.blocks }

    close_keeps : (end : Close) (n : ℕ) (vs : List Reg) → Keeps (close end n vs)
    close_keeps Returns n vs = record { instrs = refl; term = h.returns; blocks = refl }
    close_keeps (Joins b) n vs = record { instrs = refl; term = h.goes; blocks = refl }
    close_keeps (Repeats head i s) n vs = record { instrs = and_both (p (Row ArithAddi) low.None) true h.adds refl; term = h.goes; blocks = refl }
    close_keeps (Decides a e) n vs = record { instrs = refl; term = h.goes; blocks = refl }

    decide_keeps : (end : Close) (n : ℕ) (c : Reg) (vs : List Reg) → Keeps (decide end n c vs)
    decide_keeps Returns n c vs = close_keeps Returns n vs
    decide_keeps (Joins b) n c vs = close_keeps (Joins b) n vs
    decide_keeps (Repeats head i s) n c vs = close_keeps (Repeats head i s) n vs
    decide_keeps (Decides a e) n c vs = record { instrs = refl; term = h.chooses; blocks = refl }

    block_keeps : (params : List Reg) (c : Code) → Keeps c → every block_passes (block_of params c) ≡ true
    block_keeps params c is =
        and_both (every instr_passes c.instrs && instr_passes c.term.instr) (every block_passes c.blocks) (and_both (every instr_passes c.instrs) (instr_passes c.term.instr) is.instrs is.term) is.blocks

    three_keep : (X Y Z : Code) (q r s : List Reg) → Keeps X → Keeps Y → Keeps Z → every block_passes (block_of q X ++ (block_of r Y ++ block_of s Z)) ≡ true
    three_keep X Y Z q r s x y z =
        every_append block_passes (block_of q X) (block_of r Y ++ block_of s Z) (block_keeps q X x)
        (every_append block_passes (block_of r Y) (block_of s Z) (block_keeps r Y y) (block_keeps s Z z))

    code_keeps : (ops : Ops) (b n j : ℕ) (scope : Scope) (end : Close) → Own ops → Keeps (code_of funcs ops b n j scope end)
    code_keeps (gives vs) b n j scope end is = close_keeps end n (regs scope vs)
    code_keeps (decides c vs) b n j scope end is = decide_keeps end n (operand scope c) (regs scope vs)
    code_keeps (plain kind a args rs rest) b n j scope end is = lone_keeps _ (code_of funcs rest b (n + length rs) j (with_vars rs n scope) end) is.0 (code_keeps rest b (n + length rs) j (with_vars rs n scope) end is.1)
    code_keeps (asserts at c rest) b n j scope end is =
        record { instrs = refl; term = h.chooses; blocks = block_keeps [] _ (code_keeps rest (b + 1) n (j + 1) scope end is) }
    code_keeps (branches c on off rs rest) b n j scope end is =
        let b2 : ℕ = b + (2 + blocks_of on) in
        let b3 : ℕ = b + (3 + (blocks_of on + blocks_of off)) in
        let n3 : ℕ = n + regs_of on + regs_of off in
        record {
          instrs = refl;
          term = h.chooses;
          blocks = three_keep _ _ _ [] [] (regs_from n3 rs)
              (code_keeps on (b + 1) n j scope (Joins (block_no b3)) is.0)
              (code_keeps off b2 (n + regs_of on) (j + failures_of on) scope (Joins (block_no b3)) is.1)
              (code_keeps rest b3 (n3 + length rs) (j + failures_of on + failures_of off) (with_vars rs n3 scope) end is.2);
        }
    code_keeps (counts lower upper step inits params body rs rest) b n j scope end is =
        let n2 : ℕ = n + length params in
        let n3 : ℕ = n2 + 1 + regs_of body in
        let b3 : ℕ = b + (3 + blocks_of body) in
        record {
          instrs = refl;
          term = h.goes;
          blocks = three_keep (instr_then (less (reg_no n2) (reg_no n) (operand scope upper)) (ends_by (cond_br (reg_no n2) (block_no (b + 2)) (block_no b3) []) [])) _ _ (regs_from n params) [] []
              (record { instrs = and_both (p (Row ArithCmpi) (low.Pred Slt)) true h.compares refl; term = h.chooses; blocks = refl })
              (code_keeps body (b + 2) (n2 + 1) j (with_vars params n scope) (Repeats (block_no (b + 1)) (reg_no n) (operand scope step)) is.0)
              (code_keeps rest b3 (n3 + 1) (j + failures_of body) (with_values rs (n + 1) scope) end is.1);
        }
    code_keeps (cycles inits params before passed after rs rest) b n j scope end is =
        let b2 : ℕ = b + (2 + blocks_of before) in
        let b3 : ℕ = b + (3 + (blocks_of before + blocks_of after)) in
        let n2 : ℕ = n + length params + regs_of before in
        let n3 : ℕ = n2 + length passed + regs_of after in
        record {
          instrs = refl;
          term = h.goes;
          blocks = three_keep _ _ _ (regs_from n params) (regs_from n2 passed) (regs_from n3 rs)
              (code_keeps before (b + 1) (n + length params) j (with_vars params n scope) (Decides (block_no b2) (block_no b3)) is.0)
              (code_keeps after b2 (n2 + length passed) (j + failures_of before) (with_vars passed n2 scope) (Joins (block_no (b + 1))) is.1)
              (code_keeps rest b3 (n3 + length rs) (j + failures_of before + failures_of after) (with_vars rs n3 scope) end is.2);
        }
    code_keeps (calls a args rs rest) b n j scope end is =
        record { instrs = refl; term = h.called a; blocks = block_keeps (regs_from n rs) _ (code_keeps rest (b + 1) (n + length rs) (j + 1) (with_vars rs n scope) end is) }
    code_keeps (tries a args rs rest) b n j scope end is =
        record {
          instrs = refl;
          term = h.called a;
          blocks = three_keep (bit_code (reg_no n) (low.Truth true) (block_no (b + 3))) (bit_code (reg_no (n + 2)) (low.Truth false) (block_no (b + 3))) _ [] (reg_no (n + 1) ∷ []) (regs_from (n + 3) rs)
              (bit_keeps n (b + 3) true) (bit_keeps (n + 2) (b + 3) false)
              (code_keeps rest (b + 3) (n + 3 + length rs) j (with_vars rs (n + 3) scope) end is);
        }
      where
        bit_keeps : (n b : ℕ) (bit : Bool) → Keeps (bit_code (reg_no n) (low.Truth bit) (block_no b))
        bit_keeps n b bit = record { instrs = and_both (p (Row ArithConstant) (low.Truth bit)) true (h.bit bit) refl; term = h.goes; blocks = refl }
    code_keeps (awaits at o rs rest) b n j scope end is =
        record { instrs = refl; term = h.waits; blocks = block_keeps (regs_from n rs) _ (code_keeps rest (b + 1) (n + length rs) (j + 1) (with_vars rs n scope) end is) }

    pub code_passes : (f : Func) → every block_passes (code_blocks funcs f) ≡ true
    code_passes f =
        block_keeps [] _ (code_keeps (func_tree f) 0 (length f.params) (blocks_of (func_tree f) + 1) (with_vars f.params 0 []) Returns (tree_own (ops_of f.body)))

    pub blocks_pass : FailsPass p → (f : Func) → every block_passes (lowered_func funcs f).blocks ≡ true
    blocks_pass fails f =
        every_append block_passes (code_blocks funcs f) (failure_blocks (length f.params + regs_of (func_tree f)) (fails_of (func_tree f)))
        (code_passes f) (failures_pass fails (length f.params + regs_of (func_tree f)) (fails_of (func_tree f)))
