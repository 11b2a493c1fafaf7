-- How many blocks code has, and how many registers.
use Rattle.std.proofs.Common.{◌≡◌, ℕ, suc, ◌+◌, List, [], ◌∷◌, ◌++◌, length, refl, ap, ◌∙◌, length-append, arith}
use Rattle.ir_forms.specs.declared.ops.Func.{Func}
use Rattle.low_forms.specs.declared.code.Reg.{Reg}
use Rattle.scf_blocks.specs.declared.body.Close.{Close}
use Rattle.scf_blocks.specs.declared.body.Close.TheVariants.{Returns, Joins, Repeats, Decides}
use Rattle.scf_blocks.specs.Tree.{Var, types_in, Ops, gives, decides, plain, asserts, branches, counts, cycles, calls, tries, awaits}
use Rattle.scf_blocks.specs.Code.{Scope, Code, code_of, block_of, blocks_of, regs_of, failures_of, close, decide, reg_no, block_no, regs, regs_from, operand, with_values, with_vars, less, cond_br, instr_then, ends_by}

pub length_types : (xs : List Var) → length (types_in xs) ≡ length xs
length_types [] = refl
length_types (x ∷ xs) = ap suc (length_types xs)

no_blocks : (end : Close) (n : ℕ) (vs : List Reg) → length (close end n vs).blocks ≡ 0
no_blocks Returns n vs = refl
no_blocks (Joins b) n vs = refl
no_blocks (Repeats h i s) n vs = refl
no_blocks (Decides a e) n vs = refl

none_decided : (end : Close) (n : ℕ) (c : Reg) (vs : List Reg) → length (decide end n c vs).blocks ≡ 0
none_decided Returns n c vs = refl
none_decided (Joins b) n c vs = refl
none_decided (Repeats h i s) n c vs = refl
none_decided (Decides a e) n c vs = refl

three : (X Y Z : Code) (p q r : List Reg) (x y z : ℕ) → length X.blocks ≡ x → length Y.blocks ≡ y → length Z.blocks ≡ z → length (block_of p X ++ (block_of q Y ++ block_of r Z)) ≡ 3 + (x + (y + z))
three X Y Z p q r x y z ex ey ez =
    let h : length (block_of p X ++ (block_of q Y ++ block_of r Z)) ≡ length (block_of p X) + length (block_of q Y ++ block_of r Z) = length-append (block_of p X) (block_of q Y ++ block_of r Z) in
    let k : length (block_of q Y ++ block_of r Z) ≡ length (block_of q Y) + length (block_of r Z) = length-append (block_of q Y) (block_of r Z) in
    omega (arith, h, k, ex, ey, ez)

module _ (funcs : List Func) where
  -- a block's number is its place
  pub count_code : (ops : Ops) (b n j : ℕ) (scope : Scope) (end : Close) → length (code_of funcs ops b n j scope end).blocks ≡ blocks_of ops
  count_code (gives vs) b n j scope end = no_blocks end n (regs scope vs)
  count_code (decides c vs) b n j scope end = none_decided end n (operand scope c) (regs scope vs)
  count_code (plain kind a args rs rest) b n j scope end = count_code rest b (n + length rs) j (with_vars rs n scope) end
  count_code (asserts at c rest) b n j scope end = let h = count_code rest (b + 1) n (j + 1) scope end in omega (arith, h)
  count_code (branches c on off rs rest) b n j scope end =
      let b2 : ℕ = b + (2 + blocks_of on) in
      let b3 : ℕ = b + (3 + (blocks_of on + blocks_of off)) in
      let n3 : ℕ = n + regs_of on + regs_of off in
      let j3 : ℕ = j + failures_of on + failures_of off in
      three
      (code_of funcs on (b + 1) n j scope (Joins (block_no b3)))
      (code_of funcs off b2 (n + regs_of on) (j + failures_of on) scope (Joins (block_no b3)))
      (code_of funcs rest b3 (n3 + length rs) j3 (with_vars rs n3 scope) end)
      [] [] (regs_from n3 rs) (blocks_of on) (blocks_of off) (blocks_of rest)
      (count_code on (b + 1) n j scope (Joins (block_no b3)))
      (count_code off b2 (n + regs_of on) (j + failures_of on) scope (Joins (block_no b3)))
      (count_code rest b3 (n3 + length rs) j3 (with_vars rs n3 scope) end)
  count_code (counts lower upper step inits params body rs rest) b n j scope end =
      let n2 : ℕ = n + length params in
      let n3 : ℕ = n2 + 1 + regs_of body in
      let b3 : ℕ = b + (3 + blocks_of body) in
      let turn : Close = Repeats (block_no (b + 1)) (reg_no n) (operand scope step) in
      let h = three
      (instr_then (less (reg_no n2) (reg_no n) (operand scope upper)) (ends_by (cond_br (reg_no n2) (block_no (b + 2)) (block_no b3) []) []))
      (code_of funcs body (b + 2) (n2 + 1) j (with_vars params n scope) turn)
      (code_of funcs rest b3 (n3 + 1) (j + failures_of body) (with_values rs (n + 1) scope) end)
      (regs_from n params) [] [] 0 (blocks_of body) (blocks_of rest) refl
      (count_code body (b + 2) (n2 + 1) j (with_vars params n scope) turn)
      (count_code rest b3 (n3 + 1) (j + failures_of body) (with_values rs (n + 1) scope) end) in
      h ∙ (let z : 3 + (0 + (blocks_of body + blocks_of rest)) ≡ 3 + (blocks_of body + blocks_of rest) = omega arith in z)
  count_code (cycles inits params before passed after rs rest) b n j scope end =
      let b2 : ℕ = b + (2 + blocks_of before) in
      let b3 : ℕ = b + (3 + (blocks_of before + blocks_of after)) in
      let n2 : ℕ = n + length params + regs_of before in
      let n3 : ℕ = n2 + length passed + regs_of after in
      let j3 : ℕ = j + failures_of before + failures_of after in
      three
      (code_of funcs before (b + 1) (n + length params) j (with_vars params n scope) (Decides (block_no b2) (block_no b3)))
      (code_of funcs after b2 (n2 + length passed) (j + failures_of before) (with_vars passed n2 scope) (Joins (block_no (b + 1))))
      (code_of funcs rest b3 (n3 + length rs) j3 (with_vars rs n3 scope) end)
      (regs_from n params) (regs_from n2 passed) (regs_from n3 rs) (blocks_of before) (blocks_of after) (blocks_of rest)
      (count_code before (b + 1) (n + length params) j (with_vars params n scope) (Decides (block_no b2) (block_no b3)))
      (count_code after b2 (n2 + length passed) (j + failures_of before) (with_vars passed n2 scope) (Joins (block_no (b + 1))))
      (count_code rest b3 (n3 + length rs) j3 (with_vars rs n3 scope) end)
  count_code (calls a args rs rest) b n j scope end = let h = count_code rest (b + 1) (n + length rs) (j + 1) (with_vars rs n scope) end in omega (arith, h)
  count_code (tries a args rs rest) b n j scope end = let h = count_code rest (b + 3) (n + 3 + length rs) j (with_vars rs (n + 3) scope) end in omega (arith, h)
  count_code (awaits at o rs rest) b n j scope end = let h = count_code rest (b + 1) (n + length rs) (j + 1) (with_vars rs n scope) end in omega (arith, h)
