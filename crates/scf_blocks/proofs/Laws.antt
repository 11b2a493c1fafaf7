-- What is written for an operation stands in front of all that is written behind it.
use Rattle.std.proofs.Common.{◌≡◌, ℕ, ◌+◌, ◌-◌, drop, true, false, List, [], ◌∷◌, ◌++◌, length, Option, ap, ◌∙◌, append_assoc, append-nil, length-append, arith}
use Rattle.ir_forms.specs.declared.ops.Attr.{Attr}
use Rattle.ir_forms.specs.declared.ops.Func.{Func}
use Rattle.ir_forms.specs.declared.ops.ValueNo.{ValueNo}
use Rattle.ir_forms.specs.declared.types.Ty.{Ty}
use Rattle.ir_forms.specs.declared.types.Ty.TheVariants.{Index}
use Rattle.low_forms.specs.declared.code.Reg.{Reg}
use Rattle.low_forms.specs.declared.code.BlockNo.{BlockNo}
use Rattle.low_forms.specs.declared.code.LowKind.{LowKind}
use Rattle.low_forms.specs.declared.code.LowAttr.{LowAttr}
use Rattle.low_forms.specs.declared.code.LowAttr.TheVariants as low
use Rattle.low_forms.specs.declared.code.Term.{Term}
use Rattle.low_forms.specs.declared.code.Block.{Block}
use Rattle.scf_blocks.specs.declared.body.Body.{Body}
use Rattle.scf_blocks.specs.declared.body.Failure.{Failure}
use Rattle.scf_blocks.specs.declared.body.Failure.TheVariants.{Constant, Passed}
use Rattle.scf_blocks.specs.declared.body.Close.{Close}
use Rattle.scf_blocks.specs.declared.body.Close.TheVariants.{Joins, Repeats, Decides}
use Rattle.scf_blocks.specs.Tree.{Var, values_of, types_in, Ops, plain, asserts, branches, counts, cycles, calls, tries, awaits}
use Rattle.scf_blocks.specs.Code.{Scope, Code, code_of, block_of, reg_no, operand, regs, regs_from, with_vars, constant, less, truth, code_type, br, cond_br, call, await, types_of, fails_of, blocks_of, regs_of, failures_of, low_attr}
use Rattle.scf_blocks.specs.Bodies.{finished, next_block, next_reg, next_failure, with_plain, with_assertion, with_choice, with_counted, with_cycle, with_call, with_tried, with_await}
use Rattle.scf_blocks.proofs.Counts.{length_types, count_code}
use Rattle.scf_blocks.proofs.Scopes.{extends_values, forgotten}

-- the open block with its end
abbrev block : Body → Term → Block
block w t = record { params = w.params; instrs = w.instrs; term = t }

-- what a region makes visible isn't visible behind it
pub kept : (scope : Scope) (xs : List Var) (n : ℕ) → drop (length (with_vars xs n scope) - length scope) (with_vars xs n scope) ≡ scope
kept scope xs n = forgotten scope (with_vars xs n scope) (extends_values (values_of xs) n scope)

one_more : (done : List Block) (b : Block) → length (done ++ b ∷ []) ≡ length done + 1
one_more done b = length-append done (b ∷ [])

one_failure : (w : Body) (f : Failure) → w.first_failure + length (w.failures ++ f ∷ []) ≡ w.first_failure + length w.failures + 1
one_failure w f = let h : length (w.failures ++ f ∷ []) ≡ length w.failures + 1 = length-append w.failures (f ∷ []) in omega (arith, h)

with_types : (types : List Ty) (rs : List Var) → length (types ++ types_in rs) ≡ length types + length rs
with_types types rs = length-append types (types_in rs) ∙ ap (λ k. length types + k) (length_types rs)

pub with_more : (types : List Ty) (ops : Ops) → length (types ++ (types_of ops ++ [])) ≡ length types + regs_of ops
with_more types ops = length-append types (types_of ops ++ []) ∙ ap (λ (l : List Ty). length types + length l) (append-nil (types_of ops))

with_fails : (first : ℕ) (failures : List Failure) (ops : Ops) → first + length (failures ++ fails_of ops) ≡ first + length failures + failures_of ops
with_fails first failures ops = let h : length (failures ++ fails_of ops) ≡ length failures + failures_of ops = length-append failures (fails_of ops) in omega (arith, h)

-- a block that gives this bit to another
abbrev bit_block : List Reg → Reg → LowAttr → BlockNo → Block
bit_block params r bit to = record { params = params; instrs = constant r bit ∷ []; term = br to (r ∷ []) }

blocks_more : (done : List Block) (params : List Reg) (c : Code) → length (done ++ block_of params c) ≡ length done + (1 + length c.blocks)
blocks_more done params c = let h : length (done ++ block_of params c) ≡ length done + length (block_of params c) = length-append done (block_of params c) in omega (arith, h)

module _ (funcs : List Func) where
  pub plain_law : (kind : LowKind) (a : Attr) (args : List ValueNo) (rs : List Var) (w : Body) (end : Close) (outer : Scope) (rest : Ops) →
      finished funcs (with_plain funcs kind a args rs w) outer end rest ≡ finished funcs w outer end (plain kind a args rs rest)
  plain_law kind a args rs w end outer rest =
      let n : length (w.types ++ types_in rs) ≡ length w.types + length rs = with_types w.types rs in
      rw n (simp append_assoc)

  pub assertion_law : (at : ℕ) (c : Option ValueNo) (w : Body) (end : Close) (outer : Scope) (rest : Ops) →
      finished funcs (with_assertion at c w) outer end rest ≡ finished funcs w outer end (asserts at c rest)
  assertion_law at c w end outer rest =
      let b : length (w.done ++ block w (cond_br (operand w.scope c) (next_block w 1) (next_failure w) []) ∷ []) ≡ length w.done + 1 = one_more w.done _ in
      let j : w.first_failure + length (w.failures ++ Constant at ∷ []) ≡ w.first_failure + length w.failures + 1 = one_failure w (Constant at) in
      rw (b, j) (simp (append_assoc, append-nil))

  pub call_law : (a : Attr) (args : List ValueNo) (rs : List Var) (w : Body) (end : Close) (outer : Scope) (rest : Ops) →
      finished funcs (with_call funcs a args rs w) outer end rest ≡ finished funcs w outer end (calls a args rs rest)
  call_law a args rs w end outer rest =
      let b : length (w.done ++ block w (call (low_attr funcs a) (regs w.scope args) (next_block w 1) (next_failure w)) ∷ []) ≡ length w.done + 1 = one_more w.done _ in
      let n : length (w.types ++ types_in rs) ≡ length w.types + length rs = with_types w.types rs in
      let j : w.first_failure + length (w.failures ++ Passed ∷ []) ≡ w.first_failure + length w.failures + 1 = one_failure w Passed in
      rw (b, n, j) (simp (append_assoc, append-nil))

  pub await_law : (at : ℕ) (o : Option ValueNo) (rs : List Var) (w : Body) (end : Close) (outer : Scope) (rest : Ops) →
      finished funcs (with_await at o rs w) outer end rest ≡ finished funcs w outer end (awaits at o rs rest)
  await_law at o rs w end outer rest =
      let b : length (w.done ++ block w (await (operand w.scope o) (next_block w 1) (next_failure w)) ∷ []) ≡ length w.done + 1 = one_more w.done _ in
      let n : length (w.types ++ types_in rs) ≡ length w.types + length rs = with_types w.types rs in
      let j : w.first_failure + length (w.failures ++ Constant at ∷ []) ≡ w.first_failure + length w.failures + 1 = one_failure w (Constant at) in
      rw (b, n, j) (simp (append_assoc, append-nil))

  pub choice_law : (c : Option ValueNo) (on off : Ops) (rs : List Var) (w : Body) (end : Close) (outer : Scope) (rest : Ops) →
      finished funcs (with_choice funcs c on off rs w) outer end rest ≡ finished funcs w outer end (branches c on off rs rest)
  choice_law c on off rs w end outer rest =
      let b : ℕ = length w.done in
      let n : ℕ = length w.types in
      let j : ℕ = w.first_failure + length w.failures in
      let join : Close = Joins (next_block w (3 + (blocks_of on + blocks_of off))) in
      let d1 : List Block = w.done ++ block w (cond_br (operand w.scope c) (next_block w 1) (next_block w (2 + blocks_of on)) []) ∷ [] in
      let x : Code = code_of funcs on (b + 1) n j w.scope join in
      let y : Code = code_of funcs off (b + (2 + blocks_of on)) (n + regs_of on) (j + failures_of on) w.scope join in
      let e1 : length d1 ≡ b + 1 = one_more w.done _ in
      let e2 : length (d1 ++ block_of [] x) ≡ b + (2 + blocks_of on) = (let h = blocks_more d1 [] x in let k = count_code funcs on (b + 1) n j w.scope join in omega (arith, e1, h, k)) in
      let e3 : length ((d1 ++ block_of [] x) ++ block_of [] y) ≡ b + (3 + (blocks_of on + blocks_of off)) =
      (let h = blocks_more (d1 ++ block_of [] x) [] y in let k = count_code funcs off (b + (2 + blocks_of on)) (n + regs_of on) (j + failures_of on) w.scope join in omega (arith, e2, h, k)) in
      let n2 : length (w.types ++ (types_of on ++ [])) ≡ n + regs_of on = rw append-nil (length-append w.types (types_of on)) in
      let n3 : length ((w.types ++ (types_of on ++ [])) ++ (types_of off ++ [])) ≡ n + regs_of on + regs_of off =
      (let h : length ((w.types ++ (types_of on ++ [])) ++ (types_of off ++ [])) ≡ length (w.types ++ (types_of on ++ [])) + length (types_of off ++ []) = length-append (w.types ++ (types_of on ++ [])) (types_of off ++ []) in
      let k : length (types_of off ++ []) ≡ regs_of off = ap length (append-nil (types_of off)) in omega (arith, h, k, n2)) in
      let n4 : length (((w.types ++ (types_of on ++ [])) ++ (types_of off ++ [])) ++ types_in rs) ≡ n + regs_of on + regs_of off + length rs =
      (let h = with_types ((w.types ++ (types_of on ++ [])) ++ (types_of off ++ [])) rs in omega (arith, h, n3)) in
      let j2 : w.first_failure + length (w.failures ++ fails_of on) ≡ j + failures_of on = (let h : length (w.failures ++ fails_of on) ≡ length w.failures + failures_of on = length-append w.failures (fails_of on) in omega (arith, h)) in
      let j3 : w.first_failure + length ((w.failures ++ fails_of on) ++ fails_of off) ≡ j + failures_of on + failures_of off =
      (let h : length ((w.failures ++ fails_of on) ++ fails_of off) ≡ length (w.failures ++ fails_of on) + failures_of off = length-append (w.failures ++ fails_of on) (fails_of off) in omega (arith, h, j2)) in
      rw (e1, e2, n2, j2, e3, n3, n4, j3) (simp (append_assoc, append-nil))

  pub tried_law : (a : Attr) (args : List ValueNo) (rs : List Var) (w : Body) (end : Close) (outer : Scope) (rest : Ops) →
      finished funcs (with_tried funcs a args rs w) outer end rest ≡ finished funcs w outer end (tries a args rs rest)
  tried_law a args rs w end outer rest =
      let b : ℕ = length w.done in
      let n : ℕ = length w.types in
      let join : BlockNo = next_block w 3 in
      let d1 : List Block = w.done ++ block w (call (low_attr funcs a) (regs w.scope args) (next_block w 1) (next_block w 2)) ∷ [] in
      let t1 : List Ty = w.types ++ truth ∷ [] in
      let t2 : List Ty = t1 ++ code_type ∷ [] in
      let t3 : List Ty = t2 ++ truth ∷ [] in
      let n1 : length t1 ≡ n + 1 = length-append w.types (truth ∷ []) in
      let n2 : length t2 ≡ n + 2 = (let h : length t2 ≡ length t1 + 1 = length-append t1 (code_type ∷ []) in omega (arith, h, n1)) in
      let n3 : length t3 ≡ n + 3 = (let h : length t3 ≡ length t2 + 1 = length-append t2 (truth ∷ []) in omega (arith, h, n2)) in
      let n4 : length (t3 ++ types_in rs) ≡ n + 3 + length rs = (let h = with_types t3 rs in omega (arith, h, n3)) in
      let b1 : Block = bit_block [] (reg_no n) (low.Truth true) join in
      let b2 : Block = bit_block (reg_no (n + 1) ∷ []) (reg_no (n + 2)) (low.Truth false) join in
      let e1 : length ((d1 ++ b1 ∷ []) ++ b2 ∷ []) ≡ b + 3 =
      (let h = one_more (d1 ++ b1 ∷ []) b2 in let k = one_more d1 b1 in let l : length d1 ≡ b + 1 = one_more w.done _ in omega (arith, h, k, l)) in
      rw (n1, n2, n3, n4, e1) (simp (append_assoc, append-nil))

  pub counted_law : (lower upper step : Option ValueNo) (inits : List ValueNo) (params : List Var) (body : Ops) (rs : List ValueNo) (w : Body) (end : Close) (outer : Scope) (rest : Ops) →
      finished funcs (with_counted funcs lower upper step inits params body rs w) outer end rest ≡ finished funcs w outer end (counts lower upper step inits params body rs rest)
  counted_law lower upper step inits params body rs w end outer rest =
      let b : ℕ = length w.done in
      let n : ℕ = length w.types in
      let n2 : ℕ = n + length params in
      let j : ℕ = w.first_failure + length w.failures in
      let turn : Close = Repeats (next_block w 1) (next_reg w) (operand w.scope step) in
      let exit : BlockNo = next_block w (3 + blocks_of body) in
      let t1 : List Ty = w.types ++ types_in params in
      let t2 : List Ty = t1 ++ truth ∷ [] in
      let t3 : List Ty = t2 ++ (types_of body ++ Index ∷ []) in
      let m1 : length t1 ≡ n2 = with_types w.types params in
      let m2 : length t2 ≡ n2 + 1 = (let h : length t2 ≡ length t1 + 1 = length-append t1 (truth ∷ []) in omega (arith, h, m1)) in
      let m3 : length t3 ≡ n2 + 1 + regs_of body + 1 =
      (let h : length t3 ≡ length t2 + length (types_of body ++ Index ∷ []) = length-append t2 (types_of body ++ Index ∷ []) in
      let k : length (types_of body ++ Index ∷ []) ≡ regs_of body + 1 = length-append (types_of body) (Index ∷ []) in omega (arith, h, k, m2)) in
      let d1 : List Block = w.done ++ block w (br (next_block w 1) (operand w.scope lower ∷ regs w.scope inits)) ∷ [] in
      let head : Block = record { params = regs_from n params; instrs = less (reg_no n2) (reg_no n) (operand w.scope upper) ∷ []; term = cond_br (reg_no n2) (next_block w 2) exit [] } in
      let d2 : List Block = d1 ++ head ∷ [] in
      let x : Code = code_of funcs body (b + 2) (n2 + 1) j (with_vars params n w.scope) turn in
      let e2 : length d2 ≡ b + 2 = (let h = one_more d1 head in let k : length d1 ≡ b + 1 = one_more w.done _ in omega (arith, h, k)) in
      let e3 : length (d2 ++ block_of [] x) ≡ b + (3 + blocks_of body) = (let h = blocks_more d2 [] x in let k = count_code funcs body (b + 2) (n2 + 1) j (with_vars params n w.scope) turn in omega (arith, e2, h, k)) in
      let j2 : w.first_failure + length (w.failures ++ fails_of body) ≡ j + failures_of body = with_fails w.first_failure w.failures body in
      rw (kept w.scope params n, m1, e2, m2, e3, m3, j2) (simp (append_assoc, append-nil))

  pub cycle_law : (inits : List ValueNo) (params : List Var) (before : Ops) (passed : List Var) (after : Ops) (rs : List Var) (w : Body) (end : Close) (outer : Scope) (rest : Ops) →
      finished funcs (with_cycle funcs inits params before passed after rs w) outer end rest ≡ finished funcs w outer end (cycles inits params before passed after rs rest)
  cycle_law inits params before passed after rs w end outer rest =
      let b : ℕ = length w.done in
      let n : ℕ = length w.types in
      let j : ℕ = w.first_failure + length w.failures in
      let n1 : ℕ = n + length params in
      let n2 : ℕ = n1 + regs_of before in
      let n3 : ℕ = n2 + length passed + regs_of after in
      let test : Close = Decides (next_block w (2 + blocks_of before)) (next_block w (3 + (blocks_of before + blocks_of after))) in
      let back : Close = Joins (next_block w 1) in
      let t1 : List Ty = w.types ++ types_in params in
      let t2 : List Ty = t1 ++ (types_of before ++ []) in
      let t3 : List Ty = t2 ++ types_in passed in
      let t4 : List Ty = t3 ++ (types_of after ++ []) in
      let m1 : length t1 ≡ n1 = with_types w.types params in
      let m2 : length t2 ≡ n2 = (let h = with_more t1 before in omega (arith, h, m1)) in
      let m3 : length t3 ≡ n2 + length passed = (let h = with_types t2 passed in omega (arith, h, m2)) in
      let m4 : length t4 ≡ n3 = (let h = with_more t3 after in omega (arith, h, m3)) in
      let m5 : length (t4 ++ types_in rs) ≡ n3 + length rs = (let h = with_types t4 rs in omega (arith, h, m4)) in
      let d1 : List Block = w.done ++ block w (br (next_block w 1) (regs w.scope inits)) ∷ [] in
      let x : Code = code_of funcs before (b + 1) n1 j (with_vars params n w.scope) test in
      let y : Code = code_of funcs after (b + (2 + blocks_of before)) (n2 + length passed) (j + failures_of before) (with_vars passed n2 w.scope) back in
      let d2 : List Block = d1 ++ block_of (regs_from n params) x in
      let e1 : length d1 ≡ b + 1 = one_more w.done _ in
      let e2 : length d2 ≡ b + (2 + blocks_of before) = (let h = blocks_more d1 (regs_from n params) x in let k = count_code funcs before (b + 1) n1 j (with_vars params n w.scope) test in omega (arith, e1, h, k)) in
      let e3 : length (d2 ++ block_of (regs_from n2 passed) y) ≡ b + (3 + (blocks_of before + blocks_of after)) =
      (let h = blocks_more d2 (regs_from n2 passed) y in let k = count_code funcs after (b + (2 + blocks_of before)) (n2 + length passed) (j + failures_of before) (with_vars passed n2 w.scope) back in omega (arith, e2, h, k)) in
      let f1 : List Failure = w.failures ++ fails_of before in
      let j2 : w.first_failure + length f1 ≡ j + failures_of before = with_fails w.first_failure w.failures before in
      let j3 : w.first_failure + length (f1 ++ fails_of after) ≡ j + failures_of before + failures_of after = (let h = with_fails w.first_failure f1 after in omega (arith, h, j2)) in
      rw (kept w.scope params n, kept w.scope passed (length t2), e1, m1, e2, m2, m3, j2, e3, m4, m5, j3) (simp (append_assoc, append-nil))
