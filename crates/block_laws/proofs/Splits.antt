-- No edge of the code is critical, and none leads to the first block.
use Rattle.std.proofs.Common.{◌≡◌, ◌⊎◌, inl, inr, ◌<◌, ◌≤◌, ℕ, suc, ◌+◌, ◌==◌, nat_lt, if◌then◌else◌, Bool, true, false, List, [], ◌∷◌, ◌++◌, length, refl, sym, ap, subst, ◌∙◌, arith, length-append}
use Rattle.std.specs.Prelude.{not}
use Rattle.std.proofs.lemmas.Bool.Decides.{eqb_tells}
use Rattle.ir_forms.specs.declared.ops.Func.{Func}
use Rattle.low_forms.specs.declared.code.Reg.{Reg}
use Rattle.low_forms.specs.declared.code.Block.{Block}
use Rattle.low_forms.specs.Registers.{every}
use Rattle.low_forms.specs.Edges.{edges_from, edges_in, edges, count_to, predecessors, has_one_before, is_uncritical, none_is_start}
use Rattle.low_forms.proofs.Words.{and_both}
use Rattle.scf_blocks.specs.declared.body.Failure.{Failure}
use Rattle.scf_blocks.specs.declared.body.Failure.TheVariants.{Constant, Passed}
use Rattle.scf_blocks.specs.declared.body.Close.{Close}
use Rattle.scf_blocks.specs.declared.body.Close.TheVariants.{Returns, Joins, Repeats, Decides}
use Rattle.scf_blocks.specs.Tree.{Ops, gives, decides, plain, asserts, branches, counts, cycles, calls, tries, awaits}
use Rattle.scf_blocks.specs.Code.{Scope, Code, code_of, block_of, blocks_of, regs_of, fails_of, failures_of, close, decide, reg_no, block_no, regs, regs_from, operand, with_values, with_vars, less, cond_br, instr_then, ends_by, failure_blocks, bit_code}
use Rattle.scf_blocks.specs.Lowered.{lowered_func, func_tree}
use Rattle.low_forms.specs.declared.code.LowAttr.TheVariants as low
use Rattle.block_laws.specs.Laws.{EdgesSplit}
use Rattle.block_laws.proofs.Words.{below, every_append}
use Rattle.block_laws.proofs.Within.{choice_fails, blocks_size}

-- ---- counts

with_same : (x y : ℕ) (n : ℕ) → x ≡ y → (if x == y then n + 1 else n) ≡ n + 1
with_same x y n same = elim (eqb_tells x y) [
  | inl is ↦ ap (λ b. if b then n + 1 else n) is.0
  | inr other ↦ absurd (other.1 same)
]

with_other : (x y : ℕ) (n : ℕ) → (x ≡ y → ⊥) → (if x == y then n + 1 else n) ≡ n
with_other x y n differs = elim (eqb_tells x y) [
  | inl is ↦ absurd (differs is.1)
  | inr other ↦ ap (λ b. if b then n + 1 else n) other.0
]

none_of : (x y : ℕ) → (x ≡ y → ⊥) → count_to x (y ∷ []) ≡ 0
none_of x y differs = with_other x y 0 differs

none_of_two : (x y z : ℕ) → (x ≡ y → ⊥) → (x ≡ z → ⊥) → count_to x (y ∷ z ∷ []) ≡ 0
none_of_two x y z d e = with_other x y (count_to x (z ∷ [])) d ∙ with_other x z 0 e

first_of_two : (x z : ℕ) → (x ≡ z → ⊥) → count_to x (x ∷ z ∷ []) ≡ 1
first_of_two x z d = with_same x x (count_to x (z ∷ [])) refl ∙ (let h : count_to x (z ∷ []) ≡ 0 = with_other x z 0 d in omega (arith, h))

second_of_two : (x y : ℕ) → (x ≡ y → ⊥) → count_to x (y ∷ x ∷ []) ≡ 1
second_of_two x y d = with_other x y (count_to x (x ∷ [])) d ∙ with_same x x 0 refl

pred_append : (xs ys : List (List ℕ)) (x : ℕ) → predecessors (xs ++ ys) x ≡ predecessors xs x + predecessors ys x
pred_append [] ys x = omega arith
pred_append (l ∷ xs) ys x = let h : predecessors (xs ++ ys) x ≡ predecessors xs x + predecessors ys x = pred_append xs ys x in omega (arith, h)

edges_append : (xs ys : List Block) → edges_in false (xs ++ ys) ≡ edges_in false xs ++ edges_in false ys
edges_append [] ys = refl
edges_append (b ∷ xs) ys = ap (λ l. edges_from false b.term ∷ l) (edges_append xs ys)

-- ---- the edges of code

abbrev listed : Bool → Code → List (List ℕ)
listed first c = edges_from first c.term ∷ edges_in false c.blocks

abbrev into : Bool → Code → ℕ → ℕ
into first c x = predecessors (listed first c) x

three_listed : (X Y Z : Code) (p q r : List Reg) → edges_in false (block_of p X ++ (block_of q Y ++ block_of r Z)) ≡ listed false X ++ (listed false Y ++ listed false Z)
three_listed X Y Z p q r = edges_append (block_of p X) (block_of q Y ++ block_of r Z) ∙ ap (λ l. listed false X ++ l) (edges_append (block_of q Y) (block_of r Z))

three_into : (X Y Z : Code) (p q r : List Reg) (x : ℕ) → predecessors (edges_in false (block_of p X ++ (block_of q Y ++ block_of r Z))) x ≡ into false X x + (into false Y x + into false Z x)
three_into X Y Z p q r x =
    ap (λ l. predecessors l x) (three_listed X Y Z p q r) ∙ pred_append (listed false X) (listed false Y ++ listed false Z) x ∙ ap (λ k. into false X x + k) (pred_append (listed false Y) (listed false Z) x)

abbrev end_targets : Close → List ℕ
end_targets Returns = []
end_targets (Joins b) = b.0 ∷ []
end_targets (Repeats head variable step) = head.0 ∷ []
end_targets (Decides after exit) = after.0 ∷ exit.0 ∷ []

-- a block that code of so many blocks makes behind block b, or one of so many failure blocks from j on
abbrev Own : (b m j k x : ℕ) → Type 0
Own b m j k x = ((b < x) × (x ≤ b + m)) ⊎ ((j ≤ x) × (x < j + k))

abbrev Out : (b m j k x : ℕ) → Type 0
Out b m j k x = Own b m j k x → ⊥

widen : (b m j k b' m' j' k' : ℕ) → b ≤ b' → b' + m' ≤ b + m → j ≤ j' → j' + k' ≤ j + k → (x : ℕ) → Own b' m' j' k' x → Own b m j k x
widen b m j k b' m' j' k' l1 l2 l3 l4 x (inl o) = let p = o.0 in let q = o.1 in inl (omega (arith, p, l1), omega (arith, q, l2))
widen b m j k b' m' j' k' l1 l2 l3 l4 x (inr o) = let p = o.0 in let q = o.1 in inr (omega (arith, p, l3), omega (arith, q, l4))

apart : (b m j k b' m' j' k' : ℕ) → b + m ≤ b' → j + k ≤ j' → b + m < j' → b' + m' < j → (x : ℕ) → Own b m j k x → Own b' m' j' k' x → ⊥
apart b m j k b' m' j' k' l1 l2 l3 l4 x (inl o) (inl p) = let o0 = o.0 in let o1 = o.1 in let p0 = p.0 in omega (arith, o1, p0, l1)
apart b m j k b' m' j' k' l1 l2 l3 l4 x (inl o) (inr p) = let o1 = o.1 in let p0 = p.0 in omega (arith, o1, p0, l3)
apart b m j k b' m' j' k' l1 l2 l3 l4 x (inr o) (inl p) = let o0 = o.0 in let p1 = p.1 in omega (arith, o0, p1, l4)
apart b m j k b' m' j' k' l1 l2 l3 l4 x (inr o) (inr p) = let o1 = o.1 in let p0 = p.0 in omega (arith, o1, p0, l2)

-- a block number above b that isn't above b + m, and a failure block's
own_block : (b m j k x : ℕ) → b < x → x ≤ b + m → Own b m j k x
own_block b m j k x lt le = inl (lt, le)

own_fail : (b m j k x : ℕ) → j ≤ x → x < j + k → Own b m j k x
own_fail b m j k x le lt = inr (le, lt)

-- not among the blocks of code, where it isn't among the block numbers or the failure blocks
out_before : (b m j k x : ℕ) → x ≤ b → x < j → Out b m j k x
out_before b m j k x le lt (inl o) = let p = o.0 in omega (arith, p, le)
out_before b m j k x le lt (inr o) = let p = o.0 in omega (arith, p, lt)

out_between : (b m j k x : ℕ) → b + m < x → x < j → Out b m j k x
out_between b m j k x le lt (inl o) = let p = o.1 in omega (arith, p, le)
out_between b m j k x le lt (inr o) = let p = o.0 in omega (arith, p, lt)

not_own : (b m j k x y : ℕ) → Out b m j k x → Own b m j k y → x ≡ y → ⊥
not_own b m j k x y out own same = out (subst (λ z. Own b m j k z) (sym same) own)

close_into : (first : Bool) (end : Close) (n : ℕ) (vs : List Reg) (x : ℕ) → into first (close end n vs) x ≤ count_to x (end_targets end)
close_into first Returns n vs x = omega arith
close_into first (Joins b) n vs x = omega arith
close_into first (Repeats h i s) n vs x = omega arith
close_into first (Decides a e) n vs x = elim (eqb_tells x a.0) [
  | inl same ↦ (let p : count_to x (a.0 ∷ []) ≡ 1 = with_same x a.0 0 same.1 in let q : count_to x (a.0 ∷ e.0 ∷ []) ≡ count_to x (e.0 ∷ []) + 1 = with_same x a.0 (count_to x (e.0 ∷ [])) same.1 in omega (arith, p, q))
  | inr other ↦ (let p : count_to x (a.0 ∷ []) ≡ 0 = with_other x a.0 0 other.1 in omega (arith, p))
]

decide_into : (first : Bool) (end : Close) (n : ℕ) (c : Reg) (vs : List Reg) (x : ℕ) → into first (decide end n c vs) x ≤ count_to x (end_targets end)
decide_into first Returns n c vs x = omega arith
decide_into first (Joins b) n c vs x = omega arith
decide_into first (Repeats h i s) n c vs x = omega arith
decide_into first (Decides a e) n c vs x = omega arith

module _ (funcs : List Func) where
  abbrev Leads : Ops → Type 0
  Leads ops = (first : Bool) (b n j : ℕ) (scope : Scope) (end : Close) (x : ℕ) → b + blocks_of ops < j → Out b (blocks_of ops) j (failures_of ops) x →
      into first (code_of funcs ops b n j scope end) x ≤ count_to x (end_targets end)

  -- behind a terminator of two targets, a block and a failure block
  fork_into : (rest : Ops) → Leads rest → (b n j : ℕ) (scope : Scope) (end : Close) (x : ℕ) → b + suc (blocks_of rest) < j → Out b (suc (blocks_of rest)) j (suc (failures_of rest)) x →
      count_to x ((b + 1) ∷ j ∷ []) + into false (code_of funcs rest (b + 1) n (j + 1) scope end) x ≤ count_to x (end_targets end)
  fork_into rest leads b n j scope end x lt out =
      let k : ℕ = failures_of rest in
      let m : ℕ = blocks_of rest in
      let z : count_to x ((b + 1) ∷ j ∷ []) ≡ 0 = none_of_two x (b + 1) j
      (not_own b (suc m) j (suc k) x (b + 1) out (own_block b (suc m) j (suc k) (b + 1) (omega arith) (omega arith)))
      (not_own b (suc m) j (suc k) x j out (own_fail b (suc m) j (suc k) j (omega arith) (omega arith))) in
      let r : into false (code_of funcs rest (b + 1) n (j + 1) scope end) x ≤ count_to x (end_targets end) = leads false (b + 1) n (j + 1) scope end x (omega (arith, lt))
      (λ own. out (widen b (suc m) j (suc k) (b + 1) m (j + 1) k (omega arith) (omega arith) (omega arith) (omega arith) x own)) in
      omega (arith, z, r)

  leads : (ops : Ops) → Leads ops
  leads (gives vs) first b n j scope end x lt out = close_into first end n (regs scope vs) x
  leads (decides c vs) first b n j scope end x lt out = decide_into first end n (operand scope c) (regs scope vs) x
  leads (plain kind a args rs rest) first b n j scope end x lt out = leads rest first b (n + length rs) j (with_vars rs n scope) end x lt out
  leads (asserts at c rest) first b n j scope end x lt out = fork_into rest (leads rest) b n j scope end x (omega (arith, lt)) (subst (λ m. Out b m j (suc (failures_of rest)) x) (let e : 1 + blocks_of rest ≡ suc (blocks_of rest) = omega arith in e) out)
  leads (branches c on off rs rest) first b n j scope end x lt out =
      let b2 : ℕ = b + (2 + blocks_of on) in
      let b3 : ℕ = b + (3 + (blocks_of on + blocks_of off)) in
      let n3 : ℕ = n + regs_of on + regs_of off in
      let m : ℕ = 3 + (blocks_of on + (blocks_of off + blocks_of rest)) in
      let k : ℕ = failures_of (branches c on off rs rest) in
      let fails : k ≡ failures_of on + (failures_of off + failures_of rest) = choice_fails on off rest in
      let j2 : ℕ = j + failures_of on in
      let j3 : ℕ = j + failures_of on + failures_of off in
      let X : Code = code_of funcs on (b + 1) n j scope (Joins (block_no b3)) in
      let Y : Code = code_of funcs off b2 (n + regs_of on) j2 scope (Joins (block_no b3)) in
      let Z : Code = code_of funcs rest b3 (n3 + length rs) j3 (with_vars rs n3 scope) end in
      let two : count_to x ((b + 1) ∷ b2 ∷ []) ≡ 0 = none_of_two x (b + 1) b2 (not_own b m j k x (b + 1) out (own_block b m j k (b + 1) (omega arith) (omega arith))) (not_own b m j k x b2 out (own_block b m j k b2 (omega arith) (omega arith))) in
      let join : count_to x (b3 ∷ []) ≡ 0 = none_of x b3 (not_own b m j k x b3 out (own_block b m j k b3 (omega arith) (omega arith))) in
      let xi : into false X x ≤ count_to x (b3 ∷ []) = leads on false (b + 1) n j scope (Joins (block_no b3)) x (omega (arith, lt)) (λ own. out (widen b m j k (b + 1) (blocks_of on) j (failures_of on) (omega arith) (omega arith) (omega arith) (omega (arith, fails)) x own)) in
      let yi : into false Y x ≤ count_to x (b3 ∷ []) = leads off false b2 (n + regs_of on) j2 scope (Joins (block_no b3)) x (omega (arith, lt)) (λ own. out (widen b m j k b2 (blocks_of off) j2 (failures_of off) (omega arith) (omega arith) (omega arith) (omega (arith, fails)) x own)) in
      let zi : into false Z x ≤ count_to x (end_targets end) = leads rest false b3 (n3 + length rs) j3 (with_vars rs n3 scope) end x (omega (arith, lt)) (λ own. out (widen b m j k b3 (blocks_of rest) j3 (failures_of rest) (omega arith) (omega arith) (omega arith) (omega (arith, fails)) x own)) in
      let sum = three_into X Y Z [] [] (regs_from n3 rs) x in
      omega (arith, two, join, xi, yi, zi, sum)
  leads (counts lower upper step inits params body rs rest) first b n j scope end x lt out =
      let n2 : ℕ = n + length params in
      let n3 : ℕ = n2 + 1 + regs_of body in
      let b3 : ℕ = b + (3 + blocks_of body) in
      let m : ℕ = 3 + (blocks_of body + blocks_of rest) in
      let k : ℕ = length (fails_of body ++ fails_of rest) in
      let fails : k ≡ failures_of body + failures_of rest = length-append (fails_of body) (fails_of rest) in
      let turn : Close = Repeats (block_no (b + 1)) (reg_no n) (operand scope step) in
      let X : Code = instr_then (less (reg_no n2) (reg_no n) (operand scope upper)) (ends_by (cond_br (reg_no n2) (block_no (b + 2)) (block_no b3) []) []) in
      let Y : Code = code_of funcs body (b + 2) (n2 + 1) j (with_vars params n scope) turn in
      let Z : Code = code_of funcs rest b3 (n3 + 1) (j + failures_of body) (with_values rs (n + 1) scope) end in
      let one : count_to x ((b + 1) ∷ []) ≡ 0 = none_of x (b + 1) (not_own b m j k x (b + 1) out (own_block b m j k (b + 1) (omega arith) (omega arith))) in
      let two : count_to x ((b + 2) ∷ b3 ∷ []) ≡ 0 = none_of_two x (b + 2) b3 (not_own b m j k x (b + 2) out (own_block b m j k (b + 2) (omega arith) (omega arith))) (not_own b m j k x b3 out (own_block b m j k b3 (omega arith) (omega arith))) in
      let yi : into false Y x ≤ count_to x ((b + 1) ∷ []) = leads body false (b + 2) (n2 + 1) j (with_vars params n scope) turn x (omega (arith, lt)) (λ own. out (widen b m j k (b + 2) (blocks_of body) j (failures_of body) (omega arith) (omega arith) (omega arith) (omega (arith, fails)) x own)) in
      let zi : into false Z x ≤ count_to x (end_targets end) = leads rest false b3 (n3 + 1) (j + failures_of body) (with_values rs (n + 1) scope) end x (omega (arith, lt)) (λ own. out (widen b m j k b3 (blocks_of rest) (j + failures_of body) (failures_of rest) (omega arith) (omega arith) (omega arith) (omega (arith, fails)) x own)) in
      let sum = three_into X Y Z (regs_from n params) [] [] x in
      omega (arith, one, two, yi, zi, sum)
  leads (cycles inits params before passed after rs rest) first b n j scope end x lt out =
      let b2 : ℕ = b + (2 + blocks_of before) in
      let b3 : ℕ = b + (3 + (blocks_of before + blocks_of after)) in
      let n2 : ℕ = n + length params + regs_of before in
      let n3 : ℕ = n2 + length passed + regs_of after in
      let m : ℕ = 3 + (blocks_of before + (blocks_of after + blocks_of rest)) in
      let k : ℕ = failures_of (cycles inits params before passed after rs rest) in
      let fails : k ≡ failures_of before + (failures_of after + failures_of rest) = choice_fails before after rest in
      let j2 : ℕ = j + failures_of before in
      let j3 : ℕ = j + failures_of before + failures_of after in
      let test : Close = Decides (block_no b2) (block_no b3) in
      let X : Code = code_of funcs before (b + 1) (n + length params) j (with_vars params n scope) test in
      let Y : Code = code_of funcs after b2 (n2 + length passed) j2 (with_vars passed n2 scope) (Joins (block_no (b + 1))) in
      let Z : Code = code_of funcs rest b3 (n3 + length rs) j3 (with_vars rs n3 scope) end in
      let one : count_to x ((b + 1) ∷ []) ≡ 0 = none_of x (b + 1) (not_own b m j k x (b + 1) out (own_block b m j k (b + 1) (omega arith) (omega arith))) in
      let two : count_to x (b2 ∷ b3 ∷ []) ≡ 0 = none_of_two x b2 b3 (not_own b m j k x b2 out (own_block b m j k b2 (omega arith) (omega arith))) (not_own b m j k x b3 out (own_block b m j k b3 (omega arith) (omega arith))) in
      let xi : into false X x ≤ count_to x (b2 ∷ b3 ∷ []) = leads before false (b + 1) (n + length params) j (with_vars params n scope) test x (omega (arith, lt)) (λ own. out (widen b m j k (b + 1) (blocks_of before) j (failures_of before) (omega arith) (omega arith) (omega arith) (omega (arith, fails)) x own)) in
      let yi : into false Y x ≤ count_to x ((b + 1) ∷ []) = leads after false b2 (n2 + length passed) j2 (with_vars passed n2 scope) (Joins (block_no (b + 1))) x (omega (arith, lt)) (λ own. out (widen b m j k b2 (blocks_of after) j2 (failures_of after) (omega arith) (omega arith) (omega arith) (omega (arith, fails)) x own)) in
      let zi : into false Z x ≤ count_to x (end_targets end) = leads rest false b3 (n3 + length rs) j3 (with_vars rs n3 scope) end x (omega (arith, lt)) (λ own. out (widen b m j k b3 (blocks_of rest) j3 (failures_of rest) (omega arith) (omega arith) (omega arith) (omega (arith, fails)) x own)) in
      let sum = three_into X Y Z (regs_from n params) (regs_from n2 passed) (regs_from n3 rs) x in
      omega (arith, one, two, xi, yi, zi, sum)
  leads (calls a args rs rest) first b n j scope end x lt out = fork_into rest (leads rest) b (n + length rs) j (with_vars rs n scope) end x (omega (arith, lt)) (subst (λ m. Out b m j (suc (failures_of rest)) x) (let e : 1 + blocks_of rest ≡ suc (blocks_of rest) = omega arith in e) out)
  leads (tries a args rs rest) first b n j scope end x lt out =
      let m : ℕ = 3 + blocks_of rest in
      let k : ℕ = failures_of rest in
      let X : Code = bit_code (reg_no n) (low.Truth true) (block_no (b + 3)) in
      let Y : Code = bit_code (reg_no (n + 2)) (low.Truth false) (block_no (b + 3)) in
      let Z : Code = code_of funcs rest (b + 3) (n + 3 + length rs) j (with_vars rs (n + 3) scope) end in
      let two : count_to x ((b + 1) ∷ (b + 2) ∷ []) ≡ 0 = none_of_two x (b + 1) (b + 2) (not_own b m j k x (b + 1) out (own_block b m j k (b + 1) (omega arith) (omega arith))) (not_own b m j k x (b + 2) out (own_block b m j k (b + 2) (omega arith) (omega arith))) in
      let join : count_to x ((b + 3) ∷ []) ≡ 0 = none_of x (b + 3) (not_own b m j k x (b + 3) out (own_block b m j k (b + 3) (omega arith) (omega arith))) in
      let zi : into false Z x ≤ count_to x (end_targets end) = leads rest false (b + 3) (n + 3 + length rs) j (with_vars rs (n + 3) scope) end x (omega (arith, lt)) (λ own. out (widen b m j k (b + 3) (blocks_of rest) j k (omega arith) (omega arith) (omega arith) (omega arith) x own)) in
      let sum = three_into X Y Z [] (reg_no (n + 1) ∷ []) (regs_from (n + 3) rs) x in
      omega (arith, two, join, zi, sum)
  leads (awaits at o rs rest) first b n j scope end x lt out = fork_into rest (leads rest) b (n + length rs) j (with_vars rs n scope) end x (omega (arith, lt)) (subst (λ m. Out b m j (suc (failures_of rest)) x) (let e : 1 + blocks_of rest ≡ suc (blocks_of rest) = omega arith in e) out)

failures_lead : (m : ℕ) (fs : List Failure) (x : ℕ) → predecessors (edges_in false (failure_blocks m fs)) x ≡ 0
failures_lead m [] x = refl
failures_lead m (Constant at ∷ fs) x = let h : predecessors (edges_in false (failure_blocks (m + 1) fs)) x ≡ 0 = failures_lead (m + 1) fs x in omega (arith, h)
failures_lead m (Passed ∷ fs) x = let h : predecessors (edges_in false (failure_blocks (m + 1) fs)) x ≡ 0 = failures_lead (m + 1) fs x in omega (arith, h)

failures_split : (lists : List (List ℕ)) (m : ℕ) (fs : List Failure) → every (is_uncritical lists) (edges_in false (failure_blocks m fs)) ≡ true
failures_split lists m [] = refl
failures_split lists m (Constant at ∷ fs) = failures_split lists (m + 1) fs
failures_split lists m (Passed ∷ fs) = failures_split lists (m + 1) fs

edges_size : (first : Bool) (bs : List Block) → length (edges_in first bs) ≡ length bs
edges_size first [] = refl
edges_size first (b ∷ bs) = ap suc (edges_size false bs)

none_at : (xs : List ℕ) → count_to 0 xs ≡ 0 → none_is_start xs ≡ true
none_at [] is = refl
none_at (x ∷ xs) is = elim (eqb_tells 0 x) [
  | inl same ↦ absurd (let h : (if 0 == x then count_to 0 xs + 1 else count_to 0 xs) ≡ count_to 0 xs + 1 = with_same 0 x (count_to 0 xs) same.1 in omega (arith, h, is))
  | inr other ↦ and_both (not (x == 0)) (none_is_start xs) (differs x other.1) (none_at xs (sym (with_other 0 x (count_to 0 xs) other.1) ∙ is))
]
  where
    differs : (x : ℕ) → (0 ≡ x → ⊥) → not (x == 0) ≡ true
    differs x d = elim (eqb_tells x 0) [
      | inl same ↦ absurd (d (sym same.1))
      | inr other ↦ ap not other.0
    ]

none_in : (lists : List (List ℕ)) → predecessors lists 0 ≡ 0 → every none_is_start lists ≡ true
none_in [] is = refl
none_in (l ∷ lists) is = and_both (none_is_start l) (every none_is_start lists) (none_at l (omega (arith, is))) (none_in lists (omega (arith, is)))

-- ---- no critical edge

quiet : (funcs : List Func) (ops : Ops) (b n j : ℕ) (scope : Scope) (end : Close) (x : ℕ) → b + blocks_of ops < j → Out b (blocks_of ops) j (failures_of ops) x → count_to x (end_targets end) ≡ 0 →
    into false (code_of funcs ops b n j scope end) x ≡ 0
quiet funcs ops b n j scope end x lt out is =
    let h : into false (code_of funcs ops b n j scope end) x ≤ count_to x (end_targets end) = leads funcs ops false b n j scope end x lt out in omega (arith, h, is)

neq : (b m j k x y : ℕ) → Own b m j k x → Out b m j k y → x ≡ y → ⊥
neq b m j k x y own out same = out (subst (λ z. Own b m j k z) same own)

module _ (funcs : List Func) (lists : List (List ℕ)) where
  abbrev Ends2 : Close → (ℕ → ℕ) → Type 0
  Ends2 Returns outer = Unit {0}
  Ends2 (Joins b) outer = Unit {0}
  Ends2 (Repeats h i s) outer = Unit {0}
  Ends2 (Decides a e) outer = (outer a.0 ≡ 0) × (outer e.0 ≡ 0) × (a.0 ≡ e.0 → ⊥) × (a.0 < length lists) × (e.0 < length lists)

  -- so many edges lead to blocks from elsewhere: none to those that this code makes
  record Alone (b m j k : ℕ) (end : Close) (own : List (List ℕ)) : Type 0 where
    outer : ℕ → ℕ
    total : (x : ℕ) → predecessors lists x ≡ outer x + predecessors own x
    free : (x : ℕ) → Own b m j k x → outer x ≡ 0
    clear : (x : ℕ) → Own b m j k x → count_to x (end_targets end) ≡ 0
    room : b + m < length lists
    fails : j + k ≤ length lists
    order : b + m < j
    ends : Ends2 end outer

  abbrev Split : List (List ℕ) → Type 0
  Split own = every (is_uncritical lists) own ≡ true

  single : (x : ℕ) → x < length lists → predecessors lists x ≤ 1 → has_one_before lists x ≡ true
  single x lt le = and_both (nat_lt x (length lists)) (nat_lt (predecessors lists x) 2) (below x (length lists) lt) (below (predecessors lists x) 2 (omega (arith, le)))

  two_fit : (x y : ℕ) → x < length lists → y < length lists → predecessors lists x ≤ 1 → predecessors lists y ≤ 1 → is_uncritical lists (x ∷ y ∷ []) ≡ true
  two_fit x y lx ly px py = and_both (has_one_before lists x) (every (has_one_before lists) (y ∷ [])) (single x lx px) (and_both (has_one_before lists y) true (single y ly py) refl)

  ends_out : (b m j k : ℕ) (end : Close) (outer extra : ℕ → ℕ) → ((x : ℕ) → Own b m j k x → count_to x (end_targets end) ≡ 0) → ((x : ℕ) → Out b m j k x → extra x ≡ 0) → Ends2 end outer → Ends2 end (λ x. outer x + extra x)
  ends_out b m j k Returns outer extra clear none is = tt
  ends_out b m j k (Joins t) outer extra clear none is = tt
  ends_out b m j k (Repeats h i s) outer extra clear none is = tt
  ends_out b m j k (Decides a e) outer extra clear none is =
      let at_a : count_to a.0 (a.0 ∷ e.0 ∷ []) ≡ count_to a.0 (e.0 ∷ []) + 1 = with_same a.0 a.0 (count_to a.0 (e.0 ∷ [])) refl in
      let at_e : count_to e.0 (a.0 ∷ e.0 ∷ []) ≡ 1 = second_of_two e.0 a.0 (λ h. is.2 (sym h)) in
      let xa : extra a.0 ≡ 0 = none a.0 (λ own. (let h : count_to a.0 (a.0 ∷ e.0 ∷ []) ≡ 0 = clear a.0 own in omega (arith, h, at_a))) in
      let xe : extra e.0 ≡ 0 = none e.0 (λ own. (let h : count_to e.0 (a.0 ∷ e.0 ∷ []) ≡ 0 = clear e.0 own in omega (arith, h, at_e))) in
      let oa : outer a.0 ≡ 0 = is.0 in
      let oe : outer e.0 ≡ 0 = is.1 in
      ((let z : outer a.0 + extra a.0 ≡ 0 = omega (arith, oa, xa) in z), (let z : outer e.0 + extra e.0 ≡ 0 = omega (arith, oe, xe) in z), is.2, is.3, is.4)

  part : (b m j k : ℕ) (end : Close) (own : List (List ℕ)) (alone : Alone b m j k end own) (b' m' j' k' : ℕ) (end' : Close) (own' : List (List ℕ)) (extra : ℕ → ℕ) →
      ((x : ℕ) → predecessors own x ≡ extra x + predecessors own' x) → ((x : ℕ) → Own b' m' j' k' x → extra x ≡ 0) → ((x : ℕ) → Own b' m' j' k' x → count_to x (end_targets end') ≡ 0) →
      Ends2 end' (λ x. alone.outer x + extra x) → b ≤ b' → b' + m' ≤ b + m → j ≤ j' → j' + k' ≤ j + k → Alone b' m' j' k' end' own'
  part b m j k end own alone b' m' j' k' end' own' extra split none clear' ends' l1 l2 l3 l4 =
      let o = alone.order in let rm = alone.room in let fl = alone.fails in
      record {
        outer = λ x. alone.outer x + extra x;
        total = λ x. (let t : predecessors lists x ≡ alone.outer x + predecessors own x = alone.total x in let s : predecessors own x ≡ extra x + predecessors own' x = split x in
            let z : predecessors lists x ≡ alone.outer x + extra x + predecessors own' x = omega (arith, t, s) in z);
        free = λ x is. (let t : alone.outer x ≡ 0 = alone.free x (widen b m j k b' m' j' k' l1 l2 l3 l4 x is) in let s : extra x ≡ 0 = none x is in let z : alone.outer x + extra x ≡ 0 = omega (arith, t, s) in z);
        clear = clear';
        room = omega (arith, rm, l2);
        fails = omega (arith, fl, l4);
        order = omega (arith, o, l2, l3);
        ends = ends';
      }

  close_split : (first : Bool) (end : Close) (n : ℕ) (vs : List Reg) → Split (listed first (close end n vs))
  close_split first Returns n vs = refl
  close_split first (Joins b) n vs = refl
  close_split first (Repeats h i s) n vs = refl
  close_split first (Decides a e) n vs = refl

  decide_split : (b m j k : ℕ) (first : Bool) (end : Close) (n : ℕ) (c : Reg) (vs : List Reg) → Alone b m j k end (listed first (decide end n c vs)) → Split (listed first (decide end n c vs))
  decide_split b m j k first Returns n c vs alone = refl
  decide_split b m j k first (Joins t) n c vs alone = refl
  decide_split b m j k first (Repeats h i s) n c vs alone = refl
  decide_split b m j k first (Decides a e) n c vs alone =
      let ta : predecessors lists a.0 ≡ alone.outer a.0 + (count_to a.0 (a.0 ∷ e.0 ∷ []) + 0) = alone.total a.0 in
      let te : predecessors lists e.0 ≡ alone.outer e.0 + (count_to e.0 (a.0 ∷ e.0 ∷ []) + 0) = alone.total e.0 in
      let ca : count_to a.0 (a.0 ∷ e.0 ∷ []) ≡ 1 = first_of_two a.0 e.0 alone.ends.2 in
      let ce : count_to e.0 (a.0 ∷ e.0 ∷ []) ≡ 1 = second_of_two e.0 a.0 (λ h. alone.ends.2 (sym h)) in
      let oa : alone.outer a.0 ≡ 0 = alone.ends.0 in
      let oe : alone.outer e.0 ≡ 0 = alone.ends.1 in
      and_both (is_uncritical lists (a.0 ∷ e.0 ∷ [])) true (two_fit a.0 e.0 alone.ends.3 alone.ends.4 (omega (arith, ta, ca, oa)) (omega (arith, te, ce, oe))) refl

  three_split : (X Y Z : Code) (p q r : List Reg) → Split (listed false X) → Split (listed false Y) → Split (listed false Z) → Split (edges_in false (block_of p X ++ (block_of q Y ++ block_of r Z)))
  three_split X Y Z p q r x y z =
      subst Split (sym (three_listed X Y Z p q r))
      (every_append (is_uncritical lists) (listed false X) (listed false Y ++ listed false Z) x (every_append (is_uncritical lists) (listed false Y) (listed false Z) y z))

  abbrev Splits : Ops → Type 0
  Splits ops = (first : Bool) (b n j : ℕ) (scope : Scope) (end : Close) → Alone b (blocks_of ops) j (failures_of ops) end (listed first (code_of funcs ops b n j scope end)) → Split (listed first (code_of funcs ops b n j scope end))

  fork_split : (rest : Ops) → Splits rest → (b n j : ℕ) (scope : Scope) (end : Close) →
      Alone b (suc (blocks_of rest)) j (suc (failures_of rest)) end (((b + 1) ∷ j ∷ []) ∷ listed false (code_of funcs rest (b + 1) n (j + 1) scope end)) → Split (((b + 1) ∷ j ∷ []) ∷ listed false (code_of funcs rest (b + 1) n (j + 1) scope end))
  fork_split rest splits b n j scope end alone =
      let k : ℕ = failures_of rest in
      let m : ℕ = blocks_of rest in
      let Z : Code = code_of funcs rest (b + 1) n (j + 1) scope end in
      let order : b + suc m < j = alone.order in
      let room : b + suc m < length lists = alone.room in
      let fails : j + suc k ≤ length lists = alone.fails in
      let own_b : Own b (suc m) j (suc k) (b + 1) = own_block b (suc m) j (suc k) (b + 1) (omega arith) (omega arith) in
      let own_j : Own b (suc m) j (suc k) j = own_fail b (suc m) j (suc k) j (omega arith) (omega arith) in
      let out_b : Out (b + 1) m (j + 1) k (b + 1) = out_before (b + 1) m (j + 1) k (b + 1) (omega arith) (omega (arith, order)) in
      let out_j : Out (b + 1) m (j + 1) k j = out_between (b + 1) m (j + 1) k j (omega (arith, order)) (omega arith) in
      let zb : into false Z (b + 1) ≡ 0 = quiet funcs rest (b + 1) n (j + 1) scope end (b + 1) (omega (arith, order)) out_b (alone.clear (b + 1) own_b) in
      let zj : into false Z j ≡ 0 = quiet funcs rest (b + 1) n (j + 1) scope end j (omega (arith, order)) out_j (alone.clear j own_j) in
      let tb : predecessors lists (b + 1) ≡ alone.outer (b + 1) + (count_to (b + 1) ((b + 1) ∷ j ∷ []) + into false Z (b + 1)) = alone.total (b + 1) in
      let tj : predecessors lists j ≡ alone.outer j + (count_to j ((b + 1) ∷ j ∷ []) + into false Z j) = alone.total j in
      let fb : alone.outer (b + 1) ≡ 0 = alone.free (b + 1) own_b in
      let fj : alone.outer j ≡ 0 = alone.free j own_j in
      let cb : count_to (b + 1) ((b + 1) ∷ j ∷ []) ≡ 1 = first_of_two (b + 1) j (λ e. omega (arith, e, order)) in
      let cj : count_to j ((b + 1) ∷ j ∷ []) ≡ 1 = second_of_two j (b + 1) (λ e. omega (arith, e, order)) in
      let extra : ℕ → ℕ = λ x. count_to x ((b + 1) ∷ j ∷ []) in
      and_both (is_uncritical lists ((b + 1) ∷ j ∷ [])) (every (is_uncritical lists) (listed false Z))
      (two_fit (b + 1) j (omega (arith, room)) (omega (arith, fails)) (omega (arith, zb, tb, fb, cb)) (omega (arith, zj, tj, fj, cj)))
      (splits false (b + 1) n (j + 1) scope end
      (part b (suc m) j (suc k) end (((b + 1) ∷ j ∷ []) ∷ listed false Z) alone (b + 1) m (j + 1) k end (listed false Z) extra
      (λ x. refl)
      (λ x own. none_of_two x (b + 1) j (neq (b + 1) m (j + 1) k x (b + 1) own out_b) (neq (b + 1) m (j + 1) k x j own out_j))
      (λ x own. alone.clear x (widen b (suc m) j (suc k) (b + 1) m (j + 1) k (omega arith) (omega arith) (omega arith) (omega arith) x own))
      (ends_out b (suc m) j (suc k) end alone.outer extra alone.clear
      (λ x out. none_of_two x (b + 1) j (not_own b (suc m) j (suc k) x (b + 1) out own_b) (not_own b (suc m) j (suc k) x j out own_j)) alone.ends)
      (omega arith) (omega arith) (omega arith) (omega arith)))

  -- the count of blocks of a fork, in another form
  suc_alone : (rest : Ops) (b j : ℕ) (end : Close) (own : List (List ℕ)) → Alone b (1 + blocks_of rest) j (suc (failures_of rest)) end own → Alone b (suc (blocks_of rest)) j (suc (failures_of rest)) end own
  suc_alone rest b j end own alone = subst (λ m. Alone b m j (suc (failures_of rest)) end own) (let e : 1 + blocks_of rest ≡ suc (blocks_of rest) = omega arith in e) alone

  split_code : (ops : Ops) → Splits ops
  split_code (gives vs) first b n j scope end alone = close_split first end n (regs scope vs)
  split_code (decides c vs) first b n j scope end alone = decide_split b 0 j 0 first end n (operand scope c) (regs scope vs) alone
  split_code (plain kind a args rs rest) first b n j scope end alone = split_code rest first b (n + length rs) j (with_vars rs n scope) end alone
  split_code (asserts at c rest) first b n j scope end alone = fork_split rest (split_code rest) b n j scope end (suc_alone rest b j end _ alone)
  split_code (branches c on off rs rest) first b n j scope end alone =
      let b2 : ℕ = b + (2 + blocks_of on) in
      let b3 : ℕ = b + (3 + (blocks_of on + blocks_of off)) in
      let n3 : ℕ = n + regs_of on + regs_of off in
      let mo : ℕ = blocks_of on in let mf : ℕ = blocks_of off in let mr : ℕ = blocks_of rest in
      let ko : ℕ = failures_of on in let kf : ℕ = failures_of off in let kr : ℕ = failures_of rest in
      let m : ℕ = 3 + (mo + (mf + mr)) in
      let k : ℕ = failures_of (branches c on off rs rest) in
      let fails : k ≡ ko + (kf + kr) = choice_fails on off rest in
      let j2 : ℕ = j + ko in
      let j3 : ℕ = j + ko + kf in
      let join : Close = Joins (block_no b3) in
      let X : Code = code_of funcs on (b + 1) n j scope join in
      let Y : Code = code_of funcs off b2 (n + regs_of on) j2 scope join in
      let Z : Code = code_of funcs rest b3 (n3 + length rs) j3 (with_vars rs n3 scope) end in
      let T : List ℕ = (b + 1) ∷ b2 ∷ [] in
      let order : b + m < j = alone.order in
      let room : b + m < length lists = alone.room in
      let sum = three_into X Y Z [] [] (regs_from n3 rs) in
      let in_x : (x : ℕ) → Own (b + 1) mo j ko x → Own b m j k x = widen b m j k (b + 1) mo j ko (omega arith) (omega arith) (omega arith) (omega (arith, fails)) in
      let in_y : (x : ℕ) → Own b2 mf j2 kf x → Own b m j k x = widen b m j k b2 mf j2 kf (omega arith) (omega arith) (omega arith) (omega (arith, fails)) in
      let in_z : (x : ℕ) → Own b3 mr j3 kr x → Own b m j k x = widen b m j k b3 mr j3 kr (omega arith) (omega arith) (omega arith) (omega (arith, fails)) in
      let xy : (x : ℕ) → Own (b + 1) mo j ko x → Own b2 mf j2 kf x → ⊥ = apart (b + 1) mo j ko b2 mf j2 kf (omega arith) (omega arith) (omega (arith, order)) (omega (arith, order)) in
      let xz : (x : ℕ) → Own (b + 1) mo j ko x → Own b3 mr j3 kr x → ⊥ = apart (b + 1) mo j ko b3 mr j3 kr (omega arith) (omega arith) (omega (arith, order)) (omega (arith, order)) in
      let yz : (x : ℕ) → Own b2 mf j2 kf x → Own b3 mr j3 kr x → ⊥ = apart b2 mf j2 kf b3 mr j3 kr (omega arith) (omega arith) (omega (arith, order)) (omega (arith, order)) in
      let qx : (x : ℕ) → Out (b + 1) mo j ko x → (x ≡ b3 → ⊥) → into false X x ≡ 0 = λ x out d. quiet funcs on (b + 1) n j scope join x (omega (arith, order)) out (none_of x b3 d) in
      let qy : (x : ℕ) → Out b2 mf j2 kf x → (x ≡ b3 → ⊥) → into false Y x ≡ 0 = λ x out d. quiet funcs off b2 (n + regs_of on) j2 scope join x (omega (arith, order)) out (none_of x b3 d) in
      let qz : (x : ℕ) → Out b3 mr j3 kr x → count_to x (end_targets end) ≡ 0 → into false Z x ≡ 0 = λ x out is. quiet funcs rest b3 (n3 + length rs) j3 (with_vars rs n3 scope) end x (omega (arith, order)) out is in
      let own1 : Own b m j k (b + 1) = own_block b m j k (b + 1) (omega arith) (omega arith) in
      let own2 : Own b m j k b2 = own_block b m j k b2 (omega arith) (omega arith) in
      let own3 : Own b m j k b3 = own_block b m j k b3 (omega arith) (omega arith) in
      let x1 : Out (b + 1) mo j ko (b + 1) = out_before (b + 1) mo j ko (b + 1) (omega arith) (omega (arith, order)) in
      let y1 : Out b2 mf j2 kf (b + 1) = out_before b2 mf j2 kf (b + 1) (omega arith) (omega (arith, order)) in
      let z1 : Out b3 mr j3 kr (b + 1) = out_before b3 mr j3 kr (b + 1) (omega arith) (omega (arith, order)) in
      let x2 : Out (b + 1) mo j ko b2 = out_between (b + 1) mo j ko b2 (omega arith) (omega (arith, order)) in
      let y2 : Out b2 mf j2 kf b2 = out_before b2 mf j2 kf b2 (omega arith) (omega (arith, order)) in
      let z2 : Out b3 mr j3 kr b2 = out_before b3 mr j3 kr b2 (omega arith) (omega (arith, order)) in
      let x3 : Out (b + 1) mo j ko b3 = out_between (b + 1) mo j ko b3 (omega arith) (omega (arith, order)) in
      let y3 : Out b2 mf j2 kf b3 = out_between b2 mf j2 kf b3 (omega arith) (omega (arith, order)) in
      let z3 : Out b3 mr j3 kr b3 = out_before b3 mr j3 kr b3 (omega arith) (omega (arith, order)) in
      let p1 : predecessors lists (b + 1) ≤ 1 =
      (let t : predecessors lists (b + 1) ≡ alone.outer (b + 1) + (count_to (b + 1) T + predecessors (edges_in false (block_of [] X ++ (block_of [] Y ++ block_of (regs_from n3 rs) Z))) (b + 1)) = alone.total (b + 1) in
      let f : alone.outer (b + 1) ≡ 0 = alone.free (b + 1) own1 in
      let c : count_to (b + 1) T ≡ 1 = first_of_two (b + 1) b2 (λ e. omega (arith, e)) in
      let u = qx (b + 1) x1 (λ e. omega (arith, e)) in let v = qy (b + 1) y1 (λ e. omega (arith, e)) in let w = qz (b + 1) z1 (alone.clear (b + 1) own1) in let s = sum (b + 1) in
      omega (arith, t, f, c, u, v, w, s)) in
      let p2 : predecessors lists b2 ≤ 1 =
      (let t : predecessors lists b2 ≡ alone.outer b2 + (count_to b2 T + predecessors (edges_in false (block_of [] X ++ (block_of [] Y ++ block_of (regs_from n3 rs) Z))) b2) = alone.total b2 in
      let f : alone.outer b2 ≡ 0 = alone.free b2 own2 in
      let c : count_to b2 T ≡ 1 = second_of_two b2 (b + 1) (λ e. omega (arith, e)) in
      let u = qx b2 x2 (λ e. omega (arith, e)) in let v = qy b2 y2 (λ e. omega (arith, e)) in let w = qz b2 z2 (alone.clear b2 own2) in let s = sum b2 in
      omega (arith, t, f, c, u, v, w, s)) in
      let L : List (List ℕ) = T ∷ edges_in false (block_of [] X ++ (block_of [] Y ++ block_of (regs_from n3 rs) Z)) in
      let ex : ℕ → ℕ = λ x. count_to x T + (into false Y x + into false Z x) in
      let ey : ℕ → ℕ = λ x. count_to x T + (into false X x + into false Z x) in
      let ez : ℕ → ℕ = λ x. count_to x T + (into false X x + into false Y x) in
      and_both (is_uncritical lists T) (every (is_uncritical lists) (edges_in false (block_of [] X ++ (block_of [] Y ++ block_of (regs_from n3 rs) Z))))
      (two_fit (b + 1) b2 (omega (arith, room)) (omega (arith, room)) p1 p2)
      (three_split X Y Z [] [] (regs_from n3 rs)
      (split_code on false (b + 1) n j scope join
      (part b m j k end L alone (b + 1) mo j ko join (listed false X) ex
      (λ x. (let s = sum x in let z : predecessors L x ≡ count_to x T + (into false Y x + into false Z x) + into false X x = omega (arith, s) in z))
      (λ x own. (let t = none_of_two x (b + 1) b2 (neq (b + 1) mo j ko x (b + 1) own x1) (neq (b + 1) mo j ko x b2 own x2) in
      let v = qy x (xy x own) (neq (b + 1) mo j ko x b3 own x3) in let w = qz x (xz x own) (alone.clear x (in_x x own)) in
      let z : count_to x T + (into false Y x + into false Z x) ≡ 0 = omega (arith, t, v, w) in z))
      (λ x own. none_of x b3 (neq (b + 1) mo j ko x b3 own x3)) tt (omega arith) (omega arith) (omega arith) (omega (arith, fails))))
      (split_code off false b2 (n + regs_of on) j2 scope join
      (part b m j k end L alone b2 mf j2 kf join (listed false Y) ey
      (λ x. (let s = sum x in let z : predecessors L x ≡ count_to x T + (into false X x + into false Z x) + into false Y x = omega (arith, s) in z))
      (λ x own. (let t = none_of_two x (b + 1) b2 (neq b2 mf j2 kf x (b + 1) own y1) (neq b2 mf j2 kf x b2 own y2) in
      let u = qx x (λ o. xy x o own) (neq b2 mf j2 kf x b3 own y3) in let w = qz x (yz x own) (alone.clear x (in_y x own)) in
      let z : count_to x T + (into false X x + into false Z x) ≡ 0 = omega (arith, t, u, w) in z))
      (λ x own. none_of x b3 (neq b2 mf j2 kf x b3 own y3)) tt (omega arith) (omega arith) (omega arith) (omega (arith, fails))))
      (split_code rest false b3 (n3 + length rs) j3 (with_vars rs n3 scope) end
      (part b m j k end L alone b3 mr j3 kr end (listed false Z) ez
      (λ x. (let s = sum x in let z : predecessors L x ≡ count_to x T + (into false X x + into false Y x) + into false Z x = omega (arith, s) in z))
      (λ x own. (let t = none_of_two x (b + 1) b2 (neq b3 mr j3 kr x (b + 1) own z1) (neq b3 mr j3 kr x b2 own z2) in
      let u = qx x (λ o. xz x o own) (neq b3 mr j3 kr x b3 own z3) in let v = qy x (λ o. yz x o own) (neq b3 mr j3 kr x b3 own z3) in
      let z : count_to x T + (into false X x + into false Y x) ≡ 0 = omega (arith, t, u, v) in z))
      (λ x own. alone.clear x (in_z x own))
      (ends_out b m j k end alone.outer ez alone.clear
      (λ x out. (let t = none_of_two x (b + 1) b2 (not_own b m j k x (b + 1) out own1) (not_own b m j k x b2 out own2) in
      let u = qx x (λ o. out (in_x x o)) (not_own b m j k x b3 out own3) in let v = qy x (λ o. out (in_y x o)) (not_own b m j k x b3 out own3) in
      let z : count_to x T + (into false X x + into false Y x) ≡ 0 = omega (arith, t, u, v) in z)) alone.ends)
      (omega arith) (omega arith) (omega arith) (omega (arith, fails)))))
  split_code (counts lower upper step inits params body rs rest) first b n j scope end alone =
      let n2 : ℕ = n + length params in
      let n3 : ℕ = n2 + 1 + regs_of body in
      let b3 : ℕ = b + (3 + blocks_of body) in
      let mo : ℕ = blocks_of body in let mr : ℕ = blocks_of rest in
      let ko : ℕ = failures_of body in let kr : ℕ = failures_of rest in
      let m : ℕ = 3 + (mo + mr) in
      let k : ℕ = length (fails_of body ++ fails_of rest) in
      let fails : k ≡ ko + kr = length-append (fails_of body) (fails_of rest) in
      let j3 : ℕ = j + ko in
      let turn : Close = Repeats (block_no (b + 1)) (reg_no n) (operand scope step) in
      let X : Code = instr_then (less (reg_no n2) (reg_no n) (operand scope upper)) (ends_by (cond_br (reg_no n2) (block_no (b + 2)) (block_no b3) []) []) in
      let Y : Code = code_of funcs body (b + 2) (n2 + 1) j (with_vars params n scope) turn in
      let Z : Code = code_of funcs rest b3 (n3 + 1) j3 (with_values rs (n + 1) scope) end in
      let T : List ℕ = (b + 1) ∷ [] in
      let H : List ℕ = (b + 2) ∷ b3 ∷ [] in
      let order : b + m < j = alone.order in
      let room : b + m < length lists = alone.room in
      let sum = three_into X Y Z (regs_from n params) [] [] in
      let in_y : (x : ℕ) → Own (b + 2) mo j ko x → Own b m j k x = widen b m j k (b + 2) mo j ko (omega arith) (omega arith) (omega arith) (omega (arith, fails)) in
      let in_z : (x : ℕ) → Own b3 mr j3 kr x → Own b m j k x = widen b m j k b3 mr j3 kr (omega arith) (omega arith) (omega arith) (omega (arith, fails)) in
      let yz : (x : ℕ) → Own (b + 2) mo j ko x → Own b3 mr j3 kr x → ⊥ = apart (b + 2) mo j ko b3 mr j3 kr (omega arith) (omega arith) (omega (arith, order)) (omega (arith, order)) in
      let qx : (x : ℕ) → (x ≡ b + 2 → ⊥) → (x ≡ b3 → ⊥) → into false X x ≡ 0 = λ x d e. (let h : count_to x H ≡ 0 = none_of_two x (b + 2) b3 d e in let z : count_to x H + 0 ≡ 0 = omega (arith, h) in z) in
      let qy : (x : ℕ) → Out (b + 2) mo j ko x → (x ≡ b + 1 → ⊥) → into false Y x ≡ 0 = λ x out d. quiet funcs body (b + 2) (n2 + 1) j (with_vars params n scope) turn x (omega (arith, order)) out (none_of x (b + 1) d) in
      let qz : (x : ℕ) → Out b3 mr j3 kr x → count_to x (end_targets end) ≡ 0 → into false Z x ≡ 0 = λ x out is. quiet funcs rest b3 (n3 + 1) j3 (with_values rs (n + 1) scope) end x (omega (arith, order)) out is in
      let own1 : Own b m j k (b + 1) = own_block b m j k (b + 1) (omega arith) (omega arith) in
      let own2 : Own b m j k (b + 2) = own_block b m j k (b + 2) (omega arith) (omega arith) in
      let own3 : Own b m j k b3 = own_block b m j k b3 (omega arith) (omega arith) in
      let y1 : Out (b + 2) mo j ko (b + 1) = out_before (b + 2) mo j ko (b + 1) (omega arith) (omega (arith, order)) in
      let z1 : Out b3 mr j3 kr (b + 1) = out_before b3 mr j3 kr (b + 1) (omega arith) (omega (arith, order)) in
      let y2 : Out (b + 2) mo j ko (b + 2) = out_before (b + 2) mo j ko (b + 2) (omega arith) (omega (arith, order)) in
      let z2 : Out b3 mr j3 kr (b + 2) = out_before b3 mr j3 kr (b + 2) (omega arith) (omega (arith, order)) in
      let y3 : Out (b + 2) mo j ko b3 = out_between (b + 2) mo j ko b3 (omega arith) (omega (arith, order)) in
      let z3 : Out b3 mr j3 kr b3 = out_before b3 mr j3 kr b3 (omega arith) (omega (arith, order)) in
      let L : List (List ℕ) = T ∷ edges_in false (block_of (regs_from n params) X ++ (block_of [] Y ++ block_of [] Z)) in
      let p2 : predecessors lists (b + 2) ≤ 1 =
      (let t : predecessors lists (b + 2) ≡ alone.outer (b + 2) + (count_to (b + 2) T + predecessors (edges_in false (block_of (regs_from n params) X ++ (block_of [] Y ++ block_of [] Z))) (b + 2)) = alone.total (b + 2) in
      let f : alone.outer (b + 2) ≡ 0 = alone.free (b + 2) own2 in
      let c : count_to (b + 2) T ≡ 0 = none_of (b + 2) (b + 1) (λ e. omega (arith, e)) in
      let h : count_to (b + 2) H ≡ 1 = first_of_two (b + 2) b3 (λ e. omega (arith, e)) in
      let v = qy (b + 2) y2 (λ e. omega (arith, e)) in let w = qz (b + 2) z2 (alone.clear (b + 2) own2) in
      let s : predecessors (edges_in false (block_of (regs_from n params) X ++ (block_of [] Y ++ block_of [] Z))) (b + 2) ≡ count_to (b + 2) H + 0 + (into false Y (b + 2) + into false Z (b + 2)) = sum (b + 2) in
      omega (arith, t, f, c, h, v, w, s)) in
      let p3 : predecessors lists b3 ≤ 1 =
      (let t : predecessors lists b3 ≡ alone.outer b3 + (count_to b3 T + predecessors (edges_in false (block_of (regs_from n params) X ++ (block_of [] Y ++ block_of [] Z))) b3) = alone.total b3 in
      let f : alone.outer b3 ≡ 0 = alone.free b3 own3 in
      let c : count_to b3 T ≡ 0 = none_of b3 (b + 1) (λ e. omega (arith, e)) in
      let h : count_to b3 H ≡ 1 = second_of_two b3 (b + 2) (λ e. omega (arith, e)) in
      let v = qy b3 y3 (λ e. omega (arith, e)) in let w = qz b3 z3 (alone.clear b3 own3) in
      let s : predecessors (edges_in false (block_of (regs_from n params) X ++ (block_of [] Y ++ block_of [] Z))) b3 ≡ count_to b3 H + 0 + (into false Y b3 + into false Z b3) = sum b3 in
      omega (arith, t, f, c, h, v, w, s)) in
      let ey : ℕ → ℕ = λ x. count_to x T + (into false X x + into false Z x) in
      let ez : ℕ → ℕ = λ x. count_to x T + (into false X x + into false Y x) in
      three_split X Y Z (regs_from n params) [] []
      (and_both (is_uncritical lists H) true (two_fit (b + 2) b3 (omega (arith, room)) (omega (arith, room)) p2 p3) refl)
      (split_code body false (b + 2) (n2 + 1) j (with_vars params n scope) turn
      (part b m j k end L alone (b + 2) mo j ko turn (listed false Y) ey
      (λ x. (let s = sum x in let z : predecessors L x ≡ count_to x T + (into false X x + into false Z x) + into false Y x = omega (arith, s) in z))
      (λ x own. (let t = none_of x (b + 1) (neq (b + 2) mo j ko x (b + 1) own y1) in
      let u = qx x (neq (b + 2) mo j ko x (b + 2) own y2) (neq (b + 2) mo j ko x b3 own y3) in let w = qz x (yz x own) (alone.clear x (in_y x own)) in
      let z : count_to x T + (into false X x + into false Z x) ≡ 0 = omega (arith, t, u, w) in z))
      (λ x own. none_of x (b + 1) (neq (b + 2) mo j ko x (b + 1) own y1)) tt (omega arith) (omega arith) (omega arith) (omega (arith, fails))))
      (split_code rest false b3 (n3 + 1) j3 (with_values rs (n + 1) scope) end
      (part b m j k end L alone b3 mr j3 kr end (listed false Z) ez
      (λ x. (let s = sum x in let z : predecessors L x ≡ count_to x T + (into false X x + into false Y x) + into false Z x = omega (arith, s) in z))
      (λ x own. (let t = none_of x (b + 1) (neq b3 mr j3 kr x (b + 1) own z1) in
      let u = qx x (neq b3 mr j3 kr x (b + 2) own z2) (neq b3 mr j3 kr x b3 own z3) in let v = qy x (λ o. yz x o own) (neq b3 mr j3 kr x (b + 1) own z1) in
      let z : count_to x T + (into false X x + into false Y x) ≡ 0 = omega (arith, t, u, v) in z))
      (λ x own. alone.clear x (in_z x own))
      (ends_out b m j k end alone.outer ez alone.clear
      (λ x out. (let t = none_of x (b + 1) (not_own b m j k x (b + 1) out own1) in
      let u = qx x (not_own b m j k x (b + 2) out own2) (not_own b m j k x b3 out own3) in let v = qy x (λ o. out (in_y x o)) (not_own b m j k x (b + 1) out own1) in
      let z : count_to x T + (into false X x + into false Y x) ≡ 0 = omega (arith, t, u, v) in z)) alone.ends)
      (omega arith) (omega arith) (omega arith) (omega (arith, fails))))
  split_code (cycles inits params before passed after rs rest) first b n j scope end alone =
      let b2 : ℕ = b + (2 + blocks_of before) in
      let b3 : ℕ = b + (3 + (blocks_of before + blocks_of after)) in
      let n2 : ℕ = n + length params + regs_of before in
      let n3 : ℕ = n2 + length passed + regs_of after in
      let mo : ℕ = blocks_of before in let mf : ℕ = blocks_of after in let mr : ℕ = blocks_of rest in
      let ko : ℕ = failures_of before in let kf : ℕ = failures_of after in let kr : ℕ = failures_of rest in
      let m : ℕ = 3 + (mo + (mf + mr)) in
      let k : ℕ = failures_of (cycles inits params before passed after rs rest) in
      let fails : k ≡ ko + (kf + kr) = choice_fails before after rest in
      let j2 : ℕ = j + ko in
      let j3 : ℕ = j + ko + kf in
      let test : Close = Decides (block_no b2) (block_no b3) in
      let back : Close = Joins (block_no (b + 1)) in
      let X : Code = code_of funcs before (b + 1) (n + length params) j (with_vars params n scope) test in
      let Y : Code = code_of funcs after b2 (n2 + length passed) j2 (with_vars passed n2 scope) back in
      let Z : Code = code_of funcs rest b3 (n3 + length rs) j3 (with_vars rs n3 scope) end in
      let T : List ℕ = (b + 1) ∷ [] in
      let order : b + m < j = alone.order in
      let room : b + m < length lists = alone.room in
      let sum = three_into X Y Z (regs_from n params) (regs_from n2 passed) (regs_from n3 rs) in
      let in_x : (x : ℕ) → Own (b + 1) mo j ko x → Own b m j k x = widen b m j k (b + 1) mo j ko (omega arith) (omega arith) (omega arith) (omega (arith, fails)) in
      let in_y : (x : ℕ) → Own b2 mf j2 kf x → Own b m j k x = widen b m j k b2 mf j2 kf (omega arith) (omega arith) (omega arith) (omega (arith, fails)) in
      let in_z : (x : ℕ) → Own b3 mr j3 kr x → Own b m j k x = widen b m j k b3 mr j3 kr (omega arith) (omega arith) (omega arith) (omega (arith, fails)) in
      let xy : (x : ℕ) → Own (b + 1) mo j ko x → Own b2 mf j2 kf x → ⊥ = apart (b + 1) mo j ko b2 mf j2 kf (omega arith) (omega arith) (omega (arith, order)) (omega (arith, order)) in
      let xz : (x : ℕ) → Own (b + 1) mo j ko x → Own b3 mr j3 kr x → ⊥ = apart (b + 1) mo j ko b3 mr j3 kr (omega arith) (omega arith) (omega (arith, order)) (omega (arith, order)) in
      let yz : (x : ℕ) → Own b2 mf j2 kf x → Own b3 mr j3 kr x → ⊥ = apart b2 mf j2 kf b3 mr j3 kr (omega arith) (omega arith) (omega (arith, order)) (omega (arith, order)) in
      let qx : (x : ℕ) → Out (b + 1) mo j ko x → (x ≡ b2 → ⊥) → (x ≡ b3 → ⊥) → into false X x ≡ 0 = λ x out d e. quiet funcs before (b + 1) (n + length params) j (with_vars params n scope) test x (omega (arith, order)) out (none_of_two x b2 b3 d e) in
      let qy : (x : ℕ) → Out b2 mf j2 kf x → (x ≡ b + 1 → ⊥) → into false Y x ≡ 0 = λ x out d. quiet funcs after b2 (n2 + length passed) j2 (with_vars passed n2 scope) back x (omega (arith, order)) out (none_of x (b + 1) d) in
      let qz : (x : ℕ) → Out b3 mr j3 kr x → count_to x (end_targets end) ≡ 0 → into false Z x ≡ 0 = λ x out is. quiet funcs rest b3 (n3 + length rs) j3 (with_vars rs n3 scope) end x (omega (arith, order)) out is in
      let own1 : Own b m j k (b + 1) = own_block b m j k (b + 1) (omega arith) (omega arith) in
      let own2 : Own b m j k b2 = own_block b m j k b2 (omega arith) (omega arith) in
      let own3 : Own b m j k b3 = own_block b m j k b3 (omega arith) (omega arith) in
      let x1 : Out (b + 1) mo j ko (b + 1) = out_before (b + 1) mo j ko (b + 1) (omega arith) (omega (arith, order)) in
      let y1 : Out b2 mf j2 kf (b + 1) = out_before b2 mf j2 kf (b + 1) (omega arith) (omega (arith, order)) in
      let z1 : Out b3 mr j3 kr (b + 1) = out_before b3 mr j3 kr (b + 1) (omega arith) (omega (arith, order)) in
      let x2 : Out (b + 1) mo j ko b2 = out_between (b + 1) mo j ko b2 (omega arith) (omega (arith, order)) in
      let y2 : Out b2 mf j2 kf b2 = out_before b2 mf j2 kf b2 (omega arith) (omega (arith, order)) in
      let z2 : Out b3 mr j3 kr b2 = out_before b3 mr j3 kr b2 (omega arith) (omega (arith, order)) in
      let x3 : Out (b + 1) mo j ko b3 = out_between (b + 1) mo j ko b3 (omega arith) (omega (arith, order)) in
      let y3 : Out b2 mf j2 kf b3 = out_between b2 mf j2 kf b3 (omega arith) (omega (arith, order)) in
      let z3 : Out b3 mr j3 kr b3 = out_before b3 mr j3 kr b3 (omega arith) (omega (arith, order)) in
      let L : List (List ℕ) = T ∷ edges_in false (block_of (regs_from n params) X ++ (block_of (regs_from n2 passed) Y ++ block_of (regs_from n3 rs) Z)) in
      let ex : ℕ → ℕ = λ x. count_to x T + (into false Y x + into false Z x) in
      let ey : ℕ → ℕ = λ x. count_to x T + (into false X x + into false Z x) in
      let ez : ℕ → ℕ = λ x. count_to x T + (into false X x + into false Y x) in
      let e2 : alone.outer b2 + (count_to b2 T + (into false Y b2 + into false Z b2)) ≡ 0 =
      (let f : alone.outer b2 ≡ 0 = alone.free b2 own2 in let t = none_of b2 (b + 1) (λ e. omega (arith, e)) in
      let v = qy b2 y2 (λ e. omega (arith, e)) in let w = qz b2 z2 (alone.clear b2 own2) in omega (arith, f, t, v, w)) in
      let e3 : alone.outer b3 + (count_to b3 T + (into false Y b3 + into false Z b3)) ≡ 0 =
      (let f : alone.outer b3 ≡ 0 = alone.free b3 own3 in let t = none_of b3 (b + 1) (λ e. omega (arith, e)) in
      let v = qy b3 y3 (λ e. omega (arith, e)) in let w = qz b3 z3 (alone.clear b3 own3) in omega (arith, f, t, v, w)) in
      three_split X Y Z (regs_from n params) (regs_from n2 passed) (regs_from n3 rs)
      (split_code before false (b + 1) (n + length params) j (with_vars params n scope) test
      (part b m j k end L alone (b + 1) mo j ko test (listed false X) ex
      (λ x. (let s = sum x in let z : predecessors L x ≡ count_to x T + (into false Y x + into false Z x) + into false X x = omega (arith, s) in z))
      (λ x own. (let t = none_of x (b + 1) (neq (b + 1) mo j ko x (b + 1) own x1) in
      let v = qy x (xy x own) (neq (b + 1) mo j ko x (b + 1) own x1) in let w = qz x (xz x own) (alone.clear x (in_x x own)) in
      let z : count_to x T + (into false Y x + into false Z x) ≡ 0 = omega (arith, t, v, w) in z))
      (λ x own. none_of_two x b2 b3 (neq (b + 1) mo j ko x b2 own x2) (neq (b + 1) mo j ko x b3 own x3))
      (e2, e3, (λ e. omega (arith, e)), (let z : b2 < length lists = omega (arith, room) in z), (let z : b3 < length lists = omega (arith, room) in z)) (omega arith) (omega arith) (omega arith) (omega (arith, fails))))
      (split_code after false b2 (n2 + length passed) j2 (with_vars passed n2 scope) back
      (part b m j k end L alone b2 mf j2 kf back (listed false Y) ey
      (λ x. (let s = sum x in let z : predecessors L x ≡ count_to x T + (into false X x + into false Z x) + into false Y x = omega (arith, s) in z))
      (λ x own. (let t = none_of x (b + 1) (neq b2 mf j2 kf x (b + 1) own y1) in
      let u = qx x (λ o. xy x o own) (neq b2 mf j2 kf x b2 own y2) (neq b2 mf j2 kf x b3 own y3) in let w = qz x (yz x own) (alone.clear x (in_y x own)) in
      let z : count_to x T + (into false X x + into false Z x) ≡ 0 = omega (arith, t, u, w) in z))
      (λ x own. none_of x (b + 1) (neq b2 mf j2 kf x (b + 1) own y1)) tt (omega arith) (omega arith) (omega arith) (omega (arith, fails))))
      (split_code rest false b3 (n3 + length rs) j3 (with_vars rs n3 scope) end
      (part b m j k end L alone b3 mr j3 kr end (listed false Z) ez
      (λ x. (let s = sum x in let z : predecessors L x ≡ count_to x T + (into false X x + into false Y x) + into false Z x = omega (arith, s) in z))
      (λ x own. (let t = none_of x (b + 1) (neq b3 mr j3 kr x (b + 1) own z1) in
      let u = qx x (λ o. xz x o own) (neq b3 mr j3 kr x b2 own z2) (neq b3 mr j3 kr x b3 own z3) in let v = qy x (λ o. yz x o own) (neq b3 mr j3 kr x (b + 1) own z1) in
      let z : count_to x T + (into false X x + into false Y x) ≡ 0 = omega (arith, t, u, v) in z))
      (λ x own. alone.clear x (in_z x own))
      (ends_out b m j k end alone.outer ez alone.clear
      (λ x out. (let t = none_of x (b + 1) (not_own b m j k x (b + 1) out own1) in
      let u = qx x (λ o. out (in_x x o)) (not_own b m j k x b2 out own2) (not_own b m j k x b3 out own3) in let v = qy x (λ o. out (in_y x o)) (not_own b m j k x (b + 1) out own1) in
      let z : count_to x T + (into false X x + into false Y x) ≡ 0 = omega (arith, t, u, v) in z)) alone.ends)
      (omega arith) (omega arith) (omega arith) (omega (arith, fails))))
  split_code (calls a args rs rest) first b n j scope end alone = fork_split rest (split_code rest) b (n + length rs) j (with_vars rs n scope) end (suc_alone rest b j end _ alone)
  split_code (tries a args rs rest) first b n j scope end alone =
      let b3 : ℕ = b + 3 in
      let mr : ℕ = blocks_of rest in
      let m : ℕ = 3 + mr in
      let k : ℕ = failures_of rest in
      let X : Code = bit_code (reg_no n) (low.Truth true) (block_no b3) in
      let Y : Code = bit_code (reg_no (n + 2)) (low.Truth false) (block_no b3) in
      let Z : Code = code_of funcs rest b3 (n + 3 + length rs) j (with_vars rs (n + 3) scope) end in
      let T : List ℕ = (b + 1) ∷ (b + 2) ∷ [] in
      let J : List ℕ = b3 ∷ [] in
      let order : b + m < j = alone.order in
      let room : b + m < length lists = alone.room in
      let after : List Block = block_of [] X ++ (block_of (reg_no (n + 1) ∷ []) Y ++ block_of (regs_from (n + 3) rs) Z) in
      let sum : (x : ℕ) → predecessors (edges_in false after) x ≡ count_to x J + 0 + (count_to x J + 0 + into false Z x) = three_into X Y Z [] (reg_no (n + 1) ∷ []) (regs_from (n + 3) rs) in
      let in_z : (x : ℕ) → Own b3 mr j k x → Own b m j k x = widen b m j k b3 mr j k (omega arith) (omega arith) (omega arith) (omega arith) in
      let qz : (x : ℕ) → Out b3 mr j k x → count_to x (end_targets end) ≡ 0 → into false Z x ≡ 0 = λ x out is. quiet funcs rest b3 (n + 3 + length rs) j (with_vars rs (n + 3) scope) end x (omega (arith, order)) out is in
      let own1 : Own b m j k (b + 1) = own_block b m j k (b + 1) (omega arith) (omega arith) in
      let own2 : Own b m j k (b + 2) = own_block b m j k (b + 2) (omega arith) (omega arith) in
      let own3 : Own b m j k b3 = own_block b m j k b3 (omega arith) (omega arith) in
      let z1 : Out b3 mr j k (b + 1) = out_before b3 mr j k (b + 1) (omega arith) (omega (arith, order)) in
      let z2 : Out b3 mr j k (b + 2) = out_before b3 mr j k (b + 2) (omega arith) (omega (arith, order)) in
      let z3 : Out b3 mr j k b3 = out_before b3 mr j k b3 (omega arith) (omega (arith, order)) in
      let L : List (List ℕ) = T ∷ edges_in false after in
      let p1 : predecessors lists (b + 1) ≤ 1 =
      (let t : predecessors lists (b + 1) ≡ alone.outer (b + 1) + (count_to (b + 1) T + predecessors (edges_in false after) (b + 1)) = alone.total (b + 1) in
      let f : alone.outer (b + 1) ≡ 0 = alone.free (b + 1) own1 in
      let c : count_to (b + 1) T ≡ 1 = first_of_two (b + 1) (b + 2) (λ e. omega (arith, e)) in
      let u : count_to (b + 1) J ≡ 0 = none_of (b + 1) b3 (λ e. omega (arith, e)) in let w = qz (b + 1) z1 (alone.clear (b + 1) own1) in let s = sum (b + 1) in
      omega (arith, t, f, c, u, w, s)) in
      let p2 : predecessors lists (b + 2) ≤ 1 =
      (let t : predecessors lists (b + 2) ≡ alone.outer (b + 2) + (count_to (b + 2) T + predecessors (edges_in false after) (b + 2)) = alone.total (b + 2) in
      let f : alone.outer (b + 2) ≡ 0 = alone.free (b + 2) own2 in
      let c : count_to (b + 2) T ≡ 1 = second_of_two (b + 2) (b + 1) (λ e. omega (arith, e)) in
      let u : count_to (b + 2) J ≡ 0 = none_of (b + 2) b3 (λ e. omega (arith, e)) in let w = qz (b + 2) z2 (alone.clear (b + 2) own2) in let s = sum (b + 2) in
      omega (arith, t, f, c, u, w, s)) in
      let ez : ℕ → ℕ = λ x. count_to x T + (count_to x J + count_to x J) in
      and_both (is_uncritical lists T) (every (is_uncritical lists) (edges_in false after))
      (two_fit (b + 1) (b + 2) (omega (arith, room)) (omega (arith, room)) p1 p2)
      (three_split X Y Z [] (reg_no (n + 1) ∷ []) (regs_from (n + 3) rs) refl refl
      (split_code rest false b3 (n + 3 + length rs) j (with_vars rs (n + 3) scope) end
      (part b m j k end L alone b3 mr j k end (listed false Z) ez
      (λ x. (let s = sum x in let z : predecessors L x ≡ count_to x T + (count_to x J + count_to x J) + into false Z x = omega (arith, s) in z))
      (λ x own. (let t = none_of_two x (b + 1) (b + 2) (neq b3 mr j k x (b + 1) own z1) (neq b3 mr j k x (b + 2) own z2) in let u = none_of x b3 (neq b3 mr j k x b3 own z3) in
      let z : count_to x T + (count_to x J + count_to x J) ≡ 0 = omega (arith, t, u) in z))
      (λ x own. alone.clear x (in_z x own))
      (ends_out b m j k end alone.outer ez alone.clear
      (λ x out. (let t = none_of_two x (b + 1) (b + 2) (not_own b m j k x (b + 1) out own1) (not_own b m j k x (b + 2) out own2) in let u = none_of x b3 (not_own b m j k x b3 out own3) in
      let z : count_to x T + (count_to x J + count_to x J) ≡ 0 = omega (arith, t, u) in z)) alone.ends)
      (omega arith) (omega arith) (omega arith) (omega arith))))
  split_code (awaits at o rs rest) first b n j scope end alone = fork_split rest (split_code rest) b (n + length rs) j (with_vars rs n scope) end (suc_alone rest b j end _ alone)

pub edges_split : EdgesSplit
edges_split funcs f =
    let ops : Ops = func_tree f in
    let n : ℕ = length f.params in
    let c : Code = code_of funcs ops 0 n (blocks_of ops + 1) (with_vars f.params 0 []) Returns in
    let fs : List Block = failure_blocks (n + regs_of ops) (fails_of ops) in
    let lists : List (List ℕ) = edges (lowered_func funcs f) in
    let apart : lists ≡ listed true c ++ edges_in false fs = ap (λ l. edges_from true c.term ∷ l) (edges_append c.blocks fs) in
    let sum : predecessors lists 0 ≡ into true c 0 + predecessors (edges_in false fs) 0 = ap (λ l. predecessors l 0) apart ∙ pred_append (listed true c) (edges_in false fs) 0 in
    let none : predecessors (edges_in false fs) 0 ≡ 0 = failures_lead (n + regs_of ops) (fails_of ops) 0 in
    let own : into true c 0 ≤ 0 = leads funcs ops true 0 n (blocks_of ops + 1) (with_vars f.params 0 []) Returns 0 (omega arith) (out_before 0 (blocks_of ops) (blocks_of ops + 1) (failures_of ops) 0 (omega arith) (omega arith)) in
    let bn : length (lowered_func funcs f).blocks ≡ suc (blocks_of ops) + failures_of ops = blocks_size funcs f in
    let ln : length lists ≡ length (lowered_func funcs f).blocks = edges_size true (lowered_func funcs f).blocks in
    let whole : every (is_uncritical lists) (listed true c ++ edges_in false fs) ≡ true =
    every_append (is_uncritical lists) (listed true c) (edges_in false fs)
    (split_code funcs lists ops true 0 n (blocks_of ops + 1) (with_vars f.params 0 []) Returns
    (record {
      outer = λ x. predecessors (edges_in false fs) x;
      total = λ x. (let s : predecessors lists x ≡ into true c x + predecessors (edges_in false fs) x = ap (λ l. predecessors l x) apart ∙ pred_append (listed true c) (edges_in false fs) x in
          let z : predecessors lists x ≡ predecessors (edges_in false fs) x + into true c x = omega (arith, s) in z);
      free = λ x own. failures_lead (n + regs_of ops) (fails_of ops) x;
      clear = λ x own. refl;
      room = omega (arith, bn, ln);
      fails = omega (arith, bn, ln);
      order = omega arith;
      ends = tt;
    }))
    (failures_split lists (n + regs_of ops) (fails_of ops)) in
    (subst (λ l. every (is_uncritical lists) l ≡ true) (sym apart) whole, none_in lists (omega (arith, sum, none, own)))
