-- What the code of operations uses is what it defines, and what was visible before it.
use Rattle.std.proofs.Common.{inl, inr, ◌<◌, ℕ, ◌+◌, true, false, List, [], ◌∷◌, ◌++◌, length, Option, sym, subst, ◌∙◌, arith, append_assoc}
use Rattle.low_flow.specs.Lists.{has}
use Rattle.low_flow.proofs.Membership.{or_left, or_right, has_append, has_here}
use Rattle.ir_forms.specs.declared.ops.Func.{Func}
use Rattle.ir_forms.specs.declared.ops.ValueNo.{ValueNo}
use Rattle.low_forms.specs.declared.code.Reg.{Reg}
use Rattle.low_forms.specs.declared.code.Block.{Block}
use Rattle.low_forms.specs.declared.code.LowAttr.TheVariants as low
use Rattle.low_forms.specs.Assigned.{numbers, assigned_by, block_assigns, used_at_end}
use Rattle.scf_blocks.specs.declared.body.Close.{Close}
use Rattle.scf_blocks.specs.declared.body.Close.TheVariants.{Returns, Joins, Repeats, Decides}
use Rattle.scf_blocks.specs.Tree.{Var, values_of, Ops, gives, decides, plain, asserts, branches, counts, cycles, calls, tries, awaits}
use Rattle.scf_blocks.specs.Code.{Scope, Code, code_of, block_of, blocks_of, regs_of, failures_of, close, decide, reg_no, block_no, regs, regs_from, operand, with_values, with_vars, less, cond_br, instr_then, ends_by, bit_code}
use Rattle.register_laws.specs.Laws.{used_by, block_uses}
use Rattle.block_laws.specs.Closed.{SeesAll, SeesOne, Closed, with_named}
use Rattle.block_laws.proofs.Scopes.{names_of, names_with, of_regs, of_operand}
use Rattle.block_laws.proofs.Flow.{AllIn, all_nil, all_cons, all_append, all_held, regs_in, of_all, has_from, from_bounds, more_values, more_vars}

module _ (K : ℕ → Type 0) where
  -- ---- what blocks define, and what they use

  abbrev pub EachDefines : List Block → Type 0
  EachDefines [] = Unit {0}
  EachDefines (b ∷ bs) = AllIn K (block_assigns b) × EachDefines bs

  abbrev pub EachUses : List Block → Type 0
  EachUses [] = Unit {0}
  EachUses (b ∷ bs) = AllIn K (block_uses b) × EachUses bs

  pub record Defines (c : Code) : Type 0 where
    pub instrs : AllIn K (assigned_by c.instrs)
    pub blocks : EachDefines c.blocks

  pub record Uses (c : Code) : Type 0 where
    pub used : AllIn K (used_by c.instrs ++ used_at_end c.term)
    pub blocks : EachUses c.blocks

  pub defines_front : (xs ys : List Block) → EachDefines (xs ++ ys) → EachDefines xs
  defines_front [] ys is = tt
  defines_front (x ∷ xs) ys is = (is.0, defines_front xs ys is.1)

  defines_back : (xs ys : List Block) → EachDefines (xs ++ ys) → EachDefines ys
  defines_back [] ys is = is
  defines_back (x ∷ xs) ys is = defines_back xs ys is.1

  pub uses_both : (xs ys : List Block) → EachUses xs → EachUses ys → EachUses (xs ++ ys)
  uses_both [] ys front back = back
  uses_both (x ∷ xs) ys front back = (front.0, uses_both xs ys front.1 back)

  in_front : (xs ys : List ℕ) → AllIn K (xs ++ ys) → AllIn K xs
  in_front xs ys is r h = is r (has_append r xs ys ∙ or_left (has r xs) (has r ys) h)

  in_back : (xs ys : List ℕ) → AllIn K (xs ++ ys) → AllIn K ys
  in_back xs ys is r h = is r (has_append r xs ys ∙ or_right (has r xs) (has r ys) h)

  -- ---- parts of code

  pub record Opened (params : List Reg) (c : Code) : Type 0 where
    pub taken : AllIn K (numbers params)
    pub code : Defines c

  pub opened : (params : List Reg) (c : Code) → EachDefines (block_of params c) → Opened params c
  opened params c is = record {
    taken = in_front (numbers params) (assigned_by c.instrs) is.0;
    code = record { instrs = in_back (numbers params) (assigned_by c.instrs) is.0; blocks = is.1 };
  }

  record Three (X Y Z : Code) (p q r : List Reg) : Type 0 where
    x : Opened p X
    y : Opened q Y
    z : Opened r Z

  three_parts : (X Y Z : Code) (p q r : List Reg) → EachDefines (block_of p X ++ (block_of q Y ++ block_of r Z)) → Three X Y Z p q r
  three_parts X Y Z p q r is =
      let more : EachDefines (block_of q Y ++ block_of r Z) = defines_back (block_of p X) (block_of q Y ++ block_of r Z) is in
      record {
        x = opened p X (defines_front (block_of p X) (block_of q Y ++ block_of r Z) is);
        y = opened q Y (defines_front (block_of q Y) (block_of r Z) more);
        z = opened r Z (defines_back (block_of q Y) (block_of r Z) more);
      }

  pub block_used : (params : List Reg) (c : Code) → Uses c → EachUses (block_of params c)
  block_used params c is = (is.used, is.blocks)

  three_used : (X Y Z : Code) (p q r : List Reg) → Uses X → Uses Y → Uses Z → EachUses (block_of p X ++ (block_of q Y ++ block_of r Z))
  three_used X Y Z p q r x y z =
      uses_both (block_of p X) (block_of q Y ++ block_of r Z) (block_used p X x) (uses_both (block_of q Y) (block_of r Z) (block_used q Y y) (block_used r Z z))

  -- ---- visible values

  abbrev pub Known : Scope → Type 0
  Known scope = AllIn K (regs_in scope)

  known_vars : (xs : List Var) (n : ℕ) (scope : Scope) → Known scope → AllIn K (numbers (regs_from n xs)) → Known (with_vars xs n scope)
  known_vars xs n scope old new r h = elim (more_vars xs n scope r h) [
    | inl before ↦ old r before
    | inr now ↦ new r now
  ]

  known_values : (xs : List ValueNo) (n : ℕ) (scope : Scope) → Known scope → AllIn K (numbers (regs_from n xs)) → Known (with_values xs n scope)
  known_values xs n scope old new r h = elim (more_values xs n scope r h) [
    | inl before ↦ old r before
    | inr now ↦ new r now
  ]

  -- fewer registers behind the first one
  later_regs : (n : ℕ) (params : List Var) (rs : List ValueNo) → length rs < length params → AllIn K (numbers (regs_from n params)) → AllIn K (numbers (regs_from (n + 1) rs))
  later_regs n params rs few is r h =
      let b = from_bounds (n + 1) rs r h in
      let l = b.0 in let u = b.1 in
      is r (has_from n params r (omega (arith, l)) (omega (arith, u, few)))

  seen : (scope : Scope) (xs : List ValueNo) → Known scope → SeesAll (names_of scope) xs → AllIn K (numbers (regs scope xs))
  seen scope xs known is = all_held K (regs scope xs) (of_regs K scope xs (of_all K scope known) is)

  seen_one : (scope : Scope) (o : Option ValueNo) → Known scope → SeesOne (names_of scope) o → K (operand scope o).0
  seen_one scope o known is = of_operand K scope o (of_all K scope known) is

  -- ---- ends of regions

  abbrev pub EndKnown : Close → Type 0
  EndKnown Returns = Unit {0}
  EndKnown (Joins b) = Unit {0}
  EndKnown (Repeats h v s) = K v.0 × K s.0
  EndKnown (Decides a e) = Unit {0}

  one : (n : ℕ) → K n → AllIn K (n ∷ [])
  one n is = all_cons K n [] is (all_nil K)

  bare : (xs : List ℕ) → AllIn K xs → AllIn K (xs ++ [])
  bare xs is = all_append K xs [] is (all_nil K)

  first_of : (n : ℕ) (xs : List ℕ) → AllIn K (n ∷ xs) → K n
  first_of n xs is = is n (has_here n xs)

  close_used : (end : Close) (n : ℕ) (vs : List Reg) → AllIn K (numbers vs) → EndKnown end → Defines (close end n vs) → Uses (close end n vs)
  close_used Returns n vs used ends is = record { used = bare (numbers vs) used; blocks = tt }
  close_used (Joins b) n vs used ends is = record { used = bare (numbers vs) used; blocks = tt }
  close_used (Repeats h v s) n vs used ends is =
      let own : K n = first_of n [] is.instrs in
      record { used = all_cons K v.0 (s.0 ∷ (n ∷ (numbers vs ++ []))) ends.0 (all_cons K s.0 (n ∷ (numbers vs ++ [])) ends.1 (all_cons K n (numbers vs ++ []) own (bare (numbers vs) used))); blocks = tt }
  close_used (Decides a e) n vs used ends is = record { used = bare (numbers vs) used; blocks = tt }

  decide_used : (end : Close) (n : ℕ) (c : Reg) (vs : List Reg) → K c.0 → AllIn K (numbers vs) → EndKnown end → Defines (decide end n c vs) → Uses (decide end n c vs)
  decide_used Returns n c vs test used ends is = close_used Returns n vs used ends is
  decide_used (Joins b) n c vs test used ends is = close_used (Joins b) n vs used ends is
  decide_used (Repeats h v s) n c vs test used ends is = close_used (Repeats h v s) n vs used ends is
  decide_used (Decides a e) n c vs test used ends is =
      record { used = all_cons K c.0 (numbers vs ++ (numbers vs ++ [])) test (all_append K (numbers vs) (numbers vs ++ []) used (bare (numbers vs) used)); blocks = tt }

  -- ---- code

  module _ (funcs : List Func) where
    vars_closed : (rest : Ops) (rs : List Var) (n : ℕ) (scope : Scope) → Closed rest (with_named rs (names_of scope)) → Closed rest (names_of (with_vars rs n scope))
    vars_closed rest rs n scope is = subst (λ names. Closed rest names) (sym (names_with (values_of rs) n scope)) is

    pub code_used : (ops : Ops) (b n j : ℕ) (scope : Scope) (end : Close) → Closed ops (names_of scope) → Known scope → EndKnown end → Defines (code_of funcs ops b n j scope end) → Uses (code_of funcs ops b n j scope end)
    code_used (gives vs) b n j scope end is known ends defs = close_used end n (regs scope vs) (seen scope vs known is) ends defs
    code_used (decides c vs) b n j scope end is known ends defs = decide_used end n (operand scope c) (regs scope vs) (seen_one scope c known is.0) (seen scope vs known is.1) ends defs
    code_used (plain kind a args rs rest) b n j scope end is known ends defs =
        let c : Code = code_of funcs rest b (n + length rs) j (with_vars rs n scope) end in
        let own : AllIn K (numbers (regs_from n rs)) = in_front (numbers (regs_from n rs)) (assigned_by c.instrs) defs.instrs in
        let r : Uses c = code_used rest b (n + length rs) j (with_vars rs n scope) end (vars_closed rest rs n scope is.1) (known_vars rs n scope known own) ends
        (record { instrs = in_back (numbers (regs_from n rs)) (assigned_by c.instrs) defs.instrs; blocks = defs.blocks }) in
        record {
          used = subst (λ xs. AllIn K xs) (sym (append_assoc (numbers (regs scope args)) (used_by c.instrs) (used_at_end c.term)))
              (all_append K (numbers (regs scope args)) (used_by c.instrs ++ used_at_end c.term) (seen scope args known is.0) r.used);
          blocks = r.blocks;
        }
    code_used (asserts at c rest) b n j scope end is known ends defs =
        let o = opened [] (code_of funcs rest (b + 1) n (j + 1) scope end) defs.blocks in
        record { used = one (operand scope c).0 (seen_one scope c known is.0); blocks = block_used [] _ (code_used rest (b + 1) n (j + 1) scope end is.1 known ends o.code) }
    code_used (branches c on off rs rest) b n j scope end is known ends defs =
        let b2 : ℕ = b + (2 + blocks_of on) in
        let b3 : ℕ = b + (3 + (blocks_of on + blocks_of off)) in
        let n3 : ℕ = n + regs_of on + regs_of off in
        let X : Code = code_of funcs on (b + 1) n j scope (Joins (block_no b3)) in
        let Y : Code = code_of funcs off b2 (n + regs_of on) (j + failures_of on) scope (Joins (block_no b3)) in
        let Z : Code = code_of funcs rest b3 (n3 + length rs) (j + failures_of on + failures_of off) (with_vars rs n3 scope) end in
        let t : Three X Y Z [] [] (regs_from n3 rs) = three_parts X Y Z [] [] (regs_from n3 rs) defs.blocks in
        record {
          used = one (operand scope c).0 (seen_one scope c known is.0);
          blocks = three_used X Y Z [] [] (regs_from n3 rs)
              (code_used on (b + 1) n j scope (Joins (block_no b3)) is.1 known tt t.x.code)
              (code_used off b2 (n + regs_of on) (j + failures_of on) scope (Joins (block_no b3)) is.2 known tt t.y.code)
              (code_used rest b3 (n3 + length rs) (j + failures_of on + failures_of off) (with_vars rs n3 scope) end (vars_closed rest rs n3 scope is.3) (known_vars rs n3 scope known t.z.taken) ends t.z.code);
        }
    code_used (counts lower upper step inits params body rs rest) b n j scope end is known ends defs =
        let n2 : ℕ = n + length params in
        let n3 : ℕ = n2 + 1 + regs_of body in
        let b3 : ℕ = b + (3 + blocks_of body) in
        let turn : Close = Repeats (block_no (b + 1)) (reg_no n) (operand scope step) in
        let X : Code = instr_then (less (reg_no n2) (reg_no n) (operand scope upper)) (ends_by (cond_br (reg_no n2) (block_no (b + 2)) (block_no b3) []) []) in
        let Y : Code = code_of funcs body (b + 2) (n2 + 1) j (with_vars params n scope) turn in
        let Z : Code = code_of funcs rest b3 (n3 + 1) (j + failures_of body) (with_values rs (n + 1) scope) end in
        let t : Three X Y Z (regs_from n params) [] [] = three_parts X Y Z (regs_from n params) [] [] defs.blocks in
        let few = is.4 in
        let own : K n = t.x.taken n (has_from n params n (omega arith) (omega (arith, few))) in
        let made : K n2 = first_of n2 [] t.x.code.instrs in
        record {
          used = all_cons K (operand scope lower).0 (numbers (regs scope inits) ++ []) (seen_one scope lower known is.0) (bare (numbers (regs scope inits)) (seen scope inits known is.3));
          blocks = three_used X Y Z (regs_from n params) [] []
              (record { used = all_cons K n ((operand scope upper).0 ∷ (n2 ∷ [])) own (all_cons K (operand scope upper).0 (n2 ∷ []) (seen_one scope upper known is.1) (one n2 made)); blocks = tt })
              (code_used body (b + 2) (n2 + 1) j (with_vars params n scope) turn (vars_closed body params n scope is.5) (known_vars params n scope known t.x.taken) (own, seen_one scope step known is.2) t.y.code)
              (code_used rest b3 (n3 + 1) (j + failures_of body) (with_values rs (n + 1) scope) end (subst (λ names. Closed rest names) (sym (names_with rs (n + 1) scope)) is.6)
              (known_values rs (n + 1) scope known (later_regs n params rs few t.x.taken)) ends t.z.code);
        }
    code_used (cycles inits params before passed after rs rest) b n j scope end is known ends defs =
        let b2 : ℕ = b + (2 + blocks_of before) in
        let b3 : ℕ = b + (3 + (blocks_of before + blocks_of after)) in
        let n2 : ℕ = n + length params + regs_of before in
        let n3 : ℕ = n2 + length passed + regs_of after in
        let X : Code = code_of funcs before (b + 1) (n + length params) j (with_vars params n scope) (Decides (block_no b2) (block_no b3)) in
        let Y : Code = code_of funcs after b2 (n2 + length passed) (j + failures_of before) (with_vars passed n2 scope) (Joins (block_no (b + 1))) in
        let Z : Code = code_of funcs rest b3 (n3 + length rs) (j + failures_of before + failures_of after) (with_vars rs n3 scope) end in
        let t : Three X Y Z (regs_from n params) (regs_from n2 passed) (regs_from n3 rs) = three_parts X Y Z (regs_from n params) (regs_from n2 passed) (regs_from n3 rs) defs.blocks in
        record {
          used = bare (numbers (regs scope inits)) (seen scope inits known is.0);
          blocks = three_used X Y Z (regs_from n params) (regs_from n2 passed) (regs_from n3 rs)
              (code_used before (b + 1) (n + length params) j (with_vars params n scope) (Decides (block_no b2) (block_no b3)) (vars_closed before params n scope is.1) (known_vars params n scope known t.x.taken) tt t.x.code)
              (code_used after b2 (n2 + length passed) (j + failures_of before) (with_vars passed n2 scope) (Joins (block_no (b + 1))) (vars_closed after passed n2 scope is.2) (known_vars passed n2 scope known t.y.taken) tt t.y.code)
              (code_used rest b3 (n3 + length rs) (j + failures_of before + failures_of after) (with_vars rs n3 scope) end (vars_closed rest rs n3 scope is.3) (known_vars rs n3 scope known t.z.taken) ends t.z.code);
        }
    code_used (calls a args rs rest) b n j scope end is known ends defs =
        let o = opened (regs_from n rs) (code_of funcs rest (b + 1) (n + length rs) (j + 1) (with_vars rs n scope) end) defs.blocks in
        record {
          used = bare (numbers (regs scope args)) (seen scope args known is.0);
          blocks = block_used (regs_from n rs) _ (code_used rest (b + 1) (n + length rs) (j + 1) (with_vars rs n scope) end (vars_closed rest rs n scope is.1) (known_vars rs n scope known o.taken) ends o.code);
        }
    code_used (tries a args rs rest) b n j scope end is known ends defs =
        let X : Code = bit_code (reg_no n) (low.Truth true) (block_no (b + 3)) in
        let Y : Code = bit_code (reg_no (n + 2)) (low.Truth false) (block_no (b + 3)) in
        let Z : Code = code_of funcs rest (b + 3) (n + 3 + length rs) j (with_vars rs (n + 3) scope) end in
        let t : Three X Y Z [] (reg_no (n + 1) ∷ []) (regs_from (n + 3) rs) = three_parts X Y Z [] (reg_no (n + 1) ∷ []) (regs_from (n + 3) rs) defs.blocks in
        record {
          used = bare (numbers (regs scope args)) (seen scope args known is.0);
          blocks = three_used X Y Z [] (reg_no (n + 1) ∷ []) (regs_from (n + 3) rs)
              (record { used = one n (first_of n [] t.x.code.instrs); blocks = tt })
              (record { used = one (n + 2) (first_of (n + 2) [] t.y.code.instrs); blocks = tt })
              (code_used rest (b + 3) (n + 3 + length rs) j (with_vars rs (n + 3) scope) end (vars_closed rest rs (n + 3) scope is.1) (known_vars rs (n + 3) scope known t.z.taken) ends t.z.code);
        }
    code_used (awaits at o rs rest) b n j scope end is known ends defs =
        let p = opened (regs_from n rs) (code_of funcs rest (b + 1) (n + length rs) (j + 1) (with_vars rs n scope) end) defs.blocks in
        record {
          used = one (operand scope o).0 (seen_one scope o known is.0);
          blocks = block_used (regs_from n rs) _ (code_used rest (b + 1) (n + length rs) (j + 1) (with_vars rs n scope) end (vars_closed rest rs n scope is.1) (known_vars rs n scope known p.taken) ends p.code);
        }
