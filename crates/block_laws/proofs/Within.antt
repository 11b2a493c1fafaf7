-- Registers, blocks and functions that code names are there.
use Rattle.std.proofs.Common.{◌≡◌, ◌<◌, ◌≤◌, ℕ, suc, ◌+◌, ◌&&◌, nat_lt, cond, Bool, true, false, List, [], ◌∷◌, ◌++◌, map, length, Option, Some, None, refl, sym, ap, subst, ◌∙◌, arith, length-append}
use Rattle.std.specs.Str.{bytes_eq}
use Rattle.std.specs.Option.{option_map}
use Rattle.ir_forms.specs.declared.ops.Attr.{Attr}
use Rattle.ir_forms.specs.declared.ops.Attr.TheVariants as attr
use Rattle.ir_forms.specs.declared.ops.Func.{Func}
use Rattle.ir_forms.specs.declared.types.Ty.{Ty}
use Rattle.ir_forms.specs.declared.types.Ty.TheVariants.{Index}
use Rattle.ir_verify.specs.Names.{first_named}
use Rattle.low_forms.specs.declared.code.Reg.{Reg}
use Rattle.low_forms.specs.declared.code.LowAttr.TheVariants as low
use Rattle.low_forms.specs.declared.code.LowFunc.{LowFunc}
use Rattle.low_forms.specs.declared.code.LowModule.{LowModule}
use Rattle.low_forms.specs.Registers.{every}
use Rattle.low_forms.specs.Numbers.{regs_within, callee_within, instr_within, target_within, block_within}
use Rattle.low_forms.proofs.Words.{and_both}
use Rattle.scf_blocks.specs.declared.body.Failure.{Failure}
use Rattle.scf_blocks.specs.declared.body.Failure.TheVariants.{Constant, Passed}
use Rattle.scf_blocks.specs.declared.body.Close.{Close}
use Rattle.scf_blocks.specs.declared.body.Close.TheVariants.{Returns, Joins, Repeats, Decides}
use Rattle.scf_blocks.specs.Tree.{Var, values_of, types_in, Ops, gives, decides, plain, asserts, branches, counts, cycles, calls, tries, awaits}
use Rattle.scf_blocks.specs.Code.{Scope, Code, code_of, block_of, blocks_of, types_of, regs_of, fails_of, failures_of, close, close_types, decide, reg_no, block_no, regs, regs_from, operand, with_values, with_vars, low_attr, callee_at, less, cond_br, instr_then, ends_by, failure_block, failure_blocks, bit_code, constant, add, truth, code_types}
use Rattle.scf_blocks.specs.Lowered.{lowered_func, lowered, func_tree}
use Rattle.scf_blocks.proofs.Counts.{count_code}
use Rattle.block_laws.specs.Closed.{Closed, with_named}
use Rattle.block_laws.specs.Laws.{NumbersWithin}
use Rattle.block_laws.proofs.Words.{below, all_three, all_four, every_append, types_before}
use Rattle.block_laws.proofs.Scopes.{names_of, OfRegs, Holds, From, names_with, of_values, of_vars, of_regs, of_operand}

-- ---- functions

named_within : (funcs : List Func) (name : List ℕ) (code : LowModule) → length funcs ≤ length code.funcs → callee_within code (callee_at (first_named funcs name)) ≡ true
named_within [] name code le = refl
named_within (f ∷ funcs) name code le = go (bytes_eq f.name name) (first_named funcs name) (first_below funcs name)
  where
    Below : List Func → Option ℕ → Type 0
    Below fs None = Unit {0}
    Below fs (Some k) = k < length fs

    first_below : (fs : List Func) (name : List ℕ) → Below fs (first_named fs name)
    first_below [] name = tt
    first_below (g ∷ gs) name = step (bytes_eq g.name name) (first_named gs name) (first_below gs name)
      where
        step : (b : Bool) (o : Option ℕ) → Below gs o → Below (g ∷ gs) (cond b (Some 0) (option_map suc o))
        step true o is = (let z : 0 < length (g ∷ gs) = omega arith in z)
        step false None is = tt
        step false (Some k) is = (let z : suc k < length (g ∷ gs) = omega (arith, is) in z)

    go : (b : Bool) (o : Option ℕ) → Below funcs o → callee_within code (callee_at (cond b (Some 0) (option_map suc o))) ≡ true
    go true o is = below 0 (length code.funcs) (omega (arith, le))
    go false None is = refl
    go false (Some k) is = below (suc k) (length code.funcs) (omega (arith, le, is))

-- ---- sizes

append_size : (xs ys : List Ty) → length (xs ++ ys) ≡ length xs + length ys
append_size xs ys = length-append xs ys

pub choice_size : (on off : Ops) (rs : List Var) (rest : Ops) → length (types_of on ++ (types_of off ++ (types_in rs ++ types_of rest))) ≡ regs_of on + (regs_of off + (length rs + regs_of rest))
choice_size on off rs rest =
    append_size (types_of on) (types_of off ++ (types_in rs ++ types_of rest)) ∙ ap (λ k. regs_of on + k) (append_size (types_of off) (types_in rs ++ types_of rest) ∙ ap (λ k. regs_of off + k) (types_before rs (types_of rest)))

pub turn_size : (params : List Var) (body rest : Ops) (t u : Ty) → length (types_in params ++ t ∷ (types_of body ++ u ∷ types_of rest)) ≡ length params + suc (regs_of body + suc (regs_of rest))
turn_size params body rest t u = types_before params (t ∷ (types_of body ++ u ∷ types_of rest)) ∙ ap (λ k. length params + suc k) (append_size (types_of body) (u ∷ types_of rest))

pub cycle_size : (params : List Var) (before : Ops) (passed : List Var) (after : Ops) (rs : List Var) (rest : Ops) →
    length (types_in params ++ (types_of before ++ (types_in passed ++ (types_of after ++ (types_in rs ++ types_of rest))))) ≡ length params + (regs_of before + (length passed + (regs_of after + (length rs + regs_of rest))))
cycle_size params before passed after rs rest =
    types_before params (types_of before ++ (types_in passed ++ (types_of after ++ (types_in rs ++ types_of rest))))
    ∙ ap (λ k. length params + k) (append_size (types_of before) (types_in passed ++ (types_of after ++ (types_in rs ++ types_of rest)))
    ∙ ap (λ k. regs_of before + k) (types_before passed (types_of after ++ (types_in rs ++ types_of rest))
    ∙ ap (λ k. length passed + k) (append_size (types_of after) (types_in rs ++ types_of rest) ∙ ap (λ k. regs_of after + k) (types_before rs (types_of rest)))))

pub choice_fails : (on off rest : Ops) → length (fails_of on ++ (fails_of off ++ fails_of rest)) ≡ failures_of on + (failures_of off + failures_of rest)
choice_fails on off rest = length-append (fails_of on) (fails_of off ++ fails_of rest) ∙ ap (λ k. failures_of on + k) (length-append (fails_of off) (fails_of rest))

-- ---- code

abbrev EndsWithin : (regs blocks : ℕ) → Close → Type 0
EndsWithin n b Returns = Unit {0}
EndsWithin n b (Joins to) = to.0 < b
EndsWithin n b (Repeats head variable step) = (head.0 < b) × (variable.0 < n) × (step.0 < n)
EndsWithin n b (Decides after exit) = (after.0 < b) × (exit.0 < b)

module _ (funcs : List Func) (code : LowModule) (f : LowFunc) (same : length funcs ≤ length code.funcs) where
  abbrev In : ℕ → Type 0
  In r = r < length f.regs

  record Within (c : Code) : Type 0 where
    instrs : every (instr_within code f) c.instrs ≡ true
    term : instr_within code f c.term.instr ≡ true
    targets : every (target_within f) c.term.targets ≡ true
    blocks : every (block_within code f) c.blocks ≡ true

  attr_within : (a : Attr) → callee_within code (low_attr funcs a) ≡ true
  attr_within attr.None = refl
  attr_within (attr.Literal negative magnitude) = refl
  attr_within (attr.Truth bit) = refl
  attr_within (attr.Pred p) = refl
  attr_within (attr.Text text) = refl
  attr_within (attr.Callee name) = named_within funcs name code same

  held_within : (rs : List Reg) → Holds In rs → regs_within f rs ≡ true
  held_within [] holds = refl
  held_within (r ∷ rs) holds = and_both (nat_lt r.0 (length f.regs)) (regs_within f rs) (below r.0 (length f.regs) holds.0) (held_within rs holds.1)

  from_within : {A : Type 0} → (n : ℕ) (xs : List A) → n + length xs ≤ length f.regs → regs_within f (regs_from n xs) ≡ true
  from_within n [] le = refl
  from_within n (x ∷ xs) le = and_both (nat_lt n (length f.regs)) (regs_within f (regs_from (n + 1) xs)) (below n (length f.regs) (omega (arith, le))) (from_within (n + 1) xs (omega (arith, le)))

  one_within : (n : ℕ) → n < length f.regs → regs_within f (reg_no n ∷ []) ≡ true
  one_within n lt = held_within (reg_no n ∷ []) (lt, tt)

  instr_is : (operands results : List Reg) (callee : Bool) → regs_within f operands ≡ true → regs_within f results ≡ true → callee ≡ true → (regs_within f operands && regs_within f results && callee) ≡ true
  instr_is operands results callee a b c = all_three (regs_within f operands) (regs_within f results) callee a b c

  to_within : (b : ℕ) (args : List Reg) → b < length f.blocks → Holds In args → target_within f (record { block = block_no b; args = args }) ≡ true
  to_within b args lt holds = and_both (nat_lt b (length f.blocks)) (regs_within f args) (below b (length f.blocks) lt) (held_within args holds)

  two_within : (b c : ℕ) (args : List Reg) → b < length f.blocks → c < length f.blocks → Holds In args →
      every (target_within f) (record { block = block_no b; args = args } ∷ record { block = block_no c; args = args } ∷ []) ≡ true
  two_within b c args lt lt' holds =
      and_both (target_within f (record { block = block_no b; args = args })) (every (target_within f) (record { block = block_no c; args = args } ∷ []))
      (to_within b args lt holds) (and_both (target_within f (record { block = block_no c; args = args })) true (to_within c args lt' holds) refl)

  lone_within : (b : ℕ) (args : List Reg) → b < length f.blocks → Holds In args → every (target_within f) (record { block = block_no b; args = args } ∷ []) ≡ true
  lone_within b args lt holds = and_both (target_within f (record { block = block_no b; args = args })) true (to_within b args lt holds) refl

  close_within : (end : Close) (n : ℕ) (vs : List Reg) → EndsWithin (length f.regs) (length f.blocks) end → n + length (close_types end) ≤ length f.regs → Holds In vs → Within (close end n vs)
  close_within Returns n vs ends le holds = record { instrs = refl; term = instr_is vs [] true (held_within vs holds) refl refl; targets = refl; blocks = refl }
  close_within (Joins b) n vs ends le holds = record { instrs = refl; term = refl; targets = lone_within b.0 vs ends holds; blocks = refl }
  close_within (Repeats h i s) n vs ends le holds =
      let lt : n < length f.regs = omega (arith, le) in
      record {
        instrs = and_both (instr_within code f (add (reg_no n) i s)) true
            (instr_is (i ∷ s ∷ []) (reg_no n ∷ []) true (held_within (i ∷ s ∷ []) (ends.1, (ends.2, tt))) (one_within n lt) refl) refl;
        term = refl;
        targets = lone_within h.0 (reg_no n ∷ vs) ends.0 (lt, holds);
        blocks = refl;
      }
  close_within (Decides a e) n vs ends le holds = record { instrs = refl; term = refl; targets = lone_within a.0 vs ends.0 holds; blocks = refl }

  decide_within : (end : Close) (n : ℕ) (c : Reg) (vs : List Reg) → EndsWithin (length f.regs) (length f.blocks) end → n + length (close_types end) ≤ length f.regs → In c.0 → Holds In vs → Within (decide end n c vs)
  decide_within Returns n c vs ends le is holds = close_within Returns n vs ends le holds
  decide_within (Joins b) n c vs ends le is holds = close_within (Joins b) n vs ends le holds
  decide_within (Repeats h i s) n c vs ends le is holds = close_within (Repeats h i s) n vs ends le holds
  decide_within (Decides a e) n c vs ends le is holds =
      record { instrs = refl; term = instr_is (c ∷ []) [] true (held_within (c ∷ []) (is, tt)) refl refl; targets = two_within a.0 e.0 vs ends.0 ends.1 holds; blocks = refl }

  block_is : (params : List Reg) (c : Code) → regs_within f params ≡ true → Within c → every (block_within code f) (block_of params c) ≡ true
  block_is params c in_range is =
      and_both (block_within code f (record { params = params; instrs = c.instrs; term = c.term })) (every (block_within code f) c.blocks)
      (all_four (regs_within f params) (every (instr_within code f) c.instrs) (instr_within code f c.term.instr) (every (target_within f) c.term.targets) in_range is.instrs is.term is.targets) is.blocks

  three_are : (X Y Z : Code) (p q r : List Reg) → regs_within f p ≡ true → regs_within f q ≡ true → regs_within f r ≡ true → Within X → Within Y → Within Z →
      every (block_within code f) (block_of p X ++ (block_of q Y ++ block_of r Z)) ≡ true
  three_are X Y Z p q r in_p in_q in_r x y z =
      every_append (block_within code f) (block_of p X) (block_of q Y ++ block_of r Z) (block_is p X in_p x)
      (every_append (block_within code f) (block_of q Y) (block_of r Z) (block_is q Y in_q y) (block_is r Z in_r z))

  bit_within : (n b : ℕ) (bit : Bool) → n < length f.regs → b < length f.blocks → Within (bit_code (reg_no n) (low.Truth bit) (block_no b))
  bit_within n b bit lt lt' = record {
    instrs = and_both (instr_within code f (constant (reg_no n) (low.Truth bit))) true (instr_is [] (reg_no n ∷ []) true refl (one_within n lt) refl) refl;
    term = refl;
    targets = lone_within b (reg_no n ∷ []) lt' (lt, tt);
    blocks = refl;
  }

  -- the numbers of what a function's code makes lie below these
  record Room (ops : Ops) (b n j : ℕ) (end : Close) : Type 0 where
    regs : n + regs_of ops + length (close_types end) ≤ length f.regs
    blocks : b + blocks_of ops < length f.blocks
    fails : j + failures_of ops ≤ length f.blocks
    ends : EndsWithin (length f.regs) (length f.blocks) end

  new_regs : (n k : ℕ) → n + k ≤ length f.regs → From In n k
  new_regs n k le i low high = omega (arith, le, low, high)

  vars_closed : (rest : Ops) (rs : List Var) (n : ℕ) (scope : Scope) → Closed rest (with_named rs (names_of scope)) → Closed rest (names_of (with_vars rs n scope))
  vars_closed rest rs n scope is = subst (λ names. Closed rest names) (sym (names_with (values_of rs) n scope)) is

  code_within : (ops : Ops) (b n j : ℕ) (scope : Scope) (end : Close) → Room ops b n j end → OfRegs In scope → Closed ops (names_of scope) → Within (code_of funcs ops b n j scope end)
  code_within (gives vs) b n j scope end room of is =
      let le : n + length (close_types end) ≤ length f.regs = omega (arith, room.regs) in
      close_within end n (regs scope vs) room.ends le (of_regs In scope vs of is)
  code_within (decides c vs) b n j scope end room of is =
      let le : n + length (close_types end) ≤ length f.regs = omega (arith, room.regs) in
      decide_within end n (operand scope c) (regs scope vs) room.ends le (of_operand In scope c of is.0) (of_regs In scope vs of is.1)
  code_within (plain kind a args rs rest) b n j scope end room of is =
      let size : length (types_in rs ++ types_of rest) ≡ length rs + regs_of rest = types_before rs (types_of rest) in
      let le : n + length rs ≤ length f.regs = omega (arith, room.regs, size) in
      let r = code_within rest b (n + length rs) j (with_vars rs n scope) end
      (record { regs = omega (arith, room.regs, size); blocks = room.blocks; fails = room.fails; ends = room.ends })
      (of_vars In rs n scope (new_regs n (length rs) le) of) (vars_closed rest rs n scope is.1) in
      record {
        instrs = and_both (instr_within code f (record { kind = kind; operands = regs scope args; results = regs_from n rs; attr = low_attr funcs a }))
            (every (instr_within code f) (code_of funcs rest b (n + length rs) j (with_vars rs n scope) end).instrs)
            (instr_is (regs scope args) (regs_from n rs) (callee_within code (low_attr funcs a)) (held_within (regs scope args) (of_regs In scope args of is.0)) (from_within n rs le) (attr_within a)) r.instrs;
        term = r.term;
        targets = r.targets;
        blocks = r.blocks;
      }
  code_within (asserts at c rest) b n j scope end room of is =
      record {
        instrs = refl;
        term = instr_is (operand scope c ∷ []) [] true (held_within (operand scope c ∷ []) (of_operand In scope c of is.0, tt)) refl refl;
        targets = two_within (b + 1) j [] (omega (arith, room.blocks)) (omega (arith, room.fails)) tt;
        blocks = block_is [] _ refl (code_within rest (b + 1) n (j + 1) scope end
            (record { regs = room.regs; blocks = omega (arith, room.blocks); fails = omega (arith, room.fails); ends = room.ends }) of is.1);
      }
  code_within (branches c on off rs rest) b n j scope end room of is =
      let b2 : ℕ = b + (2 + blocks_of on) in
      let b3 : ℕ = b + (3 + (blocks_of on + blocks_of off)) in
      let n3 : ℕ = n + regs_of on + regs_of off in
      let size : length (types_of on ++ (types_of off ++ (types_in rs ++ types_of rest))) ≡ regs_of on + (regs_of off + (length rs + regs_of rest)) = choice_size on off rs rest in
      let fails : length (fails_of on ++ (fails_of off ++ fails_of rest)) ≡ failures_of on + (failures_of off + failures_of rest) = choice_fails on off rest in
      let r = room.regs in let bl = room.blocks in let fl = room.fails in
      let le : n3 + length rs ≤ length f.regs = omega (arith, r, size) in
      record {
        instrs = refl;
        term = instr_is (operand scope c ∷ []) [] true (held_within (operand scope c ∷ []) (of_operand In scope c of is.0, tt)) refl refl;
        targets = two_within (b + 1) b2 [] (omega (arith, bl)) (omega (arith, bl)) tt;
        blocks = three_are _ _ _ [] [] (regs_from n3 rs) refl refl (from_within n3 rs le)
            (code_within on (b + 1) n j scope (Joins (block_no b3))
            (record { regs = omega (arith, r, size); blocks = omega (arith, bl); fails = omega (arith, fl, fails); ends = omega (arith, bl) }) of is.1)
            (code_within off b2 (n + regs_of on) (j + failures_of on) scope (Joins (block_no b3))
            (record { regs = omega (arith, r, size); blocks = omega (arith, bl); fails = omega (arith, fl, fails); ends = omega (arith, bl) }) of is.2)
            (code_within rest b3 (n3 + length rs) (j + failures_of on + failures_of off) (with_vars rs n3 scope) end
            (record { regs = omega (arith, r, size); blocks = omega (arith, bl); fails = omega (arith, fl, fails); ends = room.ends })
            (of_vars In rs n3 scope (new_regs n3 (length rs) le) of) (vars_closed rest rs n3 scope is.3));
      }
  code_within (counts lower upper step inits params body rs rest) b n j scope end room of is =
      let n2 : ℕ = n + length params in
      let n3 : ℕ = n2 + 1 + regs_of body in
      let b3 : ℕ = b + (3 + blocks_of body) in
      let size = turn_size params body rest truth Index in
      let fails : length (fails_of body ++ fails_of rest) ≡ failures_of body + failures_of rest = length-append (fails_of body) (fails_of rest) in
      let r = room.regs in let bl = room.blocks in let fl = room.fails in let few = is.4 in
      let le : n + length params ≤ length f.regs = omega (arith, r, size) in
      let lt : n < length f.regs = omega (arith, r, size) in
      let lt2 : n2 < length f.regs = omega (arith, r, size) in
      record {
        instrs = refl;
        term = refl;
        targets = lone_within (b + 1) (operand scope lower ∷ regs scope inits) (omega (arith, bl)) (of_operand In scope lower of is.0, of_regs In scope inits of is.3);
        blocks = three_are (instr_then (less (reg_no n2) (reg_no n) (operand scope upper)) (ends_by (cond_br (reg_no n2) (block_no (b + 2)) (block_no b3) []) [])) _ _
            (regs_from n params) [] [] (from_within n params le) refl refl
            (record {
              instrs = and_both (instr_within code f (less (reg_no n2) (reg_no n) (operand scope upper))) true
                  (instr_is (reg_no n ∷ operand scope upper ∷ []) (reg_no n2 ∷ []) true (held_within (reg_no n ∷ operand scope upper ∷ []) (lt, (of_operand In scope upper of is.1, tt))) (one_within n2 lt2) refl) refl;
              term = instr_is (reg_no n2 ∷ []) [] true (one_within n2 lt2) refl refl;
              targets = two_within (b + 2) b3 [] (omega (arith, bl)) (omega (arith, bl)) tt;
              blocks = refl;
            })
            (code_within body (b + 2) (n2 + 1) j (with_vars params n scope) (Repeats (block_no (b + 1)) (reg_no n) (operand scope step))
            (record {
              regs = omega (arith, r, size);
              blocks = omega (arith, bl);
              fails = omega (arith, fl, fails);
              ends = ((let z : b + 1 < length f.blocks = omega (arith, bl) in z), lt, of_operand In scope step of is.2);
            })
            (of_vars In params n scope (new_regs n (length params) le) of) (vars_closed body params n scope is.5))
            (code_within rest b3 (n3 + 1) (j + failures_of body) (with_values rs (n + 1) scope) end
            (record { regs = omega (arith, r, size); blocks = omega (arith, bl); fails = omega (arith, fl, fails); ends = room.ends })
            (of_values In rs (n + 1) scope (new_regs (n + 1) (length rs) (omega (arith, le, few))) of)
            (subst (λ names. Closed rest names) (sym (names_with rs (n + 1) scope)) is.6));
      }
  code_within (cycles inits params before passed after rs rest) b n j scope end room of is =
      let b2 : ℕ = b + (2 + blocks_of before) in
      let b3 : ℕ = b + (3 + (blocks_of before + blocks_of after)) in
      let n2 : ℕ = n + length params + regs_of before in
      let n3 : ℕ = n2 + length passed + regs_of after in
      let size = cycle_size params before passed after rs rest in
      let fails = choice_fails before after rest in
      let r = room.regs in let bl = room.blocks in let fl = room.fails in
      let le1 : n + length params ≤ length f.regs = omega (arith, r, size) in
      let le2 : n2 + length passed ≤ length f.regs = omega (arith, r, size) in
      let le3 : n3 + length rs ≤ length f.regs = omega (arith, r, size) in
      record {
        instrs = refl;
        term = refl;
        targets = lone_within (b + 1) (regs scope inits) (omega (arith, bl)) (of_regs In scope inits of is.0);
        blocks = three_are _ _ _ (regs_from n params) (regs_from n2 passed) (regs_from n3 rs) (from_within n params le1) (from_within n2 passed le2) (from_within n3 rs le3)
            (code_within before (b + 1) (n + length params) j (with_vars params n scope) (Decides (block_no b2) (block_no b3))
            (record {
              regs = omega (arith, r, size);
              blocks = omega (arith, bl);
              fails = omega (arith, fl, fails);
              ends = ((let z : b2 < length f.blocks = omega (arith, bl) in z), (let z : b3 < length f.blocks = omega (arith, bl) in z));
            })
            (of_vars In params n scope (new_regs n (length params) le1) of) (vars_closed before params n scope is.1))
            (code_within after b2 (n2 + length passed) (j + failures_of before) (with_vars passed n2 scope) (Joins (block_no (b + 1)))
            (record { regs = omega (arith, r, size); blocks = omega (arith, bl); fails = omega (arith, fl, fails); ends = omega (arith, bl) })
            (of_vars In passed n2 scope (new_regs n2 (length passed) le2) of) (vars_closed after passed n2 scope is.2))
            (code_within rest b3 (n3 + length rs) (j + failures_of before + failures_of after) (with_vars rs n3 scope) end
            (record { regs = omega (arith, r, size); blocks = omega (arith, bl); fails = omega (arith, fl, fails); ends = room.ends })
            (of_vars In rs n3 scope (new_regs n3 (length rs) le3) of) (vars_closed rest rs n3 scope is.3));
      }
  code_within (calls a args rs rest) b n j scope end room of is =
      let size : length (types_in rs ++ types_of rest) ≡ length rs + regs_of rest = types_before rs (types_of rest) in
      let r = room.regs in let bl = room.blocks in let fl = room.fails in
      let le : n + length rs ≤ length f.regs = omega (arith, r, size) in
      record {
        instrs = refl;
        term = instr_is (regs scope args) [] (callee_within code (low_attr funcs a)) (held_within (regs scope args) (of_regs In scope args of is.0)) refl (attr_within a);
        targets = two_within (b + 1) j [] (omega (arith, bl)) (omega (arith, fl)) tt;
        blocks = block_is (regs_from n rs) _ (from_within n rs le) (code_within rest (b + 1) (n + length rs) (j + 1) (with_vars rs n scope) end
            (record { regs = omega (arith, r, size); blocks = omega (arith, bl); fails = omega (arith, fl); ends = room.ends })
            (of_vars In rs n scope (new_regs n (length rs) le) of) (vars_closed rest rs n scope is.1));
      }
  code_within (tries a args rs rest) b n j scope end room of is =
      let size : length (types_in rs ++ types_of rest) ≡ length rs + regs_of rest = types_before rs (types_of rest) in
      let r = room.regs in let bl = room.blocks in let fl = room.fails in
      let le : n + 3 + length rs ≤ length f.regs = omega (arith, r, size) in
      let lt : n < length f.regs = omega (arith, le) in
      let lt1 : n + 1 < length f.regs = omega (arith, le) in
      let lt2 : n + 2 < length f.regs = omega (arith, le) in
      record {
        instrs = refl;
        term = instr_is (regs scope args) [] (callee_within code (low_attr funcs a)) (held_within (regs scope args) (of_regs In scope args of is.0)) refl (attr_within a);
        targets = two_within (b + 1) (b + 2) [] (omega (arith, bl)) (omega (arith, bl)) tt;
        blocks = three_are _ _ _ [] (reg_no (n + 1) ∷ []) (regs_from (n + 3) rs) refl (one_within (n + 1) lt1) (from_within (n + 3) rs le)
            (bit_within n (b + 3) true lt (omega (arith, bl))) (bit_within (n + 2) (b + 3) false lt2 (omega (arith, bl)))
            (code_within rest (b + 3) (n + 3 + length rs) j (with_vars rs (n + 3) scope) end
            (record { regs = omega (arith, r, size); blocks = omega (arith, bl); fails = fl; ends = room.ends })
            (of_vars In rs (n + 3) scope (new_regs (n + 3) (length rs) le) of) (vars_closed rest rs (n + 3) scope is.1));
      }
  code_within (awaits at o rs rest) b n j scope end room of is =
      let size : length (types_in rs ++ types_of rest) ≡ length rs + regs_of rest = types_before rs (types_of rest) in
      let r = room.regs in let bl = room.blocks in let fl = room.fails in
      let le : n + length rs ≤ length f.regs = omega (arith, r, size) in
      record {
        instrs = refl;
        term = instr_is (operand scope o ∷ []) [] true (held_within (operand scope o ∷ []) (of_operand In scope o of is.0, tt)) refl refl;
        targets = two_within (b + 1) j [] (omega (arith, bl)) (omega (arith, fl)) tt;
        blocks = block_is (regs_from n rs) _ (from_within n rs le) (code_within rest (b + 1) (n + length rs) (j + 1) (with_vars rs n scope) end
            (record { regs = omega (arith, r, size); blocks = omega (arith, bl); fails = omega (arith, fl); ends = room.ends })
            (of_vars In rs n scope (new_regs n (length rs) le) of) (vars_closed rest rs n scope is.1));
      }

  failures_within : (m : ℕ) (fs : List Failure) → m + length fs ≤ length f.regs → every (block_within code f) (failure_blocks m fs) ≡ true
  failures_within m [] le = refl
  failures_within m (Constant at ∷ fs) le =
      let lt : m < length f.regs = omega (arith, le) in
      and_both (block_within code f (failure_block m (Constant at))) (every (block_within code f) (failure_blocks (m + 1) fs))
      (all_four true (instr_within code f (constant (reg_no m) (low.Literal false at)) && true) (regs_within f (reg_no m ∷ []) && true && true) true refl
      (and_both (instr_within code f (constant (reg_no m) (low.Literal false at))) true (instr_is [] (reg_no m ∷ []) true refl (one_within m lt) refl) refl)
      (instr_is (reg_no m ∷ []) [] true (one_within m lt) refl refl) refl)
      (failures_within (m + 1) fs (omega (arith, le)))
  failures_within m (Passed ∷ fs) le =
      let lt : m < length f.regs = omega (arith, le) in
      and_both (block_within code f (failure_block m Passed)) (every (block_within code f) (failure_blocks (m + 1) fs))
      (all_four (regs_within f (reg_no m ∷ [])) true (regs_within f (reg_no m ∷ []) && true && true) true (one_within m lt) refl
      (instr_is (reg_no m ∷ []) [] true (one_within m lt) refl refl) refl)
      (failures_within (m + 1) fs (omega (arith, le)))

code_sizes : (fs : List Failure) → length (code_types fs) ≡ length fs
code_sizes [] = refl
code_sizes (x ∷ fs) = ap suc (code_sizes fs)

failure_sizes : (m : ℕ) (fs : List Failure) → length (failure_blocks m fs) ≡ length fs
failure_sizes m [] = refl
failure_sizes m (x ∷ fs) = ap suc (failure_sizes (m + 1) fs)

pub regs_size : (funcs : List Func) (f : Func) → length (lowered_func funcs f).regs ≡ length f.params + (regs_of (func_tree f) + failures_of (func_tree f))
regs_size funcs f =
    let ops : Ops = func_tree f in
    types_before f.params (types_of ops ++ code_types (fails_of ops))
    ∙ ap (λ k. length f.params + k) (append_size (types_of ops) (code_types (fails_of ops)) ∙ ap (λ k. regs_of ops + k) (code_sizes (fails_of ops)))

pub blocks_size : (funcs : List Func) (f : Func) → length (lowered_func funcs f).blocks ≡ suc (blocks_of (func_tree f)) + failures_of (func_tree f)
blocks_size funcs f =
    let ops : Ops = func_tree f in
    let c : Code = code_of funcs ops 0 (length f.params) (blocks_of ops + 1) (with_vars f.params 0 []) Returns in
    let x : length (block_of [] c ++ failure_blocks (length f.params + regs_of ops) (fails_of ops)) ≡ length (block_of [] c) + length (failure_blocks (length f.params + regs_of ops) (fails_of ops)) = length-append (block_of [] c) (failure_blocks (length f.params + regs_of ops) (fails_of ops)) in
    let y : length c.blocks ≡ blocks_of ops = count_code funcs ops 0 (length f.params) (blocks_of ops + 1) (with_vars f.params 0 []) Returns in
    let z : length (failure_blocks (length f.params + regs_of ops) (fails_of ops)) ≡ failures_of ops = failure_sizes (length f.params + regs_of ops) (fails_of ops) in
    omega (arith, x, y, z)

mapped_size : (g : Func → LowFunc) (fs : List Func) → length (map g fs) ≡ length fs
mapped_size g [] = refl
mapped_size g (f ∷ fs) = ap suc (mapped_size g fs)

pub numbers_within : NumbersWithin
numbers_within program f is =
    let funcs : List Func = program.funcs in
    let code : LowModule = lowered program in
    let low : LowFunc = lowered_func funcs f in
    let ops : Ops = func_tree f in
    let n : ℕ = length f.params in
    let scope : Scope = with_vars f.params 0 [] in
    let many : length funcs ≤ length code.funcs = (let z : length code.funcs ≡ length funcs = mapped_size (lowered_func funcs) funcs in omega (arith, z)) in
    let rn : length low.regs ≡ n + (regs_of ops + failures_of ops) = regs_size funcs f in
    let bn : length low.blocks ≡ suc (blocks_of ops) + failures_of ops = blocks_size funcs f in
    let le : 0 + n ≤ length low.regs = omega (arith, rn) in (
      from_within funcs code low many 0 f.params le,
      every_append (block_within code low) (block_of [] (code_of funcs ops 0 n (blocks_of ops + 1) scope Returns)) (failure_blocks (n + regs_of ops) (fails_of ops))
          (block_is funcs code low many [] (code_of funcs ops 0 n (blocks_of ops + 1) scope Returns) refl
          (code_within funcs code low many ops 0 n (blocks_of ops + 1) scope Returns
          (record { regs = omega (arith, rn); blocks = omega (arith, bn); fails = omega (arith, bn); ends = tt })
          (of_vars (λ r. r < length low.regs) f.params 0 [] (new_regs funcs code low many 0 n le) tt)
          (vars_closed funcs code low many ops f.params 0 [] is)))
          (failures_within funcs code low many (n + regs_of ops) (fails_of ops) (omega (arith, rn))),
    )
