-- What is defined once is defined nowhere else.
use Rattle.std.proofs.Common.{◌≡◌, ℕ, zero, suc, ◌+◌, ◌≤◌, ◌==◌, ◌||◌, if◌then◌else◌, Bool, true, false, List, [], ◌∷◌, ◌++◌, map, Some, refl, ap, ◌∙◌, arith}
use Rattle.std.specs.Prelude.{slice_get}
use Rattle.ir_forms.specs.Numbers.{joined}
use Rattle.low_flow.specs.Lists.{has, list_at}
use Rattle.low_forms.specs.declared.code.Reg.{Reg}
use Rattle.low_forms.specs.declared.code.Instr.{Instr}
use Rattle.low_forms.specs.declared.code.Block.{Block}
use Rattle.low_forms.specs.declared.code.LowFunc.{LowFunc}
use Rattle.low_forms.specs.Registers.{on_type}
use Rattle.low_forms.specs.Assigned.{numbers, assigned_by, assigned_before, block_assigns, assigns}
use Rattle.low_forms.specs.Edges.{count_to}
use Rattle.low_forms.specs.Owns.{is_object}
use Rattle.register_numbers.specs.Renumbered.{definitions}
use Rattle.count_laws.specs.Laws.{one_if}
use Rattle.count_laws.proofs.OrderLemmas.{none_of}
use Rattle.count_laws.proofs.RowLemmas.{count_references}
use Rattle.owned_laws.specs.Laws.{IsOnce}

-- ---- numbers in lists

module _ (r : ℕ) where
  pub count_append : (xs ys : List ℕ) → count_to r (xs ++ ys) ≡ count_to r xs + count_to r ys
  count_append [] ys = omega arith
  count_append (x ∷ xs) ys = step (r == x) (count_append xs ys)
    where
      step : (b : Bool) → count_to r (xs ++ ys) ≡ count_to r xs + count_to r ys
          → (if b then count_to r (xs ++ ys) + 1 else count_to r (xs ++ ys)) ≡ (if b then count_to r xs + 1 else count_to r xs) + count_to r ys
      step true later = omega (arith, later)
      step false later = later

  pub some_of : (xs : List ℕ) → has r xs ≡ true → 1 ≤ count_to r xs
  some_of [] there = cc
  some_of (x ∷ xs) there = step (r == x) there (λ e. some_of xs e)
    where
      step : (b : Bool) → (b || has r xs) ≡ true → (has r xs ≡ true → 1 ≤ count_to r xs) → 1 ≤ (if b then count_to r xs + 1 else count_to r xs)
      step true is later = omega arith
      step false is later = later is

  pub none_where : (xs : List ℕ) → count_to r xs ≤ 0 → has r xs ≡ false
  none_where xs none = step (has r xs) refl
    where
      step : (b : Bool) → has r xs ≡ b → b ≡ false
      step true there = (let e : 1 ≤ count_to r xs = some_of xs there in absurd (omega (arith, e, none)))
      step false there = refl

  pub one_where : (xs : List ℕ) → count_to r xs ≤ 1 → count_to r xs ≡ one_if (has r xs)
  one_where xs few = step (has r xs) refl
    where
      step : (b : Bool) → has r xs ≡ b → count_to r xs ≡ one_if b
      step true there = (let e : 1 ≤ count_to r xs = some_of xs there in omega (arith, e, few))
      step false there = none_of r xs there

  one_joined : (lists : List (List ℕ)) (c : ℕ) → count_to r (list_at lists c) ≤ count_to r (joined lists)
  one_joined [] c = omega arith
  one_joined (xs ∷ lists) zero = (let e : count_to r (xs ++ joined lists) ≡ count_to r xs + count_to r (joined lists) = count_append xs (joined lists) in omega (arith, e))
  one_joined (xs ∷ lists) (suc c) =
      let e : count_to r (xs ++ joined lists) ≡ count_to r xs + count_to r (joined lists) = count_append xs (joined lists) in
      let l : count_to r (list_at lists c) ≤ count_to r (joined lists) = one_joined lists c in
      omega (arith, e, l)

  two_joined : (lists : List (List ℕ)) (c d : ℕ) → (c ≡ d → ⊥) → count_to r (list_at lists c) + count_to r (list_at lists d) ≤ count_to r (joined lists)
  two_joined [] c d apart = omega arith
  two_joined (xs ∷ lists) zero zero apart = absurd (apart refl)
  two_joined (xs ∷ lists) zero (suc d) apart =
      let e : count_to r (xs ++ joined lists) ≡ count_to r xs + count_to r (joined lists) = count_append xs (joined lists) in
      let l : count_to r (list_at lists d) ≤ count_to r (joined lists) = one_joined lists d in
      omega (arith, e, l)
  two_joined (xs ∷ lists) (suc c) zero apart =
      let e : count_to r (xs ++ joined lists) ≡ count_to r xs + count_to r (joined lists) = count_append xs (joined lists) in
      let l : count_to r (list_at lists c) ≤ count_to r (joined lists) = one_joined lists c in
      omega (arith, e, l)
  two_joined (xs ∷ lists) (suc c) (suc d) apart =
      let e : count_to r (xs ++ joined lists) ≡ count_to r xs + count_to r (joined lists) = count_append xs (joined lists) in
      let l : count_to r (list_at lists c) + count_to r (list_at lists d) ≤ count_to r (joined lists) = two_joined lists c d (λ same. apart (ap suc same)) in
      omega (arith, e, l)

  -- an instruction's results stand beside what is assigned before it
  results_apart : (instrs : List Instr) (k : ℕ) (i : Instr) → slice_get instrs k ≡ Some i
      → count_to r (numbers i.results) + count_to r (assigned_before instrs k) ≤ count_to r (assigned_by instrs)
  results_apart [] k i at = cc
  results_apart (j ∷ instrs) zero i at =
      let same : j ≡ i = cc in
      let e : count_to r (numbers j.results ++ assigned_by instrs) ≡ count_to r (numbers j.results) + count_to r (assigned_by instrs) = count_append (numbers j.results) (assigned_by instrs) in
      let s : count_to r (numbers j.results) ≡ count_to r (numbers i.results) = ap (λ (x : Instr). count_to r (numbers x.results)) same in
      omega (arith, e, s)
  results_apart (j ∷ instrs) (suc k) i at =
      let e : count_to r (numbers j.results ++ assigned_by instrs) ≡ count_to r (numbers j.results) + count_to r (assigned_by instrs) = count_append (numbers j.results) (assigned_by instrs) in
      let b : count_to r (numbers j.results ++ assigned_before instrs k) ≡ count_to r (numbers j.results) + count_to r (assigned_before instrs k) = count_append (numbers j.results) (assigned_before instrs k) in
      let l : count_to r (numbers i.results) + count_to r (assigned_before instrs k) ≤ count_to r (assigned_by instrs) = results_apart instrs k i at in
      omega (arith, e, b, l)

pub assigns_at : (blocks : List Block) (c : ℕ) (b : Block) → slice_get blocks c ≡ Some b → list_at (map block_assigns blocks) c ≡ block_assigns b
assigns_at [] c b at = cc
assigns_at (d ∷ blocks) zero b at = (let e : d ≡ b = cc in ap block_assigns e)
assigns_at (d ∷ blocks) (suc c) b at = assigns_at blocks c b at

-- ---- a register that a function defines once at most

module _ (f : LowFunc) (r : ℕ) (once : count_to r (definitions f) ≤ 1) where
  both : count_to r (numbers f.params) + count_to r (joined (assigns f)) ≤ 1
  both = (let e : count_to r (definitions f) ≡ count_to r (numbers f.params) + count_to r (joined (assigns f)) = count_append r (numbers f.params) (joined (assigns f)) in omega (arith, e, once))

  pub params_once : count_to r (numbers f.params) ≤ 1
  params_once = omega (arith, both)

  module _ (c : ℕ) (b : Block) (at : slice_get f.blocks c ≡ Some b) where
    pub here : list_at (assigns f) c ≡ block_assigns b
    here = assigns_at f.blocks c b at

    in_block : count_to r (numbers f.params) + (count_to r (numbers b.params) + count_to r (assigned_by b.instrs)) ≤ 1
    in_block =
        let e : count_to r (list_at (assigns f) c) ≡ count_to r (numbers b.params) + count_to r (assigned_by b.instrs) = ap (λ xs. count_to r xs) here ∙ count_append r (numbers b.params) (assigned_by b.instrs) in
        let l : count_to r (list_at (assigns f) c) ≤ count_to r (joined (assigns f)) = one_joined r (assigns f) c in
        omega (arith, both, e, l)

    pub block_once : count_to r (numbers b.params) ≤ 1
    block_once = omega (arith, in_block)

    elsewhere : 1 ≤ count_to r (list_at (assigns f) c) → (d : ℕ) → (d ≡ c → ⊥) → has r (list_at (assigns f) d) ≡ false
    elsewhere some d apart = none_where r (list_at (assigns f) d)
        (let l : count_to r (list_at (assigns f) d) + count_to r (list_at (assigns f) c) ≤ count_to r (joined (assigns f)) = two_joined r (assigns f) d c apart in omega (arith, both, l, some))

    -- where it is a parameter of the block
    module _ (named : has r (numbers b.params) ≡ true) where
      some : 1 ≤ count_to r (numbers b.params)
      some = some_of r (numbers b.params) named

      pub param_elsewhere : (d : ℕ) → (d ≡ c → ⊥) → has r (list_at (assigns f) d) ≡ false
      param_elsewhere = elsewhere
          (let e : count_to r (list_at (assigns f) c) ≡ count_to r (numbers b.params) + count_to r (assigned_by b.instrs) = ap (λ xs. count_to r xs) here ∙ count_append r (numbers b.params) (assigned_by b.instrs) in omega (arith, e, some))

      pub param_alone : has r (numbers f.params) ≡ false
      param_alone = none_where r (numbers f.params) (omega (arith, in_block, some))

    -- where it is a result of an instruction of the block
    module _ (k : ℕ) (i : Instr) (at_k : slice_get b.instrs k ≡ Some i) (named : has r (numbers i.results) ≡ true) where
      some_result : 1 ≤ count_to r (numbers i.results)
      some_result = some_of r (numbers i.results) named

      apart_from : count_to r (numbers i.results) + count_to r (assigned_before b.instrs k) ≤ count_to r (assigned_by b.instrs)
      apart_from = results_apart r b.instrs k i at_k

      pub result_elsewhere : (d : ℕ) → (d ≡ c → ⊥) → has r (list_at (assigns f) d) ≡ false
      result_elsewhere = elsewhere
          (let e : count_to r (list_at (assigns f) c) ≡ count_to r (numbers b.params) + count_to r (assigned_by b.instrs) = ap (λ xs. count_to r xs) here ∙ count_append r (numbers b.params) (assigned_by b.instrs) in
          omega (arith, e, some_result, apart_from))

      pub result_no_param : has r (numbers f.params) ≡ false
      result_no_param = none_where r (numbers f.params) (omega (arith, in_block, some_result, apart_from))

      pub result_not_here : has r (numbers b.params) ≡ false
      result_not_here = none_where r (numbers b.params) (omega (arith, in_block, some_result, apart_from))

      pub result_not_before : has r (assigned_before b.instrs k) ≡ false
      result_not_before = none_where r (assigned_before b.instrs k) (omega (arith, in_block, some_result, apart_from))

      pub result_once : count_to r (numbers i.results) ≡ 1
      result_once = omega (arith, in_block, some_result, apart_from)

  pub is_once : on_type is_object (slice_get f.regs r) ≡ true → (rs : List Reg) → count_to r (numbers rs) ≤ 1 → IsOnce f rs r
  is_once object rs few = count_references f r object rs ∙ one_where r (numbers rs) few
