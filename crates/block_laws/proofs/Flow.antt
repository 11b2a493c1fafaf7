-- Each use of a register is assigned on every path that leads to it.
use Rattle.std.proofs.Common.{◌≡◌, ◌⊎◌, inl, inr, ◌<◌, ◌≤◌, ℕ, zero, suc, ◌+◌, ◌==◌, Bool, true, false, List, [], ◌∷◌, ◌++◌, map, length, Option, Some, refl, sym, ap, subst, ◌∙◌, arith, append_assoc, length-append}
use Rattle.std.specs.Prelude.{slice_get}
use Rattle.std.proofs.lemmas.Bool.Decides.{eqb_tells}
use Rattle.low_flow.specs.Lists.{has, list_at}
use Rattle.low_flow.specs.Paths.{IsPath, last_of, assigned_on}
use Rattle.low_flow.proofs.Membership.{or_splits, or_left, or_right, has_append, has_here, has_front}
use Rattle.ir_forms.specs.declared.ops.Func.{Func}
use Rattle.ir_forms.specs.declared.ops.ValueNo.{ValueNo}
use Rattle.low_forms.specs.declared.code.Reg.{Reg}
use Rattle.low_forms.specs.declared.code.Instr.{Instr}
use Rattle.low_forms.specs.declared.code.Term.{Term}
use Rattle.low_forms.specs.declared.code.Block.{Block}
use Rattle.low_forms.specs.declared.code.LowFunc.{LowFunc}
use Rattle.low_forms.specs.declared.code.LowAttr.{LowAttr}
use Rattle.low_forms.specs.declared.code.LowAttr.TheVariants as low
use Rattle.low_forms.specs.Edges.{edges_from, edges_in}
use Rattle.low_forms.specs.Assigned.{numbers, assigned_by, block_assigns, used_at_end, used_at, assigned_before}
use Rattle.scf_blocks.specs.declared.body.Failure.{Failure}
use Rattle.scf_blocks.specs.declared.body.Failure.TheVariants.{Constant, Passed}
use Rattle.scf_blocks.specs.declared.body.Close.{Close}
use Rattle.scf_blocks.specs.declared.body.Close.TheVariants.{Returns, Joins, Repeats, Decides}
use Rattle.scf_blocks.specs.Tree.{Var, values_of, Ops, gives, decides, plain, asserts, branches, counts, cycles, calls, tries, awaits}
use Rattle.scf_blocks.specs.Code.{Scope, Code, code_of, block_of, instr, blocks_of, regs_of, fails_of, failures_of, close, decide, reg_no, block_no, regs, regs_from, operand, with_values, with_vars, low_attr, less, add, constant, literal, br, cond_br, call, await, return, fail, instr_then, ends_by, failure_blocks, bit_code}
use Rattle.scf_blocks.specs.Lowered.{lowered_func, func_tree}
use Rattle.block_laws.specs.Closed.{SeesAll, SeesOne, Closed, with_named}
use Rattle.block_laws.specs.Laws.{AllAssigned}
use Rattle.block_laws.proofs.Scopes.{names_of, OfRegs, Holds, names_with, of_regs, of_operand, values_length}

-- ---- lists of registers

abbrev pub AllIn : (ℕ → Type 0) → List ℕ → Type 0
AllIn K xs = (r : ℕ) → has r xs ≡ true → K r

same_number : (a b : ℕ) → (a == b) ≡ true → a ≡ b
same_number a b is = elim (eqb_tells a b) [
  | inl same ↦ same.1
  | inr differs ↦ cc
]

pub all_nil : (K : ℕ → Type 0) → AllIn K []
all_nil K r is = cc

pub all_cons : (K : ℕ → Type 0) (x : ℕ) (xs : List ℕ) → K x → AllIn K xs → AllIn K (x ∷ xs)
all_cons K x xs here later r is = elim (or_splits (r == x) (has r xs) is) [
  | inl same ↦ subst K (sym (same_number r x same)) here
  | inr more ↦ later r more
]

pub all_append : (K : ℕ → Type 0) (xs ys : List ℕ) → AllIn K xs → AllIn K ys → AllIn K (xs ++ ys)
all_append K xs ys front back r is = elim (or_splits (has r xs) (has r ys) (sym (has_append r xs ys) ∙ is)) [
  | inl h ↦ front r h
  | inr h ↦ back r h
]

has_back : (r : ℕ) (xs ys : List ℕ) → has r ys ≡ true → has r (xs ++ ys) ≡ true
has_back r xs ys is = has_append r xs ys ∙ or_right (has r xs) (has r ys) is

pub all_held : (K : ℕ → Type 0) (rs : List Reg) → Holds K rs → AllIn K (numbers rs)
all_held K [] holds = all_nil K
all_held K (r ∷ rs) holds = all_cons K r.0 (numbers rs) holds.0 (all_held K rs holds.1)

pub has_from : {A : Type 0} → (n : ℕ) (xs : List A) (r : ℕ) → n ≤ r → r < n + length xs → has r (numbers (regs_from n xs)) ≡ true
has_from n [] r low high = absurd (omega (arith, low, high))
has_from n (x ∷ xs) r low high = elim (eqb_tells r n) [
  | inl same ↦ or_left (r == n) (has r (numbers (regs_from (n + 1) xs))) same.0
  | inr other ↦ or_right (r == n) (has r (numbers (regs_from (n + 1) xs))) (let ne = other.1 in has_from (n + 1) xs r (omega (arith, low, ne)) (omega (arith, high)))
]

pub from_bounds : {A : Type 0} → (n : ℕ) (xs : List A) → AllIn (λ r. (n ≤ r) × (r < n + length xs)) (numbers (regs_from n xs))
from_bounds n [] r is = cc
from_bounds n (x ∷ xs) r is = elim (or_splits (r == n) (has r (numbers (regs_from (n + 1) xs))) is) [
  | inl same ↦ (let e : r ≡ n = same_number r n same in (omega (arith, e), omega (arith, e)))
  | inr later ↦ (let h = from_bounds (n + 1) xs r later in let l = h.0 in let u = h.1 in (omega (arith, l), omega (arith, u)))
]

-- ---- scopes

abbrev pub regs_in : Scope → List ℕ
regs_in scope = map (λ y. y.1.0) scope

pub of_all : (K : ℕ → Type 0) (scope : Scope) → AllIn K (regs_in scope) → OfRegs K scope
of_all K [] all = tt
of_all K (y ∷ scope) all = (all y.1.0 (has_here y.1.0 (regs_in scope)), of_all K scope (λ r is. all r (or_right (r == y.1.0) (has r (regs_in scope)) is)))

-- the registers of a scope with new values are those of the scope and the new ones
pub more_values : (xs : List ValueNo) (n : ℕ) (scope : Scope) → AllIn (λ r. (has r (regs_in scope) ≡ true) ⊎ (has r (numbers (regs_from n xs)) ≡ true)) (regs_in (with_values xs n scope))
more_values [] n scope r is = inl is
more_values (x ∷ xs) n scope r is = elim (more_values xs (n + 1) ((x, reg_no n) ∷ scope) r is) [
  | inl old ↦ elim (or_splits (r == n) (has r (regs_in scope)) old) [
    | inl here ↦ inr (or_left (r == n) (has r (numbers (regs_from (n + 1) xs))) here)
    | inr before ↦ inl before
  ]
  | inr new ↦ inr (or_right (r == n) (has r (numbers (regs_from (n + 1) xs))) new)
]

keep_values : (xs : List ValueNo) (n : ℕ) (scope : Scope) → AllIn (λ r. has r (regs_in (with_values xs n scope)) ≡ true) (regs_in scope)
keep_values [] n scope r is = is
keep_values (x ∷ xs) n scope r is = keep_values xs (n + 1) ((x, reg_no n) ∷ scope) r (or_right (r == n) (has r (regs_in scope)) is)

same_from : (n : ℕ) (xs : List Var) → regs_from n (values_of xs) ≡ regs_from n xs
same_from n [] = refl
same_from n (x ∷ xs) = ap (λ l. reg_no n ∷ l) (same_from (n + 1) xs)

pub more_vars : (xs : List Var) (n : ℕ) (scope : Scope) → AllIn (λ r. (has r (regs_in scope) ≡ true) ⊎ (has r (numbers (regs_from n xs)) ≡ true)) (regs_in (with_vars xs n scope))
more_vars xs n scope = subst (λ l. AllIn (λ r. (has r (regs_in scope) ≡ true) ⊎ (has r (numbers l) ≡ true)) (regs_in (with_vars xs n scope))) (same_from n xs) (more_values (values_of xs) n scope)

-- a new value's register is in the scope
first_in : (xs : List ValueNo) (n : ℕ) (scope : Scope) → 0 < length xs → has n (regs_in (with_values xs n scope)) ≡ true
first_in [] n scope lt = absurd (omega (arith, lt))
first_in (x ∷ xs) n scope lt = keep_values xs (n + 1) ((x, reg_no n) ∷ scope) n (has_here n (regs_in scope))

-- ---- what is given where a block begins

-- by block behind the open one, the registers of what is visible where it begins, its parameters aside
abbrev entries : Ops → (n : ℕ) → Scope → List (List ℕ)
entries (gives vs) n scope = []
entries (decides c vs) n scope = []
entries (plain kind a args rs rest) n scope = entries rest (n + length rs) (with_vars rs n scope)
entries (asserts at c rest) n scope = regs_in scope ∷ entries rest n scope
entries (branches c on off rs rest) n scope =
    let n3 : ℕ = n + regs_of on + regs_of off in
    (regs_in scope ∷ entries on n scope) ++ ((regs_in scope ∷ entries off (n + regs_of on) scope) ++ (regs_in scope ∷ entries rest (n3 + length rs) (with_vars rs n3 scope)))
entries (counts lower upper step inits params body rs rest) n scope =
    let n2 : ℕ = n + length params in
    let n3 : ℕ = n2 + 1 + regs_of body in
    (regs_in scope ∷ []) ++ ((regs_in (with_vars params n scope) ∷ entries body (n2 + 1) (with_vars params n scope)) ++ (regs_in (with_values rs (n + 1) scope) ∷ entries rest (n3 + 1) (with_values rs (n + 1) scope)))
entries (cycles inits params before passed after rs rest) n scope =
    let n2 : ℕ = n + length params + regs_of before in
    let n3 : ℕ = n2 + length passed + regs_of after in
    (regs_in scope ∷ entries before (n + length params) (with_vars params n scope)) ++ ((regs_in scope ∷ entries after (n2 + length passed) (with_vars passed n2 scope)) ++ (regs_in scope ∷ entries rest (n3 + length rs) (with_vars rs n3 scope)))
entries (calls a args rs rest) n scope = regs_in scope ∷ entries rest (n + length rs) (with_vars rs n scope)
entries (tries a args rs rest) n scope = (regs_in scope ∷ []) ++ ((regs_in scope ∷ []) ++ (regs_in scope ∷ entries rest (n + 3 + length rs) (with_vars rs (n + 3) scope)))
entries (awaits at o rs rest) n scope = regs_in scope ∷ entries rest (n + length rs) (with_vars rs n scope)

three_long : (x y z : List ℕ) (xs ys zs : List (List ℕ)) (p q r : ℕ) → length xs ≡ p → length ys ≡ q → length zs ≡ r → length ((x ∷ xs) ++ ((y ∷ ys) ++ (z ∷ zs))) ≡ 3 + (p + (q + r))
three_long x y z xs ys zs p q r ep eq er =
    let h : length ((x ∷ xs) ++ ((y ∷ ys) ++ (z ∷ zs))) ≡ length (x ∷ xs) + length ((y ∷ ys) ++ (z ∷ zs)) = length-append (x ∷ xs) ((y ∷ ys) ++ (z ∷ zs)) in
    let k : length ((y ∷ ys) ++ (z ∷ zs)) ≡ length (y ∷ ys) + length (z ∷ zs) = length-append (y ∷ ys) (z ∷ zs) in
    omega (arith, h, k, ep, eq, er)

count_entries : (ops : Ops) (n : ℕ) (scope : Scope) → length (entries ops n scope) ≡ blocks_of ops
count_entries (gives vs) n scope = refl
count_entries (decides c vs) n scope = refl
count_entries (plain kind a args rs rest) n scope = count_entries rest (n + length rs) (with_vars rs n scope)
count_entries (asserts at c rest) n scope = let h = count_entries rest n scope in omega (arith, h)
count_entries (branches c on off rs rest) n scope =
    let n3 : ℕ = n + regs_of on + regs_of off in
    three_long (regs_in scope) (regs_in scope) (regs_in scope) _ _ _ (blocks_of on) (blocks_of off) (blocks_of rest) (count_entries on n scope) (count_entries off (n + regs_of on) scope) (count_entries rest (n3 + length rs) (with_vars rs n3 scope))
count_entries (counts lower upper step inits params body rs rest) n scope =
    let n2 : ℕ = n + length params in
    let n3 : ℕ = n2 + 1 + regs_of body in
    three_long (regs_in scope) (regs_in (with_vars params n scope)) (regs_in (with_values rs (n + 1) scope)) [] _ _ 0 (blocks_of body) (blocks_of rest) refl (count_entries body (n2 + 1) (with_vars params n scope)) (count_entries rest (n3 + 1) (with_values rs (n + 1) scope))
    ∙ (let z : 3 + (0 + (blocks_of body + blocks_of rest)) ≡ 3 + (blocks_of body + blocks_of rest) = omega arith in z)
count_entries (cycles inits params before passed after rs rest) n scope =
    let n2 : ℕ = n + length params + regs_of before in
    let n3 : ℕ = n2 + length passed + regs_of after in
    three_long (regs_in scope) (regs_in scope) (regs_in scope) _ _ _ (blocks_of before) (blocks_of after) (blocks_of rest) (count_entries before (n + length params) (with_vars params n scope)) (count_entries after (n2 + length passed) (with_vars passed n2 scope)) (count_entries rest (n3 + length rs) (with_vars rs n3 scope))
count_entries (calls a args rs rest) n scope = let h = count_entries rest (n + length rs) (with_vars rs n scope) in omega (arith, h)
count_entries (tries a args rs rest) n scope = let h = count_entries rest (n + 3 + length rs) (with_vars rs (n + 3) scope) in omega (arith, h)
count_entries (awaits at o rs rest) n scope = let h = count_entries rest (n + length rs) (with_vars rs n scope) in omega (arith, h)

module _ (given : List (List ℕ)) where
  abbrev Gives : (ℕ → Type 0) → ℕ → Type 0
  Gives K d = AllIn K (list_at given d)

  record Here (first : Bool) (K : ℕ → Type 0) (instrs : List Instr) (t : Term) : Type 0 where
    uses : (k : ℕ) → AllIn (λ r. K r ⊎ (has r (assigned_before instrs k) ≡ true)) (used_at instrs t k)
    leads : AllIn (Gives (λ r. K r ⊎ (has r (assigned_by instrs) ≡ true))) (edges_from first t)

  abbrev Knows : List ℕ → List Reg → ℕ → Type 0
  Knows g params r = (has r g ≡ true) ⊎ (has r (numbers params) ≡ true)

  abbrev Each : List Block → List (List ℕ) → Type 0
  Each [] [] = Unit {0}
  Each [] (g ∷ gs) = ⊥
  Each (b ∷ bs) [] = ⊥
  Each (b ∷ bs) (g ∷ gs) = Here false (Knows g b.params) b.instrs b.term × Each bs gs

  record Good (first : Bool) (K : ℕ → Type 0) (c : Code) (es : List (List ℕ)) : Type 0 where
    here : Here first K c.instrs c.term
    blocks : Each c.blocks es

  abbrev Stand : ℕ → List (List ℕ) → Type 0
  Stand b [] = Unit {0}
  Stand b (x ∷ xs) = (list_at given b ≡ x) × Stand (b + 1) xs

  each_append : (xs : List Block) (gs : List (List ℕ)) (ys : List Block) (hs : List (List ℕ)) → Each xs gs → Each ys hs → Each (xs ++ ys) (gs ++ hs)
  each_append [] [] ys hs front back = back
  each_append [] (g ∷ gs) ys hs front back = absurd front
  each_append (x ∷ xs) [] ys hs front back = absurd front
  each_append (x ∷ xs) (g ∷ gs) ys hs front back = (front.0, each_append xs gs ys hs front.1 back)

  block_good : (params : List Reg) (c : Code) (g : List ℕ) (es : List (List ℕ)) → Good false (Knows g params) c es → Each (block_of params c) (g ∷ es)
  block_good params c g es good = (good.here, good.blocks)

  three_good : (X Y Z : Code) (p q r : List Reg) (x y z : List ℕ) (xs ys zs : List (List ℕ)) → Good false (Knows x p) X xs → Good false (Knows y q) Y ys → Good false (Knows z r) Z zs →
      Each (block_of p X ++ (block_of q Y ++ block_of r Z)) ((x ∷ xs) ++ ((y ∷ ys) ++ (z ∷ zs)))
  three_good X Y Z p q r x y z xs ys zs gx gy gz =
      each_append (block_of p X) (x ∷ xs) (block_of q Y ++ block_of r Z) ((y ∷ ys) ++ (z ∷ zs)) (block_good p X x xs gx)
      (each_append (block_of q Y) (y ∷ ys) (block_of r Z) (z ∷ zs) (block_good q Y y ys gy) (block_good r Z z zs gz))

  stand_split : (b : ℕ) (xs ys : List (List ℕ)) → Stand b (xs ++ ys) → Stand b xs × Stand (b + length xs) ys
  stand_split b [] ys s = (tt, subst (λ n. Stand n ys) (let e : b ≡ b + 0 = omega arith in e) s)
  stand_split b (x ∷ xs) ys s =
      let more = stand_split (b + 1) xs ys s.1 in
      ((s.0, more.0), subst (λ n. Stand n ys) (let e : b + 1 + length xs ≡ b + suc (length xs) = omega arith in e) more.1)

  record Parts3 (b : ℕ) (x y z : List ℕ) (xs ys zs : List (List ℕ)) (p q : ℕ) : Type 0 where
    at_x : list_at given (b + 1) ≡ x
    in_x : Stand (b + 1 + 1) xs
    at_y : list_at given (b + (2 + p)) ≡ y
    in_y : Stand (b + (2 + p) + 1) ys
    at_z : list_at given (b + (3 + (p + q))) ≡ z
    in_z : Stand (b + (3 + (p + q)) + 1) zs

  parts : (b : ℕ) (x y z : List ℕ) (xs ys zs : List (List ℕ)) (p q : ℕ) → length xs ≡ p → length ys ≡ q → Stand (b + 1) ((x ∷ xs) ++ ((y ∷ ys) ++ (z ∷ zs))) → Parts3 b x y z xs ys zs p q
  parts b x y z xs ys zs p q ep eq s =
      let f = stand_split (b + 1) (x ∷ xs) ((y ∷ ys) ++ (z ∷ zs)) s in
      let g = stand_split (b + 1 + suc (length xs)) (y ∷ ys) (z ∷ zs) f.1 in
      let e2 : b + 1 + suc (length xs) ≡ b + (2 + p) = omega (arith, ep) in
      let e3 : b + 1 + suc (length xs) + suc (length ys) ≡ b + (3 + (p + q)) = omega (arith, ep, eq) in
      let gy = subst (λ n. Stand n (y ∷ ys)) e2 g.0 in
      let gz = subst (λ n. Stand n (z ∷ zs)) e3 g.1 in
      record { at_x = f.0.0; in_x = f.0.1; at_y = gy.0; in_y = gy.1; at_z = gz.0; in_z = gz.1 }

  -- ---- terminators and instructions

  term_here : (first : Bool) (K : ℕ → Type 0) (t : Term) → AllIn K (used_at_end t) → AllIn (Gives K) (edges_from first t) → Here first K [] t
  term_here first K t used leads = record { uses = at; leads = λ d is r h. inl (leads d is r h) }
    where
      at : (k : ℕ) → AllIn (λ r. K r ⊎ (has r (assigned_before [] k) ≡ true)) (used_at [] t k)
      at zero r is = inl (used r is)
      at (suc k) r is = cc

  instr_here : (first : Bool) (K : ℕ → Type 0) (i : Instr) (instrs : List Instr) (t : Term) → AllIn K (numbers i.operands) →
      Here first (λ r. K r ⊎ (has r (numbers i.results) ≡ true)) instrs t → Here first K (i ∷ instrs) t
  instr_here first K i instrs t used here = record { uses = at; leads = λ d is r h. move (assigned_by instrs) r (here.leads d is r h) }
    where
      move : (ys : List ℕ) (r : ℕ) → (K r ⊎ (has r (numbers i.results) ≡ true)) ⊎ (has r ys ≡ true) → K r ⊎ (has r (numbers i.results ++ ys) ≡ true)
      move ys r (inl (inl is)) = inl is
      move ys r (inl (inr is)) = inr (has_front r (numbers i.results) ys is)
      move ys r (inr is) = inr (has_back r (numbers i.results) ys is)

      at : (k : ℕ) → AllIn (λ r. K r ⊎ (has r (assigned_before (i ∷ instrs) k) ≡ true)) (used_at (i ∷ instrs) t k)
      at zero r is = inl (used r is)
      at (suc k) r is = move (assigned_before instrs k) r (here.uses k r is)

  -- ---- the ends of regions

  abbrev EndOk : Scope → Close → Type 0
  EndOk scope Returns = Unit {0}
  EndOk scope (Joins b) = Gives (λ r. has r (regs_in scope) ≡ true) b.0
  EndOk scope (Repeats h v s) = Gives (λ r. has r (regs_in scope) ≡ true) h.0 × (has v.0 (regs_in scope) ≡ true) × (has s.0 (regs_in scope) ≡ true)
  EndOk scope (Decides a e) = Gives (λ r. has r (regs_in scope) ≡ true) a.0 × Gives (λ r. has r (regs_in scope) ≡ true) e.0

  end_more : (scope scope' : Scope) (end : Close) → AllIn (λ r. has r (regs_in scope') ≡ true) (regs_in scope) → EndOk scope end → EndOk scope' end
  end_more scope scope' Returns more is = tt
  end_more scope scope' (Joins b) more is = λ r h. more r (is r h)
  end_more scope scope' (Repeats h v s) more is = ((λ r k. more r (is.0 r k)), more v.0 is.1, more s.0 is.2)
  end_more scope scope' (Decides a e) more is = ((λ r k. more r (is.0 r k)), (λ r k. more r (is.1 r k)))

  lone_edge : (K : ℕ → Type 0) (d : ℕ) → Gives K d → AllIn (Gives K) (d ∷ [])
  lone_edge K d is = all_cons (Gives K) d [] is (all_nil (Gives K))

  two_edges : (K : ℕ → Type 0) (d e : ℕ) → Gives K d → Gives K e → AllIn (Gives K) (d ∷ e ∷ [])
  two_edges K d e is more = all_cons (Gives K) d (e ∷ []) is (lone_edge K e more)

  br_here : (first : Bool) (K : ℕ → Type 0) (b : ℕ) (vs : List Reg) → AllIn K (numbers vs) → Gives K b → Here first K [] (br (block_no b) vs)
  br_here first K b vs used is = term_here first K (br (block_no b) vs) (all_append K (numbers vs) [] used (all_nil K)) (lone_edge K b is)

  close_good : (first : Bool) (K : ℕ → Type 0) (scope : Scope) (end : Close) (n : ℕ) (vs : List Reg) → EndOk scope end → AllIn K (regs_in scope) → AllIn K (numbers vs) → Good first K (close end n vs) []
  close_good first K scope Returns n vs ends known used = record { here = term_here first K (return vs) (all_append K (numbers vs) [] used (all_nil K)) (all_nil (Gives K)); blocks = tt }
  close_good first K scope (Joins b) n vs ends known used = record { here = br_here first K b.0 vs used (λ r h. known r (ends r h)); blocks = tt }
  close_good first K scope (Repeats h v s) n vs ends known used =
      let K' : ℕ → Type 0 = λ r. K r ⊎ (has r (n ∷ []) ≡ true) in
      record {
        here = instr_here first K (add (reg_no n) v s) [] (br h (reg_no n ∷ vs))
            (all_cons K v.0 (s.0 ∷ []) (known v.0 ends.1) (all_cons K s.0 [] (known s.0 ends.2) (all_nil K)))
            (br_here first K' h.0 (reg_no n ∷ vs) (all_cons K' n (numbers vs) (inr (has_here n [])) (λ r is. inl (used r is))) (λ r is. inl (known r (ends.0 r is))));
        blocks = tt;
      }
  close_good first K scope (Decides a e) n vs ends known used = record { here = br_here first K a.0 vs used (λ r h. known r (ends.0 r h)); blocks = tt }

  decide_good : (first : Bool) (K : ℕ → Type 0) (scope : Scope) (end : Close) (n : ℕ) (c : Reg) (vs : List Reg) → EndOk scope end → AllIn K (regs_in scope) → K c.0 → AllIn K (numbers vs) → Good first K (decide end n c vs) []
  decide_good first K scope Returns n c vs ends known is used = close_good first K scope Returns n vs ends known used
  decide_good first K scope (Joins b) n c vs ends known is used = close_good first K scope (Joins b) n vs ends known used
  decide_good first K scope (Repeats h v s) n c vs ends known is used = close_good first K scope (Repeats h v s) n vs ends known used
  decide_good first K scope (Decides a e) n c vs ends known is used =
      record {
        here = term_here first K (cond_br c a e vs) (all_cons K c.0 (numbers vs ++ (numbers vs ++ [])) is (all_append K (numbers vs) (numbers vs ++ []) used (all_append K (numbers vs) [] used (all_nil K))))
            (two_edges K a.0 e.0 (λ r h. known r (ends.0 r h)) (λ r h. known r (ends.1 r h)));
        blocks = tt;
      }

  -- ---- code

  abbrev Late : ℕ → Type 0
  Late j = (d : ℕ) → j ≤ d → list_at given d ≡ []

  none_late : (K : ℕ → Type 0) (j : ℕ) → Late j → Gives K j
  none_late K j late = subst (λ l. AllIn K l) (sym (late j (omega arith))) (all_nil K)

  gives_is : (K : ℕ → Type 0) (d : ℕ) (xs : List ℕ) → list_at given d ≡ xs → AllIn K xs → Gives K d
  gives_is K d xs at all = subst (λ l. AllIn K l) (sym at) all

  module _ (funcs : List Func) where
    abbrev Goods : Ops → Type 1
    Goods ops = (first : Bool) (b n j : ℕ) (scope : Scope) (end : Close) (K : ℕ → Type 0) → Closed ops (names_of scope) → EndOk scope end → AllIn K (regs_in scope) → Stand (b + 1) (entries ops n scope) → Late j →
        Good first K (code_of funcs ops b n j scope end) (entries ops n scope)

    vars_seen : (rest : Ops) (rs : List Var) (n : ℕ) (scope : Scope) → Closed rest (with_named rs (names_of scope)) → Closed rest (names_of (with_vars rs n scope))
    vars_seen rest rs n scope is = subst (λ names. Closed rest names) (sym (names_with (values_of rs) n scope)) is

    later : (j k : ℕ) → Late j → Late (j + k)
    later j k late d le = late d (omega (arith, le))

    seen : (K : ℕ → Type 0) (scope : Scope) (xs : List ValueNo) → AllIn K (regs_in scope) → SeesAll (names_of scope) xs → AllIn K (numbers (regs scope xs))
    seen K scope xs known is = all_held K (regs scope xs) (of_regs K scope xs (of_all K scope known) is)

    seen_one : (K : ℕ → Type 0) (scope : Scope) (o : Option ValueNo) → AllIn K (regs_in scope) → SeesOne (names_of scope) o → K (operand scope o).0
    seen_one K scope o known is = of_operand K scope o (of_all K scope known) is

    -- what follows a block that takes results
    behind : (rest : Ops) → Goods rest → (b n j : ℕ) (rs : List Var) (scope : Scope) (end : Close) → Closed rest (with_named rs (names_of scope)) → EndOk scope end → Stand (b + 1) (entries rest (n + length rs) (with_vars rs n scope)) → Late j →
        Good false (Knows (regs_in scope) (regs_from n rs)) (code_of funcs rest b (n + length rs) j (with_vars rs n scope) end) (entries rest (n + length rs) (with_vars rs n scope))
    behind rest goods b n j rs scope end is ends stand late =
        goods false b (n + length rs) j (with_vars rs n scope) end (Knows (regs_in scope) (regs_from n rs)) (vars_seen rest rs n scope is)
        (end_more scope (with_vars rs n scope) end (keep_values (values_of rs) n scope) ends) (more_vars rs n scope) stand late

    cond_here : (first : Bool) (K : ℕ → Type 0) (c : Reg) (d e : ℕ) → K c.0 → Gives K d → Gives K e → Here first K [] (cond_br c (block_no d) (block_no e) [])
    cond_here first K c d e is gd ge = term_here first K (cond_br c (block_no d) (block_no e) []) (all_cons K c.0 [] is (all_nil K)) (two_edges K d e gd ge)

    call_here : (first : Bool) (K : ℕ → Type 0) (a : LowAttr) (args : List Reg) (d e : ℕ) → AllIn K (numbers args) → Gives K d → Gives K e → Here first K [] (call a args (block_no d) (block_no e))
    call_here first K a args d e used gd ge = term_here first K (call a args (block_no d) (block_no e)) (all_append K (numbers args) [] used (all_nil K)) (two_edges K d e gd ge)

    await_here : (first : Bool) (K : ℕ → Type 0) (o : Reg) (d e : ℕ) → K o.0 → Gives K d → Gives K e → Here first K [] (await o (block_no d) (block_no e))
    await_here first K o d e is gd ge = term_here first K (await o (block_no d) (block_no e)) (all_cons K o.0 [] is (all_nil K)) (two_edges K d e gd ge)

    bit_good : (K : ℕ → Type 0) (n b : ℕ) (bit : LowAttr) → Gives K b → Good false K (bit_code (reg_no n) bit (block_no b)) []
    bit_good K n b bit is =
        let K' : ℕ → Type 0 = λ r. K r ⊎ (has r (n ∷ []) ≡ true) in
        record {
          here = instr_here false K (constant (reg_no n) bit) [] (br (block_no b) (reg_no n ∷ [])) (all_nil K)
              (br_here false K' b (reg_no n ∷ []) (all_cons K' n [] (inr (has_here n [])) (all_nil K')) (λ r h. inl (is r h)));
          blocks = tt;
        }

    good : (ops : Ops) → Goods ops
    good (gives vs) first b n j scope end K is ends known stand late = close_good first K scope end n (regs scope vs) ends known (seen K scope vs known is)
    good (decides c vs) first b n j scope end K is ends known stand late = decide_good first K scope end n (operand scope c) (regs scope vs) ends known (seen_one K scope c known is.0) (seen K scope vs known is.1)
    good (plain kind a args rs rest) first b n j scope end K is ends known stand late =
        let K' : ℕ → Type 0 = λ r. K r ⊎ (has r (numbers (regs_from n rs)) ≡ true) in
        let scope' : Scope = with_vars rs n scope in
        let c : Code = code_of funcs rest b (n + length rs) j scope' end in
        let all : AllIn K' (regs_in scope') = λ r h. ⊎_more (more_vars rs n scope r h) (known r) in
        let g = good rest first b (n + length rs) j scope' end K' (vars_seen rest rs n scope is.1) (end_more scope scope' end (keep_values (values_of rs) n scope) ends) all stand late in
        record { here = instr_here first K (instr kind (regs scope args) (regs_from n rs) (low_attr funcs a)) c.instrs c.term (seen K scope args known is.0) g.here; blocks = g.blocks }
      where
        ⊎_more : {A B C : Type 0} → A ⊎ B → (A → C) → C ⊎ B
        ⊎_more (inl x) f = inl (f x)
        ⊎_more (inr y) f = inr y
    good (asserts at c rest) first b n j scope end K is ends known stand late =
        let g = good rest false (b + 1) n (j + 1) scope end (Knows (regs_in scope) []) is.1 ends (λ r h. inl h) stand.1 (later j 1 late) in
        record { here = cond_here first K (operand scope c) (b + 1) j (seen_one K scope c known is.0) (gives_is K (b + 1) (regs_in scope) stand.0 known) (none_late K j late); blocks = block_good [] _ (regs_in scope) _ g }
    good (branches c on off rs rest) first b n j scope end K is ends known stand late =
        let b2 : ℕ = b + (2 + blocks_of on) in
        let b3 : ℕ = b + (3 + (blocks_of on + blocks_of off)) in
        let n3 : ℕ = n + regs_of on + regs_of off in
        let s = parts b (regs_in scope) (regs_in scope) (regs_in scope) (entries on n scope) (entries off (n + regs_of on) scope) (entries rest (n3 + length rs) (with_vars rs n3 scope)) (blocks_of on) (blocks_of off) (count_entries on n scope) (count_entries off (n + regs_of on) scope) stand in
        let join : EndOk scope (Joins (block_no b3)) = gives_is (λ r. has r (regs_in scope) ≡ true) b3 (regs_in scope) s.at_z (λ r h. h) in
        record {
          here = cond_here first K (operand scope c) (b + 1) b2 (seen_one K scope c known is.0) (gives_is K (b + 1) (regs_in scope) s.at_x known) (gives_is K b2 (regs_in scope) s.at_y known);
          blocks = three_good
              (code_of funcs on (b + 1) n j scope (Joins (block_no b3)))
              (code_of funcs off b2 (n + regs_of on) (j + failures_of on) scope (Joins (block_no b3)))
              (code_of funcs rest b3 (n3 + length rs) (j + failures_of on + failures_of off) (with_vars rs n3 scope) end)
              [] [] (regs_from n3 rs) (regs_in scope) (regs_in scope) (regs_in scope) (entries on n scope) (entries off (n + regs_of on) scope) (entries rest (n3 + length rs) (with_vars rs n3 scope))
              (good on false (b + 1) n j scope (Joins (block_no b3)) (Knows (regs_in scope) []) is.1 join (λ r h. inl h) s.in_x late)
              (good off false b2 (n + regs_of on) (j + failures_of on) scope (Joins (block_no b3)) (Knows (regs_in scope) []) is.2 join (λ r h. inl h) s.in_y (later j (failures_of on) late))
              (behind rest (good rest) b3 n3 (j + failures_of on + failures_of off) rs scope end is.3 ends s.in_z (later (j + failures_of on) (failures_of off) (later j (failures_of on) late)));
        }
    good (counts lower upper step inits params body rs rest) first b n j scope end K is ends known stand late =
        let n2 : ℕ = n + length params in
        let n3 : ℕ = n2 + 1 + regs_of body in
        let b3 : ℕ = b + (3 + blocks_of body) in
        let scope1 : Scope = with_vars params n scope in
        let scope2 : Scope = with_values rs (n + 1) scope in
        let es1 : List (List ℕ) = entries body (n2 + 1) scope1 in
        let es2 : List (List ℕ) = entries rest (n3 + 1) scope2 in
        let s = parts b (regs_in scope) (regs_in scope1) (regs_in scope2) [] es1 es2 0 (blocks_of body) refl (count_entries body (n2 + 1) scope1) stand in
        let e3 : b + (3 + (0 + blocks_of body)) ≡ b3 = omega arith in
        let at_z : list_at given b3 ≡ regs_in scope2 = subst (λ d. list_at given d ≡ regs_in scope2) e3 s.at_z in
        let in_z : Stand (b3 + 1) es2 = subst (λ d. Stand (d + 1) es2) e3 s.in_z in
        let turn : Close = Repeats (block_no (b + 1)) (reg_no n) (operand scope step) in
        let few = is.4 in
        let P : ℕ → Type 0 = λ r. has r (regs_in scope1) ≡ true in
        let kept1 : AllIn P (regs_in scope) = keep_values (values_of params) n scope in
        let own : has n (regs_in scope1) ≡ true = first_in (values_of params) n scope (let len : length (values_of params) ≡ length params = values_length params in omega (arith, len, few)) in
        let back : EndOk scope1 turn = (gives_is P (b + 1) (regs_in scope) s.at_x kept1, own, seen_one P scope step kept1 is.2) in
        let H : ℕ → Type 0 = Knows (regs_in scope) (regs_from n params) in
        let H' : ℕ → Type 0 = λ r. H r ⊎ (has r (n2 ∷ []) ≡ true) in
        let to_body : Gives H' (b + 2) = gives_is H' (b + 2) (regs_in scope1) s.at_y (λ r h. inl (more_vars params n scope r h)) in
        let to_exit : Gives H' b3 = gives_is H' b3 (regs_in scope2) at_z (λ r h. inl (exit_known r (more_values rs (n + 1) scope r h) few)) in
        let n_here : has n (numbers (regs_from n params)) ≡ true = has_from n params n (omega arith) (omega (arith, few)) in
        let more_end : EndOk scope2 end = end_more scope scope2 end (keep_values rs (n + 1) scope) ends in
        record {
          here = br_here first K (b + 1) (operand scope lower ∷ regs scope inits) (all_cons K (operand scope lower).0 (numbers (regs scope inits)) (seen_one K scope lower known is.0) (seen K scope inits known is.3)) (gives_is K (b + 1) (regs_in scope) s.at_x known);
          blocks = three_good
              (instr_then (less (reg_no n2) (reg_no n) (operand scope upper)) (ends_by (cond_br (reg_no n2) (block_no (b + 2)) (block_no b3) []) []))
              (code_of funcs body (b + 2) (n2 + 1) j scope1 turn)
              (code_of funcs rest b3 (n3 + 1) (j + failures_of body) scope2 end)
              (regs_from n params) [] [] (regs_in scope) (regs_in scope1) (regs_in scope2) [] es1 es2
              (record {
                here = instr_here false H (less (reg_no n2) (reg_no n) (operand scope upper)) [] (cond_br (reg_no n2) (block_no (b + 2)) (block_no b3) [])
                    (all_cons H n ((operand scope upper).0 ∷ []) (inr n_here) (all_cons H (operand scope upper).0 [] (seen_one H scope upper (λ r h. inl h) is.1) (all_nil H)))
                    (cond_here false H' (reg_no n2) (b + 2) b3 (inr (has_here n2 [])) to_body to_exit);
                blocks = tt;
              })
              (good body false (b + 2) (n2 + 1) j scope1 turn (Knows (regs_in scope1) []) (vars_seen body params n scope is.5) back (λ r h. inl h) s.in_y late)
              (good rest false b3 (n3 + 1) (j + failures_of body) scope2 end (Knows (regs_in scope2) []) (subst (λ names. Closed rest names) (sym (names_with rs (n + 1) scope)) is.6) more_end (λ r h. inl h) in_z (later j (failures_of body) late));
        }
      where
        exit_known : (r : ℕ) → (has r (regs_in scope) ≡ true) ⊎ (has r (numbers (regs_from (n + 1) rs)) ≡ true) → length rs < length params → Knows (regs_in scope) (regs_from n params) r
        exit_known r (inl old) few = inl old
        exit_known r (inr new) few = (let h = from_bounds (n + 1) rs r new in let l = h.0 in let u = h.1 in inr (has_from n params r (omega (arith, l)) (omega (arith, u, few))))
    good (cycles inits params before passed after rs rest) first b n j scope end K is ends known stand late =
        let b2 : ℕ = b + (2 + blocks_of before) in
        let b3 : ℕ = b + (3 + (blocks_of before + blocks_of after)) in
        let n2 : ℕ = n + length params + regs_of before in
        let n3 : ℕ = n2 + length passed + regs_of after in
        let scope1 : Scope = with_vars params n scope in
        let scope2 : Scope = with_vars passed n2 scope in
        let es1 : List (List ℕ) = entries before (n + length params) scope1 in
        let es2 : List (List ℕ) = entries after (n2 + length passed) scope2 in
        let es3 : List (List ℕ) = entries rest (n3 + length rs) (with_vars rs n3 scope) in
        let s = parts b (regs_in scope) (regs_in scope) (regs_in scope) es1 es2 es3 (blocks_of before) (blocks_of after) (count_entries before (n + length params) scope1) (count_entries after (n2 + length passed) scope2) stand in
        let P : ℕ → Type 0 = λ r. has r (regs_in scope1) ≡ true in
        let Q : ℕ → Type 0 = λ r. has r (regs_in scope2) ≡ true in
        let kept1 : AllIn P (regs_in scope) = keep_values (values_of params) n scope in
        let kept2 : AllIn Q (regs_in scope) = keep_values (values_of passed) n2 scope in
        let test : EndOk scope1 (Decides (block_no b2) (block_no b3)) = (gives_is P b2 (regs_in scope) s.at_y kept1, gives_is P b3 (regs_in scope) s.at_z kept1) in
        let back : EndOk scope2 (Joins (block_no (b + 1))) = gives_is Q (b + 1) (regs_in scope) s.at_x kept2 in
        record {
          here = br_here first K (b + 1) (regs scope inits) (seen K scope inits known is.0) (gives_is K (b + 1) (regs_in scope) s.at_x known);
          blocks = three_good
              (code_of funcs before (b + 1) (n + length params) j scope1 (Decides (block_no b2) (block_no b3)))
              (code_of funcs after b2 (n2 + length passed) (j + failures_of before) scope2 (Joins (block_no (b + 1))))
              (code_of funcs rest b3 (n3 + length rs) (j + failures_of before + failures_of after) (with_vars rs n3 scope) end)
              (regs_from n params) (regs_from n2 passed) (regs_from n3 rs) (regs_in scope) (regs_in scope) (regs_in scope) es1 es2 es3
              (good before false (b + 1) (n + length params) j scope1 (Decides (block_no b2) (block_no b3)) (Knows (regs_in scope) (regs_from n params)) (vars_seen before params n scope is.1) test (more_vars params n scope) s.in_x late)
              (good after false b2 (n2 + length passed) (j + failures_of before) scope2 (Joins (block_no (b + 1))) (Knows (regs_in scope) (regs_from n2 passed)) (vars_seen after passed n2 scope is.2) back (more_vars passed n2 scope) s.in_y (later j (failures_of before) late))
              (behind rest (good rest) b3 n3 (j + failures_of before + failures_of after) rs scope end is.3 ends s.in_z (later (j + failures_of before) (failures_of after) (later j (failures_of before) late)));
        }
    good (calls a args rs rest) first b n j scope end K is ends known stand late =
        record {
          here = call_here first K (low_attr funcs a) (regs scope args) (b + 1) j (seen K scope args known is.0) (gives_is K (b + 1) (regs_in scope) stand.0 known) (none_late K j late);
          blocks = block_good (regs_from n rs) _ (regs_in scope) _ (behind rest (good rest) (b + 1) n (j + 1) rs scope end is.1 ends stand.1 (later j 1 late));
        }
    good (tries a args rs rest) first b n j scope end K is ends known stand late =
        let es : List (List ℕ) = entries rest (n + 3 + length rs) (with_vars rs (n + 3) scope) in
        let s = parts b (regs_in scope) (regs_in scope) (regs_in scope) [] [] es 0 0 refl refl stand in
        record {
          here = call_here first K (low_attr funcs a) (regs scope args) (b + 1) (b + 2) (seen K scope args known is.0) (gives_is K (b + 1) (regs_in scope) s.at_x known) (gives_is K (b + 2) (regs_in scope) s.at_y known);
          blocks = three_good
              (bit_code (reg_no n) (low.Truth true) (block_no (b + 3))) (bit_code (reg_no (n + 2)) (low.Truth false) (block_no (b + 3)))
              (code_of funcs rest (b + 3) (n + 3 + length rs) j (with_vars rs (n + 3) scope) end)
              [] (reg_no (n + 1) ∷ []) (regs_from (n + 3) rs) (regs_in scope) (regs_in scope) (regs_in scope) [] [] es
              (bit_good (Knows (regs_in scope) []) n (b + 3) (low.Truth true) (gives_is (Knows (regs_in scope) []) (b + 3) (regs_in scope) s.at_z (λ r h. inl h)))
              (bit_good (Knows (regs_in scope) (reg_no (n + 1) ∷ [])) (n + 2) (b + 3) (low.Truth false) (gives_is (Knows (regs_in scope) (reg_no (n + 1) ∷ [])) (b + 3) (regs_in scope) s.at_z (λ r h. inl h)))
              (behind rest (good rest) (b + 3) (n + 3) j rs scope end is.1 ends s.in_z late);
        }
    good (awaits at o rs rest) first b n j scope end K is ends known stand late =
        record {
          here = await_here first K (operand scope o) (b + 1) j (seen_one K scope o known is.0) (gives_is K (b + 1) (regs_in scope) stand.0 known) (none_late K j late);
          blocks = block_good (regs_from n rs) _ (regs_in scope) _ (behind rest (good rest) (b + 1) n (j + 1) rs scope end is.1 ends stand.1 (later j 1 late));
        }

  -- ---- along paths

  each_uses : (bs : List Block) (gs : List (List ℕ)) → Each bs gs → (c : ℕ) (b : Block) → slice_get bs c ≡ Some b → (k : ℕ) →
      AllIn (λ r. Knows (list_at gs c) b.params r ⊎ (has r (assigned_before b.instrs k) ≡ true)) (used_at b.instrs b.term k)
  each_uses [] gs each c b at k = cc
  each_uses (x ∷ bs) [] each c b at k = absurd each
  each_uses (x ∷ bs) (g ∷ gs) each zero b at k =
      let e : x ≡ b = cc in
      subst (λ (y : Block). AllIn (λ r. Knows g y.params r ⊎ (has r (assigned_before y.instrs k) ≡ true)) (used_at y.instrs y.term k)) e (each.0.uses k)
  each_uses (x ∷ bs) (g ∷ gs) each (suc c) b at k = each_uses bs gs each.1 c b at k

  lead_on : (first : Bool) (g : List ℕ) (params : List Reg) (instrs : List Instr) (t : Term) → Here first (Knows g params) instrs t →
      AllIn (Gives (λ r. (has r g ≡ true) ⊎ (has r (numbers params ++ assigned_by instrs) ≡ true))) (edges_from first t)
  lead_on first g params instrs t here d is r h = move (here.leads d is r h)
    where
      move : Knows g params r ⊎ (has r (assigned_by instrs) ≡ true) → (has r g ≡ true) ⊎ (has r (numbers params ++ assigned_by instrs) ≡ true)
      move (inl (inl x)) = inl x
      move (inl (inr x)) = inr (has_front r (numbers params) (assigned_by instrs) x)
      move (inr x) = inr (has_back r (numbers params) (assigned_by instrs) x)

  each_leads : (bs : List Block) (gs : List (List ℕ)) → Each bs gs → (c : ℕ) →
      AllIn (Gives (λ r. (has r (list_at gs c) ≡ true) ⊎ (has r (list_at (map block_assigns bs) c) ≡ true))) (list_at (edges_in false bs) c)
  each_leads [] gs each c d is = cc
  each_leads (x ∷ bs) [] each c d is = absurd each
  each_leads (x ∷ bs) (g ∷ gs) each zero d is = lead_on false g x.params x.instrs x.term each.0 d is
  each_leads (x ∷ bs) (g ∷ gs) each (suc c) d is = each_leads bs gs each.1 c d is

  along : (targets sets : List (List ℕ)) → ((c : ℕ) → AllIn (Gives (λ r. (has r (list_at given c) ≡ true) ⊎ (has r (list_at sets c) ≡ true))) (list_at targets c)) →
      (path : List ℕ) (c : ℕ) → IsPath targets c path → Gives (λ r. (has r (list_at given c) ≡ true) ⊎ (has r (assigned_on sets c path) ≡ true)) (last_of c path)
  along targets sets leads [] c is r h = inl h
  along targets sets leads (d ∷ path) c is r h = elim (along targets sets leads path d is.1 r h) [
    | inl before ↦ elim (leads c d is.0.0 r before) [
      | inl x ↦ inl x
      | inr x ↦ inr (has_front r (list_at sets c) (assigned_on sets d path) x)
    ]
    | inr on ↦ inr (has_back r (list_at sets c) (assigned_on sets d path) on)
  ]

abbrev nils : List Failure → List (List ℕ)
nils [] = []
nils (x ∷ fs) = [] ∷ nils fs

at_nils : (xs : List (List ℕ)) (fs : List Failure) (d : ℕ) → length xs ≤ d → list_at (xs ++ nils fs) d ≡ []
at_nils [] [] d le = refl
at_nils [] (x ∷ fs) zero le = refl
at_nils [] (x ∷ fs) (suc d) le = at_nils [] fs d (omega arith)
at_nils (x ∷ xs) fs zero le = absurd (omega (arith, le))
at_nils (x ∷ xs) fs (suc d) le = at_nils xs fs d (omega (arith, le))

at_seam : (pre : List (List ℕ)) (x : List ℕ) (xs : List (List ℕ)) → list_at (pre ++ x ∷ xs) (length pre) ≡ x
at_seam [] x xs = refl
at_seam (y ∷ pre) x xs = at_seam pre x xs

stand_all : (pre xs : List (List ℕ)) → Stand (pre ++ xs) (length pre) xs
stand_all pre [] = tt
stand_all pre (x ∷ xs) =
    let more = stand_all (pre ++ x ∷ []) xs in
    let same : (pre ++ x ∷ []) ++ xs ≡ pre ++ x ∷ xs = append_assoc pre (x ∷ []) xs in
    let len : length (pre ++ x ∷ []) ≡ length pre + 1 = length-append pre (x ∷ []) in
    (at_seam pre x xs, subst (λ n. Stand (pre ++ x ∷ xs) n xs) len (subst (λ l. Stand l (length (pre ++ x ∷ [])) xs) same more))

failures_good : (given : List (List ℕ)) (m : ℕ) (fs : List Failure) → Each given (failure_blocks m fs) (nils fs)
failures_good given m [] = tt
failures_good given m (Constant at ∷ fs) =
    let K : ℕ → Type 0 = Knows given [] [] in
    let K' : ℕ → Type 0 = λ r. K r ⊎ (has r (m ∷ []) ≡ true) in (
      instr_here given false K (constant (reg_no m) (literal at)) [] (fail (reg_no m)) (all_nil K)
          (term_here given false K' (fail (reg_no m)) (all_cons K' m [] (inr (has_here m [])) (all_nil K')) (all_nil (Gives given K'))),
      failures_good given (m + 1) fs,
    )
failures_good given m (Passed ∷ fs) =
    let K : ℕ → Type 0 = Knows given [] (reg_no m ∷ []) in
    (term_here given false K (fail (reg_no m)) (all_cons K m [] (inr (has_here m [])) (all_nil K)) (all_nil (Gives given K)), failures_good given (m + 1) fs)

-- the first block, and those behind it
module _ (gs : List (List ℕ)) (g : List ℕ) (instrs : List Instr) (t : Term) (tail : List Block) where
  abbrev starts : List Block
  starts = record { params = []; instrs = instrs; term = t } ∷ tail

  uses_known : Here (g ∷ gs) true (Knows (g ∷ gs) g []) instrs t → Each (g ∷ gs) tail gs → (c : ℕ) (b : Block) → slice_get starts c ≡ Some b → (k : ℕ) →
      AllIn (λ r. Knows (g ∷ gs) (list_at (g ∷ gs) c) b.params r ⊎ (has r (assigned_before b.instrs k) ≡ true)) (used_at b.instrs b.term k)
  uses_known here each zero b at k =
      let x : Block = record { params = []; instrs = instrs; term = t } in
      let e : x ≡ b = cc in
      subst (λ (y : Block). AllIn (λ r. Knows (g ∷ gs) g y.params r ⊎ (has r (assigned_before y.instrs k) ≡ true)) (used_at y.instrs y.term k)) e (here.uses k)
  uses_known here each (suc c) b at k = each_uses (g ∷ gs) tail gs each c b at k

  edges_known : Here (g ∷ gs) true (Knows (g ∷ gs) g []) instrs t → Each (g ∷ gs) tail gs → (c : ℕ) →
      AllIn (Gives (g ∷ gs) (λ r. (has r (list_at (g ∷ gs) c) ≡ true) ⊎ (has r (list_at (map block_assigns starts) c) ≡ true))) (list_at (edges_in true starts) c)
  edges_known here each zero d is = lead_on (g ∷ gs) true g [] instrs t here d is
  edges_known here each (suc c) d is = each_leads (g ∷ gs) tail gs each c d is

  joined : (path : List ℕ) (b : Block) (k r : ℕ) →
      Knows (g ∷ gs) (list_at (g ∷ gs) (last_of 0 path)) b.params r ⊎ (has r (assigned_before b.instrs k) ≡ true) →
      Gives (g ∷ gs) (λ r. (has r g ≡ true) ⊎ (has r (assigned_on (map block_assigns starts) 0 path) ≡ true)) (last_of 0 path) →
      has r (g ++ (assigned_on (map block_assigns starts) 0 path ++ (numbers b.params ++ assigned_before b.instrs k))) ≡ true
  joined path b k r (inr here) along = has_back r g _ (has_back r (assigned_on (map block_assigns starts) 0 path) _ (has_back r (numbers b.params) _ here))
  joined path b k r (inl (inr param)) along = has_back r g _ (has_back r (assigned_on (map block_assigns starts) 0 path) _ (has_front r (numbers b.params) _ param))
  joined path b k r (inl (inl given)) along = elim (along r given) [
    | inl first ↦ has_front r g _ first
    | inr on ↦ has_back r g _ (has_front r (assigned_on (map block_assigns starts) 0 path) _ on)
  ]

  finished : Here (g ∷ gs) true (Knows (g ∷ gs) g []) instrs t → Each (g ∷ gs) tail gs → (path : List ℕ) (b : Block) (k r : ℕ) → IsPath (edges_in true starts) 0 path → slice_get starts (last_of 0 path) ≡ Some b →
      has r (used_at b.instrs b.term k) ≡ true → has r (g ++ (assigned_on (map block_assigns starts) 0 path ++ (numbers b.params ++ assigned_before b.instrs k))) ≡ true
  finished here each path b k r follows at used =
      joined path b k r (uses_known here each (last_of 0 path) b at k r used) (along (g ∷ gs) (edges_in true starts) (map block_assigns starts) (edges_known here each) path 0 follows)

pub all_assigned : AllAssigned
all_assigned funcs f is path b k r follows at inside used =
    let ops : Ops = func_tree f in
    let n : ℕ = length f.params in
    let scope : Scope = with_vars f.params 0 [] in
    let g : List ℕ = numbers (regs_from 0 f.params) in
    let fs : List Failure = fails_of ops in
    let es : List (List ℕ) = entries ops n scope in
    let given : List (List ℕ) = g ∷ (es ++ nils fs) in
    let c : Code = code_of funcs ops 0 n (blocks_of ops + 1) scope Returns in
    let low : LowFunc = lowered_func funcs f in
    let tail : List Block = c.blocks ++ failure_blocks (n + regs_of ops) fs in
    let count : length es ≡ blocks_of ops = count_entries ops n scope in
    let late : Late given (blocks_of ops + 1) = λ d le. at_nils (g ∷ es) fs d (omega (arith, le, count)) in
    let stand : Stand given (0 + 1) es = (stand_split given 1 es (nils fs) (stand_all (g ∷ []) (es ++ nils fs))).0 in
    let known : AllIn (Knows given g []) (regs_in scope) = λ q h. elim (more_vars f.params 0 [] q h) [
      | inl none ↦ cc
      | inr new ↦ inl new
    ] in
    let good_code : Good given true (Knows given g []) c es = good given funcs ops true 0 n (blocks_of ops + 1) scope Returns (Knows given g []) (vars_seen given funcs ops f.params 0 [] is) tt known stand late in
    let each : Each given tail (es ++ nils fs) = each_append given c.blocks es (failure_blocks (n + regs_of ops) fs) (nils fs) good_code.blocks (failures_good given (n + regs_of ops) fs) in
    finished (es ++ nils fs) g c.instrs c.term tail good_code.here each path b k r follows at used
