-- Round an instruction, the number of a counted register follows its liveness.
use Rattle.std.proofs.Common.{◌≡◌, ◌⊎◌, inl, inr, ℕ, zero, suc, ◌+◌, ◌-◌, ◌<◌, ◌≤◌, ◌==◌, ◌||◌, ◌&&◌, not, if◌then◌else◌, Bool, true, false, List, [], ◌∷◌, ◌++◌, length, take, drop, Option, Some, None, refl, sym, ap, ◌∙◌, arith, subst, add-one}
use Rattle.std.specs.Prelude.{slice_get, nat_lt, nat_le}
use Rattle.std.proofs.lemmas.Bool.Decides.{eqb_tells, nat_tests}
use Rattle.ir_forms.specs.declared.types.Ty.{Ty}
use Rattle.low_flow.specs.Lists.{has, list_at}
use Rattle.low_forms.specs.declared.code.Reg.{Reg}
use Rattle.low_forms.specs.declared.code.Instr.{Instr}
use Rattle.low_forms.specs.declared.code.Block.{Block}
use Rattle.low_forms.specs.declared.code.LowFunc.{LowFunc}
use Rattle.low_forms.specs.declared.row.Change.{Change}
use Rattle.low_forms.specs.declared.row.Change.TheVariants as change
use Rattle.low_forms.specs.Rows.{row_of}
use Rattle.low_forms.specs.Registers.{reg_type, on_type}
use Rattle.low_forms.specs.Assigned.{numbers}
use Rattle.low_forms.specs.Edges.{edges, count_to}
use Rattle.low_forms.specs.Owns.{is_object, references, uses, takes, gives, added, dropped, adds, drops, count_of}
use Rattle.liveness.specs.Flow.{live_before, over}
use Rattle.live_truths.specs.Truths.{live_sets, is_live_in, is_live}
use Rattle.own_tables.specs.Owns.{is_first, lost, got, allows, after}
use Rattle.ref_counting.specs.Objects.{is_counted, created, with_counted, used, taken, touched}
use Rattle.ref_counting.specs.Shape as shape
use Rattle.count_laws.specs.Laws.{along, allowed, one_if, IsPlain}
use Rattle.count_laws.proofs.OrderLemmas.{Ascends, ascends_counted, has_counted, none_of, or_splits}
use Rattle.count_laws.proofs.NumberLemmas as number

and_first : (a b : Bool) → (a && b) ≡ true → a ≡ true
and_first true b is = refl
and_first false b is = cc

-- ---- registers of objects

pub below : (types : List Ty) (r : ℕ) → on_type is_object (slice_get types r) ≡ true → r < length types
below [] r is = cc
below (t ∷ types) zero is = omega arith
below (t ∷ types) (suc r) is = omega (arith, below types r is)

module _ (f : LowFunc) (r : ℕ) (object : on_type is_object (slice_get f.regs r) ≡ true) where
  named_object : (q : Reg) → r ≡ q.0 → on_type is_object (reg_type f q) ≡ true
  named_object q same = subst (λ x. on_type is_object (slice_get f.regs x) ≡ true) same object

  pub count_references : (rs : List Reg) → count_to r (references f rs) ≡ count_to r (numbers rs)
  count_references [] = refl
  count_references (q ∷ rs) = step (count_references rs) (on_type is_object (reg_type f q)) refl
    where
      step : count_to r (references f rs) ≡ count_to r (numbers rs) → (b : Bool) → on_type is_object (reg_type f q) ≡ b
          → count_to r (if b then q.0 ∷ references f rs else references f rs) ≡ (if r == q.0 then count_to r (numbers rs) + 1 else count_to r (numbers rs))
      step later true is = ap (λ n. if r == q.0 then n + 1 else n) later
      step later false is = elim (eqb_tells r q.0) [
        | inl same ↦ (let e : on_type is_object (reg_type f q) ≡ true = named_object q same.1 in cc)
        | inr other ↦ later ∙ sym (ap (λ b. if b then count_to r (numbers rs) + 1 else count_to r (numbers rs)) other.0)
      ]

  has_references : (rs : List Reg) → has r (references f rs) ≡ has r (numbers rs)
  has_references [] = refl
  has_references (q ∷ rs) = step (has_references rs) (on_type is_object (reg_type f q)) refl
    where
      step : has r (references f rs) ≡ has r (numbers rs) → (b : Bool) → on_type is_object (reg_type f q) ≡ b → has r (if b then q.0 ∷ references f rs else references f rs) ≡ ((r == q.0) || has r (numbers rs))
      step later true is = ap (λ b. (r == q.0) || b) later
      step later false is = elim (eqb_tells r q.0) [
        | inl same ↦ (let e : on_type is_object (reg_type f q) ≡ true = named_object q same.1 in cc)
        | inr other ↦ later ∙ sym (ap (λ b. b || has r (numbers rs)) other.0)
      ]

  pub times_taken : (i : Instr) → shape.times r (taken i) ≡ count_to r (takes f i)
  times_taken i = step (row_of i.kind).takes
    where
      step : (b : Bool) → count_to r (numbers (if b then i.operands else [])) ≡ count_to r (if b then references f i.operands else [])
      step true = sym (count_references i.operands)
      step false = refl

  has_taken : (i : Instr) → has r (numbers (taken i)) ≡ has r (takes f i)
  has_taken i = step (row_of i.kind).takes
    where
      step : (b : Bool) → has r (numbers (if b then i.operands else [])) ≡ has r (if b then references f i.operands else [])
      step true = sym (has_references i.operands)
      step false = refl

  gives_none : (i : Instr) → has r (numbers i.results) ≡ false → count_to r (gives f i) ≡ 0
  gives_none i none = step (row_of i.kind).gives
    where
      step : (b : Bool) → count_to r (if b then references f i.results else []) ≡ 0
      step true = count_references i.results ∙ none_of r (numbers i.results) none
      step false = refl

taken_operands : (i : Instr) (r : ℕ) → has r (numbers (taken i)) ≡ true → has r (numbers i.operands) ≡ true
taken_operands i r is = step (row_of i.kind).takes is
  where
    step : (b : Bool) → has r (numbers (if b then i.operands else [])) ≡ true → has r (numbers i.operands) ≡ true
    step true there = there
    step false there = cc

numbers_take : (n : ℕ) (rs : List Reg) → numbers (take n rs) ≡ take n (numbers rs)
numbers_take zero rs = refl
numbers_take (suc n) [] = refl
numbers_take (suc n) (q ∷ rs) = ap (λ (xs : List ℕ). q.0 ∷ xs) (numbers_take n rs)

has_take : (r n : ℕ) (xs : List ℕ) → has r (take n xs) ≡ true → has r xs ≡ true
has_take r zero xs is = cc
has_take r (suc n) [] is = cc
has_take r (suc n) (x ∷ xs) is = elim (or_splits (r == x) (has r (take n xs)) is) [
  | inl now ↦ number.or_left (r == x) (has r xs) now
  | inr later ↦ number.or_right (r == x) (has r xs) (has_take r n xs later)
]

-- ---- what an instruction that counts nothing changes

module _ (f : LowFunc) (i : Instr) (r : ℕ) (nothing : (row_of i.kind).change ≡ change.Nothing) where
  lost_is : lost f i r ≡ count_to r (takes f i)
  lost_is = ap (λ (c : Change). count_to r (takes f i) + (if is_first r i.operands then dropped c (count_of i.attr) else 0)) nothing ∙ step (is_first r i.operands)
    where
      step : (b : Bool) → count_to r (takes f i) + (if b then 0 else 0) ≡ count_to r (takes f i)
      step true = omega arith
      step false = omega arith

  got_is : got f i r ≡ count_to r (gives f i)
  got_is = ap (λ (c : Change). count_to r (gives f i) + (if is_first r i.operands then added c (count_of i.attr) else 0)) nothing ∙ step (is_first r i.operands)
    where
      step : (b : Bool) → count_to r (gives f i) + (if b then 0 else 0) ≡ count_to r (gives f i)
      step true = omega arith
      step false = omega arith

-- ---- liveness before and behind a row

row_rest : (instrs : List Instr) (k : ℕ) (i : Instr) → slice_get instrs k ≡ Some i → (drop k instrs ≡ i ∷ drop (suc k) instrs) × (k < length instrs)
row_rest [] k i is = cc
row_rest (j ∷ instrs) zero i is = (let e : j ≡ i = cc in (ap (λ (x : Instr). x ∷ instrs) e, omega arith))
row_rest (j ∷ instrs) (suc k) i is = (let rest : (drop k instrs ≡ i ∷ drop (suc k) instrs) × (k < length instrs) = row_rest instrs k i is in (rest.0, omega (arith, rest.1)))

pub live_row : (f : LowFunc) (c k r : ℕ) (b : Block) → slice_get f.blocks c ≡ Some b → r < length f.regs → k ≤ length b.instrs
    → is_live f c k r ≡ live_before (drop k b.instrs) b.term (over (live_sets f) r (list_at (edges f) c)) r
unfolding is_live
live_row f c k r b at known fits =
    ap (λ x. x && is_live_in f c k r (slice_get f.blocks c)) in_range ∙ ap (λ (o : Option Block). is_live_in f c k r o) at
    ∙ ap (λ x. x && live_before (drop k b.instrs) b.term (over (live_sets f) r (list_at (edges f) c)) r) (number.le_true k (length b.instrs) fits)
  where
    in_range : nat_lt r (length f.regs) ≡ true
    in_range = grind (arith, nat_tests, known)

pub live_step : (f : LowFunc) (c k r : ℕ) (b : Block) (i : Instr) → slice_get f.blocks c ≡ Some b → slice_get b.instrs k ≡ Some i → r < length f.regs
    → is_live f c k r ≡ (has r (numbers i.operands) || (not (has r (numbers i.results)) && is_live f c (k + 1) r))
live_step f c k r b i at at_i known =
    let rest : (drop k b.instrs ≡ i ∷ drop (suc k) b.instrs) × (k < length b.instrs) = row_rest b.instrs k i at_i in
    live_row f c k r b at known (omega (arith, rest.1))
    ∙ ap (λ (rows : List Instr). live_before rows b.term (over (live_sets f) r (list_at (edges f) c)) r) rest.0
    ∙ ap (λ x. has r (numbers i.operands) || (not (has r (numbers i.results)) && x)) (sym (ap (λ n. is_live f c n r) (add-one k) ∙ live_row f c (suc k) r b at known (omega (arith, rest.1))))

-- ---- all together

abbrev behind : Bool → Bool → Bool → Bool
behind o s l1 = o || (not s && l1)

follow : (o s l1 : Bool) (g : ℕ) → (s ≡ true → behind o s l1 ≡ false) → (s ≡ true → g ≡ 1) → (s ≡ false → g ≡ 0)
    → (one_if (behind o s l1) + g) - (if (o || s) && not l1 then 1 else 0) ≡ one_if l1
follow true true l1 g fresh one none = (let e : true ≡ false = fresh refl in cc)
follow true false true g fresh one none = (let e : g ≡ 0 = none refl in omega (arith, e))
follow true false false g fresh one none = (let e : g ≡ 0 = none refl in omega (arith, e))
follow false true true g fresh one none = (let e : g ≡ 1 = one refl in omega (arith, e))
follow false true false g fresh one none = (let e : g ≡ 1 = one refl in omega (arith, e))
follow false false true g fresh one none = (let e : g ≡ 0 = none refl in omega (arith, e))
follow false false false g fresh one none = (let e : g ≡ 0 = none refl in omega (arith, e))

if_has : (r : ℕ) (xs : List ℕ) → (if has r xs then count_to r xs else 0) ≡ count_to r xs
if_has r xs = step (has r xs) refl
  where
    step : (b : Bool) → has r xs ≡ b → (if b then count_to r xs else 0) ≡ count_to r xs
    step true is = refl
    step false is = sym (none_of r xs is)

module _ (f : LowFunc) (block row r : ℕ) (b : Block) (i : Instr) (at : slice_get f.blocks block ≡ Some b) (at_i : slice_get b.instrs row ≡ Some i)
    (counted : is_counted f r ≡ true) (plain : IsPlain f block row i r) where
  object : on_type is_object (slice_get f.regs r) ≡ true
  object = and_first (on_type is_object (slice_get f.regs r)) (not (has r (created f))) counted

  abbrev o : Bool
  o = has r (numbers i.operands)

  abbrev s : Bool
  s = has r (numbers i.results)

  abbrev first : ℕ
  first = one_if (is_live f block row r)

  abbrev takes_so_many : ℕ
  takes_so_many = count_to r (takes f i)

  abbrev gives_so_many : ℕ
  gives_so_many = count_to r (gives f i)

  live_is : is_live f block row r ≡ behind o s (is_live f block (row + 1) r)
  live_is = live_step f block row r b i at at_i (below f.regs r object)

  live_operand : o ≡ true → is_live f block row r ≡ true
  live_operand is = live_is ∙ number.or_left o (not s && is_live f block (row + 1) r) is

  first_one : o ≡ true → first ≡ 1
  first_one is = ap one_if (live_operand is)

  used_is : has r (numbers (used i)) ≡ has r (uses i)
  used_is = ap (λ (xs : List ℕ). has r xs) (numbers_take (row_of i.kind).uses i.operands)

  -- what is used or taken, and that alone, is an operand
  touches : (has r (numbers (used i)) || has r (numbers (taken i))) ≡ o
  touches = step (has r (numbers (used i)) || has r (numbers (taken i))) o refl refl
    where
      step : (x y : Bool) → (has r (numbers (used i)) || has r (numbers (taken i))) ≡ x → o ≡ y → x ≡ y
      step true true is also = refl
      step false false is also = refl
      step true false is also = elim (or_splits (has r (numbers (used i))) (has r (numbers (taken i))) is) [
        | inl one ↦ (let e : o ≡ true = has_take r (row_of i.kind).uses (numbers i.operands) (sym used_is ∙ one) in cc)
        | inr one ↦ (let e : o ≡ true = taken_operands i r one in cc)
      ]
      step false true is also =
          (let e : (has r (uses i) || has r (takes f i)) ≡ true = plain.operands also in
          let u : (has r (numbers (used i)) || has r (numbers (taken i))) ≡ true =
          ap (λ x. x || has r (numbers (taken i))) used_is ∙ ap (λ x. has r (uses i) || x) (has_taken f r object i) ∙ e in
          cc)

  touched_is : has r (touched f i) ≡ (o || s)
  touched_is =
      has_counted f r counted i.results (with_counted f (taken i) (with_counted f (used i) []))
      ∙ ap (λ x. x || s) (has_counted f r counted (taken i) (with_counted f (used i) [])
      ∙ ap (λ x. x || has r (numbers (taken i))) (has_counted f r counted (used i) []) ∙ touches)

  abbrev before : List Instr
  before = shape.adds (taken i) (with_counted f (taken i) [])

  added_is : along f r before first ≡ first + takes_so_many
  added_is =
      number.along_adds f r (taken i) (with_counted f (taken i) []) first (ascends_counted f (taken i) [] tt)
      ∙ ap (λ x. first + (if x then shape.times r (taken i) else 0)) (has_counted f r counted (taken i) [])
      ∙ ap (λ n. first + n) (if_has r (numbers (taken i)) ∙ times_taken f r object i)

  after_is : after f i r (first + takes_so_many) ≡ first + gives_so_many
  after_is =
      ap (λ n. ((first + takes_so_many) - n) + got f i r) (lost_is f i r plain.counts_nothing) ∙ ap (λ n. ((first + takes_so_many) - takes_so_many) + n) (got_is f i r plain.counts_nothing)
      ∙ level first takes_so_many gives_so_many
    where
      level : (n t g : ℕ) → ((n + t) - t) + g ≡ n + g
      level n t g = omega arith

  abbrev later : List Instr
  later = shape.drops f block (row + 1) (touched f i)

  fresh_too : s ≡ true → behind o s (is_live f block (row + 1) r) ≡ false
  fresh_too is = sym live_is ∙ plain.fresh is

  dropped_is : along f r later (first + gives_so_many) ≡ one_if (is_live f block (row + 1) r)
  dropped_is =
      number.along_drops f r block (row + 1) (touched f i) (first + gives_so_many) (ascends_touched)
      ∙ ap (λ x. (first + gives_so_many) - (if x && not (is_live f block (row + 1) r) then 1 else 0)) touched_is
      ∙ ap (λ x. (one_if x + gives_so_many) - (if (o || s) && not (is_live f block (row + 1) r) then 1 else 0)) live_is
      ∙ follow o s (is_live f block (row + 1) r) gives_so_many fresh_too plain.given (gives_none f r object i)
    where
      ascends_touched : Ascends (touched f i)
      ascends_touched = ascends_counted f i.results _ (ascends_counted f (taken i) _ (ascends_counted f (used i) [] tt))

  around_is : along f r (shape.around f block row i) first ≡ one_if (is_live f block (row + 1) r)
  around_is =
      number.along_append f r before (i ∷ later) first ∙ ap (λ n. along f r later (after f i r n)) added_is ∙ ap (λ n. along f r later n) after_is ∙ dropped_is

  -- ---- each step has what it needs

  allows_it : allows f i r (first + takes_so_many) ≡ true
  allows_it = number.all_three (not (has r (uses i)) || nat_le 1 (first + takes_so_many)) (nat_le (lost f i r) (first + takes_so_many)) (not s || ((first + takes_so_many) == 0))
      (uses_one (has r (uses i)) refl)
      (number.le_true (lost f i r) (first + takes_so_many) (let e : lost f i r ≡ takes_so_many = lost_is f i r plain.counts_nothing in omega (arith, e)))
      (owns_none s refl)
    where
      uses_one : (x : Bool) → has r (uses i) ≡ x → (not x || nat_le 1 (first + takes_so_many)) ≡ true
      uses_one false is = refl
      uses_one true is = (let e : first ≡ 1 = first_one (has_take r (row_of i.kind).uses (numbers i.operands) is) in number.le_true 1 (first + takes_so_many) (omega (arith, e)))

      takes_none : s ≡ true → (x : Bool) → o ≡ x → takes_so_many ≡ 0
      takes_none is true operand = (let e : is_live f block row r ≡ true = live_operand operand in let n : is_live f block row r ≡ false = plain.fresh is in cc)
      takes_none is false operand = none_of r (takes f i) (sym (has_taken f r object i) ∙ no_take (has r (numbers (taken i))) refl)
        where
          no_take : (x : Bool) → has r (numbers (taken i)) ≡ x → x ≡ false
          no_take true take = (let e : o ≡ true = taken_operands i r take in cc)
          no_take false take = refl

      owns_none : (x : Bool) → s ≡ x → (not x || ((first + takes_so_many) == 0)) ≡ true
      owns_none false is = refl
      owns_none true is =
          let n : first ≡ 0 = ap one_if (plain.fresh is) in
          let t : takes_so_many ≡ 0 = takes_none is o refl in
          let e : first + takes_so_many ≡ 0 = omega (arith, n, t) in
          ap (λ x. x == 0) e

  enough_later : has r (touched f i) ≡ true → 1 ≤ first + gives_so_many
  enough_later there = elim (or_splits o s (sym touched_is ∙ there)) [
    | inl operand ↦ (let e : first ≡ 1 = first_one operand in omega (arith, e))
    | inr result ↦ (let e : gives_so_many ≡ 1 = plain.given result in omega (arith, e))
  ]

  allowed_around : allowed f r (shape.around f block row i) first ≡ true
  allowed_around =
      number.allowed_append f r before (i ∷ later) first
      ∙ number.and_all (allowed f r before first) (allowed f r (i ∷ later) (along f r before first))
      (number.allowed_adds f r (taken i) (with_counted f (taken i) []) first (λ there. (let e : first ≡ 1 = first_one (taken_operands i r (sym (has_counted f r counted (taken i) []) ∙ there)) in omega (arith, e))))
      (ap (λ n. allowed f r (i ∷ later) n) added_is
      ∙ number.and_all (allows f i r (first + takes_so_many)) (allowed f r later (after f i r (first + takes_so_many))) allows_it
      (ap (λ n. allowed f r later n) after_is
      ∙ number.allowed_drops f r block (row + 1) (touched f i) (first + gives_so_many)
      (ascends_counted f i.results _ (ascends_counted f (taken i) _ (ascends_counted f (used i) [] tt)))
      (λ there dead. enough_later there)))

pub rows_follow : (f : LowFunc) (block row r : ℕ) (b : Block) (i : Instr) → slice_get f.blocks block ≡ Some b → slice_get b.instrs row ≡ Some i
    → is_counted f r ≡ true → IsPlain f block row i r
    → (along f r (shape.around f block row i) (one_if (is_live f block row r)) ≡ one_if (is_live f block (row + 1) r))
    × (allowed f r (shape.around f block row i) (one_if (is_live f block row r)) ≡ true)
rows_follow f block row r b i at at_i counted plain = (around_is f block row r b i at at_i counted plain, allowed_around f block row r b i at at_i counted plain)
