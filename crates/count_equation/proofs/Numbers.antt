-- How the numbers of registers change behind an instruction.
use Rattle.std.proofs.Common.{◌≡◌, inl, inr, ℕ, suc, ◌+◌, ◌-◌, ◌≤◌, ◌==◌, ◌&&◌, ◌||◌, not, cond, if◌then◌else◌, Bool, true, false, List, [], ◌∷◌, Some, None, refl, sym, ap, ◌∙◌, arith}
use Rattle.std.specs.Prelude.{slice_get, nat_le}
use Rattle.std.proofs.lemmas.Bool.Decides.{eqb_tells, nat_tests}
use Rattle.low_flow.specs.Lists.{has}
use Rattle.low_forms.specs.declared.code.Reg.{Reg}
use Rattle.low_forms.specs.declared.code.Instr.{Instr}
use Rattle.low_forms.specs.declared.code.Block.{Block}
use Rattle.low_forms.specs.declared.code.LowFunc.{LowFunc}
use Rattle.low_forms.specs.declared.code.LowModule.{LowModule}
use Rattle.low_forms.specs.declared.row.Change.{Change}
use Rattle.low_forms.specs.declared.row.Change.TheVariants as change
use Rattle.low_forms.specs.Rows.{row_of}
use Rattle.low_forms.specs.Assigned.{numbers}
use Rattle.low_forms.specs.Edges.{count_to}
use Rattle.low_forms.specs.Owns.{references, uses, takes, gives, adds, drops, added, dropped, count_of}
use Rattle.source_meaning.specs.Values.{maybe}
use Rattle.task_stack.specs.declared.frames.Place.{Place}
use Rattle.task_stack.specs.Frames.{place_after}
use Rattle.own_tables.specs.declared.table.OwnTable.{OwnTable}
use Rattle.own_tables.specs.Numbers.{number_of}
use Rattle.own_tables.specs.Owns.{IsReached, Fits, is_object_reg, is_first, lost, got, allows}
use Rattle.count_sums.specs.Sums.{point}
use Rattle.count_sums.proofs.Sums.{AreFree, point_if, point_other}
use Rattle.count_equation.specs.Equation.{for_object, at_place}
use Rattle.count_equation.proofs.RowFacts.{Neutral, Counting}
use Rattle.count_equation.proofs.Places.{untrue}

three : (a b c : Bool) → (a && b && c) ≡ true → (b ≡ true) × (c ≡ true)
three true true true is = (refl, refl)
three true true false is = untrue is
three true false c is = untrue is
three false b c is = untrue is

none_or : (b : Bool) (n : ℕ) → n ≡ 0 → (if b then n else 0) ≡ 0
none_or true n e = e
none_or false n e = refl

pub not_or : (h z : Bool) → (not h || z) ≡ true → h ≡ true → z ≡ true
not_or true z e is = e
not_or false z e is = untrue is

pub same_number : (a b : ℕ) → (a == b) ≡ true → a ≡ b
same_number a b is = grind (arith, nat_tests)

pub within : (a b : ℕ) → nat_le a b ≡ true → a ≤ b
within a b is = grind (arith, nat_tests)

self : (r : ℕ) → (r == r) ≡ true
self r = elim (eqb_tells r r) [ inl same ↦ same.0 | inr other ↦ absurd (other.1 refl) ]

or_else_has : (a b : Bool) → b ≡ true → (a || b) ≡ true
or_else_has true b is = refl
or_else_has false b is = is

or_has : (a b : Bool) → a ≡ true → (a || b) ≡ true
or_has true b is = refl
or_has false b is = untrue is

module _ (code : LowModule) (table : OwnTable) (fits : Fits code table) (p : Place) (f : LowFunc) (b : Block) (i : Instr)
    (func_there : slice_get code.funcs p.func.0 ≡ Some f) (reached : IsReached f p.block.0) (block_there : slice_get f.blocks p.block.0 ≡ Some b) (row_there : slice_get b.instrs p.at ≡ Some i) where
  abbrev own : ℕ → ℕ
  own r = number_of table p.func.0 p.block.0 p.at r

  abbrev own' : ℕ → ℕ
  own' r = number_of table p.func.0 p.block.0 (p.at + 1) r

  now_is : (r : ℕ) → at_place code table p r ≡ for_object (own r) f r
  now_is r = ap (λ m. maybe 0 (λ g. for_object (own r) g r) m) func_there

  then_is : (r : ℕ) → at_place code table (place_after None p) r ≡ for_object (own' r) f r
  then_is r = ap (λ m. maybe 0 (λ g. for_object (own' r) g r) m) func_there

  allowed : (r : ℕ) → is_object_reg f r ≡ true → allows f i r (own r) ≡ true
  allowed r object = ((fits.owns p.func.0 f func_there).rows p.block.0 p.at r b i reached block_there row_there object).0

  after_is : (r : ℕ) → is_object_reg f r ≡ true → own' r ≡ (own r - lost f i r) + got f i r
  after_is r object =
      let next : p.at + 1 ≡ suc p.at = omega arith in
      ap (λ k. number_of table p.func.0 p.block.0 k r) next ∙ ((fits.owns p.func.0 f func_there).rows p.block.0 p.at r b i reached block_there row_there object).2

  enough : (r : ℕ) → is_object_reg f r ≡ true → lost f i r ≤ own r
  enough r object = within (lost f i r) (own r) (three (not (has r (uses i)) || nat_le 1 (own r)) (nat_le (lost f i r) (own r)) (not (has r (numbers i.results)) || (own r == 0)) (allowed r object)).0

  -- the numbers of registers of objects change so, and others have none before and behind
  module _ (less more : ℕ → ℕ) where
    pub changes : ((r : ℕ) → is_object_reg f r ≡ true → (lost f i r ≡ less r) × (got f i r ≡ more r)) → ((r : ℕ) → is_object_reg f r ≡ false → (less r ≡ 0) × (more r ≡ 0))
        → (r : ℕ) → at_place code table (place_after None p) r + less r ≡ at_place code table p r + more r
    changes objects others r = step (is_object_reg f r) refl
      where
        step : (object : Bool) → is_object_reg f r ≡ object → at_place code table (place_after None p) r + less r ≡ at_place code table p r + more r
        step true is =
            let a : at_place code table (place_after None p) r ≡ own' r = then_is r ∙ ap (λ o. cond o (own' r) 0) is in
            let c : at_place code table p r ≡ own r = now_is r ∙ ap (λ o. cond o (own r) 0) is in
            let d : own' r ≡ (own r - lost f i r) + got f i r = after_is r is in
            let e : lost f i r ≤ own r = enough r is in
            let l : lost f i r ≡ less r = (objects r is).0 in
            let g : got f i r ≡ more r = (objects r is).1 in
            omega (arith, a, c, d, e, l, g)
        step false is =
            let a : at_place code table (place_after None p) r ≡ 0 = then_is r ∙ ap (λ o. cond o (own' r) 0) is in
            let c : at_place code table p r ≡ 0 = now_is r ∙ ap (λ o. cond o (own r) 0) is in
            let l : less r ≡ 0 = (others r is).0 in
            let g : more r ≡ 0 = (others r is).1 in
            omega (arith, a, c, l, g)

  -- a result has no number before
  result_free : (r : ℕ) → has r (numbers i.results) ≡ true → at_place code table p r ≡ 0
  result_free r there = step (is_object_reg f r) refl
    where
      step : (object : Bool) → is_object_reg f r ≡ object → at_place code table p r ≡ 0
      step true is =
          let none : (own r == 0) ≡ true = not_or (has r (numbers i.results)) (own r == 0) (three (not (has r (uses i)) || nat_le 1 (own r)) (nat_le (lost f i r) (own r)) (not (has r (numbers i.results)) || (own r == 0)) (allowed r is)).1 there in
          now_is r ∙ ap (λ o. cond o (own r) 0) is ∙ same_number (own r) 0 none
      step false is = now_is r ∙ ap (λ o. cond o (own r) 0) is

  free_in : (rs : List Reg) → ((r : ℕ) → has r (numbers rs) ≡ true → has r (numbers i.results) ≡ true) → AreFree (at_place code table p) rs
  free_in [] among = tt
  free_in (r ∷ rs) among = (result_free r.0 (among r.0 (or_has (r.0 == r.0) (has r.0 (numbers rs)) (self r.0))), free_in rs (λ q there. among q (or_else_has (q == r.0) (has q (numbers rs)) there)))

  pub results_free : AreFree (at_place code table p) i.results
  results_free = free_in i.results (λ r there. there)

  -- ---- by rows

  takes_none : (r : ℕ) → (row_of i.kind).takes ≡ false → count_to r (takes f i) ≡ 0
  takes_none r e = ap (λ t. count_to r (if t then references f i.operands else [])) e

  gives_none : (r : ℕ) → (row_of i.kind).gives ≡ false → count_to r (gives f i) ≡ 0
  gives_none r e = ap (λ t. count_to r (if t then references f i.results else [])) e

  drops_are : (c : Change) → (row_of i.kind).change ≡ c → drops i ≡ dropped c (count_of i.attr)
  drops_are c e = ap (λ c. dropped c (count_of i.attr)) e

  adds_are : (c : Change) → (row_of i.kind).change ≡ c → adds i ≡ added c (count_of i.attr)
  adds_are c e = ap (λ c. added c (count_of i.attr)) e

  lost_none : (r : ℕ) → (row_of i.kind).takes ≡ false → drops i ≡ 0 → lost f i r ≡ 0
  lost_none r e none =
      let a : count_to r (takes f i) ≡ 0 = takes_none r e in
      let c : (if is_first r i.operands then drops i else 0) ≡ 0 = none_or (is_first r i.operands) (drops i) none in
      omega (arith, a, c)

  got_none : (r : ℕ) → (row_of i.kind).gives ≡ false → adds i ≡ 0 → got f i r ≡ 0
  got_none r e none =
      let a : count_to r (gives f i) ≡ 0 = gives_none r e in
      let c : (if is_first r i.operands then adds i else 0) ≡ 0 = none_or (is_first r i.operands) (adds i) none in
      omega (arith, a, c)

  pub neutral : Neutral (row_of i.kind) → (r : ℕ) → at_place code table (place_after None p) r ≡ at_place code table p r
  neutral is r =
      let a : at_place code table (place_after None p) r + 0 ≡ at_place code table p r + 0 =
      changes (λ q. 0) (λ q. 0) (λ q object. (lost_none q is.0 (drops_are change.Nothing is.2), got_none q is.1 (adds_are change.Nothing is.2))) (λ q other. (refl, refl)) r in
      omega (arith, a)

  -- the first operand
  module _ (q : Reg) (ops : List Reg) (operands : i.operands ≡ q ∷ ops) (object : is_object_reg f q.0 ≡ true) where
    first_is : (r n : ℕ) → (if is_first r i.operands then n else 0) ≡ point q.0 n r
    first_is r n = ap (λ rs. if is_first r rs then n else 0) operands ∙ point_if r q.0 n

    apart : (r n : ℕ) → is_object_reg f r ≡ false → point q.0 n r ≡ 0
    apart r n other = point_other q.0 n r (λ e. untrue (sym other ∙ ap (λ x. is_object_reg f x) (sym e) ∙ object))

    pub adding : Counting change.Adds (row_of i.kind) → (r : ℕ) → at_place code table (place_after None p) r ≡ at_place code table p r + point q.0 (count_of i.attr) r
    adding is r =
        let a : at_place code table (place_after None p) r + 0 ≡ at_place code table p r + point q.0 (count_of i.attr) r =
        changes (λ x. 0) (point q.0 (count_of i.attr))
        (λ x yes'. (
          lost_none x is.0 (drops_are change.Adds is.2),
          (let g : count_to x (gives f i) ≡ 0 = gives_none x is.1 in
              let h : (if is_first x i.operands then adds i else 0) ≡ point q.0 (count_of i.attr) x = first_is x (adds i) ∙ ap (λ n. point q.0 n x) (adds_are change.Adds is.2) in
              omega (arith, g, h)),
        ))
        (λ x other. (refl, apart x (count_of i.attr) other)) r in
        omega (arith, a)

    pub dropping : Counting change.Drops (row_of i.kind) → (r : ℕ) → at_place code table p r ≡ at_place code table (place_after None p) r + point q.0 (count_of i.attr) r
    dropping is r =
        let a : at_place code table (place_after None p) r + point q.0 (count_of i.attr) r ≡ at_place code table p r + 0 =
        changes (point q.0 (count_of i.attr)) (λ x. 0)
        (λ x yes'. (
          (let g : count_to x (takes f i) ≡ 0 = takes_none x is.0 in
              let h : (if is_first x i.operands then drops i else 0) ≡ point q.0 (count_of i.attr) x = first_is x (drops i) ∙ ap (λ n. point q.0 n x) (drops_are change.Drops is.2) in
              omega (arith, g, h)),
          got_none x is.1 (adds_are change.Drops is.2),
        ))
        (λ x other. (apart x (count_of i.attr) other, refl)) r in
        omega (arith, a)

  -- one result, which is of an object
  pub making : (q : Reg) → i.results ≡ q ∷ [] → is_object_reg f q.0 ≡ true → (row_of i.kind).takes ≡ false → (row_of i.kind).gives ≡ true → (row_of i.kind).change ≡ change.Nothing
      → (r : ℕ) → at_place code table (place_after None p) r ≡ at_place code table p r + point q.0 1 r
  making q alone object takes' gives' change' r =
      let a : at_place code table (place_after None p) r + 0 ≡ at_place code table p r + point q.0 1 r =
      changes (λ x. 0) (point q.0 1)
      (λ x yes'. (
        lost_none x takes' (drops_are change.Nothing change'),
        (let g : count_to x (gives f i) ≡ point q.0 1 x = ap (λ t. count_to x (if t then references f i.results else [])) gives' ∙ ap (λ rs. count_to x (references f rs)) alone ∙ ap (λ o. count_to x (if o then q.0 ∷ [] else [])) object ∙ point_if x q.0 1 in
            let h : (if is_first x i.operands then adds i else 0) ≡ 0 = none_or (is_first x i.operands) (adds i) (adds_are change.Nothing change') in
            omega (arith, g, h)),
      ))
      (λ x other. (refl, point_other q.0 1 x (λ e. untrue (sym other ∙ ap (λ y. is_object_reg f y) (sym e) ∙ object)))) r in
      omega (arith, a)
