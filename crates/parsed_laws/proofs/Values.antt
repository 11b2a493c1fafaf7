-- The values of a function that is read are numbered from 0 on in the order of the text.
use Rattle.std.proofs.Common.{◌≡◌, ℕ, zero, suc, ◌+◌, List, [], ◌∷◌, ◌++◌, length, map, Some, slice_get, refl, sym, ap, ap₂, ◌∙◌, subst, arith}
use Rattle.std.proofs.lemmas.List.{length-append}
use Rattle.op_table.specs.declared.rows.Level.{Level}
use Rattle.ir_forms.specs.declared.ops.Func.{Func}
use Rattle.ir_forms.specs.declared.ops.Op.{Op, Op-F, roll-Op}
use Rattle.ir_forms.specs.declared.ops.Op.TheFolds.{fold-roll-Op, fold-roll-Region}
use Rattle.ir_forms.specs.declared.ops.Region.{Region, Region-F, roll-Region}
use Rattle.ir_forms.specs.declared.ops.ValueNo.{ValueNo}
use Rattle.source_meaning.specs.Parts.{joined, names_of}
use Rattle.value_numbers.specs.Numbers.{op_values, region_values, values_in, values_inside, values_of, as_numbers}
use Rattle.number_laws.specs.Laws.{IsDistinct, numbers_from}
use Rattle.checked_values.specs.Laws.{DefinesOnce, IsInOrder}
use Rattle.mlir_print.specs.Printable.{NumberOn, Scope}
use Rattle.read_forms.proofs.Shows.{Piece, Shows}
use Rattle.read_forms.proofs.Outcomes.{FuncShows}

-- ---- numbers that go on

on-append : (n : ℕ) (us vs : List ValueNo) → NumberOn n us → NumberOn (n + length us) vs → NumberOn n (us ++ vs)
on-append n [] vs h g = let e : n + 0 ≡ n = omega arith in subst (λ (k : ℕ). NumberOn k vs) e g
on-append n (u ∷ us) vs h g =
    let e : n + suc (length us) ≡ n + 1 + length us = omega arith in
    (h.0, h.1, on-append (n + 1) us vs h.2 (subst (λ (k : ℕ). NumberOn k vs) e g))

-- the values have the numbers from one on to before another
abbrev Fill : ℕ → ℕ → List ValueNo → Type 0
Fill n end vs = NumberOn n vs × (end ≡ n + length vs)

both : (n m end : ℕ) (us vs : List ValueNo) → Fill n m us → Fill m end vs → Fill n end (us ++ vs)
both n m end us vs h g =
    let first = h.1 in
    let second = g.1 in
    let all = length-append us vs in
    (on-append n us vs h.0 (subst (λ (k : ℕ). NumberOn k vs) first g.0), omega (arith, first, second, all))

-- ---- what is read

abbrev values_at : Piece → List ValueNo
values_at (Piece.Ops ops) = joined (map values_in ops)
values_at (Piece.Regions k types i regions) = joined (map values_inside regions)

op-values : (x : Op-F Op Region) → values_in (roll-Op x) ≡ x.results ++ joined (map values_inside x.regions)
op-values x = fold-roll-Op (List ValueNo) (List ValueNo) op_values region_values x

region-values : (y : Region-F Op Region) → values_inside (roll-Region y) ≡ names_of y.params ++ joined (map values_in y.ops)
region-values y = fold-roll-Region (List ValueNo) (List ValueNo) op_values region_values y

filled : (level : Level) (p : Piece) (a b : Scope) → Shows level p a b → Fill a.next b.next (values_at p)
filled level _ _ _ (Shows.no_ops s) = (tt, omega arith)
filled level _ _ _ (Shows.one_op x os s inner end st f n r u regions more) =
    let held : List ValueNo = joined (map values_inside x.regions) in
    let rest : List ValueNo = joined (map values_in os) in
    let here : Fill s.next inner.next (x.results ++ held) =
    both s.next (s.next + length x.results) inner.next x.results held (r, refl) (filled level _ _ _ regions) in
    both s.next inner.next end.next (values_in (roll-Op x)) rest (subst (Fill s.next inner.next) (sym (op-values x)) here) (filled level _ _ _ more)
filled level _ _ _ (Shows.no_regions k ts i s) = (tt, omega arith)
filled level _ _ _ (Shows.region k ts i y rs s inner end n e ops more) =
    let held : List ValueNo = joined (map values_in y.ops) in
    let rest : List ValueNo = joined (map values_inside rs) in
    let here : Fill s.next inner.next (names_of y.params ++ held) =
    both s.next (s.next + length (names_of y.params)) inner.next (names_of y.params) held (n, refl) (filled level _ _ _ ops) in
    both s.next inner.next end.next (values_inside (roll-Region y)) rest (subst (Fill s.next inner.next) (sym (region-values y)) here) (filled level _ _ _ more)

-- ---- a function

numbers : (n : ℕ) (vs : List ValueNo) → NumberOn n vs → as_numbers vs ≡ numbers_from n (length vs)
numbers n [] h = refl
numbers n (v ∷ vs) h = ap₂ (λ (x : ℕ) (xs : List ℕ). x ∷ xs) h.0 (numbers (n + 1) vs h.2)

pub numbered : (level : Level) (f : Func) → FuncShows level f → NumberOn 0 (values_of f)
numbered level f h =
    let y : Region-F Op Region = record { params = []; ops = h.ops } in
    let held : List ValueNo = joined (map values_in h.ops) in
    let body : values_inside f.body ≡ held = ap values_inside h.body ∙ region-values y in
    let all : Fill 0 h.end.next (names_of f.params ++ held) =
    both 0 (0 + length (names_of f.params)) h.end.next (names_of f.params) held (h.named, refl) (filled level _ _ _ h.shows) in
    subst (λ (vs : List ValueNo). NumberOn 0 (names_of f.params ++ vs)) (sym body) all.0

pub in_order : (level : Level) (f : Func) → FuncShows level f → IsInOrder f
in_order level f h = numbers 0 (values_of f) (numbered level f h)

-- ---- no number twice

number-at : (n k i x : ℕ) → slice_get (numbers_from n k) i ≡ Some x → x ≡ n + i
number-at n zero i x at = cc
number-at n (suc k) zero x at = let same : n ≡ x = cc in omega (arith, same)
number-at n (suc k) (suc i) x at = let h = number-at (n + 1) k i x at in omega (arith, h)

distinct : (n k : ℕ) → IsDistinct (numbers_from n k)
distinct n k i j x one other =
    let a = number-at n k i x one in
    let b = number-at n k j x other in
    omega (arith, a, b)

pub once : (f : Func) → IsInOrder f → DefinesOnce f
once f h = subst (λ (xs : List ℕ). IsDistinct xs) (sym h) (distinct 0 (length (values_of f)))
