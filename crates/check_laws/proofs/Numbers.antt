-- The numbers that are computed before an operation tell whether it has a result.
use Rattle.std.proofs.Common.{◌≡◌, ◌⊎◌, ◌<◌, ◌≤◌, ℕ, suc, ◌+◌, ◌-◌, ◌*◌, ◌^◌, nat_lt, nat_le, not, Bool, true, false, cond, List, [], ◌∷◌, Option, Some, None, refl, sym, ap, ap₂, subst, ◌∙◌, arith, inl, inr}
use Rattle.std.specs.Prelude.{◌&&◌, ◌||◌, ◌==◌}
use Rattle.std.specs.Option.{is_some, option_map}
use Rattle.std.proofs.Math.Nat.{mod-eq_of_lt, mod-lt}
use Rattle.std.proofs.lemmas.Nat.{pow_pos}
use Rattle.std.proofs.lemmas.Bool.{true≢false}
use Rattle.std.proofs.lemmas.Bool.Decides.{leb_tells}
use Rattle.int_ops.specs.Arithmetic.{IsWidth, lacks_result, exact_result, residue, arith_result, compares, is_least, is_minus_one}
use Rattle.int_ops.specs.declared.BinOp.{BinOp}
use Rattle.int_ops.specs.declared.BinOp.TheVariants.{DivS, And, Or}
use Rattle.int_ops.specs.declared.Pred.{Pred}
use Rattle.int_ops.specs.declared.Pred.TheVariants.{Ne, Ult, Ule}
use Rattle.ir_forms.specs.declared.ops.Attr.TheVariants as attr
use Rattle.int_ops.proofs.Results.{least_test, minus_one_test}
use Rattle.source_meaning.specs.Values.{maybe}
use Rattle.source_meaning.specs.Tasks.{Span}
use Rattle.source_meaning.specs.Rows.{bit, at_width, result_at, compared_at, cell_from, product_from, product_within, spans_of, turns_of, turns_between, are_bounds}
use Rattle.check_laws.specs.Rows.{answer, passes, DivisionIsTested, ShiftIsTested, QuotientIsTested, IsNumber, are_below, CellIsTested, are_most, products_from, products, ProductIsTested, all_bounds, all_turns, SpansAreTested}

-- ---- tests

pub passes_bit : (b : Bool) → passes (bit b) ≡ b
passes_bit true = refl
passes_bit false = refl

pub and_true : (a b : Bool) → (a && b) ≡ true → (a ≡ true) × (b ≡ true)
and_true true true e = (refl, refl)
and_true true false e = absurd (true≢false (sym e))
and_true false b e = absurd (true≢false (sym e))

pub and_assoc : (a b c : Bool) → ((a && b) && c) ≡ (a && (b && c))
and_assoc true b c = refl
and_assoc false b c = refl

result_is : (w : ℕ) (b : BinOp) (x y : ℕ) → is_some (arith_result w b x y) ≡ not (lacks_result w b x y)
unfolding arith_result
result_is w b x y = go (lacks_result w b x y) where
  go : (t : Bool) → is_some (cond t None (Some (residue w (exact_result w b x y)))) ≡ not t
  go true = refl
  go false = refl

nothing_left : (w : ℕ) → at_width w 0 ≡ 0
nothing_left w = mod-eq_of_lt (pow_pos w)

below_all : (w x : ℕ) → at_width w x < 2 ^ w
below_all w x = mod-lt x (pow_pos w)

-- ---- divisions

zero_test : (w y : ℕ) → compared_at w (attr.Pred Ne) y 0 ≡ bit (not (at_width w y == 0))
unfolding compares
zero_test w y = ap (λ z. bit (not (at_width w y == z))) (nothing_left w)

divisor_test : (w x y : ℕ) (b : BinOp) → lacks_result w b (at_width w x) (at_width w y) ≡ (at_width w y == 0) → is_some (result_at w b x y) ≡ passes (answer w Ne y 0)
divisor_test w x y b e = result_is w b (at_width w x) (at_width w y) ∙ (ap not e ∙ sym (ap passes (zero_test w y) ∙ passes_bit (not (at_width w y == 0))))

pub division_is_tested : DivisionIsTested
division_is_tested b w x y (inl e) = divisor_test w x y b (ap (λ c. lacks_result w c (at_width w x) (at_width w y)) e)
division_is_tested b w x y (inr (inl e)) = divisor_test w x y b (ap (λ c. lacks_result w c (at_width w x) (at_width w y)) e)
division_is_tested b w x y (inr (inr e)) = divisor_test w x y b (ap (λ c. lacks_result w c (at_width w x) (at_width w y)) e)

pub opposite : (a b : ℕ) → not (nat_le a b) ≡ nat_lt b a
opposite a b = go (leb_tells a b) (leb_tells (suc b) a) where
  go : ((nat_le a b ≡ true) × (a ≤ b)) ⊎ ((nat_le a b ≡ false) × (b < a)) → ((nat_lt b a ≡ true) × (suc b ≤ a)) ⊎ ((nat_lt b a ≡ false) × (a < suc b)) → not (nat_le a b) ≡ nat_lt b a
  go (inl s) (inl t) = absurd (let l : a ≤ b = s.1 in let m : suc b ≤ a = t.1 in omega arith)
  go (inl s) (inr t) = ap not s.0 ∙ sym t.0
  go (inr s) (inl t) = ap not s.0 ∙ sym t.0
  go (inr s) (inr t) = absurd (let l : b < a = s.1 in let m : a < suc b = t.1 in omega arith)

width_fits : (w : ℕ) → IsWidth w → at_width w w ≡ w
width_fits w (inl e) = subst (λ v. at_width v v ≡ v) (sym e) refl
width_fits w (inr (inl e)) = subst (λ v. at_width v v ≡ v) (sym e) refl
width_fits w (inr (inr (inl e))) = subst (λ v. at_width v v ≡ v) (sym e) refl
width_fits w (inr (inr (inr (inl e)))) = subst (λ v. at_width v v ≡ v) (sym e) refl
width_fits w (inr (inr (inr (inr e)))) = subst (λ v. at_width v v ≡ v) (sym e) refl

shift_test : (w x y : ℕ) (b : BinOp) → IsWidth w → lacks_result w b (at_width w x) (at_width w y) ≡ nat_le w (at_width w y) → is_some (result_at w b x y) ≡ passes (answer w Ult y w)
unfolding compares
shift_test w x y b ok e =
    result_is w b (at_width w x) (at_width w y) ∙ (ap not e ∙ (opposite w (at_width w y) ∙ sym (passes_bit (nat_lt (at_width w y) (at_width w w)) ∙ ap (nat_lt (at_width w y)) (width_fits w ok))))

pub shift_is_tested : ShiftIsTested
shift_is_tested b w x y (inl e) ok = shift_test w x y b ok (ap (λ c. lacks_result w c (at_width w x) (at_width w y)) e)
shift_is_tested b w x y (inr (inl e)) ok = shift_test w x y b ok (ap (λ c. lacks_result w c (at_width w x) (at_width w y)) e)
shift_is_tested b w x y (inr (inr e)) ok = shift_test w x y b ok (ap (λ c. lacks_result w c (at_width w x) (at_width w y)) e)

pub or_bits : (a b : Bool) → result_at 1 Or (bit a) (bit b) ≡ Some (bit (a || b))
unfolding arith_result residue
or_bits true true = refl
or_bits true false = refl
or_bits false true = refl
or_bits false false = refl

pub and_bits : (a b : Bool) → result_at 1 And (bit a) (bit b) ≡ Some (bit (a && b))
unfolding arith_result residue
and_bits true true = refl
and_bits true false = refl
and_bits false true = refl
and_bits false false = refl

pub some_same : (m n : ℕ) → Some m ≡ Some n → m ≡ n
some_same m n e = ap (λ o. maybe 0 (λ k. k) o) e

least_fits : (w : ℕ) → IsWidth w → at_width w (2 ^ (w - 1)) ≡ 2 ^ (w - 1)
least_fits w (inl e) = subst (λ v. at_width v (2 ^ (v - 1)) ≡ 2 ^ (v - 1)) (sym e) refl
least_fits w (inr (inl e)) = subst (λ v. at_width v (2 ^ (v - 1)) ≡ 2 ^ (v - 1)) (sym e) refl
least_fits w (inr (inr (inl e))) = subst (λ v. at_width v (2 ^ (v - 1)) ≡ 2 ^ (v - 1)) (sym e) refl
least_fits w (inr (inr (inr (inl e)))) = subst (λ v. at_width v (2 ^ (v - 1)) ≡ 2 ^ (v - 1)) (sym e) refl
least_fits w (inr (inr (inr (inr e)))) = subst (λ v. at_width v (2 ^ (v - 1)) ≡ 2 ^ (v - 1)) (sym e) refl

last_fits : (w : ℕ) → at_width w (2 ^ w - 1) ≡ 2 ^ w - 1
last_fits w = mod-eq_of_lt (let p = pow_pos w in omega arith)

unequal_test : (w y c : ℕ) → at_width w c ≡ c → answer w Ne y c ≡ bit (not (at_width w y == c))
unfolding compares
unequal_test w y c e = ap (λ z. bit (not (at_width w y == z))) e

de_morgan : (z l m : Bool) → not (z || (l && m)) ≡ (not z && (not l || not m))
de_morgan true l m = refl
de_morgan false true true = refl
de_morgan false true false = refl
de_morgan false false m = refl

pub quotient_number : (w x y : ℕ) → IsWidth w → is_some (result_at w DivS x y) ≡ (not (at_width w y == 0) && (not (at_width w x == 2 ^ (w - 1)) || not (at_width w y == 2 ^ w - 1)))
quotient_number w x y ok =
    result_is w DivS (at_width w x) (at_width w y) ∙ (de_morgan (at_width w y == 0) (is_least w (at_width w x)) (is_minus_one w (at_width w y))
    ∙ ap₂ (λ l m. not (at_width w y == 0) && (not l || not m)) (least_test w (at_width w x) ok (below_all w x)) (minus_one_test w (at_width w y) ok (below_all w y)))

pub quotient_is_tested : QuotientIsTested
quotient_is_tested w x y fits all ok e f =
    let l : Bool = not (at_width w x == 2 ^ (w - 1)) in
    let m : Bool = not (at_width w y == 2 ^ w - 1) in
    let z : Bool = not (at_width w y == 0) in
    let g : fits ≡ bit (l || m) = some_same fits (bit (l || m)) (sym e ∙ (ap₂ (result_at 1 Or) (unequal_test w x (2 ^ (w - 1)) (least_fits w ok)) (unequal_test w y (2 ^ w - 1) (last_fits w)) ∙ or_bits l m)) in
    let h : all ≡ bit (z && (l || m)) = some_same all (bit (z && (l || m))) (sym f ∙ (ap₂ (result_at 1 And) (zero_test w y) g ∙ and_bits z (l || m))) in
    quotient_number w x y ok ∙ sym (ap passes h ∙ passes_bit (z && (l || m)))

-- ---- numbers of 64 bits

pub whole : (n : ℕ) → IsNumber n → at_width 64 n ≡ n
whole n h = mod-eq_of_lt h

pub below_number : (x y : ℕ) → IsNumber x → IsNumber y → passes (answer 64 Ult x y) ≡ nat_lt x y
unfolding compares
below_number x y h g = passes_bit (nat_lt (at_width 64 x) (at_width 64 y)) ∙ ap₂ nat_lt (whole x h) (whole y g)

pub most_number : (x y : ℕ) → IsNumber x → IsNumber y → passes (answer 64 Ule x y) ≡ nat_le x y
unfolding compares
most_number x y h g = passes_bit (nat_le (at_width 64 x) (at_width 64 y)) ∙ ap₂ nat_le (whole x h) (whole y g)

pub compares_number : (p : Pred) (x y : ℕ) → IsNumber x → IsNumber y → passes (answer 64 p x y) ≡ compares 64 p x y
compares_number p x y h g = passes_bit (compares 64 p (at_width 64 x) (at_width 64 y)) ∙ ap₂ (compares 64 p) (whole x h) (whole y g)

pub cell_is_tested : CellIsTested
cell_is_tested n [] is = refl
cell_is_tested n (d ∷ ds) [] = refl
cell_is_tested n (d ∷ ds) (i ∷ is) = go (nat_lt i d) (cell_is_tested (n * d + i) ds is) where
  go : (b : Bool) → is_some (cell_from (n * d + i) ds is) ≡ are_below ds is → is_some (cond b (cell_from (n * d + i) ds is) None) ≡ (b && are_below ds is)
  go true h = h
  go false h = refl

product_step : (limit n k : ℕ) (ks : List ℕ) → (a b c d : Bool) → is_some (product_from limit (n * k) ks) ≡ (c && d) → is_some (cond (a && b) (product_from limit (n * k) ks) None) ≡ ((a && c) && (b && d))
product_step limit n k ks true true c d h = h
product_step limit n k ks true false true d h = refl
product_step limit n k ks true false false d h = refl
product_step limit n k ks false b c d h = refl

pub products_tested : (limit n : ℕ) (ks : List ℕ) → is_some (product_from limit n ks) ≡ (are_most limit ks && products_from limit n ks)
products_tested limit n [] = refl
products_tested limit n (k ∷ ks) = product_step limit n k ks (nat_le k limit) (nat_le (n * k) limit) (are_most limit ks) (products_from limit (n * k) ks) (products_tested limit (n * k) ks)

one_times : (n : ℕ) → 1 * n ≡ n
one_times n = omega arith

pub product_is_tested : ProductIsTested
product_is_tested limit [] = refl
product_is_tested limit (n ∷ ns) = products_tested limit 1 (n ∷ ns) ∙ ap (λ m. (nat_le n limit && are_most limit ns) && (nat_le m limit && products_from limit m ns)) (one_times n)

spans_tested : (ls us ss : List ℕ) → option_map turns_of (spans_of ls us ss) ≡ cond (all_bounds ls us ss) (Some (all_turns ls us ss)) None
spans_tested [] us ss = refl
spans_tested (l ∷ ls) [] ss = refl
spans_tested (l ∷ ls) (u ∷ us) [] = refl
spans_tested (l ∷ ls) (u ∷ us) (s ∷ ss) = go (are_bounds l u s) (spans_of ls us ss) (all_bounds ls us ss) (spans_tested ls us ss) where
  go : (b : Bool) (o : Option (List Span)) (c : Bool) → option_map turns_of o ≡ cond c (Some (all_turns ls us ss)) None →
      option_map turns_of (cond b (option_map (λ spans. record { lower = l; step = s; turns = turns_between l u s } ∷ spans) o) None) ≡ cond (b && c) (Some (turns_between l u s ∷ all_turns ls us ss)) None
  go true None true h = ap (option_map (λ ts. turns_between l u s ∷ ts)) h
  go true (Some spans) true h = ap (option_map (λ ts. turns_between l u s ∷ ts)) h
  go true None false h = refl
  go true (Some spans) false h = ap (option_map (λ ts. turns_between l u s ∷ ts)) h
  go false o c h = refl

pub spans_are_tested : SpansAreTested
spans_are_tested limit ls us ss = turned (spans_of ls us ss) ∙ (ap (maybe false (λ ts. is_some (product_within limit ts))) (spans_tested ls us ss) ∙ go (all_bounds ls us ss)) where
  turned : (o : Option (List Span)) → maybe false (λ spans. is_some (product_within limit (turns_of spans))) o ≡ maybe false (λ ts. is_some (product_within limit ts)) (option_map turns_of o)
  turned None = refl
  turned (Some spans) = refl

  go : (b : Bool) → maybe false (λ ts. is_some (product_within limit ts)) (cond b (Some (all_turns ls us ss)) None) ≡ (b && (are_most limit (all_turns ls us ss) && products limit (all_turns ls us ss)))
  go true = product_is_tested limit (all_turns ls us ss)
  go false = refl
