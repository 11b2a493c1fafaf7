-- Proofs of the laws of specs/Laws.antt.
use Rattle.std.proofs.Common.{◌≡◌, ℕ, suc, ◌-◌, ◌*◌, ◌/◌, ◌%◌, ◌^◌, ◌<◌, Bool, true, false, ℤ, pos, negsuc, neg_ℤ, ◌+ℤ◌, ◌*ℤ◌, ◌≤ℤ◌, ◌<ℤ◌, refl, sym, ◌∙◌, ap, arith, Some, None, ◌⊎◌, inl, inr}
use Rattle.std.specs.Prelude.{nat_lt, nat_le, ◌==◌, ◌&&◌, not, cond, int_lt, int_le, int_div, int_rem, unsigned_abs, is_some, IsNone}
use Rattle.std.specs.Int.{int_rem_euclid, int_min, int_max}
use Rattle.std.specs.Int.Signed.{mag, mag_rem}
use Rattle.std.proofs.Math.Nat.{mod-eq_of_lt, mod-lt, mod-one, div-add-mod'}
use Rattle.std.proofs.lemmas.Nat.{pow_pos, mod_low}
use Rattle.std.proofs.lemmas.Int.{ints, int_rem_euclid_is, quot-rem}
use Rattle.std.proofs.lemmas.Bool.{cases_lt, cases_cond, cond-false, eqb-false, leb-true, eq-eqb, ne_eqb, le-leb, false≢true, or_parts, and_from}
use Rattle.std.proofs.lemmas.Bool.Decides.{nat_tests, Decides-or, Decides-and, Decides-eqb, Decides-int_eq}
use Rattle.std.proofs.Math.Logic.{⊎_elim}
use Rattle.int_ops.specs.declared.BinOp.{BinOp}
use Rattle.int_ops.specs.declared.BinOp.TheVariants.{DivS, DivU, RemS, RemU, Shl, ShrS, ShrU}
use Rattle.int_ops.specs.Arithmetic as spec
use Rattle.int_ops.specs.Arithmetic.{IsWidth, signed_reading, residue, arith_result, compares, exact_result, lacks_result}
use Rattle.int_ops.specs.Laws as law
use Rattle.int_ops.proofs.Readings.{bounds, half, residue-below, residue-pos, residue-reading, reading_high, reading-residue, mag-reading}
use Rattle.int_ops.proofs.Results.{max_kept, min_kept, division_test, mag-signed_quotient}

-- ---- the residue

residue-multiple : (w : ℕ) (z : ℤ) → (k : ℤ) × (z ≡ pos (residue w z) +ℤ k *ℤ pos (2 ^ w))
unfolding residue
residue-multiple w (pos n) = (pos (n / 2 ^ w), omega (arith, ints, div-add-mod' n (2 ^ w)))
residue-multiple w (negsuc n) =
    let p = pow_pos w in
    let small = mod-lt n p in
    (negsuc (n / 2 ^ w), omega (arith, ints, div-add-mod' n (2 ^ w)))

residue-euclid : (w : ℕ) (z : ℤ) → pos (residue w z) ≡ int_rem_euclid z (pos (2 ^ w))
unfolding residue
residue-euclid w (pos n) = refl
residue-euclid w (negsuc n) = refl

residue-only : (w : ℕ) (z : ℤ) (n : ℕ) (k : ℤ) → n < 2 ^ w → z ≡ pos n +ℤ k *ℤ pos (2 ^ w) → n ≡ residue w z
unfolding residue
residue-only w z n (pos j) h e = sym (ap (residue w) e ∙ ap (λ m. m % 2 ^ w) (omega arith) ∙ mod_low j w n h)
residue-only w z n (negsuc j) h e =
    let sum : z +ℤ pos (suc j * 2 ^ w) ≡ pos n = omega (arith, ints) in
    sym (ap unsigned_abs (residue-euclid w z ∙ int_rem_euclid_is z (pos (2 ^ w)) (2 ^ w) (suc j) n (pow_pos w) refl sum) ∙ mod-eq_of_lt h)

pub residue_is_the_one : law.ResidueIsTheOne
residue_is_the_one w z = (residue-below w z, residue-multiple w z, residue-only w z)

-- ---- readings

pub reading_lies_in_range : law.ReadingLiesInRange
reading_lies_in_range w a ok h = in_range (2 ^ (w - 1)) (signed_reading w a) (mag-reading w a (bounds w ok).0 h)
  where
    in_range : (half : ℕ) (z : ℤ) → mag z < half → (neg_ℤ (pos half) ≤ℤ z) × (z <ℤ pos half)
    in_range half (pos n) l = (omega (arith, ints), omega (arith, ints))
    in_range half (negsuc n) l = (omega (arith, ints), omega (arith, ints))

pub reading_gives_back : law.ReadingGivesBack
reading_gives_back w a h = residue-reading w a h

pub residue_gives_back : law.ResidueGivesBack
residue_gives_back w z ok low high = reading-residue w z (bounds w ok).0 (in_half (2 ^ (w - 1)) z low high)
  where
    in_half : (half : ℕ) (z : ℤ) → neg_ℤ (pos half) ≤ℤ z → z <ℤ pos half → mag z < half
    in_half half (pos n) low high = omega (arith, ints)
    in_half half (negsuc n) low high = omega (arith, ints)

-- ---- when there is no result

none-when : (t : Bool) (v : ℕ) → IsNone (cond t None (Some v)) → t ≡ true
none-when true v h = refl
none-when false v h = cc

when-none : (t : Bool) (v : ℕ) → t ≡ true → IsNone (cond t None (Some v))
when-none t v e = ap (λ b. is_some (cond b None (Some v))) e

lacks : (w : ℕ) (op : BinOp) (a b : ℕ) → (lacks_result w op a b ≡ true → law.IsWithoutResult w op a b) × (law.IsWithoutResult w op a b → lacks_result w op a b ≡ true)
unfolding spec.is_least spec.is_minus_one
lacks w DivS a b = Decides-or (b == 0) (spec.is_least w a && spec.is_minus_one w b) (Decides-eqb b 0)
    (Decides-and (spec.is_least w a) (spec.is_minus_one w b) (Decides-int_eq (signed_reading w a) (neg_ℤ (pos (2 ^ (w - 1))))) (Decides-int_eq (signed_reading w b) (neg_ℤ (pos 1))))
lacks w DivU a b = Decides-eqb b 0
lacks w RemS a b = Decides-eqb b 0
lacks w RemU a b = Decides-eqb b 0
lacks w Shl a b = (leb-true w b, le-leb w b)
lacks w ShrS a b = (leb-true w b, le-leb w b)
lacks w ShrU a b = (leb-true w b, le-leb w b)
lacks w _ a b = (λ e. false≢true e, λ h. absurd h)

pub none_exactly_without_result : law.NoneExactlyWithoutResult
unfolding arith_result
none_exactly_without_result w op a b =
    let v = residue w (exact_result w op a b) in
    let both = lacks w op a b in
    (λ h. both.0 (none-when (lacks_result w op a b) v h), λ h. when-none (lacks_result w op a b) v (both.1 h))

-- ---- quotients and remainders

some-parts : (t : Bool) (v q : ℕ) → cond t None (Some v) ≡ Some q → (t ≡ false) × (v ≡ q)
some-parts true v q e = cc
some-parts false v q e = (refl, cc)

pub division_makes_dividend : law.DivisionMakesDividend
unfolding arith_result
division_makes_dividend w a b q r ok p s quotient remainder =
    let x = signed_reading w a in
    let y = signed_reading w b in
    let some = (bounds w ok).0 in
    let first = some-parts (lacks_result w DivS a b) (residue w (int_div x y)) q quotient in
    let second = some-parts (b == 0) (residue w (int_rem x y)) r remainder in
    let nonzero : ¬ (b ≡ 0) = eqb-false b 0 second.0 in
    let test = sym (division_test w a b ok p s) ∙ first.0 in
    let apart : ¬ ((a ≡ 2 ^ (w - 1)) × (b ≡ 2 ^ w - 1)) = λ e. false≢true (sym (or_parts (b == 0) (a == 2 ^ (w - 1) && b == 2 ^ w - 1) test).1 ∙ and_from (a == 2 ^ (w - 1)) (b == 2 ^ w - 1) (eq-eqb a (2 ^ (w - 1)) e.0) (eq-eqb b (2 ^ w - 1) e.1)) in
    let q_is : signed_reading w q ≡ int_div x y = ap (signed_reading w) (sym first.1) ∙ reading-residue w (int_div x y) some (mag-signed_quotient w a b ok p s apart nonzero) in
    let r_is : signed_reading w r ≡ int_rem x y = ap (signed_reading w) (sym second.1) ∙ reading-residue w (int_rem x y) some (omega (arith, mag_rem x y, mag-reading w a some p)) in
    (λ i. q_is i *ℤ y +ℤ r_is i) ∙ quot-rem x y

pub least_by_minus_one_leaves_nothing : law.LeastByMinusOneLeavesNothing
unfolding arith_result
least_by_minus_one_leaves_nothing w ok =
    let some = (bounds w ok).0 in
    let two = half w some in
    let p = pow_pos (w - 1) in
    let least : signed_reading w (2 ^ (w - 1)) ≡ negsuc (2 ^ w - 1 - 2 ^ (w - 1)) = reading_high w (2 ^ (w - 1)) (omega arith) (omega arith) in
    let minus_one : signed_reading w (2 ^ w - 1) ≡ negsuc 0 = reading_high w (2 ^ w - 1) (omega arith) (omega arith) ∙ ap negsuc (omega arith) in
    cond-false (2 ^ w - 1 == 0) None (Some (residue w (int_rem (signed_reading w (2 ^ (w - 1))) (signed_reading w (2 ^ w - 1))))) (ne_eqb (2 ^ w - 1) 0 (omega arith))
    ∙ (λ i. Some (residue w (int_rem (least i) (minus_one i))))
    ∙ ap (λ n. Some (residue w (neg_ℤ (pos n)))) (mod-one (suc (2 ^ w - 1 - 2 ^ (w - 1))))
    ∙ ap Some (residue-pos w 0 (omega arith))

-- ---- extremes

one-of : (w a b : ℕ) (z : ℤ) → a < 2 ^ w → b < 2 ^ w → (z ≡ signed_reading w a) ⊎ (z ≡ signed_reading w b) → (Some (residue w z) ≡ Some a) ⊎ (Some (residue w z) ≡ Some b)
one-of w a b z p q which = ⊎_elim
    (λ e. inl (ap (λ y. Some (residue w y)) e ∙ ap Some (residue-reading w a p)))
    (λ e. inr (ap (λ y. Some (residue w y)) e ∙ ap Some (residue-reading w b q)))
    which

turned : {A B : Type 0} → A ⊎ B → B ⊎ A
turned which = ⊎_elim inr inl which

pub extremes_are_operands : law.ExtremesAreOperands
unfolding arith_result
extremes_are_operands w a b p q =
    let x = signed_reading w a in
    let y = signed_reading w b in (
      one-of w a b (int_max x y) p q (cases_cond (int_lt y x) x y (int_max x y) refl),
      one-of w a b (int_min x y) p q (turned (cases_cond (int_lt y x) y x (int_min x y) refl)),
      ⊎_elim
          (λ less. inr (max_kept w a b p q ∙ ap Some (omega arith)))
          (λ more. inl (max_kept w a b p q ∙ ap Some (omega arith)))
          (cases_lt a b),
      ⊎_elim
          (λ less. inl (min_kept w a b p q ∙ ap Some (omega arith)))
          (λ more. inr (min_kept w a b p q ∙ ap Some (omega arith)))
          (cases_lt a b),
    )

-- ---- comparisons

not-lt : (a b : ℕ) → nat_le a b ≡ not (nat_lt b a)
not-lt a b = grind (arith, nat_tests)

not-int_lt : (x y : ℤ) → int_le x y ≡ not (int_lt y x)
not-int_lt (pos a) (pos b) = not-lt a b
not-int_lt (pos a) (negsuc b) = refl
not-int_lt (negsuc a) (pos b) = refl
not-int_lt (negsuc a) (negsuc b) = not-lt b a

pub predicates_complement : law.PredicatesComplement
unfolding compares
predicates_complement w a b = (refl, not-int_lt (signed_reading w b) (signed_reading w a), not-int_lt (signed_reading w a) (signed_reading w b), not-lt b a, not-lt a b)
