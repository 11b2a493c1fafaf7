-- The results of the operations, in the words of the code.
use Rattle.std.proofs.Common.{◌≡◌, ℕ, zero, suc, zero-le, ◌+◌, ◌-◌, ◌*◌, ◌/◌, ◌%◌, ◌^◌, ◌<◌, ◌≤◌, ℤ, pos, negsuc, neg_ℤ, ◌-ℤ◌, refl, sym, ◌∙◌, ap, subst, arith, bit_or, bit_and, min, max, Some, None, IfSome}
use Rattle.std.specs.Prelude.{nat_le, SomeIff, Option, bit_xor, ◌&&◌, ◌||◌, ◌==◌, cond, int_div}
use Rattle.std.specs.Int.{w64, cast_unsigned, CanDivide}
use Rattle.std.specs.Int.Bits.{and_lt}
use Rattle.std.specs.Int.Signed.{mag}
use Rattle.std.proofs.Math.Nat.{mod-le, div-le_self, mul-add-mod_self_left, div-lt_self}
use Rattle.std.proofs.Math.Pow.{pow_mono, mod-mod-pow}
use Rattle.std.proofs.lemmas.Nat.{pow_pos, or_lt, xor_lt, shr_le}
use Rattle.std.proofs.lemmas.Int.{ints}
use Rattle.std.proofs.lemmas.Bool.{cases_lt, cond-true, cond-false, lt-leb, eq-eqb, ne_eqb, cond_both, cases_eq}
use Rattle.std.proofs.lemmas.Bool.Decides.{Decides-int_eq, Decides-eqb, Decides-like, same_from_decides}
use Rattle.int_ops.specs.Arithmetic as spec
use Rattle.std.proofs.Math.Logic.{⊎_elim}
use Rattle.int_ops.specs.declared.BinOp.{BinOp}
use Rattle.int_ops.specs.declared.BinOp.TheVariants.{Add, Sub, Mul, DivS, DivU, RemU, And, Or, Xor, Shl, ShrU, MaxS, MinS, MaxU, MinU}
use Rattle.int_ops.specs.Arithmetic.{IsWidth, signed_reading, residue, arith_result, exact_result, lacks_result}
use Rattle.int_ops.proofs.Readings.{bounds, half, complement-mod, residue-below, residue-pos, reading_low, reading_high, mag-reading}

pub narrowed : (w n : ℕ) → w ≤ 64 → n % 2 ^ 64 % 2 ^ w ≡ n % 2 ^ w
narrowed w n h = let e : (64 - w) + w ≡ 64 = omega arith in subst (λ k. n % 2 ^ k % 2 ^ w ≡ n % 2 ^ w) e (mod-mod-pow n (64 - w) w)

-- ---- the operations that always have a result

pub sum_kept : (w a b : ℕ) → IsWidth w → arith_result w Add a b ≡ Some ((a + b) % 2 ^ 64 % 2 ^ w)
unfolding arith_result residue
sum_kept w a b ok = ap Some (sym (narrowed w (a + b) (bounds w ok).1))

pub product_kept : (w a b : ℕ) → IsWidth w → arith_result w Mul a b ≡ Some ((a * b) % 2 ^ 64 % 2 ^ w)
unfolding arith_result residue
product_kept w a b ok = ap Some (sym (narrowed w (a * b) (bounds w ok).1))

difference : (w a b : ℕ) → w ≤ 64 → a < 2 ^ 64 → b < 2 ^ 64 → residue w (pos a -ℤ pos b) ≡ (a + (2 ^ 64 - b)) % 2 ^ w
unfolding residue
difference w a b ok p q = ⊎_elim
    (λ less. let is : pos a -ℤ pos b ≡ negsuc (b - a - 1) = omega (arith, ints) in
    ap (residue w) is ∙ sym (complement-mod w (b - a - 1) ok (omega arith)) ∙ ap (λ n. n % 2 ^ w) (omega arith))
    (λ more. let is : pos a -ℤ pos b ≡ pos (a - b) = omega (arith, ints) in
    ap (residue w) is ∙ sym (narrowed w (a - b) ok) ∙ ap (λ n. n % 2 ^ w) (sym (mul-add-mod_self_left (2 ^ 64) 1 (a - b)) ∙ ap (λ n. n % 2 ^ 64) (omega arith)) ∙ narrowed w (a + (2 ^ 64 - b)) ok)
    (cases_lt a b)

pub difference_kept : (w a b : ℕ) → IsWidth w → a < 2 ^ 64 → b < 2 ^ 64 → arith_result w Sub a b ≡ Some ((a + (2 ^ 64 - b)) % 2 ^ 64 % 2 ^ w)
unfolding arith_result
difference_kept w a b ok p q = ap Some (difference w a b (bounds w ok).1 p q ∙ sym (narrowed w (a + (2 ^ 64 - b)) (bounds w ok).1))

pub and_kept : (w a b : ℕ) → a < 2 ^ w → b < 2 ^ w → arith_result w And a b ≡ Some (bit_and a b)
unfolding arith_result
and_kept w a b p q = ap Some (residue-pos w (bit_and a b) (and_lt w a b p q))

pub or_kept : (w a b : ℕ) → a < 2 ^ w → b < 2 ^ w → arith_result w Or a b ≡ Some (bit_or a b)
unfolding arith_result
or_kept w a b p q = ap Some (residue-pos w (bit_or a b) (or_lt w a b p q))

pub xor_kept : (w a b : ℕ) → a < 2 ^ w → b < 2 ^ w → arith_result w Xor a b ≡ Some (bit_xor a b)
unfolding arith_result
xor_kept w a b p q = ap Some (residue-pos w (bit_xor a b) (xor_lt w a b p q))

pub max_kept : (w a b : ℕ) → a < 2 ^ w → b < 2 ^ w → arith_result w MaxU a b ≡ Some (max a b)
unfolding arith_result
max_kept w a b p q = ap Some (residue-pos w (max a b) (omega arith))

pub min_kept : (w a b : ℕ) → a < 2 ^ w → b < 2 ^ w → arith_result w MinU a b ≡ Some (min a b)
unfolding arith_result
min_kept w a b p q = ap Some (residue-pos w (min a b) (omega arith))

pub signed_max_kept : (w a b : ℕ) → arith_result w MaxS a b ≡ Some (residue w (exact_result w MaxS a b))
unfolding arith_result
signed_max_kept w a b = refl

pub signed_min_kept : (w a b : ℕ) → arith_result w MinS a b ≡ Some (residue w (exact_result w MinS a b))
unfolding arith_result
signed_min_kept w a b = refl

-- ---- quotients and remainders of plain readings

-- the outcome of a division that has a result where the divisor is not 0
divides : (w a b v : ℕ) (r : Option ℕ) → v ≤ a → a < 2 ^ w → SomeIff r (0 < b) v → r ≡ cond (b == 0) None (Some (residue w (pos v)))
divides w a b v None small below h = sym (cond-true (b == 0) None (Some (residue w (pos v))) (eq-eqb b 0 (⊎_elim (λ e. e) (λ n. absurd (h (omega arith))) (cases_eq b 0))))
divides w a b v (Some x) small below h = ap Some (h.1 ∙ sym (residue-pos w v (omega arith))) ∙ sym (cond-false (b == 0) None (Some (residue w (pos v))) (ne_eqb b 0 (omega (arith, h.0))))

pub quotient_kept : (w a b : ℕ) (r : Option ℕ) → a < 2 ^ w → SomeIff r (0 < b) (a / b) → r ≡ arith_result w DivU a b
unfolding arith_result
quotient_kept w a b r below h = divides w a b (a / b) r (div-le_self a b) below h

pub remainder_kept : (w a b : ℕ) (r : Option ℕ) → a < 2 ^ w → SomeIff r (0 < b) (a % b) → r ≡ arith_result w RemU a b
unfolding arith_result
remainder_kept w a b r below h = divides w a b (a % b) r (mod-le a b) below h

-- ---- shifts

pub shl_kept : (w a b : ℕ) → IsWidth w → b < w → arith_result w Shl a b ≡ Some ((a * 2 ^ b) % 2 ^ 64 % 2 ^ w)
unfolding arith_result residue
shl_kept w a b ok h = cond-false (nat_le w b) None (Some ((a * 2 ^ b) % 2 ^ w)) (lt-leb w b h) ∙ ap Some (sym (narrowed w (a * 2 ^ b) (bounds w ok).1))

pub shr_kept : (w a b : ℕ) → a < 2 ^ w → b < w → arith_result w ShrU a b ≡ Some (a / 2 ^ b)
unfolding arith_result
shr_kept w a b below h = cond-false (nat_le w b) None (Some (residue w (pos (a / 2 ^ b)))) (lt-leb w b h) ∙ ap Some (residue-pos w (a / 2 ^ b) (omega (arith, shr_le a b)))

-- ---- all results

pub result-below : (w : ℕ) (op : BinOp) (a b : ℕ) → IfSome (arith_result w op a b) (λ c. c < 2 ^ w)
unfolding arith_result
result-below w op a b = cond_both (lacks_result w op a b) None (Some (residue w (exact_result w op a b))) (λ o. IfSome o (λ c. c < 2 ^ w)) (λ _. tt) (λ _. residue-below w (exact_result w op a b))

pub ruleset kept = (sum_kept, difference_kept, product_kept, and_kept, or_kept, xor_kept, max_kept, min_kept, signed_max_kept, signed_min_kept, quotient_kept, remainder_kept, residue-below, or_lt, xor_lt)

-- ---- signed quotients and remainders

least-negsuc : (w : ℕ) → negsuc (2 ^ (w - 1) - 1) ≡ neg_ℤ (pos (2 ^ (w - 1)))
least-negsuc w = let p = pow_pos (w - 1) in omega (arith, ints)

reading-zero : (w b : ℕ) → 0 < w → b < 2 ^ w → signed_reading w b ≡ pos 0 → b ≡ 0
reading-zero w b some h e = ⊎_elim
    (λ under. let f : pos b ≡ pos 0 = sym (reading_low w b under) ∙ e in omega (arith, ints))
    (λ over. let f : negsuc (2 ^ w - 1 - b) ≡ pos 0 = sym (reading_high w b over h) ∙ e in absurd (omega (arith, ints)))
    (cases_lt b (2 ^ (w - 1)))

least_is : (w a : ℕ) → IsWidth w → a < 2 ^ w → signed_reading w a ≡ neg_ℤ (pos (2 ^ (w - 1))) → a ≡ 2 ^ (w - 1)
least_is w a ok h e =
    let b = bounds w ok in
    let two = half w b.0 in
    let p = pow_pos (w - 1) in
    ⊎_elim
    (λ under. absurd (let f : pos a ≡ neg_ℤ (pos (2 ^ (w - 1))) = sym (reading_low w a under) ∙ e in omega (arith, ints)))
    (λ over. let f : negsuc (2 ^ w - 1 - a) ≡ neg_ℤ (pos (2 ^ (w - 1))) = sym (reading_high w a over h) ∙ e in omega (arith, ints))
    (cases_lt a (2 ^ (w - 1)))

is_least : (w a : ℕ) → IsWidth w → a < 2 ^ w → a ≡ 2 ^ (w - 1) → signed_reading w a ≡ neg_ℤ (pos (2 ^ (w - 1)))
is_least w a ok h e =
    let b = bounds w ok in
    let two = half w b.0 in
    let p = pow_pos (w - 1) in
    reading_high w a (omega arith) h ∙ omega (arith, ints)

minus_one_is : (w b : ℕ) → IsWidth w → b < 2 ^ w → signed_reading w b ≡ neg_ℤ (pos 1) → b ≡ 2 ^ w - 1
minus_one_is w b ok h e =
    ⊎_elim
    (λ under. absurd (let f : pos b ≡ neg_ℤ (pos 1) = sym (reading_low w b under) ∙ e in omega (arith, ints)))
    (λ over. let f : negsuc (2 ^ w - 1 - b) ≡ neg_ℤ (pos 1) = sym (reading_high w b over h) ∙ e in omega (arith, ints))
    (cases_lt b (2 ^ (w - 1)))

is_minus_one : (w b : ℕ) → IsWidth w → b < 2 ^ w → b ≡ 2 ^ w - 1 → signed_reading w b ≡ neg_ℤ (pos 1)
is_minus_one w b ok h e =
    let two = half w (bounds w ok).0 in
    let p = pow_pos (w - 1) in
    reading_high w b (omega arith) h ∙ omega (arith, ints)

pub least_test : (w a : ℕ) → IsWidth w → a < 2 ^ w → spec.is_least w a ≡ (a == 2 ^ (w - 1))
unfolding spec.is_least
least_test w a ok h = same_from_decides (spec.is_least w a) (a == 2 ^ (w - 1))
    (Decides-like (spec.is_least w a) (least_is w a ok h) (is_least w a ok h) (Decides-int_eq (signed_reading w a) (neg_ℤ (pos (2 ^ (w - 1))))))
    (Decides-eqb a (2 ^ (w - 1)))

pub minus_one_test : (w b : ℕ) → IsWidth w → b < 2 ^ w → spec.is_minus_one w b ≡ (b == 2 ^ w - 1)
unfolding spec.is_minus_one
minus_one_test w b ok h = same_from_decides (spec.is_minus_one w b) (b == 2 ^ w - 1)
    (Decides-like (spec.is_minus_one w b) (minus_one_is w b ok h) (is_minus_one w b ok h) (Decides-int_eq (signed_reading w b) (neg_ℤ (pos 1))))
    (Decides-eqb b (2 ^ w - 1))

-- the divisor that a division of the code's signed numbers asks for
pub nonzero_reading : (w b : ℕ) → IsWidth w → b < 2 ^ w → ¬ (b ≡ 0) → (signed_reading w b ≡ signed_reading w b) × (0 < cast_unsigned w64 (signed_reading w b))
nonzero_reading w b ok h some =
    let wide : 2 ^ w ≤ 2 ^ 64 = pow_mono {i = w} {j = 64} (bounds w ok).1 in (
      refl,
      ⊎_elim
          (λ under. subst (λ z. 0 < cast_unsigned w64 z) (sym (reading_low w b under)) (let l : 0 < b = omega arith in l))
          (λ over. subst (λ z. 0 < cast_unsigned w64 z) (sym (reading_high w b over h)) (let l : 0 < 2 ^ 64 - suc (2 ^ w - 1 - b) = omega arith in l))
          (cases_lt b (2 ^ (w - 1))),
    )

-- the quotient lies in the range of its operands, unless it is that of the least number by -1
mag-neg : (n : ℕ) → mag (neg_ℤ (pos n)) ≤ n
mag-neg zero = zero-le
mag-neg (suc n) = omega arith

pub mag-quotient : (x y : ℤ) (half : ℕ) → mag x < half → ¬ (y ≡ pos 0) → ¬ ((x ≡ negsuc (half - 1)) × (y ≡ negsuc 0)) → mag (int_div x y) < half
mag-quotient (pos a) (pos b) half h some apart = omega (arith, div-le_self a b)
mag-quotient (negsuc a) (pos b) half h some apart =
    let less = div-le_self (suc a) b in
    elim (suc a / b) as (λ n. n ≤ suc a → mag (neg_ℤ (pos n)) < half) [ zero ↦ λ l. omega arith | suc n ↦ λ l. omega arith ] less
mag-quotient (pos a) (negsuc b) half h some apart = omega (arith, div-le_self a (suc b), mag-neg (a / suc b))
mag-quotient (negsuc a) (negsuc b) half h some apart = ⊎_elim
    (λ one. let e : (negsuc b ≡ negsuc 0) = ap negsuc one in
    let less = div-le_self (suc a) (suc b) in
    let other : ¬ (a ≡ half - 1) = λ f. apart (ap negsuc f, e) in
    omega arith)
    (λ more. let less : suc a / suc b < suc a = div-lt_self (omega arith) (omega arith) in omega arith)
    (cases_eq b 0)

-- the quotient of two readings, where it is wanted
pub mag-signed_quotient : (w a b : ℕ) → IsWidth w → a < 2 ^ w → b < 2 ^ w → ¬ ((a ≡ 2 ^ (w - 1)) × (b ≡ 2 ^ w - 1)) → ¬ (b ≡ 0) → mag (int_div (signed_reading w a) (signed_reading w b)) < 2 ^ (w - 1)
mag-signed_quotient w a b ok p q apart some = mag-quotient (signed_reading w a) (signed_reading w b) (2 ^ (w - 1)) (mag-reading w a (bounds w ok).0 p)
    (λ e. some (reading-zero w b (bounds w ok).0 q e))
    (λ e. apart (least_is w a ok p (e.0 ∙ least-negsuc w), minus_one_is w b ok q e.1))

-- ---- the signed quotient

pub division_test : (w a b : ℕ) → IsWidth w → a < 2 ^ w → b < 2 ^ w → lacks_result w DivS a b ≡ (b == 0 || a == 2 ^ (w - 1) && b == 2 ^ w - 1)
division_test w a b ok p q = (λ i. b == 0 || least_test w a ok p i && minus_one_test w b ok q i)

wide : (w : ℕ) → IsWidth w → 2 ^ (w - 1) ≤ 2 ^ 63
wide w ok = pow_mono {i = w - 1} {j = 63} (omega (arith, (bounds w ok).1))

pub divisible : (w a b : ℕ) → IsWidth w → a < 2 ^ w → b < 2 ^ w → ¬ ((a ≡ 2 ^ (w - 1)) × (b ≡ 2 ^ w - 1)) → ¬ (b ≡ 0) → CanDivide w64 (signed_reading w a) (signed_reading w b)
divisible w a b ok p q apart some = ((nonzero_reading w b ok q some).1, record { sfits = omega (arith, mag-signed_quotient w a b ok p q apart some, wide w ok) })
