-- What the definitions come to, for proofs in other crates: at any numbers of w bits, where nothing
-- wraps, and at numbers in the lower half, which both readings read alike.
use Rattle.std.proofs.Common.{◌≡◌, ℕ, ◌+◌, ◌-◌, ◌*◌, ◌/◌, ◌%◌, ◌^◌, ◌<◌, ◌≤◌, false, pos, negsuc, neg_ℤ, ◌-ℤ◌, refl, sym, ◌∙◌, ap, arith, min, max, Some, None, inl, inr, bit_and, bit_or}
use Rattle.std.specs.Prelude.{nat_lt, nat_le, not, bit_xor, ◌==◌, ◌&&◌, int_lt, int_le, int_div, int_rem}
use Rattle.std.specs.Int.{int_min, int_max, int_div_euclid}
use Rattle.std.proofs.Math.Nat.{mod-eq_of_lt, mod-le, div-le_self, mul-add-mod_self_left}
use Rattle.std.proofs.lemmas.Nat.{pow_pos, shr_le}
use Rattle.std.proofs.lemmas.Int.{ints}
use Rattle.std.proofs.lemmas.Bool.{cond-false, ne_eqb, lt-leb, or_from, and_left, false_from_ne_true, cases_lt}
use Rattle.std.proofs.lemmas.Bool.Decides.{nat_tests, Decides-int_eq}
use Rattle.std.proofs.Math.Logic.{⊎_elim}
use Rattle.int_ops.specs.declared.Width.{Width}
use Rattle.int_ops.specs.declared.Width.TheVariants.{W1, W8, W16, W32, W64}
use Rattle.int_ops.specs.declared.BinOp.TheVariants.{Add, Sub, Mul, DivS, DivU, RemS, RemU, And, Or, Xor, Shl, ShrS, ShrU, MaxS, MinS, MaxU, MinU}
use Rattle.int_ops.specs.declared.Pred.TheVariants.{Eq, Ne, Slt, Sle, Sgt, Sge, Ult, Ule, Ugt, Uge}
use Rattle.int_ops.specs.Arithmetic as spec
use Rattle.int_ops.specs.Arithmetic.{IsWidth, bits_of, signed_reading, residue, arith_result, compares, exact_result, lacks_result}
use Rattle.int_ops.proofs.Readings.{half, residue-pos, residue-negsuc, reading_low}
use Rattle.int_ops.proofs.Results.{and_kept, or_kept, xor_kept, max_kept, min_kept, shr_kept}

-- ---- at any numbers of w bits

pub arith_result-Add : (w a b : ℕ) → arith_result w Add a b ≡ Some ((a + b) % 2 ^ w)
unfolding arith_result residue
arith_result-Add w a b = refl

pub arith_result-Sub : (w a b : ℕ) → a < 2 ^ w → b < 2 ^ w → arith_result w Sub a b ≡ Some ((a + (2 ^ w - b)) % 2 ^ w)
unfolding arith_result
arith_result-Sub w a b p q = ap Some (⊎_elim
    (λ less. let e : pos a -ℤ pos b ≡ negsuc (b - a - 1) = omega (arith, ints) in
    ap (residue w) e ∙ residue-negsuc w (b - a - 1) (omega arith) ∙ sym (mod-eq_of_lt (omega arith) ∙ omega arith))
    (λ more. let e : pos a -ℤ pos b ≡ pos (a - b) = omega (arith, ints) in
    ap (residue w) e ∙ residue-pos w (a - b) (omega arith) ∙ sym (mod-eq_of_lt (omega arith)) ∙ sym (mul-add-mod_self_left (2 ^ w) 1 (a - b)) ∙ ap (λ n. n % 2 ^ w) (omega arith))
    (cases_lt a b))

pub arith_result-Mul : (w a b : ℕ) → arith_result w Mul a b ≡ Some ((a * b) % 2 ^ w)
unfolding arith_result residue
arith_result-Mul w a b = refl

pub arith_result-DivU : (w a b : ℕ) → a < 2 ^ w → ¬ (b ≡ 0) → arith_result w DivU a b ≡ Some (a / b)
unfolding arith_result
arith_result-DivU w a b p some = cond-false (b == 0) None (Some (residue w (pos (a / b)))) (ne_eqb b 0 some) ∙ ap Some (residue-pos w (a / b) (omega (arith, div-le_self a b)))

pub arith_result-RemU : (w a b : ℕ) → a < 2 ^ w → ¬ (b ≡ 0) → arith_result w RemU a b ≡ Some (a % b)
unfolding arith_result
arith_result-RemU w a b p some = cond-false (b == 0) None (Some (residue w (pos (a % b)))) (ne_eqb b 0 some) ∙ ap Some (residue-pos w (a % b) (omega (arith, mod-le a b)))

pub arith_result-And : (w a b : ℕ) → a < 2 ^ w → b < 2 ^ w → arith_result w And a b ≡ Some (bit_and a b)
arith_result-And = and_kept

pub arith_result-Or : (w a b : ℕ) → a < 2 ^ w → b < 2 ^ w → arith_result w Or a b ≡ Some (bit_or a b)
arith_result-Or = or_kept

pub arith_result-Xor : (w a b : ℕ) → a < 2 ^ w → b < 2 ^ w → arith_result w Xor a b ≡ Some (bit_xor a b)
arith_result-Xor = xor_kept

pub arith_result-Shl : (w a b : ℕ) → b < w → arith_result w Shl a b ≡ Some ((a * 2 ^ b) % 2 ^ w)
unfolding arith_result residue
arith_result-Shl w a b h = cond-false (nat_le w b) None (Some ((a * 2 ^ b) % 2 ^ w)) (lt-leb w b h)

pub arith_result-ShrU : (w a b : ℕ) → a < 2 ^ w → b < w → arith_result w ShrU a b ≡ Some (a / 2 ^ b)
arith_result-ShrU = shr_kept

pub arith_result-MaxU : (w a b : ℕ) → a < 2 ^ w → b < 2 ^ w → arith_result w MaxU a b ≡ Some (max a b)
arith_result-MaxU = max_kept

pub arith_result-MinU : (w a b : ℕ) → a < 2 ^ w → b < 2 ^ w → arith_result w MinU a b ≡ Some (min a b)
arith_result-MinU = min_kept

-- ---- no result

pub arith_result-DivU_zero : (w a : ℕ) → arith_result w DivU a 0 ≡ None
unfolding arith_result
arith_result-DivU_zero w a = refl

pub arith_result-DivS_zero : (w a : ℕ) → arith_result w DivS a 0 ≡ None
unfolding arith_result
arith_result-DivS_zero w a = refl

pub arith_result-RemU_zero : (w a : ℕ) → arith_result w RemU a 0 ≡ None
unfolding arith_result
arith_result-RemU_zero w a = refl

pub arith_result-RemS_zero : (w a : ℕ) → arith_result w RemS a 0 ≡ None
unfolding arith_result
arith_result-RemS_zero w a = refl

-- ---- where nothing wraps

pub arith_result-Add_exact : (w a b : ℕ) → a + b < 2 ^ w → arith_result w Add a b ≡ Some (a + b)
arith_result-Add_exact w a b h = arith_result-Add w a b ∙ ap Some (mod-eq_of_lt h)

pub arith_result-Sub_exact : (w a b : ℕ) → b ≤ a → a < 2 ^ w → arith_result w Sub a b ≡ Some (a - b)
unfolding arith_result
arith_result-Sub_exact w a b h p = let e : pos a -ℤ pos b ≡ pos (a - b) = omega (arith, ints) in ap (λ z. Some (residue w z)) e ∙ ap Some (residue-pos w (a - b) (omega arith))

pub arith_result-Mul_exact : (w a b : ℕ) → a * b < 2 ^ w → arith_result w Mul a b ≡ Some (a * b)
arith_result-Mul_exact w a b h = arith_result-Mul w a b ∙ ap Some (mod-eq_of_lt h)

pub arith_result-Shl_exact : (w a b : ℕ) → b < w → a * 2 ^ b < 2 ^ w → arith_result w Shl a b ≡ Some (a * 2 ^ b)
arith_result-Shl_exact w a b p h = arith_result-Shl w a b p ∙ ap Some (mod-eq_of_lt h)

-- ---- at numbers in the lower half

module _ (w a b : ℕ) (some : 0 < w) (p : a < 2 ^ (w - 1)) (q : b < 2 ^ (w - 1)) where
  kept : (n : ℕ) → n ≤ max a b → Some (residue w (pos n)) ≡ Some n
  kept n h = ap Some (residue-pos w n (omega (arith, half w some)))

  not_least : spec.is_least w a ≡ false
  unfolding spec.is_least
  not_least = false_from_ne_true (spec.is_least w a) (λ e.
      let f : pos a ≡ neg_ℤ (pos (2 ^ (w - 1))) = sym (reading_low w a p) ∙ (Decides-int_eq (signed_reading w a) (neg_ℤ (pos (2 ^ (w - 1))))).0 e in
      let g = pow_pos (w - 1) in
      omega (arith, ints))

  pub arith_result-DivS_low : ¬ (b ≡ 0) → arith_result w DivS a b ≡ Some (a / b)
  unfolding arith_result
  arith_result-DivS_low more =
      cond-false (lacks_result w DivS a b) None (Some (residue w (exact_result w DivS a b)))
      (or_from (b == 0) (spec.is_least w a && spec.is_minus_one w b) (ne_eqb b 0 more) (and_left (spec.is_least w a) (spec.is_minus_one w b) not_least))
      ∙ (λ i. Some (residue w (int_div (reading_low w a p i) (reading_low w b q i))))
      ∙ kept (a / b) (omega (arith, div-le_self a b))

  pub arith_result-RemS_low : ¬ (b ≡ 0) → arith_result w RemS a b ≡ Some (a % b)
  unfolding arith_result
  arith_result-RemS_low more =
      cond-false (b == 0) None (Some (residue w (exact_result w RemS a b))) (ne_eqb b 0 more)
      ∙ (λ i. Some (residue w (int_rem (reading_low w a p i) (reading_low w b q i))))
      ∙ kept (a % b) (omega (arith, mod-le a b))

  pub arith_result-ShrS_low : b < w → arith_result w ShrS a b ≡ Some (a / 2 ^ b)
  unfolding arith_result
  arith_result-ShrS_low less =
      cond-false (nat_le w b) None (Some (residue w (exact_result w ShrS a b))) (lt-leb w b less)
      ∙ (λ i. Some (residue w (int_div_euclid (reading_low w a p i) (pos (2 ^ b)))))
      ∙ kept (a / 2 ^ b) (omega (arith, shr_le a b))

  pub arith_result-MaxS_low : arith_result w MaxS a b ≡ Some (max a b)
  unfolding arith_result
  arith_result-MaxS_low =
      (λ i. Some (residue w (int_max (reading_low w a p i) (reading_low w b q i))))
      ∙ ap (λ z. Some (residue w z)) (let e : int_max (pos a) (pos b) ≡ pos (max a b) = grind (arith, nat_tests) in e)
      ∙ kept (max a b) (omega arith)

  pub arith_result-MinS_low : arith_result w MinS a b ≡ Some (min a b)
  unfolding arith_result
  arith_result-MinS_low =
      (λ i. Some (residue w (int_min (reading_low w a p i) (reading_low w b q i))))
      ∙ ap (λ z. Some (residue w z)) (let e : int_min (pos a) (pos b) ≡ pos (min a b) = grind (arith, nat_tests) in e)
      ∙ kept (min a b) (omega arith)

  pub compares-Slt_low : compares w Slt a b ≡ nat_lt a b
  unfolding compares
  compares-Slt_low i = int_lt (reading_low w a p i) (reading_low w b q i)

  pub compares-Sle_low : compares w Sle a b ≡ nat_le a b
  unfolding compares
  compares-Sle_low i = int_le (reading_low w a p i) (reading_low w b q i)

  pub compares-Sgt_low : compares w Sgt a b ≡ nat_lt b a
  unfolding compares
  compares-Sgt_low i = int_lt (reading_low w b q i) (reading_low w a p i)

  pub compares-Sge_low : compares w Sge a b ≡ nat_le b a
  unfolding compares
  compares-Sge_low i = int_le (reading_low w b q i) (reading_low w a p i)

-- ---- comparisons of plain readings

pub compares-Eq : (w a b : ℕ) → compares w Eq a b ≡ (a == b)
unfolding compares
compares-Eq w a b = refl

pub compares-Ne : (w a b : ℕ) → compares w Ne a b ≡ not (a == b)
unfolding compares
compares-Ne w a b = refl

pub compares-Ult : (w a b : ℕ) → compares w Ult a b ≡ nat_lt a b
unfolding compares
compares-Ult w a b = refl

pub compares-Ule : (w a b : ℕ) → compares w Ule a b ≡ nat_le a b
unfolding compares
compares-Ule w a b = refl

pub compares-Ugt : (w a b : ℕ) → compares w Ugt a b ≡ nat_lt b a
unfolding compares
compares-Ugt w a b = refl

pub compares-Uge : (w a b : ℕ) → compares w Uge a b ≡ nat_le b a
unfolding compares
compares-Uge w a b = refl

-- ---- widths

pub IsWidth-bits_of : (width : Width) → IsWidth (bits_of width)
IsWidth-bits_of W1 = inl refl
IsWidth-bits_of W8 = inr (inl refl)
IsWidth-bits_of W16 = inr (inr (inl refl))
IsWidth-bits_of W32 = inr (inr (inr (inl refl)))
IsWidth-bits_of W64 = inr (inr (inr (inr refl)))
