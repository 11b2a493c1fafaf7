-- Signed readings, residues and what the code's words of 64 bits make of them.
use Rattle.std.proofs.Common.{◌≡◌, ℕ, suc, ◌+◌, ◌-◌, ◌*◌, ◌/◌, ◌%◌, ◌^◌, ◌<◌, ◌≤◌, ℤ, pos, negsuc, ◌-ℤ◌, refl, sym, ◌∙◌, ap, subst, arith, bit_or}
use Rattle.std.specs.Prelude.{nat_lt, FitsSigned}
use Rattle.std.specs.Int.Signed.{mag}
use Rattle.std.specs.Int.{w64, cast_signed, cast_unsigned}
use Rattle.std.proofs.Math.Nat.{two-pow-succ, mod-eq_of_lt, div-eq_of_lt, mod-lt, div-add-mod'}
use Rattle.std.proofs.Math.Pow.{pow_mono, pow-add, high_ones, low}
use Rattle.std.proofs.lemmas.Nat.{pow_pos, or_shifted, or_comm, le-div, div_below}
use Rattle.std.proofs.lemmas.Int.{ints, of_z-to_z}
use Rattle.std.proofs.lemmas.Bool.{cases_lt, cond-true, cond-false, lt-ltb, le-ltb}
use Rattle.std.proofs.Math.Logic.{⊎_elim}
use Rattle.int_ops.specs.Arithmetic.{IsWidth, signed_reading, residue, sign_extended}

pub bounds : (w : ℕ) → IsWidth w → (0 < w) × (w ≤ 64)
bounds w h = (omega arith, omega arith)

pub half : (w : ℕ) → 0 < w → 2 ^ w ≡ 2 ^ (w - 1) + 2 ^ (w - 1)
half w h = let e : suc (w - 1) ≡ w = omega arith in subst (λ k. 2 ^ k ≡ 2 ^ (w - 1) + 2 ^ (w - 1)) e (two-pow-succ (w - 1))

-- ---- the two cases of a signed reading

pub reading_low : (w a : ℕ) → a < 2 ^ (w - 1) → signed_reading w a ≡ pos a
unfolding signed_reading
reading_low w a h = cond-true (nat_lt a (2 ^ (w - 1))) (pos a) (pos a -ℤ pos (2 ^ w)) (lt-ltb a (2 ^ (w - 1)) h)

pub reading_high : (w a : ℕ) → 2 ^ (w - 1) ≤ a → a < 2 ^ w → signed_reading w a ≡ negsuc (2 ^ w - 1 - a)
unfolding signed_reading
reading_high w a h below =
    cond-false (nat_lt a (2 ^ (w - 1))) (pos a) (pos a -ℤ pos (2 ^ w)) (le-ltb a (2 ^ (w - 1)) h) ∙ omega (arith, ints)

-- ---- residues

pub residue-pos : (w n : ℕ) → n < 2 ^ w → residue w (pos n) ≡ n
unfolding residue
residue-pos w n h = mod-eq_of_lt h

pub residue-negsuc : (w n : ℕ) → n < 2 ^ w → residue w (negsuc n) ≡ 2 ^ w - 1 - n
unfolding residue
residue-negsuc w n h = ap (λ r. 2 ^ w - 1 - r) (mod-eq_of_lt h)

pub residue-below : (w : ℕ) (z : ℤ) → residue w z < 2 ^ w
unfolding residue
residue-below w (pos n) = mod-lt n (pow_pos w)
residue-below w (negsuc n) = omega (arith, pow_pos w)

pub residue-reading : (w a : ℕ) → a < 2 ^ w → residue w (signed_reading w a) ≡ a
residue-reading w a h = ⊎_elim
    (λ under. ap (residue w) (reading_low w a under) ∙ residue-pos w a h)
    (λ over. ap (residue w) (reading_high w a over h) ∙ residue-negsuc w (2 ^ w - 1 - a) (omega arith) ∙ omega arith)
    (cases_lt a (2 ^ (w - 1)))

-- a reading lies in the lower half or is as far below zero
pub mag-reading : (w a : ℕ) → 0 < w → a < 2 ^ w → mag (signed_reading w a) < 2 ^ (w - 1)
mag-reading w a some h =
    let two = half w some in
    let p = pow_pos (w - 1) in
    ⊎_elim
    (λ under. subst (λ z. mag z < 2 ^ (w - 1)) (sym (reading_low w a under)) under)
    (λ over. subst (λ z. mag z < 2 ^ (w - 1)) (sym (reading_high w a over h)) (let l : 2 ^ w - 1 - a < 2 ^ (w - 1) = omega arith in l))
    (cases_lt a (2 ^ (w - 1)))

pub reading-residue : (w : ℕ) (z : ℤ) → 0 < w → mag z < 2 ^ (w - 1) → signed_reading w (residue w z) ≡ z
reading-residue w (pos n) some h =
    let two = half w some in
    ap (signed_reading w) (residue-pos w n (omega arith)) ∙ reading_low w n h
reading-residue w (negsuc n) some h =
    let two = half w some in
    ap (signed_reading w) (residue-negsuc w n (omega arith)) ∙ reading_high w (2 ^ w - 1 - n) (omega arith) (omega arith) ∙ ap negsuc (omega arith)

-- ---- the number of 64 bits with the same signed reading

pub extended_low : (w a : ℕ) → IsWidth w → a < 2 ^ (w - 1) → sign_extended w a ≡ a
unfolding sign_extended
extended_low w a ok h =
    let b = bounds w ok in
    let wide : 2 ^ (w - 1) ≤ 2 ^ 64 = pow_mono {i = w - 1} {j = 64} (omega arith) in
    ap (residue 64) (reading_low w a h) ∙ residue-pos 64 a (omega arith)

pub extended_high : (w a : ℕ) → IsWidth w → 2 ^ (w - 1) ≤ a → a < 2 ^ w → sign_extended w a ≡ 2 ^ 64 - 2 ^ w + a
unfolding sign_extended
extended_high w a ok h below =
    let b = bounds w ok in
    let wide : 2 ^ w ≤ 2 ^ 64 = pow_mono {i = w} {j = 64} (omega arith) in
    ap (residue 64) (reading_high w a h below) ∙ residue-negsuc 64 (2 ^ w - 1 - a) (omega arith) ∙ omega arith

halves : (w : ℕ) → IsWidth w → (2 ^ (w - 1) ≤ 2 ^ 63) × (2 ^ w ≡ 2 ^ (w - 1) + 2 ^ (w - 1))
halves w ok = let b = bounds w ok in (pow_mono {i = w - 1} {j = 63} (omega arith), half w (omega arith))

pub reading-extended : (w a : ℕ) → IsWidth w → a < 2 ^ w → signed_reading 64 (sign_extended w a) ≡ signed_reading w a
reading-extended w a ok h =
    let facts : (2 ^ (w - 1) ≤ 2 ^ 63) × (2 ^ w ≡ 2 ^ (w - 1) + 2 ^ (w - 1)) = halves w ok in
    ⊎_elim
    (λ under. ap (signed_reading 64) (extended_low w a ok under) ∙ reading_low 64 a (omega arith) ∙ sym (reading_low w a under))
    (λ over. ap (signed_reading 64) (extended_high w a ok over h) ∙ reading_high 64 (2 ^ 64 - 2 ^ w + a) (omega arith) (omega arith) ∙ ap negsuc (omega arith) ∙ sym (reading_high w a over h))
    (cases_lt a (2 ^ (w - 1)))

pub extended-mod : (w a : ℕ) → IsWidth w → a < 2 ^ w → sign_extended w a % 2 ^ w ≡ a
extended-mod w a ok h =
    let b = bounds w ok in
    let facts : (2 ^ (w - 1) ≤ 2 ^ 63) × (2 ^ w ≡ 2 ^ (w - 1) + 2 ^ (w - 1)) = halves w ok in
    let e : (64 - w) + w ≡ 64 = omega arith in
    let ones : 2 ^ 64 - 2 ^ w ≡ (2 ^ (64 - w) - 1) * 2 ^ w = subst (λ k. 2 ^ k - 2 ^ w ≡ (2 ^ (64 - w) - 1) * 2 ^ w) e (high_ones (64 - w) w) in
    ⊎_elim
    (λ under. ap (λ n. n % 2 ^ w) (extended_low w a ok under) ∙ mod-eq_of_lt h)
    (λ over. ap (λ n. n % 2 ^ w) (extended_high w a ok over h ∙ ap (λ n. n + a) ones) ∙ low (2 ^ (64 - w) - 1) w h)
    (cases_lt a (2 ^ (w - 1)))

-- ---- what `sign_extend` computes

under_top : (w a : ℕ) → a / 2 ^ (w - 1) ≡ 0 → a < 2 ^ (w - 1)
under_top w a zero_top =
    let p = pow_pos (w - 1) in
    ⊎_elim (λ l. l) (λ l. absurd (let one : 1 ≤ a / 2 ^ (w - 1) = le-div 1 a (2 ^ (w - 1)) p (omega arith) in omega arith)) (cases_lt a (2 ^ (w - 1)))

pub extends_low : (w a : ℕ) → a / 2 ^ (w - 1) ≡ 0 → IsWidth w → sign_extended w a ≡ a
extends_low w a zero_top ok = extended_low w a ok (under_top w a zero_top)

pub extends_high : (w a m : ℕ) → m ≡ 2 ^ w - 1 → ¬ (a / 2 ^ (w - 1) ≡ 0) → IsWidth w → a < 2 ^ w → sign_extended w a ≡ bit_or a (2 ^ 64 - 1 - m)
extends_high w a m mask some_top ok h =
    let b = bounds w ok in
    let p = pow_pos w in
    let facts : (2 ^ (w - 1) ≤ 2 ^ 63) × (2 ^ w ≡ 2 ^ (w - 1) + 2 ^ (w - 1)) = halves w ok in
    let over : 2 ^ (w - 1) ≤ a = ⊎_elim (λ l. absurd (some_top (div-eq_of_lt l))) (λ l. l) (cases_lt a (2 ^ (w - 1))) in
    let e : (64 - w) + w ≡ 64 = omega arith in
    let ones : 2 ^ 64 - 2 ^ w ≡ (2 ^ (64 - w) - 1) * 2 ^ w = subst (λ k. 2 ^ k - 2 ^ w ≡ (2 ^ (64 - w) - 1) * 2 ^ w) e (high_ones (64 - w) w) in
    let top : 2 ^ 64 - 1 - m ≡ (2 ^ (64 - w) - 1) * 2 ^ w = (let t : 2 ^ 64 - 1 - m ≡ 2 ^ 64 - 2 ^ w = omega arith in t) ∙ ones in
    sym (or_comm a (2 ^ 64 - 1 - m) ∙ ap (λ t. bit_or t a) top ∙ or_shifted (2 ^ (64 - w) - 1) w a h ∙ ap (λ t. t + a) (sym ones) ∙ sym (extended_high w a ok over h))

pub extends_mod : (w a m : ℕ) → m ≡ 2 ^ w - 1 → ¬ (a / 2 ^ (w - 1) ≡ 0) → IsWidth w → a < 2 ^ w → bit_or a (2 ^ 64 - 1 - m) % 2 ^ w ≡ a
extends_mod w a m mask some_top ok h = ap (λ t. t % 2 ^ w) (sym (extends_high w a m mask some_top ok h)) ∙ extended-mod w a ok h

pub extends_reading : (w a r : ℕ) → r ≡ sign_extended w a → IsWidth w → a < 2 ^ w → signed_reading 64 r ≡ signed_reading w a
extends_reading w a r is ok h = ap (signed_reading 64) is ∙ reading-extended w a ok h

-- ---- the code's signed numbers of 64 bits

-- the bits of a reading at 64 bits
pub bits-reading : (a : ℕ) → a < 2 ^ 64 → cast_signed w64 a ≡ signed_reading 64 a
bits-reading a h = ⊎_elim
    (λ under. omega (arith, ints) ∙ sym (reading_low 64 a under))
    (λ over. cond-false (nat_lt a (2 ^ 63)) (pos a) (negsuc (2 ^ 64 - suc a)) (le-ltb a (2 ^ 63) over) ∙ ap negsuc (omega arith) ∙ sym (reading_high 64 a over h))
    (cases_lt a (2 ^ 63))

pub reads : (w a : ℕ) → IsWidth w → a < 2 ^ w → cast_signed w64 (sign_extended w a) ≡ signed_reading w a
unfolding sign_extended
reads w a ok h = bits-reading (sign_extended w a) (residue-below 64 (signed_reading w a)) ∙ reading-extended w a ok h

pub reads_back : (w a n : ℕ) (z : ℤ) → n ≡ sign_extended w a → z ≡ cast_signed w64 n → IsWidth w → a < 2 ^ w → cast_signed w64 (cast_unsigned w64 z) ≡ signed_reading w a
unfolding sign_extended
reads_back w a n z is read ok h =
    let r = read ∙ ap (cast_signed w64) is in
    ap (λ y. cast_signed w64 (cast_unsigned w64 y)) r
    ∙ ap (cast_signed w64) (of_z-to_z w64 (sign_extended w a) (residue-below 64 (signed_reading w a)))
    ∙ reads w a ok h

-- the low bits of a number less than 2 ^ 64, counted down from 2 ^ 64
pub complement-mod : (w n : ℕ) → w ≤ 64 → n < 2 ^ 64 → (2 ^ 64 - suc n) % 2 ^ w ≡ 2 ^ w - 1 - n % 2 ^ w
complement-mod w n ok h =
    let e : (64 - w) + w ≡ 64 = omega arith in
    let parts : 2 ^ 64 ≡ 2 ^ (64 - w) * 2 ^ w = subst (λ k. 2 ^ k ≡ 2 ^ (64 - w) * 2 ^ w) e (pow-add 2 (64 - w) w) in
    let split = div-add-mod' n (2 ^ w) in
    let small = mod-lt n (pow_pos w) in
    let few : n / 2 ^ w < 2 ^ (64 - w) = div_below n (2 ^ w) (2 ^ (64 - w)) (pow_pos w) (omega arith) in
    let left = 2 ^ (64 - w) - 1 - n / 2 ^ w in
    let sum : left + suc (n / 2 ^ w) ≡ 2 ^ (64 - w) = omega arith in
    let times = ap (λ t. t * 2 ^ w) sum in
    let is : 2 ^ 64 - suc n ≡ left * 2 ^ w + (2 ^ w - 1 - n % 2 ^ w) = omega arith in
    ap (λ t. t % 2 ^ w) is ∙ low left w (omega arith)

pub residue-bits : (w : ℕ) (z : ℤ) → w ≤ 64 → FitsSigned w64 z → cast_unsigned w64 z % 2 ^ w ≡ residue w z
unfolding residue
residue-bits w (pos n) ok f = refl
residue-bits w (negsuc n) ok f = complement-mod w n ok (omega (arith, f.sfits))
