-- Arithmetic on numbers of w bits, defined over the unbounded whole numbers: a number lies from 0 to
-- 2 ^ w - 1 and is read as it stands or as a signed number, the result is the exact one, and what is
-- kept of it is its residue modulo 2 ^ w.
use Rattle.std.specs.Prelude.{ℕ, ◌-◌, ◌*◌, ◌/◌, ◌%◌, ◌^◌, min, max, Bool, false, not, ◌&&◌, ◌||◌, ◌==◌, nat_lt, nat_le, if◌then◌else◌, ◌≡◌, ◌⊎◌, ℤ, pos, negsuc, ◌+ℤ◌, ◌-ℤ◌, ◌*ℤ◌, neg_ℤ, int_lt, int_le, int_div, int_rem, bit_and, bit_or, bit_xor, Option, Some, None}
use Rattle.std.specs.Int.{int_min, int_max, int_div_euclid}
use Rattle.std.specs.Ordering.{int_eq}
use Rattle.int_ops.specs.declared.Width.{Width}
use Rattle.int_ops.specs.declared.Width.TheVariants.{W1, W8, W16, W32, W64}
use Rattle.int_ops.specs.declared.BinOp.{BinOp}
use Rattle.int_ops.specs.declared.BinOp.TheVariants.{Add, Sub, Mul, DivS, DivU, RemS, RemU, And, Or, Xor, Shl, ShrS, ShrU, MaxS, MinS, MaxU, MinU}
use Rattle.int_ops.specs.declared.Pred.{Pred}
use Rattle.int_ops.specs.declared.Pred.TheVariants.{Eq, Ne, Slt, Sle, Sgt, Sge, Ult, Ule, Ugt, Uge}

-- ---- widths

-- the numbers of bits that there are
abbrev pub IsWidth : ℕ → Type 0
IsWidth w = (w ≡ 1) ⊎ (w ≡ 8) ⊎ (w ≡ 16) ⊎ (w ≡ 32) ⊎ (w ≡ 64)

-- how many bits a number of the width has
abbrev pub bits_of : Width → ℕ
bits_of W1 = 1
bits_of W8 = 8
bits_of W16 = 16
bits_of W32 = 32
bits_of W64 = 64

-- ---- readings

-- the signed reading: the number itself below 2 ^ (w - 1), else the number less 2 ^ w
unfoldable pub signed_reading : ℕ → ℕ → ℤ
signed_reading w a = if nat_lt a (2 ^ (w - 1)) then pos a else pos a -ℤ pos (2 ^ w)

-- what is left of a whole number modulo 2 ^ w, from 0 to 2 ^ w - 1 (`negsuc n` is -(n + 1))
unfoldable pub residue : ℕ → ℤ → ℕ
residue w (pos n) = n % 2 ^ w
residue w (negsuc n) = 2 ^ w - 1 - n % 2 ^ w

-- the number of 64 bits with the signed reading that a has at w bits
unfoldable pub sign_extended : ℕ → ℕ → ℕ
sign_extended w a = residue 64 (signed_reading w a)

-- ---- operations

-- the signed reading is the least one, or -1
unfoldable pub is_least : ℕ → ℕ → Bool
is_least w a = int_eq (signed_reading w a) (neg_ℤ (pos (2 ^ (w - 1))))

unfoldable pub is_minus_one : ℕ → ℕ → Bool
is_minus_one w a = int_eq (signed_reading w a) (neg_ℤ (pos 1))

-- There is no result at a zero divisor, at the signed quotient of the least number by -1, and at a
-- shift by w or more.
abbrev pub lacks_result : ℕ → BinOp → ℕ → ℕ → Bool
lacks_result w DivS a b = b == 0 || is_least w a && is_minus_one w b
lacks_result w DivU a b = b == 0
lacks_result w RemS a b = b == 0
lacks_result w RemU a b = b == 0
lacks_result w Shl a b = nat_le w b
lacks_result w ShrS a b = nat_le w b
lacks_result w ShrU a b = nat_le w b
lacks_result w _ a b = false

-- The exact result. `int_div` rounds toward zero, `int_rem` has the dividend's sign, and
-- `int_div_euclid` by a power of two rounds down.
abbrev pub exact_result : ℕ → BinOp → ℕ → ℕ → ℤ
exact_result w Add a b = pos a +ℤ pos b
exact_result w Sub a b = pos a -ℤ pos b
exact_result w Mul a b = pos a *ℤ pos b
exact_result w DivS a b = int_div (signed_reading w a) (signed_reading w b)
exact_result w DivU a b = pos (a / b)
exact_result w RemS a b = int_rem (signed_reading w a) (signed_reading w b)
exact_result w RemU a b = pos (a % b)
exact_result w And a b = pos (bit_and a b)
exact_result w Or a b = pos (bit_or a b)
exact_result w Xor a b = pos (bit_xor a b)
exact_result w Shl a b = pos (a * 2 ^ b)
exact_result w ShrS a b = int_div_euclid (signed_reading w a) (pos (2 ^ b))
exact_result w ShrU a b = pos (a / 2 ^ b)
exact_result w MaxS a b = int_max (signed_reading w a) (signed_reading w b)
exact_result w MinS a b = int_min (signed_reading w a) (signed_reading w b)
exact_result w MaxU a b = pos (max a b)
exact_result w MinU a b = pos (min a b)

-- the result at w bits, if there is one
unfoldable pub arith_result : ℕ → BinOp → ℕ → ℕ → Option ℕ
arith_result w op a b = if lacks_result w op a b then None else Some (residue w (exact_result w op a b))

-- ---- comparisons

-- whether the predicate holds of two numbers of w bits
unfoldable pub compares : ℕ → Pred → ℕ → ℕ → Bool
compares w Eq a b = a == b
compares w Ne a b = not (a == b)
compares w Slt a b = int_lt (signed_reading w a) (signed_reading w b)
compares w Sle a b = int_le (signed_reading w a) (signed_reading w b)
compares w Sgt a b = int_lt (signed_reading w b) (signed_reading w a)
compares w Sge a b = int_le (signed_reading w b) (signed_reading w a)
compares w Ult a b = nat_lt a b
compares w Ule a b = nat_le a b
compares w Ugt a b = nat_lt b a
compares w Uge a b = nat_le b a
