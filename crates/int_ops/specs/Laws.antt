-- Laws of the arithmetic, over its definitions alone.
use Rattle.std.specs.Prelude.{ℕ, ◌-◌, ◌%◌, ◌^◌, ◌<◌, ◌≤◌, not, ◌≡◌, ◌⊎◌, ◌↔◌, ℤ, pos, ◌+ℤ◌, ◌*ℤ◌, neg_ℤ, ◌≤ℤ◌, ◌<ℤ◌, Some, IsNone, IfSome}
use Rattle.int_ops.specs.declared.Width.{Width}
use Rattle.int_ops.specs.declared.BinOp.{BinOp}
use Rattle.int_ops.specs.declared.BinOp.TheVariants.{DivS, DivU, RemS, RemU, Shl, ShrS, ShrU, MaxS, MinS, MaxU, MinU}
use Rattle.int_ops.specs.declared.Pred.TheVariants.{Eq, Ne, Slt, Sle, Sgt, Sge, Ult, Ule, Ugt, Uge}
use Rattle.int_ops.specs.Arithmetic.{IsWidth, bits_of, signed_reading, residue, sign_extended, arith_result, compares}

-- ---- readings and residues

-- each width of the program is one of the five numbers of bits
abbrev pub WidthsAreFive : Type 0
WidthsAreFive = (width : Width) → IsWidth (bits_of width)

-- the residue is the one number below 2 ^ w that differs from z by a multiple of 2 ^ w
abbrev pub ResidueIsTheOne : Type 0
ResidueIsTheOne = (w : ℕ) (z : ℤ) → (residue w z < 2 ^ w) × ((k : ℤ) × (z ≡ pos (residue w z) +ℤ k *ℤ pos (2 ^ w))) × ((n : ℕ) (k : ℤ) → n < 2 ^ w → z ≡ pos n +ℤ k *ℤ pos (2 ^ w) → n ≡ residue w z)

-- a signed reading lies from -2 ^ (w - 1) to 2 ^ (w - 1) - 1
abbrev pub ReadingLiesInRange : Type 0
ReadingLiesInRange = (w a : ℕ) → IsWidth w → a < 2 ^ w → (neg_ℤ (pos (2 ^ (w - 1))) ≤ℤ signed_reading w a) × (signed_reading w a <ℤ pos (2 ^ (w - 1)))

-- the residue of a number's signed reading is the number, so two numbers with one reading are one
abbrev pub ReadingGivesBack : Type 0
ReadingGivesBack = (w a : ℕ) → a < 2 ^ w → residue w (signed_reading w a) ≡ a

-- and a whole number in that range is the signed reading of its residue
abbrev pub ResidueGivesBack : Type 0
ResidueGivesBack = (w : ℕ) (z : ℤ) → IsWidth w → neg_ℤ (pos (2 ^ (w - 1))) ≤ℤ z → z <ℤ pos (2 ^ (w - 1)) → signed_reading w (residue w z) ≡ z

abbrev pub ExtensionKeepsReading : Type 0
ExtensionKeepsReading = (w a : ℕ) → IsWidth w → a < 2 ^ w → signed_reading 64 (sign_extended w a) ≡ signed_reading w a

abbrev pub TruncationUndoesExtension : Type 0
TruncationUndoesExtension = (w a : ℕ) → IsWidth w → a < 2 ^ w → sign_extended w a % 2 ^ w ≡ a

-- ---- results

abbrev pub ResultsStayBelow : Type 0
ResultsStayBelow = (w : ℕ) (op : BinOp) (a b : ℕ) → IfSome (arith_result w op a b) (λ c. c < 2 ^ w)

-- what leaves an operation without a result
abbrev pub IsWithoutResult : ℕ → BinOp → ℕ → ℕ → Type 0
IsWithoutResult w DivS a b = (b ≡ 0) ⊎ ((signed_reading w a ≡ neg_ℤ (pos (2 ^ (w - 1)))) × (signed_reading w b ≡ neg_ℤ (pos 1)))
IsWithoutResult w DivU a b = b ≡ 0
IsWithoutResult w RemS a b = b ≡ 0
IsWithoutResult w RemU a b = b ≡ 0
IsWithoutResult w Shl a b = w ≤ b
IsWithoutResult w ShrS a b = w ≤ b
IsWithoutResult w ShrU a b = w ≤ b
IsWithoutResult w _ a b = ⊥

abbrev pub NoneExactlyWithoutResult : Type 0
NoneExactlyWithoutResult = (w : ℕ) (op : BinOp) (a b : ℕ) → IsNone (arith_result w op a b) ↔ IsWithoutResult w op a b

-- The quotient times the divisor and the remainder make the dividend, as signed readings: neither
-- result was cut.
abbrev pub DivisionMakesDividend : Type 0
DivisionMakesDividend = (w a b q r : ℕ) → IsWidth w → a < 2 ^ w → b < 2 ^ w → arith_result w DivS a b ≡ Some q → arith_result w RemS a b ≡ Some r → signed_reading w q *ℤ signed_reading w b +ℤ signed_reading w r ≡ signed_reading w a

-- the remainder of the least number by -1 is 0
abbrev pub LeastByMinusOneLeavesNothing : Type 0
LeastByMinusOneLeavesNothing = (w : ℕ) → IsWidth w → arith_result w RemS (2 ^ (w - 1)) (2 ^ w - 1) ≡ Some 0

abbrev pub PicksAnOperand : ℕ → BinOp → ℕ → ℕ → Type 0
PicksAnOperand w op a b = (arith_result w op a b ≡ Some a) ⊎ (arith_result w op a b ≡ Some b)

abbrev pub ExtremesAreOperands : Type 0
ExtremesAreOperands = (w a b : ℕ) → a < 2 ^ w → b < 2 ^ w → PicksAnOperand w MaxS a b × PicksAnOperand w MinS a b × PicksAnOperand w MaxU a b × PicksAnOperand w MinU a b

-- ---- comparisons

-- each predicate holds where its opposite does not
abbrev pub PredicatesComplement : Type 0
PredicatesComplement = (w a b : ℕ) → (compares w Ne a b ≡ not (compares w Eq a b)) × (compares w Sge a b ≡ not (compares w Slt a b)) × (compares w Sle a b ≡ not (compares w Sgt a b)) × (compares w Uge a b ≡ not (compares w Ult a b)) × (compares w Ule a b ≡ not (compares w Ugt a b))
