-- Each operation that may have no result has one exactly where the numbers that are computed before it say so.
use Rattle.std.specs.Prelude.{◌≡◌, ◌⊎◌, ◌<◌, ℕ, ◌*◌, ◌^◌, ◌-◌, nat_eq, nat_lt, nat_le, not, ◌&&◌, Bool, List, [], ◌∷◌, Some, true, false}
use Rattle.std.specs.Option.{is_some}
use Rattle.int_ops.specs.Arithmetic.{IsWidth, compares}
use Rattle.int_ops.specs.declared.BinOp.{BinOp}
use Rattle.int_ops.specs.declared.BinOp.TheVariants.{DivS, DivU, RemS, RemU, And, Or, Shl, ShrS, ShrU, Sub, Add}
use Rattle.int_ops.specs.declared.Pred.{Pred}
use Rattle.int_ops.specs.declared.Pred.TheVariants.{Ne, Ult, Sle}
use Rattle.ir_forms.specs.declared.ops.Attr.TheVariants as attr
use Rattle.source_meaning.specs.Values.{maybe}
use Rattle.source_meaning.specs.Rows.{result_at, compared_at, cell_from, product_within, spans_of, turns_of, turns_between, are_bounds}

-- what a comparison gives
abbrev pub answer : ℕ → Pred → ℕ → ℕ → ℕ
answer w p x y = compared_at w (attr.Pred p) x y

-- an assertion of this number is passed
abbrev pub passes : ℕ → Bool
passes n = not (nat_eq n 0)

-- ---- divisions and shifts

-- the operations that want a divisor that isn't zero, and nothing else
abbrev pub WantsDivisor : BinOp → Type 0
WantsDivisor b = (b ≡ DivU) ⊎ (b ≡ RemU) ⊎ (b ≡ RemS)

-- the shifts
abbrev pub Shifts : BinOp → Type 0
Shifts b = (b ≡ Shl) ⊎ (b ≡ ShrS) ⊎ (b ≡ ShrU)

-- such an operation has a result exactly where its divisor isn't 0
abbrev pub DivisionIsTested : Type 0
DivisionIsTested = (b : BinOp) (w x y : ℕ) → WantsDivisor b → is_some (result_at w b x y) ≡ passes (answer w Ne y 0)

-- a shift, where it is by less than the width
abbrev pub ShiftIsTested : Type 0
ShiftIsTested = (b : BinOp) (w x y : ℕ) → Shifts b → IsWidth w → is_some (result_at w b x y) ≡ passes (answer w Ult y w)

-- a signed quotient, where the divisor isn't 0, and isn't -1 where the least number is divided
abbrev pub QuotientIsTested : Type 0
QuotientIsTested = (w x y fits all : ℕ) → IsWidth w →
    result_at 1 Or (answer w Ne x (2 ^ (w - 1))) (answer w Ne y (2 ^ w - 1)) ≡ Some fits → result_at 1 And (answer w Ne y 0) fits ≡ Some all →
    is_some (result_at w DivS x y) ≡ passes all

-- ---- numbers of 64 bits

-- a number of 64 bits
abbrev pub IsNumber : ℕ → Type 0
IsNumber n = n < 2 ^ 64

-- each index is below its dimension, as far as both go
abbrev pub are_below : List ℕ → List ℕ → Bool
are_below (d ∷ ds) (i ∷ is) = nat_lt i d && are_below ds is
are_below _ _ = true

-- so the cell with these indexes is there
abbrev pub CellIsTested : Type 0
CellIsTested = (n : ℕ) (dims indexes : List ℕ) → is_some (cell_from n dims indexes) ≡ are_below dims indexes

-- each number is at most this
abbrev pub are_most : ℕ → List ℕ → Bool
are_most limit [] = true
are_most limit (k ∷ ks) = nat_le k limit && are_most limit ks

-- each product of this number and those that follow is at most this
abbrev pub products_from : ℕ → ℕ → List ℕ → Bool
products_from limit n [] = true
products_from limit n (k ∷ ks) = nat_le (n * k) limit && products_from limit (n * k) ks

-- each product of the first numbers is at most this
abbrev pub products : ℕ → List ℕ → Bool
products limit [] = true
products limit (n ∷ ns) = nat_le n limit && products_from limit n ns

-- so the numbers have a product within the limit
abbrev pub ProductIsTested : Type 0
ProductIsTested = (limit : ℕ) (ns : List ℕ) → is_some (product_within limit ns) ≡ (are_most limit ns && products limit ns)

-- the bounds and the step of each dimension are in range
abbrev pub all_bounds : List ℕ → List ℕ → List ℕ → Bool
all_bounds (l ∷ ls) (u ∷ us) (s ∷ ss) = are_bounds l u s && all_bounds ls us ss
all_bounds _ _ _ = true

-- the turns of each dimension
abbrev pub all_turns : List ℕ → List ℕ → List ℕ → List ℕ
all_turns (l ∷ ls) (u ∷ us) (s ∷ ss) = turns_between l u s ∷ all_turns ls us ss
all_turns _ _ _ = []

-- a parallel loop's spans are in range, and they have not too many turns
abbrev pub can_enter : ℕ → List ℕ → List ℕ → List ℕ → Bool
can_enter limit ls us ss = maybe false (λ spans. is_some (product_within limit (turns_of spans))) (spans_of ls us ss)

-- so it is where its bounds are in range, and its turns and their products within the limit
abbrev pub SpansAreTested : Type 0
SpansAreTested = (limit : ℕ) (ls us ss : List ℕ) →
    can_enter limit ls us ss ≡ (all_bounds ls us ss && (are_most limit (all_turns ls us ss) && products limit (all_turns ls us ss)))

-- the turns of a dimension, by what is made: the difference of its bounds, less one, by its step, and one
abbrev pub TurnsAreComputed : Type 0
TurnsAreComputed = (l u s between rest steps all : ℕ) → IsNumber l → IsNumber u → IsNumber s → are_bounds l u s ≡ true → compares 64 Sle u l ≡ false →
    result_at 64 Sub u l ≡ Some between → result_at 64 Sub between 1 ≡ Some rest → result_at 64 DivU rest s ≡ Some steps → result_at 64 Add steps 1 ≡ Some all →
    all ≡ turns_between l u s
