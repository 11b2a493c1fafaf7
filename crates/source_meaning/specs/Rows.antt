-- What arithmetic, casts, buffers' cells and loops' turns come to, as numbers.
use Rattle.std.specs.Prelude.{ℕ, ◌+◌, ◌-◌, ◌*◌, ◌/◌, ◌%◌, ◌^◌, nat_lt, nat_le, ◌&&◌, Bool, true, false, if◌then◌else◌, List, [], ◌∷◌, map, pos, ◌-ℤ◌, Option, Some, None}
use Rattle.std.specs.Option.{option_map}
use Rattle.int_ops.specs.Arithmetic.{arith_result, residue, sign_extended, compares}
use Rattle.int_ops.specs.declared.BinOp.{BinOp}
use Rattle.int_ops.specs.declared.Pred.TheVariants.{Slt, Sle, Sge}
use Rattle.ir_forms.specs.declared.ops.Attr.{Attr}
use Rattle.ir_forms.specs.declared.ops.Attr.TheVariants.{Literal, Truth, Pred}
use Rattle.ir_forms.specs.declared.types.Dim.{Dim}
use Rattle.ir_forms.specs.declared.types.Dim.TheVariants.{Fixed, Dynamic}
use Rattle.ir_forms.specs.Shapes.{product}
use Rattle.source_meaning.specs.Tasks.{Span}

-- the bits of a truth
abbrev pub bit : Bool → ℕ
bit true = 1
bit false = 0

-- what is left of a number at a width
abbrev pub at_width : ℕ → ℕ → ℕ
at_width w a = a % 2 ^ w

-- a literal's bits at 64 bits
abbrev pub literal_bits : Attr → ℕ
literal_bits (Literal true magnitude) = (2 ^ 64 - magnitude % 2 ^ 64) % 2 ^ 64
literal_bits (Literal false magnitude) = magnitude % 2 ^ 64
literal_bits (Truth b) = bit b
literal_bits _ = 0

-- the result of an operation on numbers that are read at a width
abbrev pub result_at : ℕ → BinOp → ℕ → ℕ → Option ℕ
result_at w b x y = arith_result w b (at_width w x) (at_width w y)

-- the answer of a comparison at a width
abbrev pub compared_at : ℕ → Attr → ℕ → ℕ → ℕ
compared_at w (Pred p) x y = bit (compares w p (at_width w x) (at_width w y))
compared_at w _ x y = 0

-- from the width v to w, by sign
abbrev pub sign_cast : ℕ → ℕ → ℕ → ℕ
sign_cast v w x = at_width w (sign_extended v (at_width v x))

-- ---- cells

-- the number of the cell with these indices, counted row by row behind those of the dimensions before; none where an
-- index isn't below its dimension
abbrev pub cell_from : ℕ → List ℕ → List ℕ → Option ℕ
cell_from n (d ∷ ds) (i ∷ is) = if nat_lt i d then cell_from (n * d + i) ds is else None
cell_from n _ _ = Some n

-- the sizes of an allocation: each `?` takes the next of the operands
abbrev pub sizes : List Dim → List ℕ → List ℕ
sizes [] given = []
sizes (Fixed n ∷ dims) given = n ∷ sizes dims given
sizes (Dynamic ∷ dims) [] = 0 ∷ sizes dims []
sizes (Dynamic ∷ dims) (n ∷ given) = n ∷ sizes dims given

-- the product of numbers, none where one of them or the product up to it passes the limit
abbrev pub product_from : ℕ → ℕ → List ℕ → Option ℕ
product_from limit n [] = Some n
product_from limit n (k ∷ ks) = if nat_le k limit && nat_le (n * k) limit then product_from limit (n * k) ks else None

-- the product of all, under the limit
abbrev pub product_within : ℕ → List ℕ → Option ℕ
product_within limit ks = product_from limit 1 ks

-- groups and parallel loops have at most so many elements and iterations
abbrev pub most_elements : ℕ
most_elements = 2 ^ 31

-- ---- turns of loops, by the bits of bounds and steps

-- a bound lies from -2^62 to 2^62, and a step from 1 to 2^62
abbrev pub is_bound : ℕ → Bool
is_bound a = compares 64 Sge a (2 ^ 64 - 2 ^ 62) && compares 64 Sle a (2 ^ 62)

-- and a step from 1 to 2^62
abbrev pub is_step : ℕ → Bool
is_step a = compares 64 Sge a 1 && compares 64 Sle a (2 ^ 62)

-- the bounds and the step of a loop are in range
abbrev pub are_bounds : ℕ → ℕ → ℕ → Bool
are_bounds lower upper step = is_bound lower && is_bound upper && is_step step

-- a loop goes on while its variable is below its upper bound
abbrev pub is_below : ℕ → ℕ → Bool
is_below i upper = compares 64 Slt i upper

-- the variable of the next turn
abbrev pub stepped : ℕ → ℕ → ℕ
stepped i step = (i + step) % 2 ^ 64

-- how many turns there are from the lower bound up to the upper one
abbrev pub turns_between : ℕ → ℕ → ℕ → ℕ
turns_between lower upper step =
    if compares 64 Sle upper lower then 0 else (residue 64 (pos upper -ℤ pos lower) - 1) / step + 1

-- the dimensions of a parallel loop; none where a bound or a step is out of range
abbrev pub spans_of : List ℕ → List ℕ → List ℕ → Option (List Span)
spans_of (l ∷ ls) (u ∷ us) (s ∷ ss) =
    if are_bounds l u s then option_map (λ spans. record { lower = l; step = s; turns = turns_between l u s } ∷ spans) (spans_of ls us ss) else None
spans_of _ _ _ = Some []

-- how many turns each dimension has
abbrev pub turns_of : List Span → List ℕ
turns_of spans = map (λ s. s.turns) spans

-- the variables of the iteration of this number, the last dimension the fastest
abbrev pub variables : List Span → ℕ → List ℕ
variables [] i = []
variables (s ∷ spans) i = (s.lower + i / product (turns_of spans) % s.turns * s.step) % 2 ^ 64 ∷ variables spans i
