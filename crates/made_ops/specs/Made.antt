-- Operations that a pass makes, one after another. What makes one extends an insertion: the operation stands behind those
-- made so far, has the number of the operation that the insertion is made for, and its result is the next free value.
use Rattle.std.specs.Prelude.{ℕ, ◌+◌, ◌-◌, ◌^◌, ◌==◌, nat_lt, ◌&&◌, not, if◌then◌else◌, Bool, true, false, List, [], ◌∷◌, ◌++◌, Option, Some, None}
use Rattle.int_ops.specs.Arithmetic.{bits_of}
use Rattle.int_ops.specs.declared.Pred.{Pred}
use Rattle.int_ops.specs.declared.Width.TheVariants.{W1}
use Rattle.int_ops.specs.declared.Pred.TheVariants.{Sle}
use Rattle.op_table.specs.declared.kind.OpKind.{OpKind}
use Rattle.op_table.specs.declared.kind.OpKind.TheVariants.{ArithAddi, ArithCmpi, ArithConstant, ArithDivui, ArithSubi, CfAssert, MemrefDim, ScfIf, ScfYield}
use Rattle.ir_forms.specs.declared.ops.Attr.{Attr}
use Rattle.ir_forms.specs.declared.ops.Attr.TheVariants as attr
use Rattle.ir_forms.specs.declared.ops.Op.{Op, roll-Op}
use Rattle.ir_forms.specs.declared.ops.Region.{Region, roll-Region}
use Rattle.ir_forms.specs.declared.ops.ValueNo.{ValueNo}
use Rattle.ir_forms.specs.declared.types.MemTy.{MemTy}
use Rattle.ir_forms.specs.declared.types.NumTy.{NumTy}
use Rattle.ir_forms.specs.declared.types.NumTy.TheVariants as num
use Rattle.ir_forms.specs.declared.types.Ty.{Ty}
use Rattle.ir_forms.specs.declared.types.Ty.TheVariants as ty
use Rattle.made_ops.specs.declared.insertion.Insertion.{Insertion}
use Rattle.made_ops.specs.declared.insertion.Known.{Known}
use Rattle.made_ops.specs.declared.insertion.Operand.{Operand}
use Rattle.made_ops.specs.declared.insertion.Operand.TheVariants.{Value, Number}

-- ---- types of numbers

abbrev pub type_of : NumTy → Ty
type_of (num.Int w) = ty.Int w
type_of num.Index = ty.Index

-- the type of a truth
abbrev pub truth : NumTy
truth = num.Int W1

abbrev pub width_of : NumTy → ℕ
width_of (num.Int w) = bits_of w
width_of num.Index = 64

abbrev pub same_number : NumTy → NumTy → Bool
same_number (num.Int v) (num.Int w) = bits_of v == bits_of w
same_number num.Index num.Index = true
same_number _ _ = false

-- the bits of the least signed number of a type, and of -1
abbrev pub least : NumTy → ℕ
least t = 2 ^ (width_of t - 1)

abbrev pub minus_one : NumTy → ℕ
minus_one t = 2 ^ width_of t - 1

-- ---- the making of one operation after another

-- before the first operation: no constant is known
abbrev pub begun : ℕ → ℕ → Insertion
begun at free = record { ops = []; known = []; free = free; at = at }

-- what extends an insertion, and gives something by it
abbrev pub Makes : Type 0 → Type 0
Makes A = Insertion → A × Insertion

-- one after another: what comes second is told what the first gives
abbrev pub and_then : {A B : Type 0} → Makes A → (A → Insertion → B) → Insertion → B
and_then f g i = g (f i).0 (f i).1

-- ---- one operation

-- one that stands behind those made so far
abbrev pub placed : Op → Insertion → Insertion
placed o i = record i { ops = i.ops ++ o ∷ [] }

-- an operation of the insertion
abbrev pub made_op : OpKind → List ValueNo → List Ty → List ValueNo → List Ty → Attr → List Region → Insertion → Op
made_op kind operands written results types a regions i =
    roll-Op (record { kind = kind; at = i.at; operands = operands; groups = []; written = written; results = results; types = types; attr = a; regions = regions })

-- the next value
abbrev pub next_value : Insertion → ValueNo
next_value i = record { 0 = i.free }

-- one without a result
abbrev pub acts : OpKind → List ValueNo → List Ty → Attr → Insertion → Insertion
acts kind operands written a i = placed (made_op kind operands written [] [] a [] i) i

-- one with a result of this type
abbrev pub gives : OpKind → List ValueNo → List Ty → Ty → Attr → Makes ValueNo
gives kind operands written t a i =
    (next_value i, record (placed (made_op kind operands written (next_value i ∷ []) (t ∷ []) a [] i) i) { free = i.free + 1 })

-- ---- constants

-- a number as it is written, by its sign
abbrev pub signed_literal : NumTy → ℕ → Attr
signed_literal t n = if nat_lt n (least t) then attr.Literal false n else attr.Literal true (2 ^ width_of t - n)

-- one bit is written as a truth
abbrev pub literal : NumTy → ℕ → Attr
literal (num.Int W1) n = attr.Truth (not (n == 0))
literal (num.Int w) n = signed_literal (num.Int w) n
literal num.Index n = signed_literal num.Index n

-- the constant of this type and these bits, where there is one
abbrev pub found : NumTy → ℕ → List Known → Option ValueNo
found t n [] = None
found t n (k ∷ known) = if same_number k.ty t && k.bits == n then Some k.value else found t n known

-- a new constant
abbrev pub new_constant : NumTy → ℕ → Makes ValueNo
new_constant t n = and_then (gives ArithConstant [] [] (type_of t) (literal t n)) (λ v i. (v, record i { known = i.known ++ record { ty = t; bits = n; value = v } ∷ [] }))

abbrev pub found_or_new : NumTy → ℕ → Option ValueNo → Makes ValueNo
found_or_new t n (Some v) i = (v, i)
found_or_new t n None i = new_constant t n i

-- the constant of this type and these bits: one for all its uses
abbrev pub constant : NumTy → ℕ → Makes ValueNo
constant t n i = found_or_new t n (found t n i.known) i

-- ---- operations without regions

-- what an operation reads
abbrev pub operand : NumTy → Operand → Makes ValueNo
operand t (Value v) i = (v, i)
operand t (Number n) i = constant t n i

-- an operation on two numbers of a type
abbrev pub binary : OpKind → NumTy → Operand → Operand → Makes ValueNo
binary kind t a b =
    and_then (operand t a) (λ x. and_then (operand t b) (λ y. gives kind (x ∷ y ∷ []) (type_of t ∷ type_of t ∷ []) (type_of t) attr.None))

-- a comparison of two
abbrev pub compare : Pred → NumTy → Operand → Operand → Makes ValueNo
compare p t a b =
    and_then (operand t a) (λ x. and_then (operand t b) (λ y. gives ArithCmpi (x ∷ y ∷ []) (type_of t ∷ type_of t ∷ []) (type_of truth) (attr.Pred p)))

-- the size of a buffer's dimension
abbrev pub dimension : MemTy → ValueNo → ℕ → Makes ValueNo
dimension m buffer k =
    and_then (constant num.Index k) (λ x. gives MemrefDim (buffer ∷ x ∷ []) (ty.Memref m ∷ []) ty.Index attr.None)

-- an assertion
abbrev pub asserts : List ℕ → ValueNo → Insertion → Insertion
asserts text v = acts CfAssert (v ∷ []) [] (attr.Text text)

-- ---- regions

-- inside a region: what is known before it is known there
abbrev pub inside : Insertion → Insertion
inside i = record i { ops = [] }

-- the region of what was made in it; behind it no constant of it is known
abbrev pub closed : Insertion → Insertion → Region × Insertion
closed i inner = (roll-Region (record { params = []; ops = inner.ops }), record i { free = inner.free })

-- the end of a region that gives a value of this type
abbrev pub yields : NumTy → ValueNo → Insertion → Insertion
yields t v = acts ScfYield (v ∷ []) (type_of t ∷ []) attr.None

-- the region in which this is made and yielded
abbrev pub yielding : NumTy → Makes ValueNo → Makes Region
yielding t f i = closed i (and_then f (yields t) (inside i))

-- one of two values of this type, each made in a region of its own
abbrev pub chooses : NumTy → ValueNo → Makes ValueNo → Makes ValueNo → Makes ValueNo
chooses t c f g i =
    and_then (yielding t f) (λ r. and_then (yielding t g) (λ s j.
    (next_value i, placed (made_op ScfIf (c ∷ []) [] (next_value i ∷ []) (type_of t ∷ []) attr.None (r ∷ s ∷ []) j) j))) (record i { free = i.free + 1 })

-- ---- the turns of a loop

-- so many turns, where there are any: one more than the steps that fit between the bounds
abbrev pub counted_turns : ValueNo → ValueNo → ValueNo → Makes ValueNo
counted_turns lower upper step =
    and_then (binary ArithSubi num.Index (Value upper) (Value lower)) (λ between.
    and_then (binary ArithSubi num.Index (Value between) (Number 1)) (λ rest.
    and_then (binary ArithDivui num.Index (Value rest) (Value step)) (λ steps.
    binary ArithAddi num.Index (Value steps) (Number 1))))

-- how many turns a loop has: none where the upper bound isn't above the lower one
abbrev pub turns : ValueNo → ValueNo → ValueNo → Makes ValueNo
turns lower upper step =
    and_then (compare Sle num.Index (Value upper) (Value lower)) (λ none.
    chooses num.Index none (constant num.Index 0) (counted_turns lower upper step))
