-- The pass of checks: before each operation that can fail stand assertions that it doesn't.
use Rattle.std.specs.Prelude.{ℕ, ◌+◌, ◌-◌, ◌^◌, max, List, [], ◌∷◌, ◌++◌, map, take, drop, length, slice_get, Option, Some, None, codes}
use Rattle.int_ops.specs.declared.Pred.{Pred}
use Rattle.int_ops.specs.declared.Pred.TheVariants.{Ne, Sge, Sle, Ule, Ult}
use Rattle.op_table.specs.declared.kind.OpKind.{OpKind}
use Rattle.op_table.specs.declared.kind.OpKind.TheVariants as op
use Rattle.ir_forms.specs.declared.ops.Op.{Op, Op-F, roll-Op}
use Rattle.ir_forms.specs.declared.ops.Op.TheFolds.{fold-Op, fold-Region}
use Rattle.ir_forms.specs.declared.ops.Region.{Region, Region-F, roll-Region}
use Rattle.ir_forms.specs.declared.ops.Func.{Func}
use Rattle.ir_forms.specs.declared.ops.Module.{Module}
use Rattle.ir_forms.specs.declared.ops.ValueNo.{ValueNo}
use Rattle.ir_forms.specs.declared.types.Dim.{Dim}
use Rattle.ir_forms.specs.declared.types.Dim.TheVariants.{Fixed, Dynamic}
use Rattle.ir_forms.specs.declared.types.MemTy.{MemTy}
use Rattle.ir_forms.specs.declared.types.NumTy.{NumTy}
use Rattle.ir_forms.specs.declared.types.NumTy.TheVariants as num
use Rattle.ir_forms.specs.declared.types.Ty.{Ty}
use Rattle.ir_forms.specs.declared.types.Ty.TheVariants as ty
use Rattle.ir_forms.specs.Numbers.{Numbering, in_turn, joined}
use Rattle.made_ops.specs.declared.insertion.Insertion.{Insertion}
use Rattle.made_ops.specs.declared.insertion.Operand.{Operand}
use Rattle.made_ops.specs.declared.insertion.Operand.TheVariants.{Value, Number}
use Rattle.made_ops.specs.Made.{Makes, and_then, asserts, begun, binary, compare, dimension, least, minus_one, truth, turns, width_of}
use Rattle.check_insert.specs.declared.guard.Guard.{Guard}
use Rattle.check_insert.specs.declared.guard.Guard.TheVariants as guard
use Rattle.check_insert.specs.declared.parts.Range.{Range}

-- ---- the table: how an operation can fail

abbrev pub guard_of : OpKind → Guard
guard_of op.ArithDivsi = guard.Quotient
guard_of op.ArithDivui = guard.Divisor
guard_of op.ArithRemsi = guard.Divisor
guard_of op.ArithRemui = guard.Divisor
guard_of op.ArithShli = guard.Shift
guard_of op.ArithShrsi = guard.Shift
guard_of op.ArithShrui = guard.Shift
guard_of op.AsyncCreateGroup = guard.Group
guard_of op.MemrefAlloc = guard.Alloc
guard_of op.MemrefDim = guard.Dimension
guard_of op.MemrefLoad = guard.Load
guard_of op.MemrefStore = guard.Store
guard_of op.ScfFor = guard.Bounds
guard_of op.ScfParallel = guard.Parallel
guard_of _ = guard.Nothing

-- what its assertions say where they fail
abbrev pub message : Guard → List ℕ
message guard.Nothing = []
message guard.Divisor = codes "division has no result"
message guard.Quotient = codes "division has no result"
message guard.Shift = codes "shift out of range"
message guard.Load = codes "index out of range"
message guard.Store = codes "index out of range"
message guard.Dimension = codes "index out of range"
message guard.Alloc = codes "allocation out of range"
message guard.Group = codes "group size out of range"
message guard.Bounds = codes "loop bounds out of range"
message guard.Parallel = codes "parallel loop failed"

-- the limits: of an allocation, of a group's elements and a loop's turns, and of bounds and steps
abbrev pub most_cells : ℕ
most_cells = 2 ^ 24

abbrev pub most_elements : ℕ
most_elements = 2 ^ 31

abbrev pub least_bound : ℕ
least_bound = 2 ^ 64 - 2 ^ 62

abbrev pub greatest_bound : ℕ
greatest_bound = 2 ^ 62

-- ---- what an operation is given

-- the type of the numbers that it works on
abbrev pub number_type : List Ty → NumTy
number_type (ty.Int w ∷ ts) = num.Int w
number_type _ = num.Index

abbrev pub given : Option ValueNo → Operand
given (Some v) = Value v
given None = Number 0

-- one of its operands; one that is missing reads as 0
abbrev pub operand_at : List ValueNo → ℕ → Operand
operand_at vs k = given (slice_get vs k)

-- how many dimensions a buffer has
abbrev pub rank : List Ty → ℕ
rank (ty.Memref m ∷ ts) = length m.dims
rank _ = 0

-- the sizes of an allocation: each `?` takes the next of the operands
abbrev pub sizes : List Dim → List ValueNo → List Operand
sizes [] vs = []
sizes (Fixed n ∷ dims) vs = Number n ∷ sizes dims vs
sizes (Dynamic ∷ dims) [] = Number 0 ∷ sizes dims []
sizes (Dynamic ∷ dims) (v ∷ vs) = Value v ∷ sizes dims vs

abbrev pub asked_sizes : List Ty → List ValueNo → List Operand
asked_sizes (ty.Memref m ∷ ts) vs = sizes m.dims vs
asked_sizes _ vs = []

-- the dimensions of a parallel loop
abbrev pub ranges : List ValueNo → List ValueNo → List ValueNo → List Range
ranges (l ∷ ls) (u ∷ us) (s ∷ ss) = record { lower = l; upper = u; step = s } ∷ ranges ls us ss
ranges _ _ _ = []

-- ---- assertions; all of one operation have its text

-- for each of these, one after another
abbrev pub each : {A : Type 0} → (A → Insertion → Insertion) → List A → Insertion → Insertion
each f [] i = i
each f (x ∷ xs) i = each f xs (f x i)

module _ (text : List ℕ) where
  -- asserts that two numbers compare so
  abbrev pub check : Pred → NumTy → Operand → Operand → Insertion → Insertion
  check p t a b = and_then (compare p t a b) (asserts text)

  -- the divisor isn't 0
  abbrev pub check_divisor : NumTy → Operand → Insertion → Insertion
  check_divisor t b = check Ne t b (Number 0)

  -- the divisor isn't 0, and it isn't -1 where the least number is divided
  unfoldable pub check_quotient : NumTy → Operand → Operand → Insertion → Insertion
  check_quotient t a b =
      and_then (compare Ne t b (Number 0)) (λ divides.
      and_then (compare Ne t a (Number (least t))) (λ above_least.
      and_then (compare Ne t b (Number (minus_one t))) (λ keeps_sign.
      and_then (binary op.ArithOri truth (Value above_least) (Value keeps_sign)) (λ fits.
      and_then (binary op.ArithAndi truth (Value divides) (Value fits)) (asserts text)))))

  -- the index is below the buffer's dimension of this number
  unfoldable pub check_index : MemTy → ValueNo → ℕ → ValueNo → Insertion → Insertion
  check_index m buffer k v = and_then (dimension m buffer k) (λ size. check Ult num.Index (Value v) (Value size))

  -- each index is below its dimension, from this dimension on
  abbrev pub check_indexes : MemTy → ValueNo → ℕ → List Dim → List ValueNo → Insertion → Insertion
  check_indexes m buffer k (d ∷ dims) (v ∷ vs) i = check_indexes m buffer (k + 1) dims vs (check_index m buffer k v i)
  check_indexes m buffer k _ _ i = i

  -- all indexes of an access; the buffer stands before them
  abbrev pub check_access : List Ty → List ValueNo → Insertion → Insertion
  check_access (ty.Memref m ∷ ts) (buffer ∷ vs) i = check_indexes m buffer 0 m.dims vs i
  check_access _ _ i = i

  -- a number is at most this
  abbrev pub check_most : ℕ → Operand → Insertion → Insertion
  check_most limit n = check Ule num.Index n (Number limit)

  -- a size that is given is at most this
  abbrev pub check_given : ℕ → Operand → Insertion → Insertion
  check_given limit (Value v) = check_most limit (Value v)
  check_given limit (Number n) = λ i. i

  -- each product of this number and those that follow is at most this
  abbrev pub check_products_from : ℕ → Operand → List Operand → Insertion → Insertion
  check_products_from limit n [] i = i
  check_products_from limit n (k ∷ ks) i =
      and_then (binary op.ArithMuli num.Index n k) (λ product j. check_products_from limit (Value product) ks (check_most limit (Value product) j)) i

  -- each product of the first numbers is at most this, from the first number itself on
  abbrev pub check_products : ℕ → List Operand → Insertion → Insertion
  check_products limit [] i = i
  check_products limit (n ∷ ns) i = check_products_from limit n ns (check_most limit n i)

  -- an allocation's sizes
  abbrev pub check_sizes : List Operand → Insertion → Insertion
  check_sizes ns i = check_products most_cells ns (each (check_given most_cells) ns i)

  -- a number lies from this one to the greatest bound, read as signed numbers
  unfoldable pub check_between : ℕ → Operand → Insertion → Insertion
  check_between low n i = check Sle num.Index n (Number greatest_bound) (check Sge num.Index n (Number low) i)

  -- a loop's bounds and its step are in range
  abbrev pub check_bounds : Operand → Operand → Operand → Insertion → Insertion
  check_bounds lower upper step i = check_between 1 step (check_between least_bound upper (check_between least_bound lower i))

  abbrev pub check_range : Range → Insertion → Insertion
  check_range r = check_bounds (Value r.lower) (Value r.upper) (Value r.step)

  -- the turns of each dimension, behind those of others; each is at most what a loop may have
  abbrev pub check_turns : List Operand → List Range → Makes (List Operand)
  check_turns ns [] i = (ns, i)
  check_turns ns (r ∷ rs) i =
      and_then (turns r.lower r.upper r.step) (λ n j. check_turns (ns ++ Value n ∷ []) rs (check_most most_elements (Value n) j)) i

  -- the bounds of all dimensions, then their turns, then the products of these
  abbrev pub check_ranges : List Range → Insertion → Insertion
  check_ranges rs i = and_then (check_turns [] rs) (check_products most_elements) (each check_range rs i)

-- ---- the insertion before an operation

-- the ranges of a parallel loop, whose operands are lower bounds, upper bounds and steps in groups
abbrev pub ranges_of : List ℕ → List ValueNo → List Range
ranges_of (a ∷ b ∷ c ∷ more) vs = ranges (take a vs) (take b (drop a vs)) (take c (drop b (drop a vs)))
ranges_of _ vs = []

-- what guards an operation, from the parts that it has
abbrev pub guarded : {X Y : Type 0} → Guard → Op-F X Y → Insertion → Insertion
guarded guard.Nothing o i = i
guarded guard.Divisor o i = check_divisor (message guard.Divisor) (number_type o.types) (operand_at o.operands 1) i
guarded guard.Quotient o i = check_quotient (message guard.Quotient) (number_type o.types) (operand_at o.operands 0) (operand_at o.operands 1) i
guarded guard.Shift o i = check (message guard.Shift) Ult (number_type o.types) (operand_at o.operands 1) (Number (width_of (number_type o.types))) i
guarded guard.Load o i = check_access (message guard.Load) o.written o.operands i
guarded guard.Store o i = check_access (message guard.Store) o.written (drop 1 o.operands) i
guarded guard.Dimension o i = check (message guard.Dimension) Ult num.Index (operand_at o.operands 1) (Number (rank o.written)) i
guarded guard.Alloc o i = check_sizes (message guard.Alloc) (asked_sizes o.types o.operands) i
guarded guard.Group o i = check_most (message guard.Group) most_elements (operand_at o.operands 0) i
guarded guard.Bounds o i = check_bounds (message guard.Bounds) (operand_at o.operands 0) (operand_at o.operands 1) (operand_at o.operands 2) i
guarded guard.Parallel o i = check_ranges (message guard.Parallel) (ranges_of o.groups o.operands) i

-- the insertion before an operation, whose values are numbered from here on
abbrev pub insertion : {X Y : Type 0} → Op-F X Y → ℕ → Insertion
insertion o free = guarded (guard_of o.kind) o (begun o.at free)

-- ---- a module with its checks

-- an operation behind its insertion, with the checks in its regions
abbrev pub behind_insertion : Op-F (Numbering (List Op)) (Numbering Region) → Insertion → List Op × ℕ
behind_insertion o i = (
  i.ops ++ roll-Op (record { kind = o.kind; at = o.at; operands = o.operands; groups = o.groups; written = o.written; results = o.results; types = o.types; attr = o.attr; regions = (in_turn o.regions i.free).0 }) ∷ [],
  (in_turn o.regions i.free).1,
)

-- an operation becomes its insertion and itself; what is made isn't checked in turn
abbrev pub op_checked : Op-F (Numbering (List Op)) (Numbering Region) → Numbering (List Op)
op_checked o free = behind_insertion o (insertion o free)

abbrev pub region_checked : Region-F (Numbering (List Op)) (Numbering Region) → Numbering Region
region_checked r free = (roll-Region (record { params = r.params; ops = joined (in_turn r.ops free).0 }), (in_turn r.ops free).1)

abbrev pub checked_op : Op → Numbering (List Op)
checked_op = fold-Op (Numbering (List Op)) (Numbering Region) op_checked region_checked

abbrev pub checked_region : Region → Numbering Region
checked_region = fold-Region (Numbering (List Op)) (Numbering Region) op_checked region_checked

-- ---- the first number that no value of a function has

-- one more than the greatest of these numbers
abbrev pub above : List ValueNo → ℕ
above [] = 0
above (v ∷ vs) = max (v.0 + 1) (above vs)

abbrev pub greatest : List ℕ → ℕ
greatest [] = 0
greatest (n ∷ ns) = max n (greatest ns)

abbrev pub above_params : List (ValueNo × Ty) → ℕ
above_params [] = 0
above_params (p ∷ params) = max (p.0.0 + 1) (above_params params)

-- of what an operation and its regions define
abbrev pub op_above : Op-F ℕ ℕ → ℕ
op_above o = max (above o.results) (greatest o.regions)

abbrev pub region_above : Region-F ℕ ℕ → ℕ
region_above r = max (above_params r.params) (greatest r.ops)

abbrev pub above_op : Op → ℕ
above_op = fold-Op ℕ ℕ op_above region_above

abbrev pub above_region : Region → ℕ
above_region = fold-Region ℕ ℕ op_above region_above

abbrev pub first_free : Func → ℕ
first_free f = max (above_params f.params) (above_region f.body)

-- the values that are made have the numbers from the first free one on, in the order of the text
abbrev pub checked_func : Func → Func
checked_func f = record f { body = (checked_region f.body (first_free f)).0 }

abbrev pub checked : Module → Module
checked program = record { funcs = map checked_func program.funcs }
