-- The checks before operations are no parallel loops, and hold none.
use Rattle.std.proofs.Common.{◌≡◌, ℕ, ◌+◌, Bool, true, false, cond, List, [], ◌∷◌, ◌++◌, map, Option, Some, None, refl, ◌∙◌}
use Rattle.std.specs.Prelude.{drop}
use Rattle.int_ops.specs.declared.Pred.{Pred}
use Rattle.int_ops.specs.declared.Pred.TheVariants.{Ne, Sge, Sle, Ule, Ult}
use Rattle.op_table.specs.declared.kind.OpKind.{OpKind}
use Rattle.op_table.specs.declared.kind.OpKind.TheVariants as op
use Rattle.ir_forms.specs.declared.ops.Attr.{Attr}
use Rattle.ir_forms.specs.declared.ops.Attr.TheVariants as attr
use Rattle.ir_forms.specs.declared.ops.Op.{Op, Op-F, roll-Op}
use Rattle.ir_forms.specs.declared.ops.Op.TheFolds.{fold-roll-Op}
use Rattle.ir_forms.specs.declared.ops.Region.{Region}
use Rattle.ir_forms.specs.declared.ops.ValueNo.{ValueNo}
use Rattle.ir_forms.specs.declared.types.Dim.{Dim}
use Rattle.ir_forms.specs.declared.types.MemTy.{MemTy}
use Rattle.ir_forms.specs.declared.types.NumTy.{NumTy}
use Rattle.ir_forms.specs.declared.types.NumTy.TheVariants as num
use Rattle.ir_forms.specs.declared.types.Ty.{Ty}
use Rattle.ir_forms.specs.declared.types.Ty.TheVariants as ty
use Rattle.made_ops.specs.declared.insertion.Insertion.{Insertion}
use Rattle.made_ops.specs.declared.insertion.Operand.{Operand}
use Rattle.made_ops.specs.declared.insertion.Operand.TheVariants.{Value, Number}
use Rattle.made_ops.specs.Made as made
use Rattle.check_insert.specs.declared.guard.Guard.{Guard}
use Rattle.check_insert.specs.declared.guard.Guard.TheVariants as guard
use Rattle.check_insert.specs.Shape as shape
use Rattle.check_insert.specs.Shape.{each, guard_of, check_quotient, check_index, check_between}
use Rattle.parallel_for.specs.Shape.{is_parallel}
use Rattle.line_laws.specs.Parallels.{first_of, op_parallel, region_parallel, parallel_in, parallel_inside}

-- ---- lists

pub first_both : (xs ys : List (Option ℕ)) → first_of xs ≡ None → first_of ys ≡ None → first_of (xs ++ ys) ≡ None
first_both [] ys e f = f
first_both (None ∷ xs) ys e f = first_both xs ys e f
first_both (Some n ∷ xs) ys e f = cc

pub here_none : (n : Option ℕ) (more : List (Option ℕ)) → first_of (n ∷ more) ≡ None → n ≡ None
here_none None more e = refl
here_none (Some n) more e = e

pub more_none : (n : Option ℕ) (more : List (Option ℕ)) → first_of (n ∷ more) ≡ None → first_of more ≡ None
more_none None more e = e
more_none (Some n) more e = cc

pub first_next : (n : Option ℕ) (more : List (Option ℕ)) → n ≡ None → first_of more ≡ None → first_of (n ∷ more) ≡ None
first_next None more e f = f
first_next (Some n) more e f = e

-- ---- operations

-- none of these is a parallel loop or holds one
abbrev pub AreBare : List Op → Type 0
AreBare ops = first_of (map parallel_in ops) ≡ None

pub bare_both : (os ps : List Op) → AreBare os → AreBare ps → AreBare (os ++ ps)
bare_both [] ps e f = f
bare_both (o ∷ os) ps e f =
    first_next (parallel_in o) (map parallel_in (os ++ ps)) (here_none (parallel_in o) (map parallel_in os) e)
    (bare_both os ps (more_none (parallel_in o) (map parallel_in os) e) f)

is_none : (b : Bool) (at : ℕ) (first : Option ℕ) → b ≡ false → first ≡ None → cond b (Some at) first ≡ None
is_none true at first e f = cc
is_none false at first e f = f

pub no_loop : (b : Bool) (at : ℕ) (first : Option ℕ) → cond b (Some at) first ≡ None → b ≡ false
no_loop true at first e = cc
no_loop false at first e = refl

pub none_inside : (b : Bool) (at : ℕ) (first : Option ℕ) → cond b (Some at) first ≡ None → first ≡ None
none_inside true at first e = cc
none_inside false at first e = e

pub rolled : (x : Op-F Op Region) → is_parallel x.kind ≡ false → first_of (map parallel_inside x.regions) ≡ None → parallel_in (roll-Op x) ≡ None
rolled x e f = fold-roll-Op (Option ℕ) (Option ℕ) op_parallel region_parallel x ∙ is_none (is_parallel x.kind) x.at (first_of (map parallel_inside x.regions)) e f

-- ---- what a pass makes

abbrev IsBare : Insertion → Type 0
IsBare i = AreBare i.ops

placed_bare : (o : Op) (i : Insertion) → parallel_in o ≡ None → IsBare i → IsBare (made.placed o i)
placed_bare o i e b = bare_both i.ops (o ∷ []) b (first_next (parallel_in o) [] e refl)

made_bare : (kind : OpKind) (os : List ValueNo) (ws : List Ty) (rs : List ValueNo) (ts : List Ty) (a : Attr) (i : Insertion) → is_parallel kind ≡ false → parallel_in (made.made_op kind os ws rs ts a [] i) ≡ None
made_bare kind os ws rs ts a i e = rolled (record { kind = kind; at = i.at; operands = os; groups = []; written = ws; results = rs; types = ts; attr = a; regions = [] }) e refl

acts_bare : (kind : OpKind) (os : List ValueNo) (ws : List Ty) (a : Attr) (i : Insertion) → is_parallel kind ≡ false → IsBare i → IsBare (made.acts kind os ws a i)
acts_bare kind os ws a i e b = placed_bare (made.made_op kind os ws [] [] a [] i) i (made_bare kind os ws [] [] a i e) b

gives_bare : (kind : OpKind) (os : List ValueNo) (ws : List Ty) (t : Ty) (a : Attr) (i : Insertion) → is_parallel kind ≡ false → IsBare i → IsBare (made.gives kind os ws t a i).1
gives_bare kind os ws t a i e b = placed_bare (made.made_op kind os ws (made.next_value i ∷ []) (t ∷ []) a [] i) i (made_bare kind os ws (made.next_value i ∷ []) (t ∷ []) a i e) b

constant_bare : (t : NumTy) (n : ℕ) (i : Insertion) → IsBare i → IsBare (made.constant t n i).1
constant_bare t n i b = go (made.found t n i.known)
  where
    go : (o : Option ValueNo) → IsBare (made.found_or_new t n o i).1
    go (Some v) = b
    go None = gives_bare op.ArithConstant [] [] (made.type_of t) (made.literal t n) i refl b

operand_bare : (t : NumTy) (a : Operand) (i : Insertion) → IsBare i → IsBare (made.operand t a i).1
operand_bare t (Value v) i b = b
operand_bare t (Number n) i b = constant_bare t n i b

binary_bare : (kind : OpKind) (t : NumTy) (x y : Operand) (i : Insertion) → is_parallel kind ≡ false → IsBare i → IsBare (made.binary kind t x y i).1
binary_bare kind t x y i e b = gives_bare kind ((made.operand t x i).0 ∷ (made.operand t y (made.operand t x i).1).0 ∷ []) (made.type_of t ∷ made.type_of t ∷ []) (made.type_of t) attr.None (made.operand t y (made.operand t x i).1).1 e (operand_bare t y (made.operand t x i).1 (operand_bare t x i b))

compare_bare : (p : Pred) (t : NumTy) (x y : Operand) (i : Insertion) → IsBare i → IsBare (made.compare p t x y i).1
compare_bare p t x y i b = gives_bare op.ArithCmpi ((made.operand t x i).0 ∷ (made.operand t y (made.operand t x i).1).0 ∷ []) (made.type_of t ∷ made.type_of t ∷ []) (made.type_of made.truth) (attr.Pred p) (made.operand t y (made.operand t x i).1).1 refl (operand_bare t y (made.operand t x i).1 (operand_bare t x i b))

dimension_bare : (m : MemTy) (v : ValueNo) (k : ℕ) (i : Insertion) → IsBare i → IsBare (made.dimension m v k i).1
dimension_bare m v k i b = gives_bare op.MemrefDim (v ∷ (made.constant num.Index k i).0 ∷ []) (ty.Memref m ∷ []) ty.Index attr.None (made.constant num.Index k i).1 refl (constant_bare num.Index k i b)

module _ (text : List ℕ) where
  asserts_bare : (v : ValueNo) (i : Insertion) → IsBare i → IsBare (made.asserts text v i)
  asserts_bare v i b = acts_bare op.CfAssert (v ∷ []) [] (attr.Text text) i refl b

  check_bare : (p : Pred) (t : NumTy) (x y : Operand) (i : Insertion) → IsBare i → IsBare (shape.check text p t x y i)
  check_bare p t x y i b = asserts_bare (made.compare p t x y i).0 (made.compare p t x y i).1 (compare_bare p t x y i b)

  quotient_bare : (t : NumTy) (x y : Operand) (i : Insertion) → IsBare i → IsBare (check_quotient text t x y i)
  unfolding check_quotient
  quotient_bare t x y i b =
      let divides : ValueNo × Insertion = made.compare Ne t y (Number 0) i in
      let above : ValueNo × Insertion = made.compare Ne t x (Number (made.least t)) divides.1 in
      let keeps : ValueNo × Insertion = made.compare Ne t y (Number (made.minus_one t)) above.1 in
      let fits : ValueNo × Insertion = made.binary op.ArithOri made.truth (Value above.0) (Value keeps.0) keeps.1 in
      let all : ValueNo × Insertion = made.binary op.ArithAndi made.truth (Value divides.0) (Value fits.0) fits.1 in
      asserts_bare all.0 all.1 (binary_bare op.ArithAndi made.truth (Value divides.0) (Value fits.0) fits.1 refl
      (binary_bare op.ArithOri made.truth (Value above.0) (Value keeps.0) keeps.1 refl
      (compare_bare Ne t y (Number (made.minus_one t)) above.1
      (compare_bare Ne t x (Number (made.least t)) divides.1
      (compare_bare Ne t y (Number 0) i b)))))

  index_bare : (m : MemTy) (v : ValueNo) (k : ℕ) (x : ValueNo) (i : Insertion) → IsBare i → IsBare (check_index text m v k x i)
  unfolding check_index
  index_bare m v k x i b = check_bare Ult num.Index (Value x) (Value (made.dimension m v k i).0) (made.dimension m v k i).1 (dimension_bare m v k i b)

  indexes_bare : (m : MemTy) (v : ValueNo) (k : ℕ) (dims : List Dim) (vs : List ValueNo) (i : Insertion) → IsBare i → IsBare (shape.check_indexes text m v k dims vs i)
  indexes_bare m v k [] vs i b = b
  indexes_bare m v k (d ∷ dims) [] i b = b
  indexes_bare m v k (d ∷ dims) (x ∷ vs) i b = indexes_bare m v (k + 1) dims vs (check_index text m v k x i) (index_bare m v k x i b)

  access_bare : (ts : List Ty) (vs : List ValueNo) (i : Insertion) → IsBare i → IsBare (shape.check_access text ts vs i)
  access_bare (ty.Memref m ∷ ts) (v ∷ vs) i b = indexes_bare m v 0 m.dims vs i b
  access_bare _ _ i b = b

  given_bare : (limit : ℕ) (x : Operand) (i : Insertion) → IsBare i → IsBare (shape.check_given text limit x i)
  given_bare limit (Value v) i b = check_bare Ule num.Index (Value v) (Number limit) i b
  given_bare limit (Number n) i b = b

  each_bare : (limit : ℕ) (ns : List Operand) (i : Insertion) → IsBare i → IsBare (each (shape.check_given text limit) ns i)
  each_bare limit [] i b = b
  each_bare limit (n ∷ ns) i b = each_bare limit ns (shape.check_given text limit n i) (given_bare limit n i b)

  products_from_bare : (limit : ℕ) (n : Operand) (ns : List Operand) (i : Insertion) → IsBare i → IsBare (shape.check_products_from text limit n ns i)
  products_from_bare limit n [] i b = b
  products_from_bare limit n (k ∷ ks) i b =
      let product : ValueNo × Insertion = made.binary op.ArithMuli num.Index n k i in
      products_from_bare limit (Value product.0) ks (shape.check_most text limit (Value product.0) product.1)
      (check_bare Ule num.Index (Value product.0) (Number limit) product.1 (binary_bare op.ArithMuli num.Index n k i refl b))

  products_bare : (limit : ℕ) (ns : List Operand) (i : Insertion) → IsBare i → IsBare (shape.check_products text limit ns i)
  products_bare limit [] i b = b
  products_bare limit (n ∷ ns) i b = products_from_bare limit n ns (shape.check_most text limit n i) (check_bare Ule num.Index n (Number limit) i b)

  between_bare : (low : ℕ) (n : Operand) (i : Insertion) → IsBare i → IsBare (check_between text low n i)
  unfolding check_between
  between_bare low n i b =
      check_bare Sle num.Index n (Number shape.greatest_bound) (shape.check text Sge num.Index n (Number low) i) (check_bare Sge num.Index n (Number low) i b)

abbrev is_loop_guard : Guard → Bool
is_loop_guard guard.Parallel = true
is_loop_guard _ = false

module _ {X Y : Type 0} (o : Op-F X Y) where
  guarded_bare : (g : Guard) (i : Insertion) → is_loop_guard g ≡ false → IsBare i → IsBare (shape.guarded g o i)
  guarded_bare guard.Nothing i e b = b
  guarded_bare guard.Divisor i e b = check_bare (shape.message guard.Divisor) Ne (shape.number_type o.types) (shape.operand_at o.operands 1) (Number 0) i b
  guarded_bare guard.Quotient i e b = quotient_bare (shape.message guard.Quotient) (shape.number_type o.types) (shape.operand_at o.operands 0) (shape.operand_at o.operands 1) i b
  guarded_bare guard.Shift i e b = check_bare (shape.message guard.Shift) Ult (shape.number_type o.types) (shape.operand_at o.operands 1) (Number (made.width_of (shape.number_type o.types))) i b
  guarded_bare guard.Load i e b = access_bare (shape.message guard.Load) o.written o.operands i b
  guarded_bare guard.Store i e b = access_bare (shape.message guard.Store) o.written (drop 1 o.operands) i b
  guarded_bare guard.Dimension i e b = check_bare (shape.message guard.Dimension) Ult num.Index (shape.operand_at o.operands 1) (Number (shape.rank o.written)) i b
  guarded_bare guard.Alloc i e b =
      products_bare (shape.message guard.Alloc) shape.most_cells (shape.asked_sizes o.types o.operands) (each (shape.check_given (shape.message guard.Alloc) shape.most_cells) (shape.asked_sizes o.types o.operands) i)
      (each_bare (shape.message guard.Alloc) shape.most_cells (shape.asked_sizes o.types o.operands) i b)
  guarded_bare guard.Group i e b = check_bare (shape.message guard.Group) Ule num.Index (shape.operand_at o.operands 0) (Number shape.most_elements) i b
  guarded_bare guard.Bounds i e b =
      let text : List ℕ = shape.message guard.Bounds in
      let first : Insertion = check_between text shape.least_bound (shape.operand_at o.operands 0) i in
      let second : Insertion = check_between text shape.least_bound (shape.operand_at o.operands 1) first in
      between_bare text 1 (shape.operand_at o.operands 2) second (between_bare text shape.least_bound (shape.operand_at o.operands 1) first (between_bare text shape.least_bound (shape.operand_at o.operands 0) i b))
  guarded_bare guard.Parallel i e b = cc

pub guards_loop : (kind : OpKind) → is_loop_guard (guard_of kind) ≡ is_parallel kind
guards_loop op.ScfParallel = refl
guards_loop _ = refl

pub insertion_bare : {X Y : Type 0} (o : Op-F X Y) (free : ℕ) → is_parallel o.kind ≡ false → IsBare (shape.insertion o free)
insertion_bare o free e = guarded_bare o (guard_of o.kind) (made.begun o.at free) (guards_loop o.kind ∙ e) refl
