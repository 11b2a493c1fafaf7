-- The kinds of the operations that are made of a parallel loop.
use Rattle.std.proofs.Common.{◌≡◌, ℕ, ◌+◌, Bool, true, false, List, [], ◌∷◌, ◌++◌, Option, Some, None, refl}
use Rattle.std.specs.Prelude.{◌*◌, drop}
use Rattle.int_ops.specs.declared.Pred.{Pred}
use Rattle.int_ops.specs.declared.Pred.TheVariants.{Eq, Sgt, Sle}
use Rattle.op_table.specs.declared.kind.OpKind.{OpKind}
use Rattle.op_table.specs.declared.kind.OpKind.TheVariants as op
use Rattle.ir_forms.specs.declared.ops.Attr.{Attr}
use Rattle.ir_forms.specs.declared.ops.Attr.TheVariants as attr
use Rattle.ir_forms.specs.declared.ops.Op.{Op, roll-Op}
use Rattle.ir_forms.specs.declared.ops.Region.{Region}
use Rattle.ir_forms.specs.declared.ops.ValueNo.{ValueNo}
use Rattle.ir_forms.specs.declared.types.NumTy.{NumTy}
use Rattle.ir_forms.specs.declared.types.NumTy.TheVariants as num
use Rattle.ir_forms.specs.declared.types.Ty.{Ty}
use Rattle.ir_forms.specs.declared.types.Ty.TheVariants as ty
use Rattle.ir_verify.specs.Levels.{kinds_at, kinds_in, kinds_along, kinds_held}
use Rattle.made_ops.specs.declared.insertion.Insertion.{Insertion}
use Rattle.made_ops.specs.declared.insertion.Operand.{Operand}
use Rattle.made_ops.specs.declared.insertion.Operand.TheVariants.{Value, Number}
use Rattle.made_ops.specs.Made.{Makes, acts, and_then, asserts, begun, binary, chooses, compare, constant, counted_turns, found, found_or_new, gives, inside, literal, made_op, next_value, operand, placed, truth, turns, type_of, yielding, yields}
use Rattle.loop_blocks.specs.declared.halves.Range.{Range}
use Rattle.loop_blocks.specs.declared.making.Carried.{Carried}
use Rattle.loop_blocks.specs.declared.making.Course.{Course}
use Rattle.loop_blocks.specs.declared.options.Options.{Options}
use Rattle.loop_blocks.specs.declared.told.Plan.{Plan}
use Rattle.loop_blocks.specs.declared.told.Told.{Told}
use Rattle.loop_blocks.specs.Made.{Typed, calls, carried, carried_params, carries, course, each_taken, indexes, message, region_of, renewed, returns, taken, tries, tries_body, types_in, values_in}
use Rattle.loop_blocks.specs.Blocks.{at_number, block_args, block_count, block_func, block_func_of, block_ops, block_range, block_size, iteration, numbers, rounded_up, split_number, told, variables}
use Rattle.loop_blocks.specs.Halves.{dispatch_args, dispatch_func, dispatch_func_of, dispatch_ops, goes_on, halves, halving, hands_on, launches, middle, range_taken}
use Rattle.loop_blocks.specs.Loops.{all_turns, blocks_from, chooses_blocks, nested, one_block, product, product_from, runs_blocks, serial_loop, several_blocks, split_loop, told_of}
use Rattle.split_kinds.proofs.Passing.{Pass, pass_both, ops_both, op_passes, region_passes}

-- the kinds of what is made
abbrev pub is_made : OpKind → Bool
is_made op.AioTryCall = true
is_made op.ArithAddi = true
is_made op.ArithAndi = true
is_made op.ArithCmpi = true
is_made op.ArithConstant = true
is_made op.ArithDivui = true
is_made op.ArithMaxui = true
is_made op.ArithMinui = true
is_made op.ArithMuli = true
is_made op.ArithRemui = true
is_made op.ArithSubi = true
is_made op.AsyncAddToGroup = true
is_made op.AsyncAwaitAll = true
is_made op.AsyncCreateGroup = true
is_made op.AsyncExecute = true
is_made op.AsyncYield = true
is_made op.CfAssert = true
is_made op.FuncCall = true
is_made op.FuncReturn = true
is_made op.ScfCondition = true
is_made op.ScfFor = true
is_made op.ScfIf = true
is_made op.ScfWhile = true
is_made op.ScfYield = true
is_made _ = false

module _ (ok : OpKind → Bool) (made : (k : OpKind) → is_made k ≡ true → ok k ≡ true) where
  -- all operations that were made pass
  abbrev pub Fit : Insertion → Type 0
  Fit i = Pass ok (kinds_along i.ops)

  -- ---- one operation

  made_fit : (kind : OpKind) (vs : List ValueNo) (ws : List Ty) (rs : List ValueNo) (ts : List Ty) (a : Attr) (regions : List Region) (i : Insertion) → is_made kind ≡ true → Pass ok (kinds_held regions) → Fit i → Fit (placed (made_op kind vs ws rs ts a regions i) i)
  made_fit kind vs ws rs ts a regions i e held f =
      let o : Op = made_op kind vs ws rs ts a regions i in
      ops_both ok i.ops (o ∷ []) f
      (pass_both ok (kinds_at o) [] (op_passes ok (record { kind = kind; at = i.at; operands = vs; groups = []; written = ws; results = rs; types = ts; attr = a; regions = regions }) (made kind e) held) tt)

  acts_fit : (kind : OpKind) (vs : List ValueNo) (ws : List Ty) (a : Attr) (i : Insertion) → is_made kind ≡ true → Fit i → Fit (acts kind vs ws a i)
  acts_fit kind vs ws a i e f = made_fit kind vs ws [] [] a [] i e tt f

  gives_fit : (kind : OpKind) (vs : List ValueNo) (ws : List Ty) (t : Ty) (a : Attr) (i : Insertion) → is_made kind ≡ true → Fit i → Fit (gives kind vs ws t a i).1
  gives_fit kind vs ws t a i e f = made_fit kind vs ws (next_value i ∷ []) (t ∷ []) a [] i e tt f

  constant_fit : (t : NumTy) (n : ℕ) (i : Insertion) → Fit i → Fit (constant t n i).1
  constant_fit t n i f = go (found t n i.known)
    where
      go : (o : Option ValueNo) → Fit (found_or_new t n o i).1
      go (Some v) = f
      go None = gives_fit op.ArithConstant [] [] (type_of t) (literal t n) i refl f

  operand_fit : (t : NumTy) (a : Operand) (i : Insertion) → Fit i → Fit (operand t a i).1
  operand_fit t (Value v) i f = f
  operand_fit t (Number n) i f = constant_fit t n i f

  binary_fit : (kind : OpKind) (t : NumTy) (a b : Operand) (i : Insertion) → is_made kind ≡ true → Fit i → Fit (binary kind t a b i).1
  binary_fit kind t a b i e f =
      let x : ValueNo × Insertion = operand t a i in
      let y : ValueNo × Insertion = operand t b x.1 in
      gives_fit kind (x.0 ∷ y.0 ∷ []) (type_of t ∷ type_of t ∷ []) (type_of t) attr.None y.1 e (operand_fit t b x.1 (operand_fit t a i f))

  compare_fit : (p : Pred) (t : NumTy) (a b : Operand) (i : Insertion) → Fit i → Fit (compare p t a b i).1
  compare_fit p t a b i f =
      let x : ValueNo × Insertion = operand t a i in
      let y : ValueNo × Insertion = operand t b x.1 in
      gives_fit op.ArithCmpi (x.0 ∷ y.0 ∷ []) (type_of t ∷ type_of t ∷ []) (type_of truth) (attr.Pred p) y.1 refl (operand_fit t b x.1 (operand_fit t a i f))

  asserts_fit : (text : List ℕ) (v : ValueNo) (i : Insertion) → Fit i → Fit (asserts text v i)
  asserts_fit text v i f = acts_fit op.CfAssert (v ∷ []) [] (attr.Text text) i refl f

  yields_fit : (t : NumTy) (v : ValueNo) (i : Insertion) → Fit i → Fit (yields t v i)
  yields_fit t v i f = acts_fit op.ScfYield (v ∷ []) (type_of t ∷ []) attr.None i refl f

  returns_fit : (v : ValueNo) (i : Insertion) → Fit i → Fit (returns v i)
  returns_fit v i f = acts_fit op.FuncReturn (v ∷ []) (type_of truth ∷ []) attr.None i refl f

  calls_fit : (name : List ℕ) (args : Typed) (i : Insertion) → Fit i → Fit (calls name args i).1
  calls_fit name args i f = gives_fit op.FuncCall (values_in args) (types_in args) (type_of truth) (attr.Callee name) i refl f

  tries_body_fit : (name : List ℕ) (captured : Typed) (vs : List ValueNo) (v : ValueNo) (i : Insertion) → Fit i → Fit (tries_body name captured vs v i).1
  unfolding tries_body
  tries_body_fit name captured vs v i f =
      let args : Typed = indexes vs ++ captured in
      let a : ValueNo × Insertion = tries name args i in
      binary_fit op.ArithAndi truth (Value v) (Value a.0) a.1 refl (gives_fit op.AioTryCall (values_in args) (types_in args) (type_of truth) (attr.Callee name) i refl f)

  -- ---- what makes operations, and what makes a value

  abbrev Keeps : {A : Type 0} → Makes A → Type 0
  Keeps f = (i : Insertion) → Fit i → Fit (f i).1

  abbrev Stays : (Insertion → Insertion) → Type 0
  Stays f = (i : Insertion) → Fit i → Fit (f i)

  region_of_fit : (params : Typed) (f : Insertion → Insertion) (i : Insertion) → Stays f → Pass ok (kinds_in (region_of params f i).0)
  region_of_fit params f i h = region_passes ok (record { params = params; ops = (f (inside i)).ops }) (h (inside i) tt)

  yielding_fit : (t : NumTy) (f : Makes ValueNo) (i : Insertion) → Keeps f → Pass ok (kinds_in (yielding t f i).0)
  yielding_fit t f i h =
      let a : ValueNo × Insertion = f (inside i) in
      region_passes ok (record { params = []; ops = (yields t a.0 a.1).ops }) (yields_fit t a.0 a.1 (h (inside i) tt))

  chooses_fit : (t : NumTy) (c : ValueNo) (f g : Makes ValueNo) → Keeps f → Keeps g → Keeps (chooses t c f g)
  chooses_fit t c f g hf hg i fit =
      let r : Region × Insertion = yielding t f (record i { free = i.free + 1 }) in
      let s : Region × Insertion = yielding t g r.1 in
      made_fit op.ScfIf (c ∷ []) [] (next_value i ∷ []) (type_of t ∷ []) attr.None (r.0 ∷ s.0 ∷ []) s.1 refl
      (pass_both ok (kinds_in r.0) (kinds_in s.0 ++ []) (yielding_fit t f (record i { free = i.free + 1 }) hf) (pass_both ok (kinds_in s.0) [] (yielding_fit t g r.1 hg) tt)) fit

  carried_fit : Keeps carried
  unfolding carried
  carried_fit i f = f

  carries_fit : (c : Course) (turn : ValueNo → ValueNo → Makes ValueNo) → ((v w : ValueNo) → Keeps (turn v w)) → Keeps (carries c turn)
  carries_fit c turn h i fit =
      let l : Carried = (carried i).0 in
      let j : Insertion = (carried i).1 in
      let body : Insertion → Insertion = and_then (turn l.variable l.ok) (yields truth) in
      let r : Region × Insertion = region_of (carried_params l) body j in
      made_fit op.ScfFor (c.lower ∷ c.upper ∷ c.step ∷ c.first ∷ []) [] (l.last ∷ []) (type_of truth ∷ []) attr.None (r.0 ∷ []) r.1 refl
      (pass_both ok (kinds_in r.0) [] (region_of_fit (carried_params l) body j (λ k f. yields_fit truth (turn l.variable l.ok k).0 (turn l.variable l.ok k).1 (h l.variable l.ok k f))) tt) (carried_fit i fit)

  -- ---- values alone

  each_taken_fit : (vs : List ValueNo) → Keeps (each_taken vs)
  each_taken_fit [] i f = f
  each_taken_fit (v ∷ vs) i f = each_taken_fit vs (taken i).1 f

  renewed_fit : (ps : Typed) → Keeps (renewed ps)
  renewed_fit [] i f = f
  renewed_fit (p ∷ ps) i f = renewed_fit ps (taken i).1 f

  told_fit : (p : Plan) → Keeps (told p)
  told_fit p i f =
      let i2 : Insertion = (taken (taken i).1).1 in
      let i3 : Insertion = (each_taken p.lowers i2).1 in
      let i4 : Insertion = (each_taken p.lowers i3).1 in
      let i5 : Insertion = (each_taken p.lowers i4).1 in
      renewed_fit p.captured i5 (each_taken_fit p.lowers i4 (each_taken_fit p.lowers i3 (each_taken_fit p.lowers i2 f)))

  -- ---- numbers

  counted_turns_fit : (lower upper step : ValueNo) → Keeps (counted_turns lower upper step)
  counted_turns_fit lower upper step i f =
      let a : ValueNo × Insertion = binary op.ArithSubi num.Index (Value upper) (Value lower) i in
      let b : ValueNo × Insertion = binary op.ArithSubi num.Index (Value a.0) (Number 1) a.1 in
      let c : ValueNo × Insertion = binary op.ArithDivui num.Index (Value b.0) (Value step) b.1 in
      binary_fit op.ArithAddi num.Index (Value c.0) (Number 1) c.1 refl
      (binary_fit op.ArithDivui num.Index (Value b.0) (Value step) b.1 refl
      (binary_fit op.ArithSubi num.Index (Value a.0) (Number 1) a.1 refl
      (binary_fit op.ArithSubi num.Index (Value upper) (Value lower) i refl f)))

  turns_fit : (lower upper step : ValueNo) → Keeps (turns lower upper step)
  turns_fit lower upper step i f =
      let a : ValueNo × Insertion = compare Sle num.Index (Value upper) (Value lower) i in
      chooses_fit num.Index a.0 (constant num.Index 0) (counted_turns lower upper step) (constant_fit num.Index 0) (counted_turns_fit lower upper step) a.1 (compare_fit Sle num.Index (Value upper) (Value lower) i f)

  rounded_fit : (n d : Operand) → Keeps (rounded_up n d)
  rounded_fit n d i f =
      let a : ValueNo × Insertion = binary op.ArithAddi num.Index n d i in
      let b : ValueNo × Insertion = binary op.ArithSubi num.Index (Value a.0) (Number 1) a.1 in
      binary_fit op.ArithDivui num.Index (Value b.0) d b.1 refl
      (binary_fit op.ArithSubi num.Index (Value a.0) (Number 1) a.1 refl
      (binary_fit op.ArithAddi num.Index n d i refl f))

  size_fit : (workers least : ℕ) (trip : ValueNo) → Keeps (block_size workers least trip)
  size_fit workers least trip i f =
      let a : ValueNo × Insertion = rounded_up (Value trip) (Number (4 * workers)) i in
      let b : ValueNo × Insertion = binary op.ArithMaxui num.Index (Value a.0) (Number least) a.1 in
      binary_fit op.ArithMinui num.Index (Value trip) (Value b.0) b.1 refl
      (binary_fit op.ArithMaxui num.Index (Value a.0) (Number least) a.1 refl
      (rounded_fit (Value trip) (Number (4 * workers)) i f))

  split_number_fit : (n t : ValueNo) → Keeps (split_number n t)
  split_number_fit n t i f =
      let a : ValueNo × Insertion = binary op.ArithRemui num.Index (Value n) (Value t) i in
      binary_fit op.ArithDivui num.Index (Value n) (Value t) a.1 refl (binary_fit op.ArithRemui num.Index (Value n) (Value t) i refl f)

  numbers_fit : (ts : List ValueNo) (n : ValueNo) → Keeps (numbers ts n)
  numbers_fit [] n i f = f
  numbers_fit (t ∷ ts) n i f = split_number_fit (numbers ts n i).0.0 t (numbers ts n i).1 (numbers_fit ts n i f)

  at_number_fit : (lower step n : ValueNo) → Keeps (at_number lower step n)
  at_number_fit lower step n i f =
      let a : ValueNo × Insertion = binary op.ArithMuli num.Index (Value n) (Value step) i in
      binary_fit op.ArithAddi num.Index (Value lower) (Value a.0) a.1 refl (binary_fit op.ArithMuli num.Index (Value n) (Value step) i refl f)

  variables_fit : (lowers steps ns : List ValueNo) → Keeps (variables lowers steps ns)
  variables_fit [] steps ns i f = f
  variables_fit (l ∷ ls) [] ns i f = f
  variables_fit (l ∷ ls) (s ∷ ss) [] i f = f
  variables_fit (l ∷ ls) (s ∷ ss) (n ∷ ns) i f = variables_fit ls ss ns (at_number l s n i).1 (at_number_fit l s n i f)

  -- ---- the function of a block

  iteration_fit : (body : List ℕ) (t : Told) (n v : ValueNo) → Keeps (iteration body t n v)
  unfolding iteration
  iteration_fit body t n v i f =
      let a : (ValueNo × List ValueNo) × Insertion = numbers (drop 1 t.turns) n i in
      let b : List ValueNo × Insertion = variables t.lowers t.steps (a.0.0 ∷ a.0.1) a.1 in
      tries_body_fit body t.captured b.0 v b.1 (variables_fit t.lowers t.steps (a.0.0 ∷ a.0.1) a.1 (numbers_fit (drop 1 t.turns) n i f))

  block_range_fit : (block : ValueNo) (t : Told) → Keeps (block_range block t)
  block_range_fit block t i f =
      let a : ValueNo × Insertion = binary op.ArithMuli num.Index (Value block) (Value t.size) i in
      let b : ValueNo × Insertion = binary op.ArithAddi num.Index (Value a.0) (Value t.size) a.1 in
      let c : ValueNo × Insertion = binary op.ArithMinui num.Index (Value b.0) (Value t.trip) b.1 in
      let d : ValueNo × Insertion = constant num.Index 1 c.1 in
      constant_fit truth 1 d.1 (constant_fit num.Index 1 c.1
      (binary_fit op.ArithMinui num.Index (Value b.0) (Value t.trip) b.1 refl
      (binary_fit op.ArithAddi num.Index (Value a.0) (Value t.size) a.1 refl
      (binary_fit op.ArithMuli num.Index (Value block) (Value t.size) i refl f))))

  block_ops_fit : (body : List ℕ) (block : ValueNo) (t : Told) → Stays (block_ops body block t)
  unfolding block_ops
  block_ops_fit body block t i f =
      let a : Course × Insertion = block_range block t i in
      let b : ValueNo × Insertion = carries a.0 (iteration body t) a.1 in
      returns_fit b.0 b.1 (carries_fit a.0 (iteration body t) (iteration_fit body t) a.1 (block_range_fit block t i f))

  pub block_func_fit : (p : Plan) → Pass ok (kinds_in (block_func p).body)
  unfolding block_func_of
  block_func_fit p =
      let a : ValueNo × Insertion = taken (begun p.at 0) in
      let b : Told × Insertion = told p a.1 in
      region_passes ok (record { params = []; ops = (block_ops p.body a.0 b.0 b.1).ops }) (block_ops_fit p.body a.0 b.0 b.1 (told_fit p a.1 tt))

  -- ---- the function that hands on blocks

  hands_on_fit : (dispatch : List ℕ) (r : Range) (t : Told) → Stays (hands_on dispatch r t)
  hands_on_fit dispatch r t i f =
      let a : ValueNo × Insertion = calls dispatch (dispatch_args r t) i in
      acts_fit op.AsyncYield [] [] attr.None (asserts message a.0 a.1) refl (asserts_fit message a.0 a.1 (calls_fit dispatch (dispatch_args r t) i f))

  launches_fit : (f : Insertion → Insertion) → Stays f → Keeps (launches f)
  launches_fit f h i fit =
      let token : ValueNo = (taken i).0 in
      let r : Region × Insertion = region_of [] f (taken i).1 in
      let o : Op = roll-Op (record { kind = op.AsyncExecute; at = r.1.at; operands = []; groups = 0 ∷ 0 ∷ []; written = []; results = token ∷ []; types = ty.Token ∷ []; attr = attr.None; regions = r.0 ∷ [] }) in
      ops_both ok i.ops (o ∷ []) fit
      (pass_both ok (kinds_at o) [] (op_passes ok (record { kind = op.AsyncExecute; at = r.1.at; operands = []; groups = 0 ∷ 0 ∷ []; written = []; results = token ∷ []; types = ty.Token ∷ []; attr = attr.None; regions = r.0 ∷ [] }) (made op.AsyncExecute refl)
      (pass_both ok (kinds_in r.0) [] (region_of_fit [] f (taken i).1 h) tt)) tt)

  goes_on_fit : (first end : ValueNo) → Stays (goes_on first end)
  goes_on_fit first end i f =
      let a : ValueNo × Insertion = binary op.ArithSubi num.Index (Value end) (Value first) i in
      let b : ValueNo × Insertion = compare Sgt num.Index (Value a.0) (Number 1) a.1 in
      acts_fit op.ScfCondition (b.0 ∷ end ∷ []) (ty.Index ∷ []) attr.None b.1 refl
      (compare_fit Sgt num.Index (Value a.0) (Number 1) a.1 (binary_fit op.ArithSubi num.Index (Value end) (Value first) i refl f))

  middle_fit : (first end : ValueNo) → Keeps (middle first end)
  middle_fit first end i f =
      let a : ValueNo × Insertion = binary op.ArithSubi num.Index (Value end) (Value first) i in
      let b : ValueNo × Insertion = binary op.ArithDivui num.Index (Value a.0) (Number 2) a.1 in
      binary_fit op.ArithAddi num.Index (Value first) (Value b.0) b.1 refl
      (binary_fit op.ArithDivui num.Index (Value a.0) (Number 2) a.1 refl
      (binary_fit op.ArithSubi num.Index (Value end) (Value first) i refl f))

  halves_fit : (dispatch : List ℕ) (r : Range) (t : Told) → Stays (halves dispatch r t)
  halves_fit dispatch r t i f =
      let a : ValueNo × Insertion = middle r.first r.end i in
      let upper : Insertion → Insertion = hands_on dispatch (record r { first = a.0 }) t in
      let b : ValueNo × Insertion = launches upper a.1 in
      let c : ValueNo × Insertion = gives op.AsyncAddToGroup (b.0 ∷ r.group ∷ []) (ty.Token ∷ []) ty.Index attr.None b.1 in
      yields_fit num.Index a.0 c.1
      (gives_fit op.AsyncAddToGroup (b.0 ∷ r.group ∷ []) (ty.Token ∷ []) ty.Index attr.None b.1 refl
      (launches_fit upper (hands_on_fit dispatch (record r { first = a.0 }) t) a.1 (middle_fit r.first r.end i f)))

  halving_fit : (dispatch : List ℕ) (r : Range) (t : Told) → Keeps (halving dispatch r t)
  halving_fit dispatch r t i fit =
      let left : ValueNo = (taken i).0 in
      let e : ValueNo × Insertion = taken (taken i).1 in
      let before : Region × Insertion = region_of ((e.0, ty.Index) ∷ []) (goes_on r.first e.0) e.1 in
      let f : ValueNo × Insertion = taken before.1 in
      let turn : Insertion → Insertion = halves dispatch (record r { end = f.0 }) t in
      let after : Region × Insertion = region_of ((f.0, ty.Index) ∷ []) turn f.1 in
      made_fit op.ScfWhile (r.end ∷ []) (ty.Index ∷ []) (left ∷ []) (ty.Index ∷ []) attr.None (before.0 ∷ after.0 ∷ []) after.1 refl
      (pass_both ok (kinds_in before.0) (kinds_in after.0 ++ []) (region_of_fit ((e.0, ty.Index) ∷ []) (goes_on r.first e.0) e.1 (goes_on_fit r.first e.0))
      (pass_both ok (kinds_in after.0) [] (region_of_fit ((f.0, ty.Index) ∷ []) turn f.1 (halves_fit dispatch (record r { end = f.0 }) t)) tt)) fit

  dispatch_ops_fit : (dispatch block : List ℕ) (r : Range) (t : Told) → Stays (dispatch_ops dispatch block r t)
  unfolding dispatch_ops
  dispatch_ops_fit dispatch block r t i f =
      let a : ValueNo × Insertion = halving dispatch r t i in
      let b : ValueNo × Insertion = calls block (block_args r.first t) a.1 in
      returns_fit b.0 b.1 (calls_fit block (block_args r.first t) a.1 (halving_fit dispatch r t i f))

  range_fit : Keeps range_taken
  unfolding range_taken
  range_fit i f = f

  pub dispatch_func_fit : (p : Plan) → Pass ok (kinds_in (dispatch_func p).body)
  unfolding dispatch_func_of
  dispatch_func_fit p =
      let a : Range × Insertion = range_taken (begun p.at 0) in
      let b : Told × Insertion = told p a.1 in
      region_passes ok (record { params = []; ops = (dispatch_ops p.dispatch p.block a.0 b.0 b.1).ops }) (dispatch_ops_fit p.dispatch p.block a.0 b.0 b.1 (told_fit p a.1 (range_fit (begun p.at 0) tt)))

  -- ---- what stands in a loop's place

  all_turns_fit : (lowers uppers steps : List ValueNo) → Keeps (all_turns lowers uppers steps)
  all_turns_fit [] us ss i f = f
  all_turns_fit (l ∷ ls) [] ss i f = f
  all_turns_fit (l ∷ ls) (u ∷ us) [] i f = f
  all_turns_fit (l ∷ ls) (u ∷ us) (s ∷ ss) i f = all_turns_fit ls us ss (turns l u s i).1 (turns_fit l u s i f)

  product_from_fit : (n : ValueNo) (ns : List ValueNo) → Keeps (product_from n ns)
  product_from_fit n [] i f = f
  product_from_fit n (m ∷ ms) i f =
      let a : ValueNo × Insertion = binary op.ArithMuli num.Index (Value n) (Value m) i in
      product_from_fit a.0 ms a.1 (binary_fit op.ArithMuli num.Index (Value n) (Value m) i refl f)

  product_fit : (ns : List ValueNo) → Keeps (product ns)
  product_fit [] i f = constant_fit num.Index 1 i f
  product_fit (n ∷ ns) i f = product_from_fit n ns i f

  one_block_fit : (block : List ℕ) (t : Told) → Keeps (one_block block t)
  one_block_fit block t i f =
      let a : ValueNo × Insertion = constant num.Index 0 i in
      calls_fit block (block_args a.0 t) a.1 (constant_fit num.Index 0 i f)

  several_fit : (dispatch : List ℕ) (count : ValueNo) (t : Told) → Keeps (several_blocks dispatch count t)
  several_fit dispatch count t i f =
      let a : ValueNo × Insertion = binary op.ArithSubi num.Index (Value count) (Number 1) i in
      let b : ValueNo × Insertion = gives op.AsyncCreateGroup (a.0 ∷ []) [] ty.Group attr.None a.1 in
      let c : ValueNo × Insertion = constant num.Index 0 b.1 in
      let d : ValueNo × Insertion = calls dispatch (dispatch_args (blocks_from b.0 c.0 count) t) c.1 in
      acts_fit op.AsyncAwaitAll (b.0 ∷ []) [] attr.None d.1 refl
      (calls_fit dispatch (dispatch_args (blocks_from b.0 c.0 count) t) c.1
      (constant_fit num.Index 0 b.1
      (gives_fit op.AsyncCreateGroup (a.0 ∷ []) [] ty.Group attr.None a.1 refl
      (binary_fit op.ArithSubi num.Index (Value count) (Number 1) i refl f))))

  chooses_blocks_fit : (p : Plan) (count : ValueNo) (t : Told) → Keeps (chooses_blocks p count t)
  chooses_blocks_fit p count t i f =
      let a : ValueNo × Insertion = compare Eq num.Index (Value count) (Number 1) i in
      chooses_fit truth a.0 (one_block p.block t) (several_blocks p.dispatch count t) (one_block_fit p.block t) (several_fit p.dispatch count t) a.1 (compare_fit Eq num.Index (Value count) (Number 1) i f)

  runs_blocks_fit : (options : Options) (p : Plan) (ns : List ValueNo) (trip : ValueNo) → Keeps (runs_blocks options p ns trip)
  unfolding runs_blocks
  runs_blocks_fit options p ns trip i f =
      let a : ValueNo × Insertion = block_size options.workers options.least trip i in
      let b : ValueNo × Insertion = block_count trip a.0 a.1 in
      chooses_blocks_fit p b.0 (told_of p ns trip a.0) b.1 (rounded_fit (Value trip) (Value a.0) a.1 (size_fit options.workers options.least trip i f))

  pub split_loop_fit : (options : Options) (p : Plan) → Stays (split_loop options p)
  split_loop_fit options p i f =
      let a : List ValueNo × Insertion = all_turns p.lowers p.uppers p.steps i in
      let b : ValueNo × Insertion = product a.0 a.1 in
      let c : ValueNo × Insertion = compare Sgt num.Index (Value b.0) (Number 0) b.1 in
      let d : ValueNo × Insertion = chooses truth c.0 (runs_blocks options p a.0 b.0) (constant truth 1) c.1 in
      asserts_fit message d.0 d.1
      (chooses_fit truth c.0 (runs_blocks options p a.0 b.0) (constant truth 1) (runs_blocks_fit options p a.0 b.0) (constant_fit truth 1) c.1
      (compare_fit Sgt num.Index (Value b.0) (Number 0) b.1 (product_fit a.0 a.1 (all_turns_fit p.lowers p.uppers p.steps i f))))

  nested_fit : (body : List ℕ) (captured : Typed) (lowers uppers steps vs : List ValueNo) (v : ValueNo) → Keeps (nested body captured lowers uppers steps vs v)
  nested_fit body captured [] us ss vs v i f = tries_body_fit body captured vs v i f
  nested_fit body captured (l ∷ ls) [] ss vs v i f = tries_body_fit body captured vs v i f
  nested_fit body captured (l ∷ ls) (u ∷ us) [] vs v i f = tries_body_fit body captured vs v i f
  nested_fit body captured (l ∷ ls) (u ∷ us) (s ∷ ss) vs v i f =
      carries_fit (course l u s v) (λ w. nested body captured ls us ss (vs ++ w ∷ [])) (λ w x. nested_fit body captured ls us ss (vs ++ w ∷ []) x) i f

  pub serial_loop_fit : (p : Plan) → Stays (serial_loop p)
  serial_loop_fit p i f =
      let a : ValueNo × Insertion = constant truth 1 i in
      let b : ValueNo × Insertion = nested p.body p.captured p.lowers p.uppers p.steps [] a.0 a.1 in
      asserts_fit message b.0 b.1 (nested_fit p.body p.captured p.lowers p.uppers p.steps [] a.0 a.1 (constant_fit truth 1 i f))
