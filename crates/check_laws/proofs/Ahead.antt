-- The buffer of an operation is the same before its checks: they make no buffers.
use Rattle.std.proofs.Common.{◌≡◌, ◌<◌, ℕ, zero, suc, ◌+◌, ◌==◌, cond, Bool, true, false, List, [], ◌∷◌, ◌++◌, map, drop, length, Option, Some, None, slice_get, refl, sym, ap, ◌∙◌, subst, arith}
use Rattle.int_ops.specs.declared.Pred.{Pred}
use Rattle.int_ops.specs.declared.Pred.TheVariants.{Ult}
use Rattle.op_table.specs.declared.kind.OpKind.{OpKind}
use Rattle.op_table.specs.declared.kind.OpKind.TheVariants as op
use Rattle.op_table.specs.Rows.{row_of}
use Rattle.ir_forms.specs.declared.args.ArgValue.{ArgValue}
use Rattle.ir_forms.specs.declared.ops.Attr.{Attr}
use Rattle.ir_forms.specs.declared.ops.Attr.TheVariants as attr
use Rattle.ir_forms.specs.declared.ops.Func.{Func}
use Rattle.ir_forms.specs.declared.ops.Module.{Module}
use Rattle.ir_forms.specs.declared.ops.Op.{Op, out-Op, roll-Op, out-roll-Op}
use Rattle.ir_forms.specs.declared.ops.Region.{Region}
use Rattle.ir_forms.specs.declared.ops.ValueNo.{ValueNo}
use Rattle.ir_forms.specs.declared.types.Dim.{Dim}
use Rattle.ir_forms.specs.declared.types.MemTy.{MemTy}
use Rattle.ir_forms.specs.declared.types.NumTy.{NumTy}
use Rattle.ir_forms.specs.declared.types.NumTy.TheVariants as num
use Rattle.ir_forms.specs.declared.types.Ty.{Ty}
use Rattle.ir_forms.specs.declared.types.Ty.TheVariants as ty
use Rattle.ir_forms.specs.Ops.{kind_of, operands_of, written_of, results_of}
use Rattle.ir_verify.specs.Places.{Around, Seen, Spot, params_of, defined, types_of, place_of, is_none_left}
use Rattle.ir_verify.specs.Rules.{counted, operands_given, operand_fits, written_asked, written_fits, first_type}
use Rattle.ir_verify.specs.Scopes.{lookup}
use Rattle.ir_verify.specs.Types.{is_memref, same_type}
use Rattle.made_ops.specs.Made.{type_of, truth, begun, placed, made_op, next_value, acts, gives, found, found_or_new, constant, operand, compare, dimension, literal}
use Rattle.made_ops.specs.declared.insertion.Insertion.{Insertion}
use Rattle.made_ops.specs.declared.insertion.Operand.{Operand}
use Rattle.made_ops.specs.declared.insertion.Operand.TheVariants as from
use Rattle.check_insert.specs.declared.guard.Guard.{Guard}
use Rattle.check_insert.specs.declared.guard.Guard.TheVariants as guard
use Rattle.check_insert.specs.Shape as shape
use Rattle.check_insert.proofs.Extended.{checked_extends, checked_names}
use Rattle.checked_values.proofs.InOrder.{once}
use Rattle.checked_values.specs.Laws.{DefinesOnce}
use Rattle.sound_laws.specs.Made.{behind}
use Rattle.sound_laws.proofs.Plain.{rolled}
use Rattle.sound_laws.proofs.Sight.{or_else, lookup_append}
use Rattle.source_meaning.specs.declared.values.Val.{Val}
use Rattle.source_meaning.specs.declared.values.Val.TheVariants.{Number, Memory, Element, Group}
use Rattle.source_meaning.specs.Values.{Env, named, values_at, dims_in}
use Rattle.source_meaning.specs.Parts.{Node}
use Rattle.source_meaning.specs.Renaming.{renamed_params}
use Rattle.source_meaning.specs.Steps.{operands, value}
use Rattle.source_meaning.specs.Tasks.{Program}
use Rattle.source_meaning.specs.TaskOrder.{Each}
use Rattle.typed_laws.specs.Typed.{Typing, HasType, AreGood, ArgsFit}
use Rattle.typed_laws.proofs.Types.{memref_is, type_same}
use Rattle.typed_laws.proofs.Facts.{reads, writes, counts}
use Rattle.typed_laws.proofs.Envs.{Within, EnvTyped, env_of, env_within}
use Rattle.typed_laws.proofs.Coded.{Code, OpGood, code_head}
use Rattle.typed_laws.proofs.Leaving.{form_by, there_is}
use Rattle.typed_laws.proofs.Operands.{one_type, value_there}
use Rattle.typed_laws.proofs.Framed.{TaskTyped, Ready}
use Rattle.typed_laws.proofs.Typings.{task_typed}
use Rattle.check_laws.specs.Fits.{HasRank}
use Rattle.check_laws.specs.Laws.{HasNoBodyParams, IsWellFormed, RanksAhead, CheckedHasResults}
use Rattle.check_laws.proofs.Defined.{each_append, each_at, func_good}
use Rattle.check_laws.proofs.Pass.{checked_sound}
use Rattle.check_laws.proofs.Safe.{operations_have_results}

-- ---- the checks of an access make no buffers

abbrev NotBuffer : Ty → Type 0
NotBuffer t = is_memref t ≡ false

abbrev MakesNone : Op → Type 0
MakesNone o = Each NotBuffer (types_of o)

abbrev NoBuffers : Insertion → Type 0
NoBuffers i = Each MakesNone i.ops

made_none : (kind : OpKind) (vs : List ValueNo) (ws : List Ty) (rs : List ValueNo) (ts : List Ty) (a : Attr) (i : Insertion) → Each NotBuffer ts → NoBuffers i → NoBuffers (placed (made_op kind vs ws rs ts a [] i) i)
made_none kind vs ws rs ts a i plain h = each_append MakesNone i.ops (made_op kind vs ws rs ts a [] i ∷ []) h (subst (Each NotBuffer) (sym (rolled kind i.at vs ws rs ts a []).types) plain, tt)

acts_none : (kind : OpKind) (vs : List ValueNo) (ws : List Ty) (a : Attr) (i : Insertion) → NoBuffers i → NoBuffers (acts kind vs ws a i)
acts_none kind vs ws a i h = made_none kind vs ws [] [] a i tt h

gives_none : (kind : OpKind) (vs : List ValueNo) (ws : List Ty) (t : Ty) (a : Attr) (i : Insertion) → NotBuffer t → NoBuffers i → NoBuffers (gives kind vs ws t a i).1
gives_none kind vs ws t a i plain h = made_none kind vs ws (next_value i ∷ []) (t ∷ []) a i (plain, tt) h

number_none : (t : NumTy) → NotBuffer (type_of t)
number_none (num.Int w) = refl
number_none num.Index = refl

constant_none : (t : NumTy) (n : ℕ) (i : Insertion) → NoBuffers i → NoBuffers (constant t n i).1
constant_none t n i h = step (found t n i.known) where
  step : (o : Option ValueNo) → NoBuffers (found_or_new t n o i).1
  step (Some v) = h
  step None = gives_none op.ArithConstant [] [] (type_of t) (literal t n) i (number_none t) h

operand_none : (t : NumTy) (a : Operand) (i : Insertion) → NoBuffers i → NoBuffers (operand t a i).1
operand_none t (from.Value v) i h = h
operand_none t (from.Number n) i h = constant_none t n i h

compare_none : (p : Pred) (t : NumTy) (a b : Operand) (i : Insertion) → NoBuffers i → NoBuffers (compare p t a b i).1
compare_none p t a b i h =
    let x = operand t a i in
    let y = operand t b x.1 in
    gives_none op.ArithCmpi (x.0 ∷ y.0 ∷ []) (type_of t ∷ type_of t ∷ []) (type_of truth) (attr.Pred p) y.1 refl (operand_none t b x.1 (operand_none t a i h))

check_none : (text : List ℕ) (p : Pred) (t : NumTy) (a b : Operand) (i : Insertion) → NoBuffers i → NoBuffers (shape.check text p t a b i)
check_none text p t a b i h = let c = compare p t a b i in acts_none op.CfAssert (c.0 ∷ []) [] (attr.Text text) c.1 (compare_none p t a b i h)

dimension_none : (m : MemTy) (buffer : ValueNo) (k : ℕ) (i : Insertion) → NoBuffers i → NoBuffers (dimension m buffer k i).1
dimension_none m buffer k i h = let x = constant num.Index k i in gives_none op.MemrefDim (buffer ∷ x.0 ∷ []) (ty.Memref m ∷ []) ty.Index attr.None x.1 refl (constant_none num.Index k i h)

index_none : (text : List ℕ) (m : MemTy) (buffer : ValueNo) (k : ℕ) (v : ValueNo) (i : Insertion) → NoBuffers i → NoBuffers (shape.check_index text m buffer k v i)
unfolding shape.check_index
index_none text m buffer k v i h = let d = dimension m buffer k i in check_none text Ult num.Index (from.Value v) (from.Value d.0) d.1 (dimension_none m buffer k i h)

indexes_none : (text : List ℕ) (m : MemTy) (buffer : ValueNo) (k : ℕ) (dims : List Dim) (vs : List ValueNo) (i : Insertion) → NoBuffers i → NoBuffers (shape.check_indexes text m buffer k dims vs i)
indexes_none text m buffer k [] vs i h = h
indexes_none text m buffer k (d ∷ dims) [] i h = h
indexes_none text m buffer k (d ∷ dims) (v ∷ vs) i h = indexes_none text m buffer (k + 1) dims vs (shape.check_index text m buffer k v i) (index_none text m buffer k v i h)

access_none : (text : List ℕ) (ts : List Ty) (vs : List ValueNo) (i : Insertion) → NoBuffers i → NoBuffers (shape.check_access text ts vs i)
access_none text (ty.Memref m ∷ ts) (buffer ∷ vs) i h = indexes_none text m buffer 0 m.dims vs i h
access_none text ts vs i h = h

-- ---- what is visible behind them

defined_none : (vs : List ValueNo) (ts : List Ty) (v : ℕ) (m : MemTy) → Each NotBuffer ts → lookup (defined vs ts) v ≡ Some (ty.Memref m) → ⊥
defined_none [] ts v m h e = cc
defined_none (x ∷ vs) [] v m h e = step (x.0 == v) (defined_none vs [] v m tt) e where
  step : (b : Bool) → (lookup (defined vs []) v ≡ Some (ty.Memref m) → ⊥) → cond b (Some ty.Untyped) (lookup (defined vs []) v) ≡ Some (ty.Memref m) → ⊥
  step true again e = cc
  step false again e = again e
defined_none (x ∷ vs) (t ∷ ts) v m h e = step (x.0 == v) (defined_none vs ts v m h.1) e where
  not_here : t ≡ ty.Memref m → ⊥
  not_here same = let is : is_memref (ty.Memref m) ≡ false = subst NotBuffer same h.0 in cc

  step : (b : Bool) → (lookup (defined vs ts) v ≡ Some (ty.Memref m) → ⊥) → cond b (Some t) (lookup (defined vs ts) v) ≡ Some (ty.Memref m) → ⊥
  step true again e = not_here cc
  step false again e = again e

seen_before : (ops : List Op) (seen : Seen) (v : ℕ) (m : MemTy) → Each MakesNone ops → lookup (behind seen ops) v ≡ Some (ty.Memref m) → lookup seen v ≡ Some (ty.Memref m)
seen_before [] seen v m h e = e
seen_before (o ∷ ops) seen v m h e =
    let d : Seen = defined (results_of o) (types_of o) in
    step (lookup seen v) (sym (lookup_append seen d v) ∙ seen_before ops (seen ++ d) v m h.1 e)
  where
    step : (x : Option Ty) → or_else x (lookup (defined (results_of o) (types_of o)) v) ≡ Some (ty.Memref m) → x ≡ Some (ty.Memref m)
    step (Some t) e = e
    step None e = absurd (defined_none (results_of o) (types_of o) v m h.0 e)

module _ (funcs : List Func) where
  code_behind : (a : Around) (seen : Seen) (ops rest : List Op) → Code funcs a seen (ops ++ rest) → Code funcs a (behind seen ops) rest
  code_behind a seen [] rest h = h
  code_behind a seen (o ∷ ops) rest h = code_behind a (seen ++ defined (results_of o) (types_of o)) ops rest (code_head funcs a seen o (ops ++ rest) h).1

  -- the operation behind them reads a buffer that is visible before them
  module _ (typing : Typing) (a : Around) (seen : Seen) (env : Env) (typed : EnvTyped typing seen env) (ops : List Op) (o : Op) (last : Bool) (good : OpGood funcs a (behind seen ops) o last) where
    abbrev s : Spot
    s = record { seen = behind seen ops; place = place_of funcs a last o }

    rank_of : (m : MemTy) (v : Val) → HasType typing (ty.Memref m) v → length (dims_in v) ≡ length m.dims
    rank_of m (Memory b dims) h = h
    rank_of m (Number n) h = elim h [ ]
    rank_of m (Element x) h = elim h [ ]
    rank_of m (Group g) h = elim h [ ]

    buffer_rank : (kind : OpKind) → kind_of o ≡ kind → Each MakesNone ops → (i : ℕ) → i < counted (row_of kind).operands (operands_given (row_of kind).form o) → written_asked (row_of kind).form s.place ≡ 1 →
        ((u : Ty) → operand_fits (row_of kind).form s.place i u ≡ true → same_type (first_type (written_of o)) u ≡ true) → ((u : Ty) → written_fits (row_of kind).form s.place 0 u ≡ true → is_memref u ≡ true) →
        length (dims_in (value (values_at env (operands_of o)) i)) ≡ shape.rank (written_of o)
    buffer_rank kind e none i less one f g =
        let all = counts s good.spot.fine in
        let n : length (operands_of o) ≡ counted (row_of kind).operands (operands_given (row_of kind).form o) = all.operands ∙ ap (λ k. counted (row_of k).operands (operands_given (row_of k).form o)) e in
        let x = there_is (operands_of o) _ i n less in
        let r = reads s good.spot.fine i x.0 x.1 in
        let w = one_type (written_of o) (all.written ∙ ap (λ k. written_asked (row_of k).form s.place) e ∙ one) in
        let m = memref_is w.0 (g w.0 (subst (λ k. written_fits k s.place 0 w.0 ≡ true) (form_by o kind e) (writes s good.spot.fine 0 w.0 (ap (λ (ts : List Ty). slice_get ts 0) w.1)))) in
        let same : first_type (written_of o) ≡ r.type = type_same _ _ (f r.type (subst (λ k. operand_fits k s.place i r.type ≡ true) (form_by o kind e) r.fits)) in
        let type : r.type ≡ ty.Memref m.0 = sym same ∙ ap (λ (ts : List Ty). first_type ts) w.1 ∙ m.1 in
        let visible : lookup seen x.0.0 ≡ Some (ty.Memref m.0) = seen_before ops seen x.0.0 m.0 none (r.visible ∙ ap (λ (t : Ty). Some t) type) in
        ap (λ v. length (dims_in v)) (value_there env (operands_of o) i x.0 x.1)
        ∙ rank_of m.0 (named env x.0.0) (env_of typing seen env typed x.0.0 (ty.Memref m.0) visible)
        ∙ ap (λ (t : Ty). shape.rank (t ∷ [])) (sym m.1) ∙ ap shape.rank (sym w.1)

-- ---- guards

same_rank : (g : Guard) (o : Node) (rs : List Region) (vs : List Val) → HasRank g (record o { regions = rs }) vs → HasRank g o vs
same_rank guard.Load o rs vs h = h
same_rank guard.Store o rs vs h = h
same_rank guard.Dimension o rs vs h = h
same_rank g o rs vs h = tt

-- what is inserted before an access makes no buffers
abbrev GuardsMakeNone : Guard → Type 0
GuardsMakeNone g = (o : Node) (i : Insertion) → NoBuffers i → NoBuffers (shape.guarded g o i)

load_none : GuardsMakeNone guard.Load
load_none o i h = access_none (shape.message guard.Load) o.written o.operands i h

store_none : GuardsMakeNone guard.Store
store_none o i h = access_none (shape.message guard.Store) o.written (drop 1 o.operands) i h

dim_none : GuardsMakeNone guard.Dimension
dim_none o i h = check_none (shape.message guard.Dimension) Ult num.Index (shape.operand_at o.operands 1) (from.Number (shape.rank o.written)) i h

insertion_none : (o : Node) (free : ℕ) (kind : OpKind) → o.kind ≡ kind → GuardsMakeNone (shape.guard_of kind) → NoBuffers (shape.insertion o free)
insertion_none o free kind e f = subst (λ k. NoBuffers (shape.guarded (shape.guard_of k) o (begun o.at free))) (sym e) (f o (begun o.at free) tt)

module _ (funcs : List Func) (typing : Typing) (a : Around) (seen : Seen) (env : Env) (typed : EnvTyped typing seen env) (x : Node) (free : ℕ) (o : Op) (last : Bool) (good : OpGood funcs a (behind seen (shape.insertion x free).ops) o last) where
  rank_by : (kind : OpKind) → x.kind ≡ kind → kind_of o ≡ kind → HasRank (shape.guard_of kind) (out-Op o) (values_at env (operands_of o))
  rank_by op.MemrefLoad e f = buffer_rank funcs typing a seen env typed (shape.insertion x free).ops o last good op.MemrefLoad f (insertion_none x free op.MemrefLoad e load_none) 0 (omega arith) refl (λ u fit. fit) (λ u fit. fit)
  rank_by op.MemrefStore e f = buffer_rank funcs typing a seen env typed (shape.insertion x free).ops o last good op.MemrefStore f (insertion_none x free op.MemrefStore e store_none) 1 (omega arith) refl (λ u fit. fit) (λ u fit. fit)
  rank_by op.MemrefDim e f = buffer_rank funcs typing a seen env typed (shape.insertion x free).ops o last good op.MemrefDim f (insertion_none x free op.MemrefDim e dim_none) 0 (omega arith) refl (λ u fit. fit) (λ u fit. fit)
  rank_by kind e f = tt

-- ---- tasks

ranks_ahead : (q : Program) (entry : ℕ) (f : Func) (args : List ArgValue) → AreGood q.funcs → slice_get q.funcs entry ≡ Some f → ArgsFit f.params args → RanksAhead q entry args
ranks_ahead q entry f args all at fit u a o free rs rest none is =
    let t = task_typed q all entry f args at fit u a in
    let h : TaskTyped q.funcs t.0 t.1 u = t.2 in
    let ops : List Op = (shape.insertion o free).ops in
    let p : Op = roll-Op (record o { regions = rs }) in
    let layer : out-Op p ≡ record o { regions = rs } = out-roll-Op (record o { regions = rs }) in
    let ready : Within h.seen h.now = subst (λ ps. Ready q.funcs t.0 h.now ps h.seen) none h.ready in
    let code : Code q.funcs h.around (behind h.seen ops) (p ∷ rest) = code_behind q.funcs h.around h.seen ops (p ∷ rest) (subst (Code q.funcs h.around h.seen) is h.code) in
    let good = (code_head q.funcs h.around (behind h.seen ops) p rest code).0 in
    same_rank (shape.guard_of o.kind) o rs (operands u o)
    (subst (λ (x : Node). HasRank (shape.guard_of o.kind) x (values_at u.scope.env x.operands)) layer
    (rank_by q.funcs t.0 h.around h.seen u.scope.env (env_within t.0 h.seen h.now u.scope.env ready h.env) o free p (is_none_left rest) good o.kind refl (ap (λ (x : Node). x.kind) layer)))

-- ---- the module with checks

mapped_at : (fs : List Func) (k : ℕ) (g : Func) → slice_get (map shape.checked_func fs) k ≡ Some g → (f : Func) × (slice_get fs k ≡ Some f) × (shape.checked_func f ≡ g)
mapped_at [] k g e = cc
mapped_at (f ∷ fs) zero g e = let same : shape.checked_func f ≡ g = cc in (f, refl, same)
mapped_at (f ∷ fs) (suc k) g e = mapped_at fs k g e

pub at_mapped : (fs : List Func) (k : ℕ) (f : Func) → slice_get fs k ≡ Some f → slice_get (map shape.checked_func fs) k ≡ Some (shape.checked_func f)
at_mapped [] k f e = cc
at_mapped (g ∷ fs) zero f e = let same : g ≡ f = cc in ap (λ x. Some (shape.checked_func x)) same
at_mapped (g ∷ fs) (suc k) f e = at_mapped fs k f e

pub checked_good : (program : Module) → IsWellFormed program.funcs → AreGood (shape.checked program).funcs
checked_good program h k g at =
    let m = mapped_at program.funcs k g at in
    let f : Func = m.0 in
    let bare : params_of f.body ≡ [] = each_at HasNoBodyParams program.funcs k f h.bodies m.1 in
    func_good (shape.checked program).funcs (checked_sound program h.sound) k g at
    (subst DefinesOnce m.2 (once program h.sound k f m.1 (each_at DefinesOnce program.funcs k f h.once m.1)))
    (let e = (checked_extends program h.sound).each k f g m.1 at in e.body_params ∙ ap (renamed_params (checked_names program.funcs k).renamed) bare)

pub checked_has_results : CheckedHasResults
checked_has_results program q entry args h iq a u is =
    operations_have_results program q entry args h.sound h.types iq a.range
    (ranks_ahead q entry (shape.checked_func a.func) args (subst AreGood (sym iq.funcs) (checked_good program h))
    (subst (λ fs. slice_get fs entry ≡ Some (shape.checked_func a.func)) (sym iq.funcs) (at_mapped program.funcs entry a.func a.found)) a.fit) u is
