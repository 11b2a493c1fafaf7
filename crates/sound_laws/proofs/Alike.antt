-- The rules ask the same of an operation and of what is kept of it.
use Rattle.std.proofs.Common.{◌*◌, max, ◌≡◌, ℕ, zero, suc, ◌+◌, ◌-◌, ◌==◌, nat_le, not, ◌&&◌, ◌||◌, Bool, true, false, if◌then◌else◌, List, [], ◌∷◌, length, Option, Some, None, slice_get, refl, sym, ap, ◌∙◌}
use Rattle.std.specs.Option.{is_some}
use Rattle.ir_forms.specs.declared.ops.Op.{Op}
use Rattle.ir_forms.specs.declared.ops.Region.{Region}
use Rattle.ir_forms.specs.declared.ops.Func.{Func}
use Rattle.ir_forms.specs.declared.ops.ValueNo.{ValueNo}
use Rattle.ir_forms.specs.declared.types.Ty.{Ty}
use Rattle.ir_forms.specs.Ops.{kind_of, operands_of, written_of, results_of, attr_of, regions_of, ops_of}
use Rattle.op_table.specs.declared.form.Form.{Form}
use Rattle.op_table.specs.declared.form.Form.TheVariants.{Binary, Compare, Select, Extend, Truncate, IndexCast, Constant, Call, TryCall, Return, For, If, While, Condition, Parallel, Yield, Alloc, Dealloc, Load, Store, Dim, Execute, TaskYield, Await, AddToGroup}
use Rattle.op_table.specs.Rows.{is_other, row_of}
use Rattle.ir_verify.specs.declared.fault.VerifyKind.{VerifyKind}
use Rattle.ir_verify.specs.declared.fault.VerifyKind.TheVariants.{Undefined, TypeMismatch, Terminator, UnknownFunc, Arity, AsyncInMemref, BlockingAwait}
use Rattle.ir_verify.specs.declared.place.Nest.{Nest}
use Rattle.ir_verify.specs.declared.place.Nest.TheVariants.{InFunction, InTask, InLoop}
use Rattle.ir_verify.specs.Breaks.{some_from, some_at, misfits, operand_breaks, written_breaks, result_breaks, param_breaks, last_form, lacks_end, may_be_empty, region_breaks, is_call, is_await, would_block, miscounts, has_results, tries_results, own_breaks}
use Rattle.ir_verify.specs.Types.{has_async_cells, same_type, holds, is_element, is_number, is_index, dims_of, open_dims, extends, truncates, casts_index, literal_fits, is_value}
use Rattle.ir_verify.specs.Forms.{row_at, form, end_asked, ends, is_ending}
use Rattle.ir_verify.specs.Places.{Around, Place, Seen, types_of, params_of, is_none_left}
use Rattle.ir_verify.specs.Scopes.{lookup}
use Rattle.ir_verify.specs.Rules.{first_type, is_asked, is_held, groups_of, group, first_params, dimensions, end_around, is_in_place, end_type_in, end_type, end_length_in, end_length, given_types, param_type, result_type, param_length, result_length, select_operand, for_operand, condition_operand, load_operand, store_operand, dim_operand, member_operand, bound_place, task_operand, operand_fits, counted, operands_given, operands_asked, written_fits, end_asks, written_asked, result_fits, types_given, types_asked, for_param, while_types, param_fits, params_fit, groups_fit}
use Rattle.source_meaning.specs.Renaming.{renamed_value, renamed_params}

-- what the rules read of a called function
pub record LikeCallee (a b : Option Func) : Type 0 where
  pub is_there : is_some b ≡ is_some a
  pub params : (i : ℕ) → param_type b i ≡ param_type a i
  pub results : (i : ℕ) → result_type b i ≡ result_type a i
  pub param_count : (n : ℕ) → param_length b n ≡ param_length a n
  pub result_count : (n : ℕ) → result_length b n ≡ result_length a n
  pub has : has_results b ≡ has_results a

-- what they read of what stands round an operation; a function that no task calls may stand for one that a task calls
pub record LikeAround (a b : Around) : Type 0 where
  pub calm : b.is_called ≡ true → a.is_called ≡ true
  pub nest : b.nest ≡ a.nest
  pub asked : end_around b.holder b.region ≡ end_around a.holder a.region
  pub types : (i : ℕ) → end_type b i ≡ end_type a i
  pub count : end_length b ≡ end_length a

-- what they read of a region
pub record LikeRegion (σ : ℕ → ℕ) (r s : Region) : Type 0 where
  pub params : params_of s ≡ renamed_params σ (params_of r)
  pub last : last_form (ops_of s) ≡ last_form (ops_of r)
  pub is_empty : is_none_left (ops_of s) ≡ is_none_left (ops_of r)

abbrev pub AreLike : (ℕ → ℕ) → List Region → List Region → Type 0
AreLike σ [] [] = Unit {0}
AreLike σ (r ∷ rs) (s ∷ ss) = LikeRegion σ r s × AreLike σ rs ss
AreLike σ _ _ = ⊥

-- what they read of an operation itself
pub record LikeOp (o p : Op) : Type 0 where
  pub kind : kind_of p ≡ kind_of o
  pub operands : length (operands_of p) ≡ length (operands_of o)
  pub groups : groups_of p ≡ groups_of o
  pub written : written_of p ≡ written_of o
  pub results : length (results_of p) ≡ length (results_of o)
  pub types : types_of p ≡ types_of o
  pub attr : attr_of p ≡ attr_of o

pub renamed_length : (σ : ℕ → ℕ) (params : Seen) → length (renamed_params σ params) ≡ length params
renamed_length σ [] = refl
renamed_length σ (p ∷ params) = ap suc (renamed_length σ params)

pub regions_count : (σ : ℕ → ℕ) (rs ss : List Region) → AreLike σ rs ss → length ss ≡ length rs
regions_count σ [] [] h = refl
regions_count σ [] (s ∷ ss) h = elim h [ ]
regions_count σ (r ∷ rs) [] h = elim h [ ]
regions_count σ (r ∷ rs) (s ∷ ss) h = ap suc (regions_count σ rs ss h.1)

pub first_count : (σ : ℕ → ℕ) (rs ss : List Region) → AreLike σ rs ss → length (first_params ss) ≡ length (first_params rs)
first_count σ [] [] h = refl
first_count σ [] (s ∷ ss) h = elim h [ ]
first_count σ (r ∷ rs) [] h = elim h [ ]
first_count σ (r ∷ rs) (s ∷ ss) h = ap (λ (x : Seen). length x) h.0.params ∙ renamed_length σ (params_of r)

-- ---- rules that read the operation alone

module _ (o p : Op) (l : LikeOp o p) where
  pub form_like : form p ≡ form o
  form_like = ap (λ k. (row_of k).form) l.kind

  written_like : first_type (written_of p) ≡ first_type (written_of o)
  written_like = ap first_type l.written

  group_like : (k : ℕ) → group p k ≡ group o k
  group_like k = cc (l.groups)

  given_like : (f : Form) (r : ℕ) → given_types f r p ≡ given_types f r o
  given_like While zero = l.types
  given_like While (suc r) = l.written
  given_like f r = l.types

  pub end_type_like : (f : Form) (r i : ℕ) → end_type_in f p r i ≡ end_type_in f o r i
  end_type_like Execute r i = ap (λ ts. slice_get ts (i + 1)) l.types
  end_type_like f r i = ap (λ ts. slice_get ts i) (given_like f r)

  pub end_length_like : (f : Form) (r : ℕ) → end_length_in f p r ≡ end_length_in f o r
  end_length_like Execute r = ap (λ ts. length ts - 1) l.types
  end_length_like f r = ap (λ ts. length ts) (given_like f r)

  bound_like : (i : ℕ) → bound_place p i ≡ bound_place o i
  bound_like i = cc (group_like 0, group_like 1)

  select_like : (i : ℕ) (t : Ty) → select_operand p i t ≡ select_operand o i t
  select_like zero t = refl
  select_like (suc i) t = ap (λ w. same_type w t) written_like

  for_like : (i : ℕ) (t : Ty) → for_operand p i t ≡ for_operand o i t
  for_like zero t = refl
  for_like (suc zero) t = refl
  for_like (suc (suc zero)) t = refl
  for_like (suc (suc (suc i))) t = ap (λ ts. is_asked (slice_get ts i) t) l.types

  condition_like : (i : ℕ) (t : Ty) → condition_operand p i t ≡ condition_operand o i t
  condition_like zero t = refl
  condition_like (suc i) t = ap (λ ws. is_asked (slice_get ws i) t) l.written

  load_like : (i : ℕ) (t : Ty) → load_operand p i t ≡ load_operand o i t
  load_like zero t = ap (λ w. same_type w t) written_like
  load_like (suc i) t = ap (λ w. nat_le (length (dims_of w)) i || is_index t) written_like

  store_like : (i : ℕ) (t : Ty) → store_operand p i t ≡ store_operand o i t
  store_like zero t = ap (λ w. is_element w t) written_like
  store_like (suc i) t = load_like i t

  dim_like : (i : ℕ) (t : Ty) → dim_operand p i t ≡ dim_operand o i t
  dim_like zero t = ap (λ w. same_type w t) written_like
  dim_like (suc i) t = refl

  member_like : (i : ℕ) (t : Ty) → member_operand p i t ≡ member_operand o i t
  member_like zero t = ap (λ w. same_type w t) written_like
  member_like (suc i) t = refl

  task_like : (i : ℕ) (t : Ty) → task_operand p i t ≡ task_operand o i t
  task_like i t = cc (group_like 0, l.written)

  given_operands_like : dimensions p ≡ dimensions o → (f : Form) → operands_given f p ≡ operands_given f o
  given_operands_like d Call = ap (λ ws. length ws) l.written
  given_operands_like d TryCall = ap (λ ws. length ws) l.written
  given_operands_like d Return = ap (λ ws. length ws) l.written
  given_operands_like d Yield = ap (λ ws. length ws) l.written
  given_operands_like d TaskYield = ap (λ ws. length ws) l.written
  given_operands_like d Condition = ap (λ ws. length ws + 1) l.written
  given_operands_like d For = ap (λ ts. length ts + 3) l.types
  given_operands_like d While = ap (λ ws. length ws) l.written
  given_operands_like d Parallel = ap (λ n. 3 * n) d
  given_operands_like d Alloc = ap (λ ts. open_dims (dims_of (first_type ts))) l.types
  given_operands_like d Load = ap (λ w. length (dims_of w) + 1) written_like
  given_operands_like d Store = ap (λ w. length (dims_of w) + 2) written_like
  given_operands_like d Execute = cc (group_like 0, l.written)
  given_operands_like d f = refl

  asked_like : dimensions p ≡ dimensions o → operands_asked p ≡ operands_asked o
  asked_like d = ap (λ k. counted (row_of k).operands (operands_given (row_of k).form p)) l.kind ∙ ap (λ n. counted (row_at o).operands n) (given_operands_like d (form o))

  groups_like : dimensions p ≡ dimensions o → (f : Form) → groups_fit f p ≡ groups_fit f o
  groups_like d Parallel = cc (l.groups, d)
  groups_like d Execute = cc (l.groups, l.written)
  groups_like d f = refl

  while_like : (r : ℕ) → while_types p r ≡ while_types o r
  while_like zero = l.written
  while_like (suc r) = l.types

  for_param_like : (i : ℕ) (t : Ty) → for_param p i t ≡ for_param o i t
  for_param_like zero t = refl
  for_param_like (suc i) t = ap (λ ts. is_asked (slice_get ts i) t) l.types

  param_like : (f : Form) (r i : ℕ) (t : Ty) → param_fits f p r i t ≡ param_fits f o r i t
  param_like For r i t = for_param_like i t
  param_like While r i t = ap (λ ts. is_asked (slice_get ts i) t) (while_like r)
  param_like Execute r i t = ap (λ ws. is_held (slice_get ws i) t) l.written
  param_like f r i t = refl

  params_like : (f : Form) (r n : ℕ) → params_fit f p r n ≡ params_fit f o r n
  params_like For r n = ap (λ ts. n == length ts + 1) l.types
  params_like While r n = ap (λ ts. n == length ts) (while_like r)
  params_like Execute r n = ap (λ ws. n == length ws) l.written
  params_like f r n = refl

  -- ---- at a region

  pub ending_like : (asked : Form) (os ps : List Op) → last_form ps ≡ last_form os → lacks_end asked ps ≡ lacks_end asked os
  ending_like asked os ps last = ap (λ f. is_ending asked && not (ends asked f)) last

  empty_like : (f : Form) (r : ℕ) (ts : List Ty) (os ps : List Op) → is_none_left ps ≡ is_none_left os → may_be_empty f r ts ps ≡ may_be_empty f r ts os
  empty_like If (suc r) [] [] [] e = refl
  empty_like If (suc r) [] [] (q ∷ ps) e = cc
  empty_like If (suc r) [] (x ∷ os) [] e = cc
  empty_like If (suc r) [] (x ∷ os) (q ∷ ps) e = refl
  empty_like If zero ts os ps e = refl
  empty_like If (suc r) (t ∷ ts) os ps e = refl
  empty_like f r ts os ps e = refl

  param_breaks_like : (kind : VerifyKind) (r i : ℕ) (x y : ValueNo × Ty) → y.1 ≡ x.1 → param_breaks kind p r i y ≡ param_breaks kind o r i x
  param_breaks_like TypeMismatch r i x y e = ap (λ f. not (param_fits f p r i y.1)) form_like ∙ ap (λ b. not b) (param_like (form o) r i y.1) ∙ ap (λ t. not (param_fits (form o) o r i t)) e
  param_breaks_like AsyncInMemref r i x y e = ap has_async_cells e
  param_breaks_like kind r i x y e = refl

  params_break_like : (σ : ℕ → ℕ) (kind : VerifyKind) (r k : ℕ) (xs : Seen) → some_from (param_breaks kind p r) k (renamed_params σ xs) ≡ some_from (param_breaks kind o r) k xs
  params_break_like σ kind r k [] = refl
  params_break_like σ kind r k (x ∷ xs) =
      ap (λ b. b || some_from (param_breaks kind p r) (k + 1) (renamed_params σ xs)) (param_breaks_like kind r k x (renamed_value σ x.0, x.1) refl)
      ∙ ap (λ b. param_breaks kind o r k x || b) (params_break_like σ kind r (k + 1) xs)

  region_like : (σ : ℕ → ℕ) (kind : VerifyKind) (r : ℕ) (x y : Region) → LikeRegion σ x y → region_breaks kind p r y ≡ region_breaks kind o r x
  region_like σ Terminator r x y h =
      ap (λ f. not (may_be_empty f r (types_of p) (ops_of y)) && lacks_end (end_asked f r) (ops_of y)) form_like
      ∙ ap (λ ts. not (may_be_empty (form o) r ts (ops_of y)) && lacks_end (end_asked (form o) r) (ops_of y)) l.types
      ∙ ap (λ b. not b && lacks_end (end_asked (form o) r) (ops_of y)) (empty_like (form o) r (types_of o) (ops_of x) (ops_of y) h.is_empty)
      ∙ ap (λ b. not (may_be_empty (form o) r (types_of o) (ops_of x)) && b) (ending_like (end_asked (form o) r) (ops_of x) (ops_of y) h.last)
  region_like σ Arity r x y h =
      ap (λ f. not (params_fit f p r (length (params_of y)))) form_like
      ∙ ap (λ b. not b) (params_like (form o) r (length (params_of y)))
      ∙ ap (λ n. not (params_fit (form o) o r n)) (ap (λ (ps : Seen). length ps) h.params ∙ renamed_length σ (params_of x))
  region_like σ TypeMismatch r x y h = ap (λ (ps : Seen). some_at (param_breaks TypeMismatch p r) ps) h.params ∙ params_break_like σ TypeMismatch r 0 (params_of x)
  region_like σ AsyncInMemref r x y h = ap (λ (ps : Seen). some_at (param_breaks AsyncInMemref p r) ps) h.params ∙ params_break_like σ AsyncInMemref r 0 (params_of x)
  region_like σ kind r x y h = refl

  pub regions_like : (σ : ℕ → ℕ) (kind : VerifyKind) (k : ℕ) (xs ys : List Region) → AreLike σ xs ys → some_from (region_breaks kind p) k ys ≡ some_from (region_breaks kind o) k xs
  regions_like σ kind k [] [] h = refl
  regions_like σ kind k [] (y ∷ ys) h = elim h [ ]
  regions_like σ kind k (x ∷ xs) [] h = elim h [ ]
  regions_like σ kind k (x ∷ xs) (y ∷ ys) h =
      ap (λ b. b || some_from (region_breaks kind p) (k + 1) ys) (region_like σ kind k x y h.0)
      ∙ ap (λ b. region_breaks kind o k x || b) (regions_like σ kind (k + 1) xs ys h.1)

-- ---- rules that read the place

pub record LikePlace (p q : Place) : Type 0 where
  pub op : LikeOp p.op q.op
  pub regions : length (regions_of q.op) ≡ length (regions_of p.op)
  pub dims : dimensions q.op ≡ dimensions p.op
  pub around : LikeAround p.around q.around
  pub last : q.is_last ≡ p.is_last
  pub callee : LikeCallee p.callee q.callee

calmer : (a : Bool) (n : Nest) (c d : Bool) → (d ≡ true → c ≡ true) → (a && would_block n c) ≡ false → (a && would_block n d) ≡ false
calmer false n c d calm h = refl
calmer true InTask c d calm h = refl
calmer true InLoop c d calm h = h
calmer true InFunction c false calm h = refl
calmer true InFunction c true calm h = sym (calm refl) ∙ h

module _ (p q : Place) (l : LikePlace p q) where
  in_place_like : is_in_place q ≡ is_in_place p
  in_place_like = cc (l.last, l.around.asked, form_like p.op q.op l.op)

  abbrev first_written : first_type (written_of q.op) ≡ first_type (written_of p.op)
  first_written = written_like p.op q.op l.op

  first_types : first_type (types_of q.op) ≡ first_type (types_of p.op)
  first_types = ap first_type l.op.types

  pub operand_fits_like : (f : Form) (i : ℕ) (t : Ty) → operand_fits f q i t ≡ operand_fits f p i t
  operand_fits_like Binary i t = ap (λ w. same_type w t) first_written
  operand_fits_like Compare i t = ap (λ w. same_type w t) first_written
  operand_fits_like Select i t = select_like p.op q.op l.op i t
  operand_fits_like Extend i t = ap (λ w. same_type w t) first_written
  operand_fits_like Truncate i t = ap (λ w. same_type w t) first_written
  operand_fits_like IndexCast i t = ap (λ w. same_type w t) first_written
  operand_fits_like Call i t = ap (λ ws. is_asked (slice_get ws i) t) l.op.written
  operand_fits_like TryCall i t = ap (λ ws. is_asked (slice_get ws i) t) l.op.written
  operand_fits_like Return i t = ap (λ ws. is_asked (slice_get ws i) t) l.op.written
  operand_fits_like Yield i t = ap (λ ws. is_asked (slice_get ws i) t) l.op.written
  operand_fits_like TaskYield i t = ap (λ ws. is_asked (slice_get ws i) t) l.op.written
  operand_fits_like Condition i t = condition_like p.op q.op l.op i t
  operand_fits_like For i t = for_like p.op q.op l.op i t
  operand_fits_like While i t = ap (λ ws. is_asked (slice_get ws i) t) l.op.written
  operand_fits_like Parallel i t = cc (l.dims, bound_like p.op q.op l.op i)
  operand_fits_like Alloc i t = ap (λ w. nat_le (open_dims (dims_of w)) i || is_index t) first_types
  operand_fits_like Dealloc i t = ap (λ w. same_type w t) first_written
  operand_fits_like Load i t = load_like p.op q.op l.op i t
  operand_fits_like Store i t = store_like p.op q.op l.op i t
  operand_fits_like Dim i t = dim_like p.op q.op l.op i t
  operand_fits_like Execute i t = task_like p.op q.op l.op i t
  operand_fits_like Await i t = ap (λ w. same_type w t) first_written
  operand_fits_like AddToGroup i t = member_like p.op q.op l.op i t
  operand_fits_like f i t = refl

  end_type_alike : (i : ℕ) (t : Ty) → (not (is_in_place q) || is_asked (end_type q.around i) t) ≡ (not (is_in_place p) || is_asked (end_type p.around i) t)
  end_type_alike i t = cc (in_place_like, l.around.types i)

  written_fits_like : (f : Form) (i : ℕ) (t : Ty) → written_fits f q i t ≡ written_fits f p i t
  written_fits_like Binary i t = ap (λ w. is_number t && same_type w t) first_written
  written_fits_like Compare i t = ap (λ w. is_number t && same_type w t) first_written
  written_fits_like Select i t = ap (λ w. is_number t && same_type w t) first_written
  written_fits_like Extend i t = ap (λ w. extends t w) first_types
  written_fits_like Truncate i t = ap (λ w. truncates t w) first_types
  written_fits_like IndexCast i t = ap (λ w. casts_index t w) first_types
  written_fits_like Call i t = ap (λ (x : Option Ty). is_asked x t) (l.callee.params i)
  written_fits_like TryCall i t = ap (λ (x : Option Ty). is_asked x t) (l.callee.params i)
  written_fits_like Return i t = end_type_alike i t
  written_fits_like Yield i t = end_type_alike i t
  written_fits_like Condition i t = end_type_alike i t
  written_fits_like TaskYield i t = cc (in_place_like, l.around.types i)
  written_fits_like f i t = refl

  end_asks_like : end_asks q ≡ end_asks p
  end_asks_like = cc (in_place_like, l.around.count, l.op.written)

  written_asked_like : (f : Form) → written_asked f q ≡ written_asked f p
  written_asked_like Call = ap (λ ws. param_length q.callee (length ws)) l.op.written ∙ l.callee.param_count (length (written_of p.op))
  written_asked_like TryCall = ap (λ ws. param_length q.callee (length ws)) l.op.written ∙ l.callee.param_count (length (written_of p.op))
  written_asked_like Return = end_asks_like
  written_asked_like Yield = end_asks_like
  written_asked_like Condition = end_asks_like
  written_asked_like TaskYield = end_asks_like
  written_asked_like While = ap (λ ws. length ws) l.op.written
  written_asked_like Execute = ap (λ ws. length ws) l.op.written
  written_asked_like f = refl

  result_fits_like : (f : Form) (i : ℕ) (t : Ty) → result_fits f q i t ≡ result_fits f p i t
  result_fits_like Binary i t = ap (λ w. same_type w t) first_written
  result_fits_like Select i t = ap (λ w. same_type w t) first_written
  result_fits_like Constant i t = ap (λ a. literal_fits a t) l.op.attr
  result_fits_like Call i t = ap (λ (x : Option Ty). is_asked x t) (l.callee.results i)
  result_fits_like Load i t = ap (λ w. is_element w t) first_written
  result_fits_like Await i t = ap (λ w. holds w t) first_written
  result_fits_like f i t = refl

  types_given_like : (f : Form) → types_given f q ≡ types_given f p
  types_given_like Call = ap (λ ts. result_length q.callee (length ts)) l.op.types ∙ l.callee.result_count (length (types_of p.op))
  types_given_like Execute = ap (λ ts. max 1 (length ts)) l.op.types
  types_given_like Await = ap (λ w. if is_value w then 1 else 0) first_written
  types_given_like f = ap (λ ts. length ts) l.op.types

  types_asked_like : types_asked q ≡ types_asked p
  types_asked_like = ap (λ k. counted (row_of k).results (types_given (row_of k).form q)) l.op.kind ∙ ap (λ n. counted (row_at p.op).results n) (types_given_like (form p.op))

  abbrev same_form : form q.op ≡ form p.op
  same_form = form_like p.op q.op l.op

  miscounts_like : miscounts q ≡ miscounts p
  miscounts_like =
      let a : operands_asked q.op ≡ operands_asked p.op = asked_like p.op q.op l.op l.dims in
      let b : written_asked (form q.op) q ≡ written_asked (form p.op) p = ap (λ f. written_asked f q) same_form ∙ written_asked_like (form p.op) in
      let c : groups_fit (form q.op) q.op ≡ groups_fit (form p.op) p.op = ap (λ f. groups_fit f q.op) same_form ∙ groups_like p.op q.op l.op l.dims (form p.op) in
      let d : (row_at q.op).regions ≡ (row_at p.op).regions = ap (λ k. (row_of k).regions) l.op.kind in
      cc (l.op.operands, l.op.written, l.op.types, l.op.results, l.regions, a, b, c, d, types_asked_like)

  tries_like : (f : Form) → tries_results f q.callee ≡ tries_results f p.callee
  tries_like TryCall = l.callee.has
  tries_like f = refl

  pub own_passes : (kind : VerifyKind) → own_breaks kind p ≡ false → own_breaks kind q ≡ false
  own_passes Undefined h = refl
  own_passes TypeMismatch h = ap is_other same_form ∙ h
  own_passes Terminator h = let e : (is_ending (form q.op) && not (is_in_place q)) ≡ (is_ending (form p.op) && not (is_in_place p)) = cc (same_form, in_place_like) in e ∙ h
  own_passes UnknownFunc h = let e : (is_call (form q.op) && not (is_some q.callee)) ≡ (is_call (form p.op) && not (is_some p.callee)) = cc (same_form, l.callee.is_there) in e ∙ h
  own_passes Arity h =
      let e : (miscounts q || tries_results (form q.op) q.callee) ≡ (miscounts p || tries_results (form p.op) p.callee) = cc (miscounts_like, ap (λ f. tries_results f q.callee) same_form ∙ tries_like (form p.op)) in
      e ∙ h
  own_passes AsyncInMemref h = refl
  own_passes BlockingAwait h =
      let e : (is_await (form q.op) && would_block q.around.nest q.around.is_called) ≡ (is_await (form p.op) && would_block p.around.nest q.around.is_called) = cc (same_form, l.around.nest) in
      e ∙ calmer (is_await (form p.op)) p.around.nest p.around.is_called q.around.is_called l.around.calm h

  pub written_breaks_like : (kind : VerifyKind) (i : ℕ) (t : Ty) → written_breaks kind q i t ≡ written_breaks kind p i t
  written_breaks_like TypeMismatch i t = ap (λ f. not (written_fits f q i t)) same_form ∙ ap (λ b. not b) (written_fits_like (form p.op) i t)
  written_breaks_like kind i t = refl

  pub result_breaks_like : (kind : VerifyKind) (i : ℕ) (t : Ty) → result_breaks kind q i t ≡ result_breaks kind p i t
  result_breaks_like TypeMismatch i t = ap (λ f. not (result_fits f q i t)) same_form ∙ ap (λ b. not b) (result_fits_like (form p.op) i t)
  result_breaks_like kind i t = refl

  pub operand_breaks_like : (kind : VerifyKind) (seen more : Seen) (i : ℕ) (v w : ValueNo) → lookup more w.0 ≡ lookup seen v.0 → operand_breaks kind more q i w ≡ operand_breaks kind seen p i v
  operand_breaks_like Undefined seen more i v w e = ap (λ (o : Option Ty). not (is_some o)) e
  operand_breaks_like TypeMismatch seen more i v w e =
      ap (λ (o : Option Ty). misfits (operand_fits (form q.op) q i) o) e ∙ ap (λ f. misfits (operand_fits f q i) (lookup seen v.0)) same_form ∙ step (lookup seen v.0)
    where
      step : (o : Option Ty) → misfits (operand_fits (form p.op) q i) o ≡ misfits (operand_fits (form p.op) p i) o
      step None = refl
      step (Some t) = ap (λ b. not b) (operand_fits_like (form p.op) i t)
  operand_breaks_like kind seen more i v w e = refl
