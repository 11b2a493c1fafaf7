-- The tokens of each form stand apart.
use Rattle.std.proofs.Common.{ℕ, List, [], ◌∷◌, refl, take, drop, slice_get, codes}
use Rattle.mlir_lex.specs.Bytes.{is_in}
use Rattle.op_table.specs.declared.kind.OpKind.{OpKind}
use Rattle.op_table.specs.declared.form.Form.{Form}
use Rattle.op_table.specs.declared.form.Form.TheVariants as shape
use Rattle.op_table.specs.Rows.{row_of}
use Rattle.ir_forms.specs.declared.ops.Op.{Op}
use Rattle.ir_forms.specs.declared.ops.ValueNo.{ValueNo}
use Rattle.ir_forms.specs.declared.ops.Attr.{Attr}
use Rattle.ir_forms.specs.declared.ops.Attr.TheVariants as attr
use Rattle.ir_forms.specs.declared.types.Ty.{Ty}
use Rattle.ir_forms.specs.Ops.{operands_of, written_of, attr_of}
use Rattle.mlir_print.specs.Docs.{◌<>◌, shown}
use Rattle.mlir_print.specs.Types.{type_doc, types, result_types, results_if_any}
use Rattle.mlir_print.specs.Tokens.{value}
use Rattle.mlir_print.specs.Forms.{types_of, params_at, first_group, second_group, third_group, values, value_at, uses, typed, listed, name_of_param, param, typed_values, init, more_inits, inits, value_operand, more_value_operands, value_operands, carried_word, carried, for_bounds, parallel_bounds, begun, dependencies, constant_type, form_doc, form}
use Rattle.mlir_print.proofs.Separators.{Fits, Good, good_empty, behind, seq, good_fits, fits_parens, fits_brackets, blank_first, colon_first, equals_first, arrow_first, comma_first, keyword_first, good_parens, good_brackets, fits_commas, fits_shown, fits_word}
use Rattle.mlir_print.proofs.Words.{fits_value, fits_attr, fits_type}

-- ---- pieces

pub fits_values : (vs : List ValueNo) → Fits (values vs)
fits_values vs = fits_commas value fits_value vs

pub fits_types : (ts : List Ty) → Fits (types ts)
fits_types ts = fits_commas type_doc fits_type ts

fits_value_at : (vs : List ValueNo) (i : ℕ) → Fits (value_at vs i)
fits_value_at vs i = fits_shown value fits_value (slice_get vs i)

fits_type_at : (ts : List Ty) → Fits (shown type_doc (slice_get ts 0))
fits_type_at ts = fits_shown type_doc fits_type (slice_get ts 0)

good_uses : (o : Op) → Good (uses o)
good_uses o = blank_first (fits_values (operands_of o))

good_typed : (ts : List Ty) → Good (typed ts)
good_typed ts = colon_first (fits_type_at ts)

good_listed : (ts : List Ty) → Good (listed ts)
good_listed ts = colon_first (fits_parens (fits_types ts))

pub fits_result_types : (ts : List Ty) → Fits (result_types ts)
fits_result_types [] = fits_parens (fits_types [])
fits_result_types (t ∷ []) = fits_type t
fits_result_types (t ∷ u ∷ ts) = fits_parens (fits_types (t ∷ u ∷ ts))

pub good_results : (ts : List Ty) → Good (results_if_any ts)
good_results [] = good_empty
good_results (t ∷ ts) = arrow_first (fits_result_types (t ∷ ts))

good_typed_values : (vs : List ValueNo) (ts : List Ty) → Good (typed_values vs ts)
good_typed_values [] ts = good_empty
good_typed_values (v ∷ vs) ts = blank_first (behind (fits_values (v ∷ vs)) (colon_first (fits_types ts)))

fits_name : (p : ValueNo × Ty) → Fits (name_of_param p)
fits_name p = fits_value p.0

pub fits_param : (p : ValueNo × Ty) → Fits (param p)
fits_param p = behind (fits_value p.0) (colon_first (fits_type p.1))

fits_init : (p : ValueNo × Ty) (v : ValueNo) → Fits (init p v)
fits_init p v = behind (fits_value p.0) (equals_first (fits_value v))

good_more_inits : (ps : List (ValueNo × Ty)) (vs : List ValueNo) → Good (more_inits ps vs)
good_more_inits [] vs = good_empty
good_more_inits (p ∷ ps) [] = good_empty
good_more_inits (p ∷ ps) (v ∷ vs) = comma_first (behind (fits_init p v) (good_more_inits ps vs))

fits_inits : (ps : List (ValueNo × Ty)) (vs : List ValueNo) → Fits (inits ps vs)
fits_inits [] vs = good_fits good_empty
fits_inits (p ∷ ps) [] = good_fits good_empty
fits_inits (p ∷ ps) (v ∷ vs) = behind (fits_init p v) (good_more_inits ps vs)

fits_value_operand : (v : ValueNo) (p : ValueNo × Ty) (t : Ty) → Fits (value_operand v p t)
unfolding is_in
fits_value_operand v p t = behind (fits_value v) (keyword_first (codes "as") refl (behind (fits_value p.0) (colon_first (fits_type t))))

good_more_operands : (vs : List ValueNo) (ps : List (ValueNo × Ty)) (ts : List Ty) → Good (more_value_operands vs ps ts)
good_more_operands [] ps ts = good_empty
good_more_operands (v ∷ vs) [] ts = good_empty
good_more_operands (v ∷ vs) (p ∷ ps) [] = good_empty
good_more_operands (v ∷ vs) (p ∷ ps) (t ∷ ts) = comma_first (behind (fits_value_operand v p t) (good_more_operands vs ps ts))

good_value_operands : (vs : List ValueNo) (ps : List (ValueNo × Ty)) (ts : List Ty) → Good (value_operands vs ps ts)
good_value_operands [] ps ts = good_empty
good_value_operands (v ∷ vs) [] ts = good_empty
good_value_operands (v ∷ vs) (p ∷ ps) [] = good_empty
good_value_operands (v ∷ vs) (p ∷ ps) (t ∷ ts) = blank_first (fits_parens (behind (fits_value_operand v p t) (good_more_operands vs ps ts)))

-- ---- forms

good_binary : (o : Op) → Good (uses o <> typed (types_of o))
good_binary o = seq (good_uses o) (good_typed (types_of o))

good_unary : (o : Op) → Good (uses o <> typed (written_of o))
good_unary o = seq (good_uses o) (good_typed (written_of o))

good_compare : (o : Op) → Good (form_doc shape.Compare o)
good_compare o = blank_first (behind (fits_attr (attr_of o)) (comma_first (behind (fits_values (operands_of o)) (good_typed (written_of o)))))

good_cast : (o : Op) → Good (form_doc shape.Extend o)
unfolding is_in
good_cast o = seq (good_uses o) (seq (good_typed (written_of o)) (keyword_first (codes "to") refl (fits_type_at (types_of o))))

good_constant_type : (a : Attr) (ts : List Ty) → Good (constant_type a ts)
good_constant_type attr.None ts = good_typed ts
good_constant_type (attr.Literal n m) ts = good_typed ts
good_constant_type (attr.Truth b) ts = good_empty
good_constant_type (attr.Pred p) ts = good_typed ts
good_constant_type (attr.Text t) ts = good_typed ts
good_constant_type (attr.Callee t) ts = good_typed ts

good_constant : (o : Op) → Good (form_doc shape.Constant o)
good_constant o = blank_first (behind (fits_attr (attr_of o)) (good_constant_type (attr_of o) (types_of o)))

good_call : (o : Op) → Good (form_doc shape.Call o)
good_call o =
    blank_first (behind (fits_attr (attr_of o)) (seq (good_parens (fits_values (operands_of o)))
    (seq (good_listed (written_of o)) (arrow_first (fits_result_types (types_of o))))))

good_carried : (ts : List Ty) (ps : List (ValueNo × Ty)) (vs : List ValueNo) → Good (carried ts ps vs)
unfolding is_in carried_word
good_carried [] ps vs = good_empty
good_carried (t ∷ ts) ps vs =
    blank_first (behind (fits_word carried_word refl) (seq (good_parens (fits_inits ps vs)) (arrow_first (fits_parens (fits_types (t ∷ ts))))))

fits_for_bounds : (vs : List ValueNo) → Fits (for_bounds vs)
unfolding is_in
fits_for_bounds vs =
    behind (fits_value_at vs 0) (keyword_first (codes "to") refl (behind (fits_value_at vs 1) (keyword_first (codes "step") refl (fits_value_at vs 2))))

good_for : (o : Op) → Good (form_doc shape.For o)
good_for o =
    blank_first (behind (fits_shown name_of_param fits_name (slice_get (params_at o 0) 0))
    (equals_first (behind (fits_for_bounds (operands_of o)) (good_carried (types_of o) (drop 1 (params_at o 0)) (drop 3 (operands_of o))))))

good_begun : (ps : List (ValueNo × Ty)) (vs : List ValueNo) → Good (begun ps vs)
good_begun ps [] = good_empty
good_begun ps (v ∷ vs) = blank_first (fits_parens (fits_inits ps (v ∷ vs)))

good_while : (o : Op) → Good (form_doc shape.While o)
good_while o = seq (good_begun (params_at o 0) (operands_of o)) (seq (good_listed (written_of o)) (arrow_first (fits_result_types (types_of o))))

fits_parallel_bounds : (o : Op) → Fits (parallel_bounds o)
unfolding is_in
fits_parallel_bounds o =
    behind (fits_parens (fits_values (first_group o))) (keyword_first (codes "to") refl
    (behind (fits_parens (fits_values (second_group o))) (keyword_first (codes "step") refl (fits_parens (fits_values (third_group o))))))

good_parallel : (o : Op) → Good (form_doc shape.Parallel o)
good_parallel o =
    blank_first (behind (fits_parens (fits_commas name_of_param fits_name (params_at o 0))) (equals_first (fits_parallel_bounds o)))

good_condition : (o : Op) → Good (form_doc shape.Condition o)
good_condition o = seq (good_parens (fits_value_at (operands_of o) 0)) (good_typed_values (drop 1 (operands_of o)) (written_of o))

good_dependencies : (vs : List ValueNo) → Good (dependencies vs)
good_dependencies [] = good_empty
good_dependencies (v ∷ vs) = blank_first (fits_brackets (fits_values (v ∷ vs)))

good_execute : (o : Op) → Good (form_doc shape.Execute o)
good_execute o =
    seq (good_dependencies (first_group o)) (seq (good_value_operands (second_group o) (params_at o 0) (written_of o)) (good_results (drop 1 (types_of o))))

good_load : (o : Op) → Good (form_doc shape.Load o)
good_load o =
    blank_first (behind (fits_value_at (operands_of o) 0) (seq (good_brackets (fits_values (drop 1 (operands_of o)))) (good_typed (written_of o))))

good_store : (o : Op) → Good (form_doc shape.Store o)
good_store o =
    blank_first (behind (fits_values (take 2 (operands_of o))) (seq (good_brackets (fits_values (drop 2 (operands_of o)))) (good_typed (written_of o))))

good_assert : (o : Op) → Good (form_doc shape.Assert o)
good_assert o = seq (good_uses o) (comma_first (fits_attr (attr_of o)))

good_alloc : (o : Op) → Good (form_doc shape.Alloc o)
good_alloc o = seq (good_parens (fits_values (operands_of o))) (good_typed (types_of o))

good_if : (o : Op) → Good (form_doc shape.If o)
good_if o = seq (good_uses o) (good_results (types_of o))

good_parts : (f : Form) (o : Op) → Good (form_doc f o)
good_parts shape.Binary o = good_binary o
good_parts shape.Compare o = good_compare o
good_parts shape.Select o = good_binary o
good_parts shape.Extend o = good_cast o
good_parts shape.Truncate o = good_cast o
good_parts shape.IndexCast o = good_cast o
good_parts shape.Constant o = good_constant o
good_parts shape.Assert o = good_assert o
good_parts shape.Call o = good_call o
good_parts shape.TryCall o = good_call o
good_parts shape.Return o = good_typed_values (operands_of o) (written_of o)
good_parts shape.For o = good_for o
good_parts shape.If o = good_if o
good_parts shape.While o = good_while o
good_parts shape.Condition o = good_condition o
good_parts shape.Parallel o = good_parallel o
good_parts shape.Reduce o = good_empty
good_parts shape.Yield o = good_typed_values (operands_of o) (written_of o)
good_parts shape.Alloc o = good_alloc o
good_parts shape.Dealloc o = good_unary o
good_parts shape.Load o = good_load o
good_parts shape.Store o = good_store o
good_parts shape.Dim o = good_unary o
good_parts shape.Execute o = good_execute o
good_parts shape.TaskYield o = good_typed_values (operands_of o) (written_of o)
good_parts shape.Await o = good_unary o
good_parts shape.AwaitAll o = good_uses o
good_parts shape.CreateGroup o = good_binary o
good_parts shape.AddToGroup o = good_unary o
good_parts shape.Other o = good_empty

pub good_form : (k : OpKind) (o : Op) → Good (form k o)
good_form k o = good_parts (row_of k).form o
