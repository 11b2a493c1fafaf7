-- The bytes of each form are ASCII.
use Rattle.std.proofs.Common.{ℕ, List, [], ◌∷◌, refl, take, drop, slice_get, Option, Some, None, codes}
use Rattle.op_table.specs.declared.kind.OpKind.{OpKind}
use Rattle.op_table.specs.declared.form.Form.{Form}
use Rattle.op_table.specs.declared.form.Form.TheVariants as shape
use Rattle.op_table.specs.Rows.{row_of}
use Rattle.ir_forms.specs.declared.ops.Op.{Op}
use Rattle.ir_forms.specs.declared.ops.ValueNo.{ValueNo}
use Rattle.ir_forms.specs.declared.ops.Attr.{Attr}
use Rattle.ir_forms.specs.declared.ops.Attr.TheVariants as attr
use Rattle.ir_forms.specs.declared.types.Ty.{Ty}
use Rattle.ir_forms.specs.Ops.{operands_of, written_of, attr_of}
use Rattle.mlir_print.specs.Docs as doc
use Rattle.mlir_print.specs.Docs.{Doc, ◌<>◌, mark, comma, colon, equals, arrow, parens, brackets, keyword, more, commas, shown}
use Rattle.mlir_print.specs.Types.{type_doc, types, result_types, results_if_any}
use Rattle.mlir_print.specs.Tokens.{value}
use Rattle.mlir_print.specs.Forms.{types_of, params_at, first_group, second_group, third_group, values, value_at, uses, typed, listed, name_of_param, param, typed_values, init, more_inits, inits, value_operand, more_value_operands, value_operands, carried_word, carried, for_bounds, parallel_bounds, begun, dependencies, constant_type, form_doc, form}
use Rattle.mlir_print.proofs.AsciiWords.{Ascii, seq, ascii-value, ascii-attr, ascii-type}

-- ---- pieces

pub ascii-empty : Ascii doc.Empty
ascii-empty = record { ascii = refl }

pub ascii-blank : Ascii doc.Blank
ascii-blank = record { ascii = refl }

pub ascii-comma : Ascii comma
ascii-comma = record { ascii = refl }

pub ascii-colon : Ascii colon
ascii-colon = record { ascii = refl }

pub ascii-equals : Ascii equals
ascii-equals = record { ascii = refl }

pub ascii-arrow : Ascii arrow
ascii-arrow = record { ascii = refl }

pub ascii-to : Ascii (keyword (codes "to"))
ascii-to = record { ascii = refl }

ascii-step : Ascii (keyword (codes "step"))
ascii-step = record { ascii = refl }

pub ascii-parens : {d : Doc} → Ascii d → Ascii (parens d)
ascii-parens within = seq (record { ascii = refl }) (seq within (record { ascii = refl }))

pub ascii-brackets : {d : Doc} → Ascii d → Ascii (brackets d)
ascii-brackets within = seq (record { ascii = refl }) (seq within (record { ascii = refl }))

module _ {A : Type 0} (show : A → Doc) (each : (x : A) → Ascii (show x)) where
  ascii-more : (xs : List A) → Ascii (more show xs)
  ascii-more [] = ascii-empty
  ascii-more (x ∷ xs) = seq ascii-comma (seq (each x) (ascii-more xs))

  pub ascii-commas : (xs : List A) → Ascii (commas show xs)
  ascii-commas [] = ascii-empty
  ascii-commas (x ∷ xs) = seq (each x) (ascii-more xs)

  pub ascii-shown : (x : Option A) → Ascii (shown show x)
  ascii-shown None = ascii-empty
  ascii-shown (Some x) = each x

pub ascii-values : (vs : List ValueNo) → Ascii (values vs)
ascii-values vs = ascii-commas value ascii-value vs

pub ascii-types : (ts : List Ty) → Ascii (types ts)
ascii-types ts = ascii-commas type_doc ascii-type ts

ascii-value_at : (vs : List ValueNo) (i : ℕ) → Ascii (value_at vs i)
ascii-value_at vs i = ascii-shown value ascii-value (slice_get vs i)

ascii-type_at : (ts : List Ty) → Ascii (shown type_doc (slice_get ts 0))
ascii-type_at ts = ascii-shown type_doc ascii-type (slice_get ts 0)

ascii-uses : (o : Op) → Ascii (uses o)
ascii-uses o = seq ascii-blank (ascii-values (operands_of o))

ascii-typed : (ts : List Ty) → Ascii (typed ts)
ascii-typed ts = seq ascii-colon (ascii-type_at ts)

ascii-listed : (ts : List Ty) → Ascii (listed ts)
ascii-listed ts = seq ascii-colon (ascii-parens (ascii-types ts))

pub ascii-result_types : (ts : List Ty) → Ascii (result_types ts)
ascii-result_types [] = ascii-parens (ascii-types [])
ascii-result_types (t ∷ []) = ascii-type t
ascii-result_types (t ∷ u ∷ ts) = ascii-parens (ascii-types (t ∷ u ∷ ts))

pub ascii-results : (ts : List Ty) → Ascii (results_if_any ts)
ascii-results [] = ascii-empty
ascii-results (t ∷ ts) = seq ascii-arrow (ascii-result_types (t ∷ ts))

ascii-typed_values : (vs : List ValueNo) (ts : List Ty) → Ascii (typed_values vs ts)
ascii-typed_values [] ts = ascii-empty
ascii-typed_values (v ∷ vs) ts = seq ascii-blank (seq (ascii-values (v ∷ vs)) (seq ascii-colon (ascii-types ts)))

ascii-name : (p : ValueNo × Ty) → Ascii (name_of_param p)
ascii-name p = ascii-value p.0

pub ascii-param : (p : ValueNo × Ty) → Ascii (param p)
ascii-param p = seq (ascii-value p.0) (seq ascii-colon (ascii-type p.1))

ascii-init : (p : ValueNo × Ty) (v : ValueNo) → Ascii (init p v)
ascii-init p v = seq (ascii-value p.0) (seq ascii-equals (ascii-value v))

ascii-more_inits : (ps : List (ValueNo × Ty)) (vs : List ValueNo) → Ascii (more_inits ps vs)
ascii-more_inits [] vs = ascii-empty
ascii-more_inits (p ∷ ps) [] = ascii-empty
ascii-more_inits (p ∷ ps) (v ∷ vs) = seq ascii-comma (seq (ascii-init p v) (ascii-more_inits ps vs))

ascii-inits : (ps : List (ValueNo × Ty)) (vs : List ValueNo) → Ascii (inits ps vs)
ascii-inits [] vs = ascii-empty
ascii-inits (p ∷ ps) [] = ascii-empty
ascii-inits (p ∷ ps) (v ∷ vs) = seq (ascii-init p v) (ascii-more_inits ps vs)

ascii-operand : (v : ValueNo) (p : ValueNo × Ty) (t : Ty) → Ascii (value_operand v p t)
ascii-operand v p t = seq (ascii-value v) (seq (record { ascii = refl }) (seq (ascii-value p.0) (seq ascii-colon (ascii-type t))))

ascii-more_operands : (vs : List ValueNo) (ps : List (ValueNo × Ty)) (ts : List Ty) → Ascii (more_value_operands vs ps ts)
ascii-more_operands [] ps ts = ascii-empty
ascii-more_operands (v ∷ vs) [] ts = ascii-empty
ascii-more_operands (v ∷ vs) (p ∷ ps) [] = ascii-empty
ascii-more_operands (v ∷ vs) (p ∷ ps) (t ∷ ts) = seq ascii-comma (seq (ascii-operand v p t) (ascii-more_operands vs ps ts))

ascii-operands : (vs : List ValueNo) (ps : List (ValueNo × Ty)) (ts : List Ty) → Ascii (value_operands vs ps ts)
ascii-operands [] ps ts = ascii-empty
ascii-operands (v ∷ vs) [] ts = ascii-empty
ascii-operands (v ∷ vs) (p ∷ ps) [] = ascii-empty
ascii-operands (v ∷ vs) (p ∷ ps) (t ∷ ts) = seq ascii-blank (ascii-parens (seq (ascii-operand v p t) (ascii-more_operands vs ps ts)))

-- ---- forms

ascii-binary : (o : Op) → Ascii (uses o <> typed (types_of o))
ascii-binary o = seq (ascii-uses o) (ascii-typed (types_of o))

ascii-unary : (o : Op) → Ascii (uses o <> typed (written_of o))
ascii-unary o = seq (ascii-uses o) (ascii-typed (written_of o))

ascii-compare : (o : Op) → Ascii (form_doc shape.Compare o)
ascii-compare o = seq ascii-blank (seq (ascii-attr (attr_of o)) (seq ascii-comma (seq (ascii-values (operands_of o)) (ascii-typed (written_of o)))))

ascii-cast : (o : Op) → Ascii (form_doc shape.Extend o)
ascii-cast o = seq (ascii-uses o) (seq (ascii-typed (written_of o)) (seq ascii-to (ascii-type_at (types_of o))))

ascii-constant_type : (a : Attr) (ts : List Ty) → Ascii (constant_type a ts)
ascii-constant_type attr.None ts = ascii-typed ts
ascii-constant_type (attr.Literal n m) ts = ascii-typed ts
ascii-constant_type (attr.Truth b) ts = ascii-empty
ascii-constant_type (attr.Pred p) ts = ascii-typed ts
ascii-constant_type (attr.Text t) ts = ascii-typed ts
ascii-constant_type (attr.Callee t) ts = ascii-typed ts

ascii-constant : (o : Op) → Ascii (form_doc shape.Constant o)
ascii-constant o = seq ascii-blank (seq (ascii-attr (attr_of o)) (ascii-constant_type (attr_of o) (types_of o)))

ascii-call : (o : Op) → Ascii (form_doc shape.Call o)
ascii-call o =
    seq ascii-blank (seq (ascii-attr (attr_of o)) (seq (ascii-parens (ascii-values (operands_of o)))
    (seq (ascii-listed (written_of o)) (seq ascii-arrow (ascii-result_types (types_of o))))))

ascii-carried : (ts : List Ty) (ps : List (ValueNo × Ty)) (vs : List ValueNo) → Ascii (carried ts ps vs)
unfolding carried_word
ascii-carried [] ps vs = ascii-empty
ascii-carried (t ∷ ts) ps vs =
    seq ascii-blank (seq (record { ascii = refl }) (seq (ascii-parens (ascii-inits ps vs)) (seq ascii-arrow (ascii-parens (ascii-types (t ∷ ts))))))

ascii-for_bounds : (vs : List ValueNo) → Ascii (for_bounds vs)
ascii-for_bounds vs = seq (ascii-value_at vs 0) (seq ascii-to (seq (ascii-value_at vs 1) (seq ascii-step (ascii-value_at vs 2))))

ascii-for : (o : Op) → Ascii (form_doc shape.For o)
ascii-for o =
    seq ascii-blank (seq (ascii-shown name_of_param ascii-name (slice_get (params_at o 0) 0))
    (seq ascii-equals (seq (ascii-for_bounds (operands_of o)) (ascii-carried (types_of o) (drop 1 (params_at o 0)) (drop 3 (operands_of o))))))

ascii-begun : (ps : List (ValueNo × Ty)) (vs : List ValueNo) → Ascii (begun ps vs)
ascii-begun ps [] = ascii-empty
ascii-begun ps (v ∷ vs) = seq ascii-blank (ascii-parens (ascii-inits ps (v ∷ vs)))

ascii-while : (o : Op) → Ascii (form_doc shape.While o)
ascii-while o = seq (ascii-begun (params_at o 0) (operands_of o)) (seq (ascii-listed (written_of o)) (seq ascii-arrow (ascii-result_types (types_of o))))

ascii-parallel_bounds : (o : Op) → Ascii (parallel_bounds o)
ascii-parallel_bounds o =
    seq (ascii-parens (ascii-values (first_group o))) (seq ascii-to
    (seq (ascii-parens (ascii-values (second_group o))) (seq ascii-step (ascii-parens (ascii-values (third_group o))))))

ascii-parallel : (o : Op) → Ascii (form_doc shape.Parallel o)
ascii-parallel o =
    seq ascii-blank (seq (ascii-parens (ascii-commas name_of_param ascii-name (params_at o 0))) (seq ascii-equals (ascii-parallel_bounds o)))

ascii-condition : (o : Op) → Ascii (form_doc shape.Condition o)
ascii-condition o = seq (ascii-parens (ascii-value_at (operands_of o) 0)) (ascii-typed_values (drop 1 (operands_of o)) (written_of o))

ascii-dependencies : (vs : List ValueNo) → Ascii (dependencies vs)
ascii-dependencies [] = ascii-empty
ascii-dependencies (v ∷ vs) = seq ascii-blank (ascii-brackets (ascii-values (v ∷ vs)))

ascii-execute : (o : Op) → Ascii (form_doc shape.Execute o)
ascii-execute o =
    seq (ascii-dependencies (first_group o)) (seq (ascii-operands (second_group o) (params_at o 0) (written_of o)) (ascii-results (drop 1 (types_of o))))

ascii-load : (o : Op) → Ascii (form_doc shape.Load o)
ascii-load o =
    seq ascii-blank (seq (ascii-value_at (operands_of o) 0) (seq (ascii-brackets (ascii-values (drop 1 (operands_of o)))) (ascii-typed (written_of o))))

ascii-store : (o : Op) → Ascii (form_doc shape.Store o)
ascii-store o =
    seq ascii-blank (seq (ascii-values (take 2 (operands_of o))) (seq (ascii-brackets (ascii-values (drop 2 (operands_of o)))) (ascii-typed (written_of o))))

ascii-parts : (f : Form) (o : Op) → Ascii (form_doc f o)
ascii-parts shape.Binary o = ascii-binary o
ascii-parts shape.Compare o = ascii-compare o
ascii-parts shape.Select o = ascii-binary o
ascii-parts shape.Extend o = ascii-cast o
ascii-parts shape.Truncate o = ascii-cast o
ascii-parts shape.IndexCast o = ascii-cast o
ascii-parts shape.Constant o = ascii-constant o
ascii-parts shape.Assert o = seq (ascii-uses o) (seq ascii-comma (ascii-attr (attr_of o)))
ascii-parts shape.Call o = ascii-call o
ascii-parts shape.TryCall o = ascii-call o
ascii-parts shape.Return o = ascii-typed_values (operands_of o) (written_of o)
ascii-parts shape.For o = ascii-for o
ascii-parts shape.If o = seq (ascii-uses o) (ascii-results (types_of o))
ascii-parts shape.While o = ascii-while o
ascii-parts shape.Condition o = ascii-condition o
ascii-parts shape.Parallel o = ascii-parallel o
ascii-parts shape.Reduce o = ascii-empty
ascii-parts shape.Yield o = ascii-typed_values (operands_of o) (written_of o)
ascii-parts shape.Alloc o = seq (ascii-parens (ascii-values (operands_of o))) (ascii-typed (types_of o))
ascii-parts shape.Dealloc o = ascii-unary o
ascii-parts shape.Load o = ascii-load o
ascii-parts shape.Store o = ascii-store o
ascii-parts shape.Dim o = ascii-unary o
ascii-parts shape.Execute o = ascii-execute o
ascii-parts shape.TaskYield o = ascii-typed_values (operands_of o) (written_of o)
ascii-parts shape.Await o = ascii-unary o
ascii-parts shape.AwaitAll o = ascii-uses o
ascii-parts shape.CreateGroup o = ascii-binary o
ascii-parts shape.AddToGroup o = ascii-unary o
ascii-parts shape.Other o = ascii-empty

pub ascii-form : (k : OpKind) (o : Op) → Ascii (form k o)
ascii-form k o = ascii-parts (row_of k).form o
