-- The forms of operations: what stands behind an operation's name, up to its regions.
use Rattle.std.specs.Prelude.{ℕ, List, [], ◌∷◌, take, drop, slice_get, Option, Some, None, unwrap_or, codes}
use Rattle.op_table.specs.declared.kind.OpKind.{OpKind}
use Rattle.op_table.specs.declared.form.Form.{Form}
use Rattle.op_table.specs.declared.form.Form.TheVariants as shape
use Rattle.op_table.specs.Rows.{row_of}
use Rattle.ir_forms.specs.declared.ops.Op.{Op, out-Op}
use Rattle.ir_forms.specs.declared.ops.Region.{Region, out-Region}
use Rattle.ir_forms.specs.declared.ops.ValueNo.{ValueNo}
use Rattle.ir_forms.specs.declared.ops.Attr.{Attr}
use Rattle.ir_forms.specs.declared.ops.Attr.TheVariants as attr
use Rattle.ir_forms.specs.declared.types.Ty.{Ty}
use Rattle.ir_forms.specs.Ops.{operands_of, written_of, attr_of, regions_of}
use Rattle.mlir_print.specs.Docs.{Doc, Empty, Blank, ◌<>◌, word, comma, colon, equals, arrow, keyword, parens, brackets, commas, shown}
use Rattle.mlir_print.specs.Types.{type_doc, types, result_types, results_if_any}
use Rattle.mlir_print.specs.Tokens.{value, attr_doc}

-- ---- the parts of an operation

abbrev pub types_of : Op → List Ty
types_of o = (out-Op o).types

abbrev pub groups_of : Op → List ℕ
groups_of o = (out-Op o).groups

abbrev pub params_of : Region → List (ValueNo × Ty)
params_of region = (out-Region region).params

-- the parameters of the region at a place, where there is one
abbrev pub params_in : Option Region → List (ValueNo × Ty)
params_in None = []
params_in (Some region) = params_of region

abbrev pub params_at : Op → ℕ → List (ValueNo × Ty)
params_at o i = params_in (slice_get (regions_of o) i)

-- how many operands are in the group at a place
abbrev pub size_at : Op → ℕ → ℕ
size_at o i = unwrap_or (slice_get (groups_of o) i) 0

abbrev pub first_group : Op → List ValueNo
first_group o = take (size_at o 0) (operands_of o)

abbrev pub second_group : Op → List ValueNo
second_group o = take (size_at o 1) (drop (size_at o 0) (operands_of o))

abbrev pub third_group : Op → List ValueNo
third_group o = take (size_at o 2) (drop (size_at o 1) (drop (size_at o 0) (operands_of o)))

-- ---- pieces of forms

abbrev pub values : List ValueNo → Doc
values vs = commas value vs

abbrev pub value_at : List ValueNo → ℕ → Doc
value_at vs i = shown value (slice_get vs i)

-- all operands, after a blank
abbrev pub uses : Op → Doc
uses o = Blank <> values (operands_of o)

-- ` : ` and the first of these types
abbrev pub typed : List Ty → Doc
typed ts = colon <> shown type_doc (slice_get ts 0)

-- ` : ` and these types in parentheses
abbrev pub listed : List Ty → Doc
listed ts = colon <> parens (types ts)

-- the names of parameters
abbrev pub name_of_param : ValueNo × Ty → Doc
name_of_param p = value p.0

-- `%a : T`
abbrev pub param : ValueNo × Ty → Doc
param p = value p.0 <> colon <> type_doc p.1

-- values and their types, where there are any
abbrev pub typed_values : List ValueNo → List Ty → Doc
typed_values [] ts = Empty
typed_values (v ∷ vs) ts = Blank <> values (v ∷ vs) <> colon <> types ts

-- `%a = %x`
abbrev pub init : ValueNo × Ty → ValueNo → Doc
init p v = value p.0 <> equals <> value v

abbrev pub more_inits : List (ValueNo × Ty) → List ValueNo → Doc
more_inits (p ∷ ps) (v ∷ vs) = comma <> init p v <> more_inits ps vs
more_inits _ _ = Empty

abbrev pub inits : List (ValueNo × Ty) → List ValueNo → Doc
inits (p ∷ ps) (v ∷ vs) = init p v <> more_inits ps vs
inits _ _ = Empty

-- `%v as %u : T`
abbrev pub value_operand : ValueNo → ValueNo × Ty → Ty → Doc
value_operand v p t = value v <> keyword (codes "as") <> value p.0 <> colon <> type_doc t

abbrev pub more_value_operands : List ValueNo → List (ValueNo × Ty) → List Ty → Doc
more_value_operands (v ∷ vs) (p ∷ ps) (t ∷ ts) = comma <> value_operand v p t <> more_value_operands vs ps ts
more_value_operands _ _ _ = Empty

abbrev pub value_operands : List ValueNo → List (ValueNo × Ty) → List Ty → Doc
value_operands (v ∷ vs) (p ∷ ps) (t ∷ ts) = Blank <> parens (value_operand v p t <> more_value_operands vs ps ts)
value_operands _ _ _ = Empty

-- ---- the forms

abbrev pub compare_form : Op → Doc
compare_form o = Blank <> attr_doc (attr_of o) <> comma <> values (operands_of o) <> typed (written_of o)

abbrev pub cast_form : Op → Doc
cast_form o = uses o <> typed (written_of o) <> keyword (codes "to") <> shown type_doc (slice_get (types_of o) 0)

-- a truth has no type
abbrev pub constant_type : Attr → List Ty → Doc
constant_type (attr.Truth truth) ts = Empty
constant_type _ ts = typed ts

abbrev pub constant_form : Op → Doc
constant_form o = Blank <> attr_doc (attr_of o) <> constant_type (attr_of o) (types_of o)

abbrev pub call_form : Op → Doc
call_form o =
    Blank <> attr_doc (attr_of o) <> parens (values (operands_of o)) <> listed (written_of o) <> arrow <> result_types (types_of o)

unfoldable pub carried_word : List ℕ
carried_word = codes "iter_args"

-- what a loop carries, where it carries something
abbrev pub carried : List Ty → List (ValueNo × Ty) → List ValueNo → Doc
carried [] ps vs = Empty
carried (t ∷ ts) ps vs = Blank <> word carried_word <> parens (inits ps vs) <> arrow <> parens (types (t ∷ ts))

abbrev pub for_bounds : List ValueNo → Doc
for_bounds vs = value_at vs 0 <> keyword (codes "to") <> value_at vs 1 <> keyword (codes "step") <> value_at vs 2

-- the bounds and the step, and what the loop carries
abbrev pub for_form : Op → Doc
for_form o =
    Blank <> shown name_of_param (slice_get (params_at o 0) 0) <> equals <> for_bounds (operands_of o)
    <> carried (types_of o) (drop 1 (params_at o 0)) (drop 3 (operands_of o))

-- what a loop's parameters begin with, where it has any
abbrev pub begun : List (ValueNo × Ty) → List ValueNo → Doc
begun ps [] = Empty
begun ps (v ∷ vs) = Blank <> parens (inits ps (v ∷ vs))

abbrev pub while_form : Op → Doc
while_form o = begun (params_at o 0) (operands_of o) <> listed (written_of o) <> arrow <> result_types (types_of o)

abbrev pub parallel_bounds : Op → Doc
parallel_bounds o =
    parens (values (first_group o)) <> keyword (codes "to") <> parens (values (second_group o)) <> keyword (codes "step")
    <> parens (values (third_group o))

abbrev pub parallel_form : Op → Doc
parallel_form o = Blank <> parens (commas name_of_param (params_at o 0)) <> equals <> parallel_bounds o

abbrev pub condition_form : Op → Doc
condition_form o = parens (value_at (operands_of o) 0) <> typed_values (drop 1 (operands_of o)) (written_of o)

abbrev pub dependencies : List ValueNo → Doc
dependencies [] = Empty
dependencies (v ∷ vs) = Blank <> brackets (values (v ∷ vs))

-- its own token stands first among the types of its results, and isn't written
abbrev pub execute_form : Op → Doc
execute_form o =
    dependencies (first_group o) <> value_operands (second_group o) (params_at o 0) (written_of o) <> results_if_any (drop 1 (types_of o))

abbrev pub load_form : Op → Doc
load_form o =
    Blank <> value_at (operands_of o) 0 <> brackets (values (drop 1 (operands_of o))) <> typed (written_of o)

abbrev pub store_form : Op → Doc
store_form o =
    Blank <> values (take 2 (operands_of o)) <> brackets (values (drop 2 (operands_of o))) <> typed (written_of o)

-- what stands behind the name of an operation of this form, up to its regions
abbrev pub form_doc : Form → Op → Doc
form_doc shape.Binary o = uses o <> typed (types_of o)
form_doc shape.Compare o = compare_form o
form_doc shape.Select o = uses o <> typed (types_of o)
form_doc shape.Extend o = cast_form o
form_doc shape.Truncate o = cast_form o
form_doc shape.IndexCast o = cast_form o
form_doc shape.Constant o = constant_form o
form_doc shape.Assert o = uses o <> comma <> attr_doc (attr_of o)
form_doc shape.Call o = call_form o
form_doc shape.TryCall o = call_form o
form_doc shape.Return o = typed_values (operands_of o) (written_of o)
form_doc shape.For o = for_form o
form_doc shape.If o = uses o <> results_if_any (types_of o)
form_doc shape.While o = while_form o
form_doc shape.Condition o = condition_form o
form_doc shape.Parallel o = parallel_form o
form_doc shape.Reduce o = Empty
form_doc shape.Yield o = typed_values (operands_of o) (written_of o)
form_doc shape.Alloc o = parens (values (operands_of o)) <> typed (types_of o)
form_doc shape.Dealloc o = uses o <> typed (written_of o)
form_doc shape.Load o = load_form o
form_doc shape.Store o = store_form o
form_doc shape.Dim o = uses o <> typed (written_of o)
form_doc shape.Execute o = execute_form o
form_doc shape.TaskYield o = typed_values (operands_of o) (written_of o)
form_doc shape.Await o = uses o <> typed (written_of o)
form_doc shape.AwaitAll o = uses o
form_doc shape.CreateGroup o = uses o <> typed (types_of o)
form_doc shape.AddToGroup o = uses o <> typed (written_of o)
form_doc shape.Other o = Empty

-- what stands behind the name of an operation of this kind
abbrev pub form : OpKind → Op → Doc
form k o = form_doc (row_of k).form o
