-- The values of a function, by their numbers, with their types.
use Rattle.std.specs.Prelude.{ℕ, ◌+◌, ◌==◌, max, cond, List, [], ◌∷◌, ◌++◌, map}
use Rattle.ir_forms.specs.declared.ops.Op.{Op, Op-F}
use Rattle.ir_forms.specs.declared.ops.Op.TheFolds.{fold-Op, fold-Region}
use Rattle.ir_forms.specs.declared.ops.Region.{Region, Region-F}
use Rattle.ir_forms.specs.declared.ops.Func.{Func}
use Rattle.ir_forms.specs.declared.ops.ValueNo.{ValueNo}
use Rattle.ir_forms.specs.declared.types.Ty.{Ty}
use Rattle.ir_forms.specs.declared.types.Ty.TheVariants as ty
use Rattle.ir_forms.specs.Numbers.{joined}

-- ---- the values of a function with their types, in the order of the text

abbrev pub Typed : Type 0
Typed = List (ValueNo × Ty)

-- values with these types; one without a type is untyped
abbrev pub typed : List ValueNo → List Ty → Typed
typed [] ts = []
typed (v ∷ vs) [] = (v, ty.Untyped) ∷ typed vs []
typed (v ∷ vs) (t ∷ ts) = (v, t) ∷ typed vs ts

abbrev pub op_values : Op-F Typed Typed → Typed
op_values o = typed o.results o.types ++ joined o.regions

abbrev pub region_values : Region-F Typed Typed → Typed
region_values r = r.params ++ joined r.ops

-- what an operation and its regions define
abbrev pub values_in : Op → Typed
values_in = fold-Op Typed Typed op_values region_values

abbrev pub values_inside : Region → Typed
values_inside = fold-Region Typed Typed op_values region_values

abbrev pub values_of : Func → Typed
values_of f = f.params ++ values_inside f.body

-- the type of a value
abbrev pub type_in : Typed → ℕ → Ty
type_in [] n = ty.Untyped
type_in (p ∷ ps) n = cond (p.0.0 == n) p.1 (type_in ps n)

-- the first number that is above those of these values
abbrev pub first_free : Typed → ℕ
first_free [] = 0
first_free (p ∷ ps) = max (p.0.0 + 1) (first_free ps)

-- values with the types that they have among these
abbrev pub typed_in : Typed → List ℕ → Typed
typed_in values ns = map (λ n. (record { 0 = n }, type_in values n)) ns

-- values of these types, numbered from here on
abbrev pub numbered : ℕ → List Ty → Typed
numbered free [] = []
numbered free (t ∷ ts) = (record { 0 = free }, t) ∷ numbered (free + 1) ts

-- the values of these numbers
abbrev pub as_values : List ℕ → List ValueNo
as_values ns = map (λ n. record { 0 = n }) ns
