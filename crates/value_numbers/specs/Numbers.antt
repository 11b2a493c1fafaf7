-- The values of a function in the order of the text, and a module whose values are numbered in that order.
use Rattle.std.specs.Prelude.{ℕ, suc, ◌-◌, ◌^◌, ◌<◌, ◌==◌, length, cond, List, [], ◌∷◌, ◌++◌, map, Option, Some, None, unwrap_or}
use Rattle.std.specs.List.{All}
use Rattle.std.specs.Option.{option_map}
use Rattle.ir_forms.specs.declared.ops.Func.{Func}
use Rattle.ir_forms.specs.declared.ops.Module.{Module}
use Rattle.ir_forms.specs.declared.ops.Op.{Op, Op-F}
use Rattle.ir_forms.specs.declared.ops.Op.TheFolds.{fold-Op, fold-Region}
use Rattle.ir_forms.specs.declared.ops.Region.{Region, Region-F}
use Rattle.ir_forms.specs.declared.ops.ValueNo.{ValueNo}
use Rattle.source_meaning.specs.Parts.{names_of, joined}
use Rattle.source_meaning.specs.Renaming.{renamed_func}

-- ---- the values of a function, in the order of the text

-- an operation's results come before what its regions define
abbrev pub op_values : Op-F (List ValueNo) (List ValueNo) → List ValueNo
op_values layer = layer.results ++ joined layer.regions

-- a region's parameters come before what its operations define
abbrev pub region_values : Region-F (List ValueNo) (List ValueNo) → List ValueNo
region_values layer = names_of layer.params ++ joined layer.ops

-- what an operation and those in its regions define
abbrev pub values_in : Op → List ValueNo
values_in = fold-Op (List ValueNo) (List ValueNo) op_values region_values

abbrev pub values_inside : Region → List ValueNo
values_inside = fold-Region (List ValueNo) (List ValueNo) op_values region_values

-- what a function defines, its parameters first
abbrev pub values_of : Func → List ValueNo
values_of f = names_of f.params ++ values_inside f.body

abbrev pub as_numbers : List ValueNo → List ℕ
as_numbers vs = map (λ v. v.0) vs

-- the numbers of the values that a function defines
abbrev pub defined_in : Func → List ℕ
defined_in f = as_numbers (values_of f)

-- ---- a number's place

-- where a number stands first
abbrev pub first_place : List ℕ → ℕ → Option ℕ
first_place [] x = None
first_place (y ∷ ys) x = cond (y == x) (Some 0) (option_map suc (first_place ys x))

-- the number of the unknown value
abbrev pub unknown : ℕ
unknown = 2 ^ 32 - 1

-- the first place of a number; of one that isn't there the number of the unknown value
abbrev pub place_in : List ℕ → ℕ → ℕ
place_in xs x = unwrap_or (first_place xs x) unknown

-- ---- a module whose values have the numbers of their places

abbrev pub numbered_values : Func → Func
numbered_values f = renamed_func (place_in (defined_in f)) f

abbrev pub value_numbered : Module → Module
value_numbered program = record { funcs = map numbered_values program.funcs }

-- its values are fewer than the numbers
abbrev pub HasNumbers : Func → Type 0
HasNumbers f = length (values_of f) < unknown

abbrev pub IsCountable : Module → Type 0
IsCountable program = All HasNumbers program.funcs
