-- Names and numbers, as the code keeps them.
use Rattle.std.specs.Prelude.{ℕ, ◌-◌, ◌^◌, min, List, [], ◌∷◌, Option}
use Rattle.ir_forms.specs.declared.ops.ValueNo.{ValueNo}
use Rattle.source_meaning.specs.Values.{maybe}

-- the name of a parameter, if there is one
abbrev pub param_names : Option ValueNo → List ValueNo
param_names param = maybe [] (λ x. x ∷ []) param

-- the names that get an answer: a parameter, or an operation's results
abbrev pub names_in : Option ValueNo → List ValueNo → List ValueNo
names_in param results = maybe results (λ x. x ∷ []) param

-- a number as it is kept in 64 bits: larger ones are the largest
abbrev pub capped : ℕ → ℕ
capped n = min n (2 ^ 64 - 1)
