-- What a list of values with their types says of a number.
use Rattle.std.specs.Prelude.{◌≡◌, ℕ, suc, ◌==◌, cond, List, [], ◌∷◌, Option, Some, None, slice_get}
use Rattle.std.specs.Option.{option_map}
use Rattle.ir_forms.specs.declared.ops.ValueNo.{ValueNo}

-- the type that a number has: that of its first definition
abbrev pub lookup : {X : Type 0} → List (ValueNo × X) → ℕ → Option X
lookup [] v = None
lookup (e ∷ rest) v = cond (e.0.0 == v) (Some e.1) (lookup rest v)

-- the place of a number's first definition
abbrev pub first_at : {X : Type 0} → List (ValueNo × X) → ℕ → Option ℕ
first_at [] v = None
first_at (e ∷ rest) v = cond (e.0.0 == v) (Some 0) (option_map suc (first_at rest v))

-- the slot of each number that is defined holds the place of its first definition
abbrev pub Indexes : {X : Type 0} → List (ValueNo × X) → List ℕ → Type 0
Indexes entries slots = (v p : ℕ) → first_at entries v ≡ Some p → slice_get slots v ≡ Some p
