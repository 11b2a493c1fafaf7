-- The names of functions that a pass makes, and what their regions capture.
use Rattle.std.specs.Prelude.{◌≡◌, ◌⊎◌, ◌<◌, ◌^◌, ℕ, List, [], ◌∷◌, map, None}
use Rattle.ir_forms.specs.declared.ops.Func.{Func}
use Rattle.ir_forms.specs.declared.ops.Region.{Region}
use Rattle.ir_verify.specs.Names.{first_named}
use Rattle.made_funcs.specs.Captures.{captures, uses_inside}
use Rattle.made_funcs.specs.Names.{made_name}
use Rattle.made_funcs.specs.Values.{values_inside}

-- no function has the name of a made one
abbrev pub MadeNamesFree : Type 0
MadeNamesFree = (funcs : List Func) (prefix : List ℕ) (k : ℕ) → first_named funcs (made_name funcs prefix k) ≡ None

-- two made functions have two names
abbrev pub MadeNamesDiffer : Type 0
MadeNamesDiffer = (funcs : List Func) (prefix : List ℕ) (j k : ℕ) → j < 2 ^ 64 → k < 2 ^ 64 → made_name funcs prefix j ≡ made_name funcs prefix k → j ≡ k

-- ---- captures

abbrev pub Among : List ℕ → ℕ → Type 0
Among [] n = ⊥
Among (x ∷ xs) n = (x ≡ n) ⊎ Among xs n

-- the numbers of what is defined in a region
abbrev pub defined_inside : Region → List ℕ
defined_inside r = map (λ p. p.0.0) (values_inside r)

-- a region captures exactly what its operations use and nothing in it defines
abbrev pub CapturesAre : Type 0
CapturesAre = (r : Region) (n : ℕ) →
    (Among (captures r) n → Among (uses_inside r) n × (Among (defined_inside r) n → ⊥))
    × (Among (uses_inside r) n → (Among (defined_inside r) n → ⊥) → Among (captures r) n)
