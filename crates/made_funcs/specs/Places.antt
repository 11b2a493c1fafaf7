-- A map from the numbers of values to their places.
use Rattle.std.specs.Prelude.{◌≡◌, ℕ, suc, ◌==◌, nat_eq, cond, [], ◌∷◌, Option, Some, None}
use Rattle.std.specs.Option.{option_map}
use Rattle.std.specs.declared.hash.FoldHasher.{FoldHasher}
use Rattle.std.specs.declared.hash.BuildHasherDefault.{BuildHasherDefault}
use Rattle.indexmap.specs.IndexMap.{IndexMap, get}
use Rattle.made_funcs.specs.Values.{Typed}

-- where a value of this number stands first
abbrev pub first_place : Typed → ℕ → Option ℕ
first_place [] n = None
first_place (p ∷ ps) n = cond (p.0.0 == n) (Some 0) (option_map suc (first_place ps n))

-- the map holds the first place of each value
abbrev pub Places : IndexMap ℕ ℕ (BuildHasherDefault FoldHasher) → Typed → Type 0
Places places values = (n : ℕ) → get nat_eq places n ≡ first_place values n
