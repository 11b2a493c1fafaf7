-- Where numbers stand first in a list.
use Rattle.std.specs.Prelude.{◌≡◌, ℕ, suc, ◌-◌, ◌^◌, ◌==◌, cond, nat_eq, List, [], ◌∷◌, Option, Some, None, unwrap_or}
use Rattle.std.specs.Option.{option_map}
use Rattle.std.specs.declared.hash.FoldHasher.{FoldHasher}
use Rattle.std.specs.declared.hash.BuildHasherDefault.{BuildHasherDefault}
use Rattle.indexmap.specs.IndexMap.{IndexMap, get}

-- where a number stands first
abbrev pub first_place : List ℕ → ℕ → Option ℕ
first_place [] x = None
first_place (y ∷ ys) x = cond (y == x) (Some 0) (option_map suc (first_place ys x))

-- the place of what isn't there
abbrev pub unknown : ℕ
unknown = 2 ^ 32 - 1

abbrev pub place_in : List ℕ → ℕ → ℕ
place_in xs x = unwrap_or (first_place xs x) unknown

-- a map has the first place of each number
abbrev pub AreFirst : List ℕ → IndexMap ℕ ℕ (BuildHasherDefault FoldHasher) → Type 0
AreFirst xs places = (x : ℕ) → get nat_eq places x ≡ first_place xs x
