-- The first thing of a name in a list, and a map from names to their first things.
use Rattle.std.specs.Prelude.{◌≡◌, ◌≤◌, ℕ, suc, cond, Bool, ◌&&◌, nat_eq, List, [], ◌∷◌, length, take, Option, Some, None}
use Rattle.std.specs.BTreeMap.{BTreeMap, get_by}
use Rattle.std.specs.Cmp.Lexicographic.{slice_cmp}
use Rattle.std.specs.Option.{option_map}
use Rattle.std.specs.Ordering.{nat_cmp}
use Rattle.std.specs.Str.{bytes_eq}
use Rattle.std.specs.Global.{Vec}

-- the place of the first thing of a name
abbrev pub first_named : {A : Type 0} → (A → List ℕ) → List A → List ℕ → Option ℕ
first_named name [] sought = None
first_named name (x ∷ xs) sought = cond (bytes_eq (name x) sought) (Some 0) (option_map suc (first_named name xs sought))

-- what a map has at a name
abbrev pub place_at : BTreeMap (Vec ℕ) ℕ → List ℕ → Option ℕ
place_at places sought = get_by (λ k. slice_cmp nat_cmp sought k.items) places

-- the place that was found, or this one
abbrev pub or_place : Option ℕ → Bool → ℕ → Option ℕ
or_place (Some k) here n = Some k
or_place None here n = cond here (Some n) None

-- the place that was found, but not this one
abbrev pub without_place : Option ℕ → Bool → ℕ → Option ℕ
without_place (Some k) here n = cond (here && nat_eq k n) None (Some k)
without_place None here n = None

-- the map has each name's first place among so many things
pub record AreFirsts {A : Type 0} (name : A → List ℕ) (xs : List A) (places : BTreeMap (Vec ℕ) ℕ) (mapped : ℕ) : Type 0 where
  pub within : mapped ≤ length xs
  pub firsts : (sought : List ℕ) → place_at places sought ≡ first_named name (take mapped xs) sought
