-- Lists with reserved places.
use Rattle.std.specs.Prelude.{ℕ, ◌-◌, List, ◌++◌, length}

-- what such a list has, and how many more fit without memory
pub record Reserved (X : Type 0) : Type 0 where
  pub items : List X
  pub room : ℕ

-- with these at the end, in places that were reserved
abbrev pub grown : {X : Type 0} → List X → Reserved X → Reserved X
grown xs list = record { items = list.items ++ xs; room = list.room - length xs }
