-- How often blocks are visited at most.
use Rattle.std.specs.Prelude.{ℕ, ◌+◌, ◌*◌, List, [], ◌∷◌, length}
use Rattle.low_forms.specs.declared.code.LowFunc.{LowFunc}
use Rattle.low_forms.specs.Edges.{edges}

-- how long the lists are together
abbrev pub total : List (List ℕ) → ℕ
total [] = 0
total (xs ∷ lists) = length xs + total lists

-- of a function: each block once, and for each edge and register once the block that the edge leaves
abbrev pub most_of : LowFunc → ℕ
most_of f = length f.blocks + total (edges f) * length f.regs

-- of functions
abbrev pub most_in : List LowFunc → ℕ
most_in [] = 0
most_in (f ∷ funcs) = most_of f + most_in funcs
