-- How many cells a buffer has.
use Rattle.std.specs.Prelude.{ℕ, ◌*◌, ◌^◌, List, [], ◌∷◌}

-- the product of numbers; of none it is 1
abbrev pub product : List ℕ → ℕ
product [] = 1
product (k ∷ ks) = k * product ks

-- all buffers together have at most so many cells
abbrev pub most_cells : ℕ
most_cells = 2 ^ 24
