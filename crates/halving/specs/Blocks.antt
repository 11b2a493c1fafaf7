-- The iterations of a loop in blocks.
use Rattle.std.specs.Prelude.{ℕ, ◌+◌, ◌-◌, ◌*◌, ◌/◌, min, max}

-- a quotient, rounded up
abbrev pub rounded_up : ℕ → ℕ → ℕ
rounded_up n d = (n + d - 1) / d

-- So many iterations that each worker gets four blocks, and no fewer than the least number, where there are so many.
abbrev pub block_size : ℕ → ℕ → ℕ → ℕ
block_size workers least trip = min trip (max (rounded_up trip (4 * workers)) least)

abbrev pub block_count : ℕ → ℕ → ℕ
block_count trip size = rounded_up trip size

-- the first iteration of a block, and the end of its range
abbrev pub block_begin : ℕ → ℕ → ℕ
block_begin size block = block * size

abbrev pub block_end : ℕ → ℕ → ℕ → ℕ
block_end trip size block = min (block * size + size) trip
