-- The halving tree of a range of blocks.
use Rattle.std.specs.Prelude.{ℕ, zero, suc, ◌+◌, ◌-◌, ◌/◌, nat_lt, if◌then◌else◌, List, [], ◌∷◌, ◌++◌}

-- a block, or a launch of the tree of the upper half before the tree of the lower half
pub data Tree : Type 0 where
  Block : ℕ → Tree
  Launches : Tree → Tree → Tree

-- the first block of the upper half of the range from the first block on, below the end
abbrev pub middle : ℕ → ℕ → ℕ
middle first end = first + (end - first) / 2

-- halved at most so often
abbrev pub tree_within : ℕ → ℕ → ℕ → Tree
tree_within zero first end = Block first
tree_within (suc n) first end =
    if nat_lt 1 (end - first) then Launches (tree_within n (middle first end) end) (tree_within n first (middle first end)) else Block first

-- the tree of a range: as often as it has blocks is more than enough
abbrev pub tree : ℕ → ℕ → Tree
tree first end = tree_within (end - first) first end

-- the blocks of a tree, by their numbers
abbrev pub blocks_of : Tree → List ℕ
blocks_of (Block b) = b ∷ []
blocks_of (Launches upper lower) = blocks_of lower ++ blocks_of upper

-- how many launches it has
abbrev pub launches_of : Tree → ℕ
launches_of (Block b) = 0
launches_of (Launches upper lower) = suc (launches_of upper + launches_of lower)

-- so many numbers, from this one on
abbrev pub numbers_from : ℕ → ℕ → List ℕ
numbers_from first zero = []
numbers_from first (suc n) = first ∷ numbers_from (first + 1) n

-- ---- the loop that hands on the upper half of a range, as long as it has more than one block

-- the ranges that it hands on, in at most so many turns: each from its first block on, below its end
abbrev pub handed_within : ℕ → ℕ → ℕ → List (ℕ × ℕ)
handed_within zero first end = []
handed_within (suc n) first end = if nat_lt 1 (end - first) then (middle first end, end) ∷ handed_within n first (middle first end) else []

abbrev pub handed_on : ℕ → ℕ → List (ℕ × ℕ)
handed_on first end = handed_within (end - first) first end

-- the trees of ranges are launched one after another, and then comes a block
abbrev pub launching : List (ℕ × ℕ) → ℕ → Tree
launching [] b = Block b
launching (r ∷ rs) b = Launches (tree r.0 r.1) (launching rs b)
