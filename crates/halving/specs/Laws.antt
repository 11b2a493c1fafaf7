-- What halving keeps, and how blocks cover a loop.
use Rattle.std.specs.Prelude.{◌≡◌, ◌<◌, ◌≤◌, ℕ, ◌+◌, ◌-◌, ◌/◌, nat_lt, if◌then◌else◌, ◌*◌, ◌^◌}
use Rattle.halving.specs.Blocks.{block_begin, block_count, block_end, block_size}
use Rattle.halving.specs.Tree.{Block, Launches, blocks_of, handed_on, launches_of, launching, middle, numbers_from, tree}

-- a range of one block is the block; of more it is a launch of the upper half before the lower half
abbrev pub TreeHalves : Type 0
TreeHalves = (first end : ℕ) → tree first end ≡ (if nat_lt 1 (end - first) then Launches (tree (middle first end) end) (tree first (middle first end)) else Block first)

-- the tree of a range has each of its blocks once, in their order
abbrev pub TreeCovers : Type 0
TreeCovers = (first end : ℕ) → first < end → blocks_of (tree first end) ≡ numbers_from first (end - first)

-- and one launch less than blocks: as many as the elements of the loop's group
abbrev pub TreeLaunches : Type 0
TreeLaunches = (first end : ℕ) → first < end → launches_of (tree first end) + 1 ≡ end - first

-- the loop launches the trees of a range, and is left with its first block
abbrev pub LoopLaunches : Type 0
LoopLaunches = (first end : ℕ) → launching (handed_on first end) first ≡ tree first end

-- a loop with iterations has blocks of one or more, and no more in a block than in all
abbrev pub SizeFits : Type 0
SizeFits = (workers least trip : ℕ) → 0 < workers → 0 < least → 0 < trip → (0 < block_size workers least trip) × (block_size workers least trip ≤ trip)

-- each block has an iteration
abbrev pub BlocksBegin : Type 0
BlocksBegin = (trip size block : ℕ) → 0 < size → block < block_count trip size → block_begin size block < block_end trip size block

-- a block ends where the next one begins, and the last one where the iterations end
abbrev pub BlocksFollow : Type 0
BlocksFollow = (trip size block : ℕ) → 0 < size → block + 1 < block_count trip size → block_end trip size block ≡ block_begin size (block + 1)

abbrev pub LastBlockEnds : Type 0
LastBlockEnds = (trip size block : ℕ) → 0 < size → block + 1 ≡ block_count trip size → block_end trip size block ≡ trip

-- an iteration stands in the block of its quotient by the size, which there is
abbrev pub IterationHasBlock : Type 0
IterationHasBlock = (trip size iteration : ℕ) → 0 < size → iteration < trip →
    (iteration / size < block_count trip size) × (block_begin size (iteration / size) ≤ iteration) × (iteration < block_end trip size (iteration / size))

-- and in no other
abbrev pub IterationHasOneBlock : Type 0
IterationHasOneBlock = (trip size iteration block : ℕ) → 0 < size → block_begin size block ≤ iteration → iteration < block_end trip size block → block ≡ iteration / size

-- No sum that is made for blocks passes 64 bits: of the iterations and four blocks a worker, of the iterations and the size
-- of a block, and the end of a block before it is cut.
abbrev pub SumsFit : Type 0
SumsFit = (workers least trip block : ℕ) → 0 < workers → workers ≤ 64 → 0 < least → 0 < trip → trip ≤ 2 ^ 31 → block < block_count trip (block_size workers least trip) →
    (trip + 4 * workers < 2 ^ 64) × (trip + block_size workers least trip < 2 ^ 64) × (block_begin (block_size workers least trip) block + block_size workers least trip < 2 ^ 64)
