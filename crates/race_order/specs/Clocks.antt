-- Clocks: of each number a count, as trees of pairs that share their parts.
use Rattle.std.specs.Prelude.{◌≡◌, ℕ, zero, suc, ◌<◌, ◌-◌, ◌^◌, cond, nat_lt, List, length, ◌++◌, ⊤, get_or}

-- The count of a key in the tree with this root, so many levels deep. A root of no level is the count.
abbrev pub count : List (ℕ × ℕ) → ℕ → ℕ → ℕ → ℕ
count nodes zero root key = root
count nodes (suc depth) root key =
    cond (nat_lt key (2 ^ depth)) (count nodes depth (get_or nodes root (0, 0)).0 key) (count nodes depth (get_or nodes root (0, 0)).1 (key - 2 ^ depth))

-- the tree's nodes are there
abbrev pub IsTree : List (ℕ × ℕ) → ℕ → ℕ → Type 0
IsTree nodes zero root = ⊤
IsTree nodes (suc depth) root =
    (root < length nodes) × IsTree nodes depth (get_or nodes root (0, 0)).0 × IsTree nodes depth (get_or nodes root (0, 0)).1

-- the first node is the tree of no count
abbrev pub HasEmpty : List (ℕ × ℕ) → Type 0
HasEmpty nodes = (0 < length nodes) × (get_or nodes 0 (0, 0) ≡ (0, 0))

-- some nodes were added
abbrev pub Grows : List (ℕ × ℕ) → List (ℕ × ℕ) → Type 0
Grows before after = (more : List (ℕ × ℕ)) × (after ≡ before ++ more)

-- some nodes may have been added, and this one has these two parts
abbrev pub IsPlaced : List (ℕ × ℕ) → List (ℕ × ℕ) → ℕ × ℕ → ℕ → Type 0
IsPlaced before after parts made = Grows before after × (made < length after) × (get_or after made (0, 0) ≡ parts)
