-- The edges between blocks.
use Rattle.std.specs.Prelude.{ℕ, ◌==◌, nat_lt, ◌+◌, ◌&&◌, ◌||◌, not, if◌then◌else◌, Bool, true, false, List, [], ◌∷◌, map, length}
use Rattle.low_forms.specs.declared.code.Target.{Target}
use Rattle.low_forms.specs.declared.code.Term.{Term}
use Rattle.low_forms.specs.declared.code.Block.{Block}
use Rattle.low_forms.specs.declared.code.LowFunc.{LowFunc}
use Rattle.low_forms.specs.declared.row.Targets.{Targets}
use Rattle.low_forms.specs.declared.row.Targets.TheVariants as to
use Rattle.low_forms.specs.Rows.{row_of}
use Rattle.low_forms.specs.Registers.{every}

abbrev pub blocks_of : List Target → List ℕ
blocks_of targets = map (λ t. t.block.0) targets

-- Where a frame goes on from a suspend: in the first block, where it launches, at its first target, and its copy at the
-- second; in another block the copy alone goes on, at the second. The clean-up is no edge.
abbrev pub suspend_edges : Bool → List ℕ → List ℕ
suspend_edges is_first [] = []
suspend_edges is_first (b ∷ []) = []
suspend_edges is_first (b ∷ c ∷ bs) = if is_first then b ∷ c ∷ [] else c ∷ []

abbrev pub edges_of : Targets → Bool → List ℕ → List ℕ
edges_of to.Suspend is_first bs = suspend_edges is_first bs
edges_of _ is_first bs = bs

-- the blocks to which edges lead from the end of a block, each as often as edges do
abbrev pub edges_from : Bool → Term → List ℕ
edges_from is_first t = edges_of (row_of t.instr.kind).targets is_first (blocks_of t.targets)

abbrev pub edges_in : Bool → List Block → List (List ℕ)
edges_in is_first [] = []
edges_in is_first (b ∷ blocks) = edges_from is_first b.term ∷ edges_in false blocks

-- by block, where its edges lead
abbrev pub edges : LowFunc → List (List ℕ)
edges f = edges_in true f.blocks

-- ---- predecessors

-- how many edges lead to the block
abbrev pub count_to : ℕ → List ℕ → ℕ
count_to b [] = 0
count_to b (c ∷ cs) = if b == c then count_to b cs + 1 else count_to b cs

abbrev pub predecessors : List (List ℕ) → ℕ → ℕ
predecessors [] b = 0
predecessors (cs ∷ lists) b = count_to b cs + predecessors lists b

-- a block of the function to which no second edge leads
abbrev pub has_one_before : List (List ℕ) → ℕ → Bool
has_one_before lists c = nat_lt c (length lists) && nat_lt (predecessors lists c) 2

-- a block has one edge at most, or to none of the blocks to which its edges lead another edge leads
abbrev pub is_uncritical : List (List ℕ) → List ℕ → Bool
is_uncritical lists cs = nat_lt (length cs) 2 || every (has_one_before lists) cs

abbrev pub no_critical_edge : LowFunc → Bool
no_critical_edge f = every (is_uncritical (edges f)) (edges f)

abbrev pub none_is_start : List ℕ → Bool
none_is_start cs = every (λ c. not (c == 0)) cs

-- no edge leads to the first block
abbrev pub none_to_start : LowFunc → Bool
none_to_start f = every none_is_start (edges f)
