-- Which registers are live, as truths: what is live over edges, from nothing on, block by block until nothing changes.
use Rattle.std.specs.Prelude.{◌↔◌, ◌<◌, ℕ, zero, suc, ◌&&◌, nat_lt, nat_le, if◌then◌else◌, Bool, true, false, List, [], ◌∷◌, ◌++◌, length, drop, replicate, Option, Some, None, slice_get, slice_set, IsTrue}
use Rattle.bit_sets.specs.Members.{union}
use Rattle.low_flow.specs.Lists.{list_at}
use Rattle.low_forms.specs.declared.code.Block.{Block}
use Rattle.low_forms.specs.declared.code.LowFunc.{LowFunc}
use Rattle.low_forms.specs.Edges.{edges}
use Rattle.liveness.specs.Live.{IsLive}
use Rattle.liveness.specs.Flow.{live_before, set_at, over, joined, back_through, before, countdown}
use Rattle.liveness.specs.Visits.{most_of}

abbrev pub is_same_set : List Bool → List Bool → Bool
is_same_set [] [] = true
is_same_set [] (b ∷ ys) = false
is_same_set (a ∷ xs) [] = false
is_same_set (true ∷ xs) (true ∷ ys) = is_same_set xs ys
is_same_set (true ∷ xs) (false ∷ ys) = false
is_same_set (false ∷ xs) (true ∷ ys) = false
is_same_set (false ∷ xs) (false ∷ ys) = is_same_set xs ys

-- to the set of a block is added what is live over an edge to it by the sets of the blocks behind it
abbrev pub visited_as : LowFunc → List (List Bool) → ℕ → Option Block → List (List Bool)
visited_as f sets c None = sets
visited_as f sets c (Some b) = slice_set sets c (union (set_at sets c) (back_through b (joined sets (list_at (edges f) c) (replicate (length f.regs) false))))

abbrev pub visited : LowFunc → List (List Bool) → ℕ → List (List Bool)
visited f sets c = visited_as f sets c (slice_get f.blocks c)

-- where the set of a block has grown, the blocks before it wait
abbrev pub waiting_after : LowFunc → List (List Bool) → List (List Bool) → ℕ → List ℕ → List ℕ
waiting_after f sets news c waiting = if is_same_set (set_at news c) (set_at sets c) then waiting else waiting ++ list_at (before (edges f)) c

abbrev pub settled : ℕ → LowFunc → List (List Bool) → List ℕ → List (List Bool)
settled zero f sets waiting = sets
settled (suc n) f sets [] = sets
settled (suc n) f sets (c ∷ waiting) = settled n f (visited f sets c) (waiting_after f sets (visited f sets c) c waiting)

-- by block, what is live over an edge to it
abbrev pub live_sets : LowFunc → List (List Bool)
live_sets f = settled (most_of f) f (replicate (length f.blocks) (replicate (length f.regs) false)) (countdown (length f.blocks))

abbrev pub is_live_in : LowFunc → ℕ → ℕ → ℕ → Option Block → Bool
is_live_in f block row r None = false
is_live_in f block row r (Some b) = nat_le row (length b.instrs) && live_before (drop row b.instrs) b.term (over (live_sets f) r (list_at (edges f) block)) r

-- a register of the function is live at a place of it
unfoldable pub is_live : LowFunc → ℕ → ℕ → ℕ → Bool
is_live f block row r = nat_lt r (length f.regs) && is_live_in f block row r (slice_get f.blocks block)

abbrev pub TruthsAreExact : Type 0
TruthsAreExact = (f : LowFunc) (block row r : ℕ) → r < length f.regs → IsTrue (is_live f block row r) ↔ IsLive f r (record { block = block; row = row })
