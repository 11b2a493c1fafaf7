-- Sets of what is live over edges, on the way to where nothing changes.
use Rattle.std.specs.Prelude.{◌≡◌, ◌≢◌, ◌⊎◌, ◌<◌, ◌+◌, ◌*◌, ℕ, ◌||◌, Bool, true, false, List, [], ◌∷◌, length, Some, slice_get, slice_set}
use Rattle.std.specs.Bool.{MatchBool}
use Rattle.bit_sets.specs.Members.{is_in}
use Rattle.low_flow.specs.Lists.{has, list_at}
use Rattle.low_forms.specs.declared.code.Block.{Block}
use Rattle.low_forms.specs.declared.code.LowFunc.{LowFunc}
use Rattle.low_forms.specs.Assigned.{numbers}
use Rattle.low_forms.specs.Edges.{edges}
use Rattle.liveness.specs.Live.{IsLive}
use Rattle.liveness.specs.Flow.{enters, set_at, over}

-- the register is live over an edge to the block
pub record Enters (f : LowFunc) (r c : ℕ) : Type 0 where
  pub block : Block
  pub at : slice_get f.blocks c ≡ Some block
  pub free : has r (numbers block.params) ≡ false
  pub live : IsLive f r (record { block = c; row = 0 })

-- each set has a truth for each register
pub record AreSets (f : LowFunc) (sets : List (List Bool)) : Type 0 where
  pub long : length sets ≡ length f.blocks
  pub each : (c : ℕ) → c < length sets → length (set_at sets c) ≡ length f.regs

-- what is in a set is live there
abbrev pub AreSound : LowFunc → List (List Bool) → Type 0
AreSound f sets = (c r : ℕ) → is_in (set_at sets c) r ≡ true → Enters f r c

-- what is live over an edge to the block by the sets of the blocks behind it is in its set
abbrev pub IsClosed : LowFunc → List (List Bool) → ℕ → Type 0
IsClosed f sets c = (b : Block) (r : ℕ) → slice_get f.blocks c ≡ Some b → r < length f.regs → enters b (over sets r (list_at (edges f) c)) r ≡ true → is_in (set_at sets c) r ≡ true

pub record IsSolution (f : LowFunc) (sets : List (List Bool)) : Type 0 where
  pub sets_are : AreSets f sets
  pub sound : AreSound f sets
  pub closed : (c : ℕ) → IsClosed f sets c

-- a block waits, or nothing is to be done there
pub record IsState (f : LowFunc) (sets : List (List Bool)) (waiting : List ℕ) : Type 0 where
  pub sets_are : AreSets f sets
  pub sound : AreSound f sets
  pub within : (c : ℕ) → has c waiting ≡ true → c < length f.blocks
  pub closed : (c : ℕ) → (has c waiting ≡ true) ⊎ IsClosed f sets c

-- a visit of a block adds to its set what is live there by the sets of the blocks behind it
pub record Visits (f : LowFunc) (sets news : List (List Bool)) (c : ℕ) (grows : Bool) : Type 0 where
  pub sets_are : news ≡ slice_set sets c (set_at news c)
  pub each : length (set_at news c) ≡ length (set_at sets c)
  pub adds : (b : Block) (r : ℕ) → slice_get f.blocks c ≡ Some b → r < length f.regs
      → is_in (set_at news c) r ≡ (is_in (set_at sets c) r || enters b (over sets r (list_at (edges f) c)) r)
  pub changes : MatchBool grows (set_at news c ≢ set_at sets c) (set_at news c ≡ set_at sets c)

-- by block, the blocks from which edges lead to it
pub record AreBefore (f : LowFunc) (before : List (List ℕ)) : Type 0 where
  pub all : (c p : ℕ) → c < length f.blocks → has c (list_at (edges f) p) ≡ true → has p (list_at before c) ≡ true
  pub within : (c p : ℕ) → has p (list_at before c) ≡ true → p < length f.blocks

-- ---- how much there is to do: visits that wait, and for each register that a set lacks one of each block before it

abbrev pub absent : List Bool → ℕ
absent [] = 0
absent (true ∷ set) = absent set
absent (false ∷ set) = absent set + 1

abbrev pub weight : List (List ℕ) → List (List Bool) → ℕ
weight [] sets = 0
weight (bs ∷ before) [] = 0
weight (bs ∷ before) (set ∷ sets) = length bs * absent set + weight before sets

abbrev pub to_do : List (List ℕ) → List (List Bool) → List ℕ → ℕ
to_do before sets waiting = weight before sets + length waiting
