-- Counts follow liveness: numbers of references along the instructions that the pass gives.
use Rattle.std.specs.Prelude.{◌≡◌, ◌≤◌, ◌⊎◌, ◌+◌, ℕ, if◌then◌else◌, ◌||◌, ◌&&◌, Bool, true, false, List, [], ◌∷◌, length, Some, slice_get}
use Rattle.low_flow.specs.Lists.{has, list_at}
use Rattle.low_forms.specs.declared.code.Reg.{Reg}
use Rattle.low_forms.specs.declared.code.Instr.{Instr}
use Rattle.low_forms.specs.declared.code.Term.{Term}
use Rattle.low_forms.specs.declared.code.Block.{Block}
use Rattle.low_forms.specs.declared.code.LowFunc.{LowFunc}
use Rattle.low_forms.specs.declared.row.Change.TheVariants as change
use Rattle.low_forms.specs.Rows.{row_of}
use Rattle.low_forms.specs.Assigned.{numbers, used_at_end}
use Rattle.low_forms.specs.Edges.{edges, count_to}
use Rattle.low_forms.specs.Owns.{uses, takes, takes_at_end, gives}
use Rattle.live_truths.specs.Truths.{is_live}
use Rattle.own_tables.specs.Owns.{allows, after, left}
use Rattle.ref_counting.specs.Objects.{is_counted, counted, taken_at_end, is_return}
use Rattle.ref_counting.specs.Shape.{around, before_end, is_live_over, beside, dropped_here}

-- the number of a register behind these instructions
abbrev pub along : LowFunc → ℕ → List Instr → ℕ → ℕ
along f r [] n = n
along f r (i ∷ instrs) n = along f r instrs (after f i r n)

-- each of them has what it needs
abbrev pub allowed : LowFunc → ℕ → List Instr → ℕ → Bool
allowed f r [] n = true
allowed f r (i ∷ instrs) n = allows f i r n && allowed f r instrs (after f i r n)

abbrev pub one_if : Bool → ℕ
one_if true = 1
one_if false = 0

-- An instruction that doesn't count itself uses or takes each reference that it names, and gives one of each register
-- that it defines, which isn't live before.
pub record IsPlain (f : LowFunc) (block row : ℕ) (i : Instr) (r : ℕ) : Type 0 where
  pub counts_nothing : (row_of i.kind).change ≡ change.Nothing
  pub operands : has r (numbers i.operands) ≡ true → (has r (uses i) || has r (takes f i)) ≡ true
  pub fresh : has r (numbers i.results) ≡ true → is_live f block row r ≡ false
  pub given : has r (numbers i.results) ≡ true → count_to r (gives f i) ≡ 1

abbrev pub RowsFollow : Type 0
RowsFollow = (f : LowFunc) (block row r : ℕ) (b : Block) (i : Instr) → slice_get f.blocks block ≡ Some b → slice_get b.instrs row ≡ Some i
    → is_counted f r ≡ true → IsPlain f block row i r
    → (along f r (around f block row i) (one_if (is_live f block row r)) ≡ one_if (is_live f block (row + 1) r))
    × (allowed f r (around f block row i) (one_if (is_live f block row r)) ≡ true)

-- A terminator takes each reference that it names, and no edge leads on from a return.
pub record IsPlainEnd (f : LowFunc) (block : ℕ) (t : Term) (r : ℕ) : Type 0 where
  pub operands : has r (used_at_end t) ≡ true → has r (numbers (taken_at_end t)) ≡ true
  pub returns : is_return t.instr.kind ≡ true → list_at (edges f) block ≡ []

abbrev pub EndsFollow : Type 0
EndsFollow = (f : LowFunc) (block r : ℕ) (b : Block) → slice_get f.blocks block ≡ Some b → is_counted f r ≡ true → IsPlainEnd f block b.term r
    → (allowed f r (before_end f block b.term) (one_if (is_live f block (length b.instrs) r)) ≡ true)
    × (count_to r (takes_at_end f b.term) ≤ along f r (before_end f block b.term) (one_if (is_live f block (length b.instrs) r)))
    × (left f b.term r (along f r (before_end f block b.term) (one_if (is_live f block (length b.instrs) r))) ≡ one_if (is_live_over f r (list_at (edges f) block)))

-- what comes along the edges of a block before: one reference to a parameter, and of another register one where it is
-- live over an edge
abbrev pub arriving : LowFunc → ℕ → List Reg → List ℕ → ℕ
arriving f r params targets = if has r (numbers params) then 1 else one_if (is_live_over f r targets)

-- An edge leads from block p to the block. Either p alone stands before it, or the edge is p's only one; and a parameter
-- isn't live beside its block.
abbrev pub StartsFollow : Type 0
StartsFollow = (f : LowFunc) (block p r : ℕ) (b : Block) → slice_get f.blocks block ≡ Some b → is_counted f r ≡ true → has block (list_at (edges f) p) ≡ true
    → (beside f block ≡ list_at (edges f) p) ⊎ ((beside f block ≡ []) × (list_at (edges f) p ≡ block ∷ []))
    → (has r (numbers b.params) ≡ true → is_live_over f r (beside f block) ≡ false)
    → (along f r (dropped_here f block b.params (beside f block) (counted f)) (arriving f r b.params (list_at (edges f) p)) ≡ one_if (is_live f block 0 r))
    × (allowed f r (dropped_here f block b.params (beside f block) (counted f)) (arriving f r b.params (list_at (edges f) p)) ≡ true)
