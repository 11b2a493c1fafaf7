-- Places of a function, and what of a block remains at one.
use Rattle.std.specs.Prelude.{ℕ, zero, suc, List, [], ◌∷◌, Option, Some, None, slice_get}
use Rattle.low_forms.specs.declared.code.Instr.{Instr}
use Rattle.low_forms.specs.declared.code.Term.{Term}
use Rattle.low_forms.specs.declared.code.Block.{Block}
use Rattle.low_forms.specs.declared.code.LowFunc.{LowFunc}

-- instructions, and the terminator behind them
pub record Remaining : Type 0 where
  pub instrs : List Instr
  pub term : Term

-- what remains at a place; behind the terminator nothing does
abbrev pub remaining_in : List Instr → Term → ℕ → Option Remaining
remaining_in instrs t zero = Some (record { instrs = instrs; term = t })
remaining_in [] t (suc place) = None
remaining_in (i ∷ instrs) t (suc place) = remaining_in instrs t place

abbrev pub remaining_of : Option Block → ℕ → Option Remaining
remaining_of None place = None
remaining_of (Some b) place = remaining_in b.instrs b.term place

-- frames are compared by what remains where they stand
abbrev pub remaining : LowFunc → ℕ → ℕ → Option Remaining
remaining f block place = remaining_of (slice_get f.blocks block) place
