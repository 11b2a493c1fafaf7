-- Blocks of operations whose types fit.
use Rattle.std.specs.Prelude.{◌≡◌, ℕ, true, List, Some, slice_get}
use Rattle.ir_forms.specs.declared.ops.Func.{Func}
use Rattle.ir_forms.specs.declared.ops.Module.{Module}
use Rattle.low_forms.specs.declared.code.LowFunc.{LowFunc}
use Rattle.low_forms.specs.Registers.{every}
use Rattle.low_forms.specs.Fits.{block_fits}
use Rattle.low_forms.specs.WellFormed.{WellFormed}
use Rattle.scf_blocks.specs.Lowered.{lowered}
use Rattle.block_laws.specs.Closed.{IsClosed}
use Rattle.typed_rows.specs.Typed.{IsTyped, AreTyped}

-- operations whose types fit use only what is visible
abbrev pub TypedIsClosed : Type 0
TypedIsClosed = (program : Module) (f : Func) → IsTyped program f → IsClosed f

-- the rows of their blocks fit
abbrev pub TypedRowsFit : Type 0
TypedRowsFit = (program : Module) → AreTyped program →
    (k : ℕ) (low : LowFunc) → slice_get (lowered program).funcs k ≡ Some low → every (block_fits (lowered program) low) low.blocks ≡ true

-- so that all of the code is well formed
abbrev pub TypedWellFormed : Type 0
TypedWellFormed = (program : Module) → AreTyped program → WellFormed (lowered program)
