-- What holds of the blocks that a module's functions become.
use Rattle.std.specs.Prelude.{◌≡◌, ℕ, true, List, Some, slice_get}
use Rattle.ir_forms.specs.declared.ops.Func.{Func}
use Rattle.ir_forms.specs.declared.ops.Module.{Module}
use Rattle.low_forms.specs.declared.code.LowFunc.{LowFunc}
use Rattle.low_forms.specs.Registers.{every}
use Rattle.low_forms.specs.Numbers.{regs_within, block_within, counts_small, has_start}
use Rattle.low_forms.specs.Edges.{no_critical_edge, none_to_start}
use Rattle.low_forms.specs.Saves.{all_followed, nowhere_else, saves_start}
use Rattle.low_forms.specs.Assigned.{UsesAssigned}
use Rattle.low_forms.specs.Fits.{block_fits}
use Rattle.low_forms.specs.WellFormed.{WellFormed}
use Rattle.scf_blocks.specs.Lowered.{lowered_func, lowered}
use Rattle.block_laws.specs.Closed.{IsClosed}

-- registers, blocks and functions that are named are there, if the operations use only what is visible
abbrev pub NumbersWithin : Type 0
NumbersWithin = (program : Module) (f : Func) → IsClosed f →
    let low : LowFunc = lowered_func program.funcs f in
    (regs_within low low.params ≡ true) × (every (block_within (lowered program) low) low.blocks ≡ true)

-- no edge is critical, and none leads to the first block
abbrev pub EdgesSplit : Type 0
EdgesSplit = (funcs : List Func) (f : Func) →
    let low : LowFunc = lowered_func funcs f in
    (no_critical_edge low ≡ true) × (none_to_start low ≡ true)

-- the first block has no parameters, and nothing saves, resumes, suspends or counts
abbrev pub NoneSaved : Type 0
NoneSaved = (funcs : List Func) (f : Func) →
    let low : LowFunc = lowered_func funcs f in
    (has_start low ≡ true) × (every counts_small low.blocks ≡ true) × (all_followed true low.blocks ≡ true)
    × (every nowhere_else low.blocks ≡ true) × (saves_start low.blocks ≡ true)

-- each use of a register is assigned on every path that leads to it, if the operations use only what is visible
abbrev pub AllAssigned : Type 0
AllAssigned = (funcs : List Func) (f : Func) → IsClosed f → UsesAssigned (lowered_func funcs f)

-- Code of a module whose functions use only what is visible is well formed where its instructions and terminators fit their
-- rows: what is left to show of it is a matter of types alone.
abbrev pub WellFormedIfFits : Type 0
WellFormedIfFits = (program : Module) → ((k : ℕ) (f : Func) → slice_get program.funcs k ≡ Some f → IsClosed f) →
    ((k : ℕ) (low : LowFunc) → slice_get (lowered program).funcs k ≡ Some low → every (block_fits (lowered program) low) low.blocks ≡ true) → WellFormed (lowered program)
