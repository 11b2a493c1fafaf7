-- When lowered code is well formed.
use Rattle.std.specs.Prelude.{◌≡◌, ◌&&◌, Bool, true, Some, slice_get, ℕ}
use Rattle.low_forms.specs.declared.code.Block.{Block}
use Rattle.low_forms.specs.declared.code.LowFunc.{LowFunc}
use Rattle.low_forms.specs.declared.code.LowModule.{LowModule}
use Rattle.low_forms.specs.Registers.{every}
use Rattle.low_forms.specs.Fits.{block_fits}
use Rattle.low_forms.specs.Numbers.{regs_within, block_within, counts_small, has_start}
use Rattle.low_forms.specs.Edges.{edges, none_is_start, is_uncritical, no_critical_edge, none_to_start}
use Rattle.low_forms.specs.Saves.{all_followed, nowhere_else, saves_start}
use Rattle.low_forms.specs.Assigned.{UsesAssigned}

pub record IsWellFormed (code : LowModule) (f : LowFunc) : Type 0 where
  -- registers, blocks and functions that are named are there
  pub params_within : regs_within f f.params ≡ true
  pub within : every (block_within code f) f.blocks ≡ true
  -- there is a first block, without parameters
  pub start : has_start f ≡ true
  -- instructions and terminators fit their rows
  pub fits : every (block_fits code f) f.blocks ≡ true
  -- uses are assigned on every path
  pub assigned : UsesAssigned f
  pub uncritical : no_critical_edge f ≡ true
  pub counts : every counts_small f.blocks ≡ true
  pub not_to_start : none_to_start f ≡ true
  -- saves are followed by what suspends, which stands nowhere else, and the first stands in the first block
  pub saves : all_followed true f.blocks ≡ true
  pub alone : every nowhere_else f.blocks ≡ true
  pub first_save : saves_start f.blocks ≡ true

-- each function is well formed
abbrev pub WellFormed : LowModule → Type 0
WellFormed code = (k : ℕ) (f : LowFunc) → slice_get code.funcs k ≡ Some f → IsWellFormed code f

-- ---- the sentences that speak of one block alone, of a function's blocks, and of edges

abbrev pub block_keeps : LowModule → LowFunc → Block → Bool
block_keeps code f b = block_within code f b && block_fits code f b && counts_small b && nowhere_else b

abbrev pub keeps_alone : LowModule → LowFunc → Bool
keeps_alone code f =
    regs_within f f.params && has_start f && every (block_keeps code f) f.blocks && all_followed true f.blocks && saves_start f.blocks

abbrev pub Flows : LowFunc → Type 0
Flows f = (every none_is_start (edges f) ≡ true) × (every (is_uncritical (edges f)) (edges f) ≡ true) × UsesAssigned f
