-- Code whose registers are numbered in the order of its text, and what its names stand for.
use Rattle.std.specs.Prelude.{◌≡◌, ◌≤◌, ◌^◌, ◌==◌, ◌&&◌, ℕ, zero, suc, ◌+◌, Bool, true, false, List, [], ◌∷◌, map, length, Some, slice_get}
use Rattle.low_forms.specs.declared.code.LowKind.{LowKind}
use Rattle.low_forms.specs.declared.code.LowKind.TheVariants as low
use Rattle.low_forms.specs.declared.code.Block.{Block}
use Rattle.low_forms.specs.declared.code.LowFunc.{LowFunc}
use Rattle.low_forms.specs.declared.code.LowModule.{LowModule}
use Rattle.low_forms.specs.Registers.{every}
use Rattle.low_forms.specs.Numbers.{block_within}
use Rattle.register_numbers.specs.Renumbered.{definitions}
use Rattle.low_grammar.specs.Named.{named_code}
use Rattle.low_names.specs.Numbers.{name_place, code_of}

-- so many numbers from one on
abbrev pub from : ℕ → ℕ → List ℕ
from zero first = []
from (suc count) first = first ∷ from count (first + 1)

-- the rows of a launch and of an await have no text
abbrev pub has_text : LowKind → Bool
has_text (low.Row k) = true
has_text low.Launch = false
has_text low.Await = false

-- each instruction has a text, and the terminator has no results
abbrev pub block_has_text : Block → Bool
block_has_text b = every (λ i. has_text i.kind) b.instrs && has_text b.term.instr.kind && length b.term.instr.results == 0

pub record IsInOrder (code : LowModule) (f : LowFunc) : Type 0 where
  -- registers are defined in the order of their numbers, each once
  pub registers : definitions f ≡ from (length f.regs) 0
  -- what is named is there
  pub within : every (block_within code f) f.blocks ≡ true
  pub texts : every block_has_text f.blocks ≡ true
  pub few_registers : length f.regs ≤ 2 ^ 32
  pub few_blocks : length f.blocks ≤ 2 ^ 32

-- each function is in order, and is the first one of its name
pub record AreInOrder (code : LowModule) : Type 0 where
  pub each : (k : ℕ) (f : LowFunc) → slice_get code.funcs k ≡ Some f → IsInOrder code f
  pub first : (k : ℕ) (f : LowFunc) → slice_get code.funcs k ≡ Some f → name_place (map (λ g. g.name) code.funcs) f.name ≡ Some k

-- code in order is what its names stand for
abbrev pub GivesNumbersBack : Type 0
GivesNumbersBack = (code : LowModule) → AreInOrder code → code_of (named_code code) ≡ code
