-- Bounds on visits, and what is live where references are used.
use Rattle.std.specs.Prelude.{◌≡◌, ◌≤◌, ◌+◌, ◌*◌, ◌⊎◌, ℕ, true, List, [], ◌∷◌, length, Some, slice_get}
use Rattle.low_flow.specs.Lists.{has}
use Rattle.low_forms.specs.declared.code.Instr.{Instr}
use Rattle.low_forms.specs.declared.code.Block.{Block}
use Rattle.low_forms.specs.declared.code.LowFunc.{LowFunc}
use Rattle.low_forms.specs.declared.code.LowModule.{LowModule}
use Rattle.low_forms.specs.WellFormed.{WellFormed}
use Rattle.low_forms.specs.Owns.{uses, takes, takes_at_end}
use Rattle.liveness.specs.Live.{IsLive}
use Rattle.liveness.specs.Visits.{most_in}

-- blocks times one more than twice the registers
abbrev pub few_of : LowFunc → ℕ
few_of f = length f.blocks * (2 * length f.regs + 1)

abbrev pub few_in : List LowFunc → ℕ
few_in [] = 0
few_in (f ∷ funcs) = few_of f + few_in funcs

abbrev pub VisitsAreFew : Type 0
VisitsAreFew = (code : LowModule) → WellFormed code → most_in code.funcs ≤ few_in code.funcs

-- at an instruction, and at a terminator
abbrev pub TakesAreUses : Type 0
TakesAreUses = (f : LowFunc) (block : ℕ) (b : Block) (r : ℕ) → slice_get f.blocks block ≡ Some b →
    ((row : ℕ) (i : Instr) → slice_get b.instrs row ≡ Some i → (has r (uses i) ≡ true) ⊎ (has r (takes f i) ≡ true) → IsLive f r (record { block = block; row = row }))
    × ((has r (uses b.term.instr) ≡ true) ⊎ (has r (takes_at_end f b.term) ≡ true) → IsLive f r (record { block = block; row = length b.instrs }))
