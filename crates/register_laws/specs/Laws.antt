-- What numbering the registers of a function does to code that is well formed.
use Rattle.std.specs.Prelude.{◌≡◌, ◌<◌, ℕ, true, List, [], ◌∷◌, ◌++◌, map, length, Some, slice_get}
use Rattle.low_flow.specs.Lists.{has}
use Rattle.low_forms.specs.declared.code.Instr.{Instr}
use Rattle.low_forms.specs.declared.code.Block.{Block}
use Rattle.low_forms.specs.declared.code.LowFunc.{LowFunc}
use Rattle.low_forms.specs.declared.code.LowModule.{LowModule}
use Rattle.low_forms.specs.Registers.{reg_type}
use Rattle.low_forms.specs.Assigned.{numbers, used_at_end}
use Rattle.low_forms.specs.WellFormed.{WellFormed}
use Rattle.register_numbers.specs.FirstPlaces.{place_in}
use Rattle.register_numbers.specs.Renumbered.{definitions, renumbered}

-- ---- what code uses

abbrev pub used_by : List Instr → List ℕ
used_by [] = []
used_by (i ∷ instrs) = numbers i.operands ++ used_by instrs

abbrev pub block_uses : Block → List ℕ
block_uses b = used_by b.instrs ++ used_at_end b.term

-- each register that a function uses is one that it defines
abbrev pub UsesDefined : LowFunc → Type 0
UsesDefined f = (k : ℕ) (b : Block) (r : ℕ) → slice_get f.blocks k ≡ Some b → has r (block_uses b) ≡ true → has r (definitions f) ≡ true

abbrev pub AllDefined : LowModule → Type 0
AllDefined code = (k : ℕ) (f : LowFunc) → slice_get code.funcs k ≡ Some f → UsesDefined f

-- ---- the laws

-- a register that is defined keeps its type under its new number
abbrev pub TypesStay : Type 0
TypesStay =
    (f : LowFunc) (r : ℕ) → has r (definitions f) ≡ true → r < length f.regs
    → reg_type (renumbered f) (record { 0 = place_in (definitions f) r }) ≡ reg_type f (record { 0 = r })

abbrev pub renumbered_code : LowModule → LowModule
renumbered_code code = record { funcs = map renumbered code.funcs }

-- well formed code whose uses are of what is defined stays well formed
abbrev pub RenumberedWellFormed : Type 0
RenumberedWellFormed = (code : LowModule) → WellFormed code → AllDefined code → WellFormed (renumbered_code code)
