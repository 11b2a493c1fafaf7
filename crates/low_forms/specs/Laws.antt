-- What holds of the places of blocks, and of what instructions take.
use Rattle.std.specs.Prelude.{◌≡◌, ◌<◌, ℕ, true, List, [], length, Some, None}
use Rattle.low_flow.specs.Lists.{has}
use Rattle.low_forms.specs.declared.code.Instr.{Instr}
use Rattle.low_forms.specs.declared.code.Term.{Term}
use Rattle.low_forms.specs.declared.code.LowFunc.{LowFunc}
use Rattle.low_forms.specs.Assigned.{numbers}
use Rattle.low_forms.specs.Owns.{takes}
use Rattle.low_forms.specs.Places.{remaining_in}

-- a reference that an instruction takes is one of an operand
abbrev pub TakesOperands : Type 0
TakesOperands = (f : LowFunc) (i : Instr) (r : ℕ) → has r (takes f i) ≡ true → has r (numbers i.operands) ≡ true

-- behind the instructions of a block its terminator remains, and behind that nothing
abbrev pub EndsAtTerm : Type 0
EndsAtTerm = (instrs : List Instr) (t : Term) →
    (remaining_in instrs t (length instrs) ≡ Some (record { instrs = []; term = t })) × ((k : ℕ) → length instrs < k → remaining_in instrs t k ≡ None)
