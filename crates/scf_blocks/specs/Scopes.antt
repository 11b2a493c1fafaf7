-- A scope as it is held: a list with what each value hides, and a map from numbers to registers.
use Rattle.std.specs.Prelude.{◌≡◌, ℕ, List, [], ◌∷◌}
use Rattle.std.specs.BTreeMap.{BTreeMap, get}
use Rattle.std.specs.Ordering.{nat_cmp}
use Rattle.low_forms.specs.declared.code.Reg.{Reg}
use Rattle.scf_blocks.specs.declared.scope.Visible.{Visible}
use Rattle.scf_blocks.specs.Code.{Scope, known}

abbrev pub shown : List Visible → Scope
shown [] = []
shown (v ∷ vs) = (v.value, v.reg) ∷ shown vs

-- the map has the register of each value that is visible
abbrev pub AreRegs : BTreeMap ℕ Reg → Scope → Type 0
AreRegs regs scope = (x : ℕ) → get nat_cmp regs x ≡ known scope x

-- each value has with it the register that its number had before
abbrev pub Hides : List Visible → Type 0
Hides [] = Unit {0}
Hides (v ∷ vs) = (v.hidden ≡ known (shown vs) v.value.0) × Hides vs
