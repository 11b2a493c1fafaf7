-- What the operations of a module whose tasks are functions use.
use Rattle.std.specs.Prelude.{◌≡◌, ◌⊎◌, ℕ, List, map, Some}
use Rattle.op_table.specs.declared.rows.Level.{Level}
use Rattle.ir_forms.specs.declared.ops.Func.{Func}
use Rattle.ir_forms.specs.declared.ops.Op.{Op}
use Rattle.ir_forms.specs.declared.types.Ty.{Ty}
use Rattle.ir_forms.specs.Numbers.{joined}
use Rattle.ir_verify.specs.Places.{Around, Seen, places_along}
use Rattle.ir_verify.specs.Scopes.{lookup}
use Rattle.made_funcs.specs.Captures.{uses_in}
use Rattle.made_laws.specs.Laws.{Among}
use Rattle.mlir_print.specs.Printable.{Ops, Prints, Scope}
use Rattle.sound_laws.specs.Extended.{AreFine}
use Rattle.exec_outline.specs.Shape.{Typed, in_order, outlined_op, values_in}

-- a value of this number is visible
abbrev pub IsVisible : Seen → ℕ → Type 0
IsVisible seen n = (t : Ty) × (lookup seen n ≡ Some t)

abbrev pub numbers_of : Typed → List ℕ
numbers_of ps = map (λ p. p.0.0) ps

-- each number is visible, or is that of one of these values
abbrev pub AreInScope : Seen → List ℕ → Typed → Type 0
AreInScope seen uses values = (n : ℕ) → Among uses n → IsVisible seen n ⊎ Among (numbers_of values) n

-- Operations that break no rule where they stand, with their tasks outlined, use what is visible there or what they define; so do
-- the launches of tasks, which use what these capture.
abbrev pub OutlinedInScope : Type 0
OutlinedInScope =
    (level : Level) (funcs : List Func) (values : Typed) (os : List Op) (from to : Scope) → Prints level (Ops os) from to
    → (k : ℕ) (around : Around) (seen : Seen) → AreFine (places_along funcs os around seen)
    → AreInScope seen (joined (map uses_in (in_order (map (outlined_op funcs values) os) k).0)) (joined (map values_in (in_order (map (outlined_op funcs values) os) k).0))
