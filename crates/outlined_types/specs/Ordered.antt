-- The values of a text, in order.
use Rattle.std.specs.Prelude.{◌≡◌, ◌<◌, ℕ, ◌+◌, List, [], ◌∷◌, map}
use Rattle.op_table.specs.declared.rows.Level.{Level}
use Rattle.ir_forms.specs.declared.ops.Func.{Func}
use Rattle.ir_forms.specs.declared.ops.Op.{Op}
use Rattle.ir_forms.specs.Numbers.{joined}
use Rattle.mlir_print.specs.Printable.{IsPrintableFunc, Ops, Prints, Scope}
use Rattle.exec_outline.specs.Shape.{Typed, first_free, type_in, values_in, values_of}

-- these have the numbers from a on, the next number is b
abbrev pub CountOn : ℕ → ℕ → Typed → Type 0
CountOn a b [] = a ≡ b
CountOn a b (p ∷ ps) = (p.0.0 ≡ a) × CountOn (a + 1) b ps

-- what printable operations define, nested regions included, is numbered on
abbrev pub TextCountsOn : Type 0
TextCountsOn = (level : Level) (os : List Op) (from to : Scope) → Prints level (Ops os) from to → CountOn from.next to.next (joined (map values_in os))

-- each of these has its own type among the values, and a number below the first free one
abbrev pub AreHeld : Typed → Typed → Type 0
AreHeld values [] = Unit {0}
AreHeld values (p ∷ ps) = (type_in values p.0.0 ≡ p.1) × (p.0.0 < first_free values) × AreHeld values ps

-- so are the values of a printable function
abbrev pub ValuesAreHeld : Type 0
ValuesAreHeld = (level : Level) (f : Func) → IsPrintableFunc level f → AreHeld (values_of f) (values_of f)
