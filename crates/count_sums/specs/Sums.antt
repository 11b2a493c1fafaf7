-- Sums over lists, and how many references of one object registers own, by a number for each register.
use Rattle.std.specs.Prelude.{ℕ, zero, suc, ◌+◌, List, [], ◌∷◌}
use Rattle.async_objects.specs.declared.kinds.Val.{Val}
use Rattle.async_objects.specs.declared.kinds.Val.TheVariants.{Object}

abbrev pub total : {X : Type 0} → (X → ℕ) → List X → ℕ
total f [] = 0
total f (x ∷ xs) = f x + total f xs

-- n at p, and 0 elsewhere
abbrev pub point : ℕ → ℕ → ℕ → ℕ
point zero n zero = n
point zero n (suc q) = 0
point (suc p) n zero = 0
point (suc p) n (suc q) = point p n q

-- n references of what the value is, if it is this object
abbrev pub share : ℕ → Val → ℕ → ℕ
share o (Object p) n = point p.0 n o
share o _ n = 0

-- of those registers that hold the object, the numbers in all
abbrev pub owned : (ℕ → ℕ) → ℕ → List Val → ℕ
owned own o [] = 0
owned own o (v ∷ regs) = share o v (own 0) + owned (λ r. own (suc r)) o regs
