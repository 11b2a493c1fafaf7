-- Things that are numbered one after another, in place.
use Rattle.std.proofs.Common.{ℕ, List, ◌++◌, map, take, drop}
use Rattle.ir_forms.specs.Numbers.{in_turn}

-- the whole, where the first i of these are numbered and the others are not
abbrev pub so_far : {A : Type 0} → (A → ℕ → A × ℕ) → ℕ → List A → ℕ → List A × ℕ
so_far number i xs last = (take i xs ++ (in_turn (map number (drop i xs)) last).0, (in_turn (map number (drop i xs)) last).1)
