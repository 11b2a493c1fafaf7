-- Numbers by lists of numbers.
use Rattle.std.specs.Prelude.{ℕ, List}
use Rattle.std.specs.Option.{unwrap_or}
use Rattle.std.specs.Map.{lookup}
use Rattle.std.specs.Prelude.{Vec}
use Rattle.ir_forms.specs.Names.{same_path}

-- the number of a list, 0 where there is none
abbrev pub number_at : {A : Type 0} → List (Vec ℕ A × ℕ) → List ℕ → ℕ
number_at {A} entries key = unwrap_or (lookup (λ (k : Vec ℕ A). same_path key k.items) entries) 0
