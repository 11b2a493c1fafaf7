-- Keys of tables: lists of numbers for tasks and what they make.
use Rattle.std.specs.Prelude.{ℕ, List, [], ◌∷◌}
use Rattle.ir_forms.specs.declared.names.MadeName.{MadeName}
use Rattle.ir_forms.specs.declared.names.MadeName.TheVariants.{Argument, Made}

-- the key of a buffer or group
abbrev pub made_key : MadeName → List ℕ
made_key (Argument j) = 0 ∷ j ∷ []
made_key (Made p k) = 1 ∷ k ∷ p
