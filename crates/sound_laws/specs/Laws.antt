-- What keeps a module sound.
use Rattle.std.specs.Prelude.{◌≡◌, ◌≤◌, ℕ, List, length, Some, slice_get}
use Rattle.std.specs.List.{All, Contains}
use Rattle.op_table.specs.declared.rows.Level.{Level}
use Rattle.op_table.specs.Rows.{place_of}
use Rattle.ir_forms.specs.declared.ops.Func.{Func}
use Rattle.ir_forms.specs.declared.ops.Module.{Module}
use Rattle.ir_verify.specs.Levels.{level_of}
use Rattle.ir_verify.specs.Verdict.{IsSound}
use Rattle.sound_laws.specs.Extended.{Names, IsDistinct, IsExtended}
use Rattle.value_numbers.specs.Numbers.{defined_in, value_numbered}
use Rattle.source_meaning.specs.Parts.{uses_of}

-- each function of the second list extends that of the first list at its place
pub record AreExtended (level : Level) (names : ℕ → Names) (funcs more : List Func) : Type 0 where
  pub count : length more ≡ length funcs
  pub distinct : (k : ℕ) → IsDistinct (names k)
  pub each : (k : ℕ) (f g : Func) → slice_get funcs k ≡ Some f → slice_get more k ≡ Some g → IsExtended more level (names k) f g

-- what is inserted, and breaks nothing where it stands, keeps a module sound
abbrev pub ExtendedIsSound : Type 0
ExtendedIsSound = (level : Level) (names : ℕ → Names) (funcs more : List Func) → AreExtended level names funcs more → IsSound funcs → IsSound more

-- and its level, if what is inserted stands there
abbrev pub ExtendedHasLevel : Type 0
ExtendedHasLevel = (level : Level) (names : ℕ → Names) (funcs more : List Func) → AreExtended level names funcs more → place_of (level_of funcs) ≤ place_of level → place_of (level_of more) ≤ place_of level

-- numbering the values keeps a module sound
abbrev pub NumberedIsSound : Type 0
NumberedIsSound = (program : Module) → IsSound program.funcs → IsSound (value_numbered program).funcs

-- and its level
abbrev pub NumberedHasLevel : Type 0
NumberedHasLevel = (level : Level) (program : Module) → place_of (level_of program.funcs) ≤ place_of level → place_of (level_of (value_numbered program).funcs) ≤ place_of level

-- in a sound module each operand is a value that its function defines
abbrev pub SoundUsesOwn : Type 0
SoundUsesOwn = (program : Module) → IsSound program.funcs → All (λ f. All (λ v. Contains (defined_in f) v.0) (uses_of f)) program.funcs
