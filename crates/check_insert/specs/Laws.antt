-- What the pass of checks keeps.
use Rattle.std.specs.Prelude.{◌≤◌}
use Rattle.op_table.specs.declared.rows.Level.TheVariants.{Checked}
use Rattle.op_table.specs.Rows.{place_of}
use Rattle.ir_forms.specs.declared.ops.Module.{Module}
use Rattle.ir_verify.specs.Levels.{level_of}
use Rattle.ir_verify.specs.Verdict.{IsSound}
use Rattle.value_numbers.specs.Numbers.{value_numbered}
use Rattle.check_insert.specs.Shape.{checked}

-- a sound module with its checks is sound, its values numbered by their places
abbrev pub CheckedIsSound : Type 0
CheckedIsSound = (program : Module) → IsSound program.funcs → IsSound (value_numbered (checked program)).funcs

-- where no operation's level is later than Checked, none is with the checks
abbrev pub CheckedHasLevel : Type 0
CheckedHasLevel = (program : Module) → IsSound program.funcs → place_of (level_of program.funcs) ≤ place_of Checked → place_of (level_of (value_numbered (checked program)).funcs) ≤ place_of Checked
