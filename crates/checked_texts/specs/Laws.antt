-- What the pass of checks keeps of a module's text.
use Rattle.std.specs.Prelude.{◌≤◌}
use Rattle.op_table.specs.declared.rows.Level.{Level}
use Rattle.op_table.specs.declared.rows.Level.TheVariants.{Checked}
use Rattle.op_table.specs.Rows.{place_of}
use Rattle.ir_forms.specs.declared.ops.Module.{Module}
use Rattle.ir_verify.specs.Verdict.{IsSound}
use Rattle.mlir_print.specs.Printable.{IsPrintable}
use Rattle.value_numbers.specs.Numbers.{IsCountable, value_numbered}
use Rattle.check_insert.specs.Shape.{checked}

-- where a sound module is printable at its level, Source or Checked, it is printable at level Checked with its checks, if these
-- don't define more values than there are numbers
abbrev pub CheckedIsPrintable : Type 0
CheckedIsPrintable = (level : Level) (program : Module) → place_of level ≤ place_of Checked → IsSound program.funcs → IsPrintable level program → IsCountable (checked program) → IsPrintable Checked (value_numbered (checked program))
