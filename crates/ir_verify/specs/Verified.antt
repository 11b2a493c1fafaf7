-- A verified module, as contracts see it.
use Rattle.ir_forms.specs.declared.ops.Module.{Module}
use Rattle.op_table.specs.declared.rows.Level.{Level}

-- the module, and the level whose texts it belongs to
pub record Leveled : Type 0 where
  pub program : Module
  pub level : Level
