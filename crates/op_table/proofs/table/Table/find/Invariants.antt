use Rattle.std.proofs.Common.{◌-◌}
use Rattle.op_table.specs.Rows.{name_of}
use Rattle.op_table.specs.declared.kind.OpKind.TheVariants.{AioCall}
use Rattle.op_table.proofs.Search.{IsHalved}
use Rattle.op_table.proofs.table.Table.find.Given as goal

abbrev pub invariant-loop-low : goal.invariant-loop-low
invariant-loop-low g l = IsHalved name_of AioCall l.self.kinds.now l.name l.low l.high

abbrev pub decreases-loop-low : goal.decreases-loop-low
decreases-loop-low g l = l.high - l.low
