use Rattle.std.proofs.Common.{◌≡◌, ◌≤◌, ◌+◌, length, drop}
use Rattle.liveness.specs.Tables.{AreTablesTo}
use Rattle.liveness.specs.Visits.{most_in}
use Rattle.liveness.proofs.live_map.tables_of.Given as goal

abbrev pub invariant-loop-func : goal.invariant-loop-func
invariant-loop-func g l = record {
  long : length l.tables.items ≡ l.func-index;
  tables : AreTablesTo l.funcs l.tables.items l.func-index;
  visits : l.steps + most_in (drop l.func-index l.funcs) ≤ l.initial.steps + most_in l.funcs;
}
