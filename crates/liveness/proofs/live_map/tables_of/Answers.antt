use Rattle.std.proofs.Common.{◌≡◌, ◌≤◌, ◌+◌, ◌++◌, ◌∷◌, [], rules}
use Rattle.liveness.specs.Tables.{IsTableOf}
use Rattle.liveness.specs.Visits.{most_of}
use Rattle.liveness.proofs.TableLemmas.{tables_next, visits_next}
use Rattle.liveness.proofs.live_map.tables_of.Goals as goal

pub loop-func-preserved : goal.loop-func-preserved
loop-func-preserved g c =
    let items : c.push.new.self.items ≡ c.loop-func.tables.items ++ c.in_ok-table_of.field-0 ∷ [] = search rules in
    let table : IsTableOf c.func-item.result c.in_ok-table_of.field-0 = search rules in
    let visits : c.table_of.new.steps ≤ c.loop-func.steps + most_of c.func-item.result = c.table_of.ensures.visits in
    record {
      long = search rules;
      tables = tables_next c.args.funcs.now c.loop-func.tables.items c.push.new.self.items c.loop-func.func-index c.func-item.result c.in_ok-table_of.field-0 c.loop-func-test.true c.func-item.is table
          c.loop-func.invariant.long items c.loop-func.invariant.tables;
      visits = visits_next c.args.funcs.now c.loop-func.func-index c.func-item.result c.args.steps.now c.loop-func.steps c.table_of.new.steps c.loop-func-test.true c.func-item.is visits c.loop-func.invariant.visits;
    }
