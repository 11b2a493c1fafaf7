use Rattle.ir_verify.proofs.KindLemmas.{funcs_next}
use Rattle.ir_verify.proofs.level.level_of.Goals as goal

pub loop-func-preserved : goal.loop-func-preserved
loop-func-preserved c = funcs_next c.args.funcs.now c.func-item.result c.loop-func.func-index c.loop-func.latest c.level_in-latest.result _ c.loop-func-test.true c.func-item.is c.level_in-latest.ensures c.loop-func.invariant
