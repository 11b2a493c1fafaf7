use Rattle.std.proofs.Common.{arith}
use Rattle.source_eval.proofs.Likes.{await_all_answered}
use Rattle.source_eval.proofs.answers.await_all.Goals as goal

pub returns : goal.returns
returns c w p k like =
    await_all_answered c.args.shared.now c.args.shared.now w p k like c.goes.result c.args.group c.in_ok-fill.fill.added c.in_ok-fill.fill.size c.in_ok-good.good c.unless_failed.result
    c.goes.ensures c.unless_failed.ensures c.in_ok-good.ensures c.in_ok-fill.ensures.0 c.in_ok-fill.ensures.1 (omega (arith, c.if-fill.false)) like
