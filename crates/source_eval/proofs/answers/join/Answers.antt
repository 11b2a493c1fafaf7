use Rattle.source_eval.proofs.Likes.{join_answered}
use Rattle.source_eval.proofs.answers.join.Goals as goal

pub returns : goal.returns
returns c w loop total like =
    join_answered c.args.shared.now c.args.shared.now w c.args.path.now c.args.taken like c.goes.result loop c.args.total c.in_ok-good.good c.unless_failed.result
    c.goes.ensures c.unless_failed.ensures c.in_ok-good.ensures total like
