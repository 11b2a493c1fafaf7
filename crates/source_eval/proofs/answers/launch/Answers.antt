use Rattle.std.proofs.Common.{refl}
use Rattle.source_eval.proofs.Likes.{launch_answered}
use Rattle.source_eval.proofs.answers.launch.Goals as goal

pub returns : goal.returns
returns c w like =
    launch_answered c.args.shared.now c.args.shared.now w c.args.path.now c.args.taken like _ c.args.task c.args.results c.in_ok-results.results c.in_ok-answer.answer
    refl c.in_ok-answer.ensures c.in_ok-results.ensures.0 like
