use Rattle.source_eval.proofs.Likes.{group_answered}
use Rattle.source_eval.proofs.answers.make_group.Goals as goal

pub returns : goal.returns
returns c w like =
    group_answered c.args.shared.now c.make_group.new.self w c.args.path.now c.args.taken like c.goes.result c.args.size c.in_ok-group.group c.in_ok-answer.answer
    c.goes.ensures c.in_ok-answer.ensures c.in_ok-group.ensures (c.in_ok-make_group.ensures w like)
