use Rattle.std.proofs.Common.{arith}
use Rattle.source_eval.proofs.Likes.{add_answered}
use Rattle.source_eval.proofs.answers.add.Goals as goal

pub returns : goal.returns
returns c w p k like =
    add_answered c.args.shared.now c.add.new.self w p k like c.goes.result c.args.group c.args.element c.in_ok-member.member c.args.used c.in_ok-fill.fill.added c.in_ok-fill.fill.size c.in_ok-answer.answer
    c.goes.ensures c.in_ok-answer.ensures c.in_ok-fill.ensures.0 c.in_ok-fill.ensures.1 (omega (arith, c.if-fill.false)) c.in_ok-member.ensures (c.in_ok-add.ensures w p k c.args.used like)
