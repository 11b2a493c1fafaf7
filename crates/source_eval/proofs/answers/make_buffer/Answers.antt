use Rattle.std.proofs.Common.{arith}
use Rattle.source_eval.proofs.Likes.{make_answered}
use Rattle.source_eval.proofs.answers.make_buffer.Goals as goal

pub returns : goal.returns
returns c w like =
    make_answered c.args.shared.now c.make_buffer.new.self w c.args.path.now c.args.taken like c.goes.result c.args.dims c.used-used.result c.args.cells c.in_ok-buffer.buffer c.in_ok-answer.answer
    c.goes.ensures c.in_ok-answer.ensures c.in_ok-buffer.ensures c.used-used.ensures.used (omega (arith, c.if-used-cells-gt16777216.false)) c.requires.product (c.in_ok-make_buffer.ensures w c.args.dims c.requires.product like)
