use Rattle.source_eval.proofs.Likes.{write_answered}
use Rattle.source_eval.proofs.answers.write.Goals as goal

pub returns : goal.returns
returns c w i p k like from =
    write_answered c.args.shared.now c.write.new.self w p k like c.goes.result c.args.buffer c.args.cell i c.in_ok-place.place c.args.number c.new.result
    c.goes.ensures c.new.ensures c.in_ok-place.ensures.0 c.in_ok-place.ensures.1 from (c.in_ok-write.ensures w p k like)
