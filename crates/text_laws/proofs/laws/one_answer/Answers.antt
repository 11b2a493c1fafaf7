use Rattle.text_laws.proofs.Answers.{one_answer_lem}
use Rattle.text_laws.proofs.laws.one_answer.Goals as goal

pub returns : goal.returns
returns c = one_answer_lem c.one_reading.ensures c.accepts_exactly.ensures
