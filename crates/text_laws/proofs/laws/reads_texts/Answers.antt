use Rattle.text_laws.proofs.Answers.{reads_texts_lem}
use Rattle.text_laws.proofs.laws.reads_texts.Goals as goal

pub returns : goal.returns
returns c = reads_texts_lem c.one_reading.ensures c.accepts_exactly.ensures
