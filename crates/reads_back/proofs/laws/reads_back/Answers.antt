use Rattle.reads_back.proofs.Composed.{reads-again}
use Rattle.reads_back.proofs.laws.reads_back.Goals as goal

pub returns : goal.returns
returns c = reads-again c.prints_back.ensures c.reads_printable.ensures c.reads_depth.ensures c.reads_texts.ensures
