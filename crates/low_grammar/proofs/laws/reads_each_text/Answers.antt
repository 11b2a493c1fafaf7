use Rattle.low_grammar.proofs.Reading.{reads}
use Rattle.low_grammar.proofs.laws.reads_each_text.Goals as goal

pub returns : goal.returns
returns c = reads
