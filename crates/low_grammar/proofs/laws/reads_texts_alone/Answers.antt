use Rattle.low_grammar.proofs.Reading.{alone}
use Rattle.low_grammar.proofs.laws.reads_texts_alone.Goals as goal

pub returns : goal.returns
returns c = alone
