use Rattle.low_grammar.proofs.Reading.{one}
use Rattle.low_grammar.proofs.laws.has_one_code.Goals as goal

pub returns : goal.returns
returns c = one
