use Rattle.grammar_laws.proofs.WideNumbers.{tells-wide-number}
use Rattle.grammar_laws.proofs.laws.tells_wide_number.Goals as goal

pub returns : goal.returns
returns c = tells-wide-number
