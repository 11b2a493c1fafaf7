use Rattle.grammar_laws.proofs.Unknown.{tells-unknown-type}
use Rattle.grammar_laws.proofs.laws.tells_unknown_type.Goals as goal

pub returns : goal.returns
returns c = tells-unknown-type
