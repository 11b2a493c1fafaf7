use Rattle.grammar_laws.proofs.Exact.{tells-unknown-op}
use Rattle.grammar_laws.proofs.laws.tells_unknown_op.Goals as goal

pub returns : goal.returns
returns c = tells-unknown-op
