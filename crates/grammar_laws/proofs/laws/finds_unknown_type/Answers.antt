use Rattle.grammar_laws.proofs.Exact.{finds-unknown-type}
use Rattle.grammar_laws.proofs.laws.finds_unknown_type.Goals as goal

pub returns : goal.returns
returns c = finds-unknown-type
