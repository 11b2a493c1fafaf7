use Rattle.grammar_laws.proofs.UnknownTypes.{finds-unknown-type-at-number}
use Rattle.grammar_laws.proofs.laws.finds_unknown_type_at_number.Goals as goal

pub returns : goal.returns
returns c = finds-unknown-type-at-number
