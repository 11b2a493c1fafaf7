use Rattle.grammar_laws.proofs.Texts.{first-fault}
use Rattle.grammar_laws.proofs.laws.finds_first_fault.Goals as goal

pub returns : goal.returns
returns c = first-fault
