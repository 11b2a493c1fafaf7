use Rattle.module_grammar.proofs.Walks.{names-first-fault}
use Rattle.module_grammar.proofs.laws.names_first_fault.Goals as goal

pub returns : goal.returns
returns c = names-first-fault
