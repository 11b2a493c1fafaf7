use Rattle.module_grammar.proofs.Walks.{accepts-exactly}
use Rattle.module_grammar.proofs.laws.accepts_exactly.Goals as goal

pub returns : goal.returns
returns c = accepts-exactly
