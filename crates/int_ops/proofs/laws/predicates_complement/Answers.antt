use Rattle.int_ops.proofs.LawProofs as law
use Rattle.int_ops.proofs.laws.predicates_complement.Goals as goal

pub returns : goal.returns
returns c = law.predicates_complement
