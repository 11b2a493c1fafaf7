use Rattle.int_ops.proofs.LawProofs as law
use Rattle.int_ops.proofs.laws.none_exactly_without_result.Goals as goal

pub returns : goal.returns
returns c = law.none_exactly_without_result
