use Rattle.int_ops.proofs.LawProofs as law
use Rattle.int_ops.proofs.laws.least_by_minus_one_leaves_nothing.Goals as goal

pub returns : goal.returns
returns c = law.least_by_minus_one_leaves_nothing
