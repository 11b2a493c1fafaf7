use Rattle.int_ops.proofs.LawProofs as law
use Rattle.int_ops.proofs.laws.extremes_are_operands.Goals as goal

pub returns : goal.returns
returns c = law.extremes_are_operands
