use Rattle.int_ops.proofs.LawProofs as law
use Rattle.int_ops.proofs.laws.residue_is_the_one.Goals as goal

pub returns : goal.returns
returns c = law.residue_is_the_one
