use Rattle.int_ops.proofs.LawProofs as law
use Rattle.int_ops.proofs.laws.residue_gives_back.Goals as goal

pub returns : goal.returns
returns c = law.residue_gives_back
