use Rattle.int_ops.proofs.LawProofs as law
use Rattle.int_ops.proofs.laws.reading_gives_back.Goals as goal

pub returns : goal.returns
returns c = law.reading_gives_back
