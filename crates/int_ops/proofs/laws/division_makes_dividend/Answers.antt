use Rattle.int_ops.proofs.LawProofs as law
use Rattle.int_ops.proofs.laws.division_makes_dividend.Goals as goal

pub returns : goal.returns
returns c = law.division_makes_dividend
