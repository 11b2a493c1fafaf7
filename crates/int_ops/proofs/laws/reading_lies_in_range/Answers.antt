use Rattle.int_ops.proofs.LawProofs as law
use Rattle.int_ops.proofs.laws.reading_lies_in_range.Goals as goal

pub returns : goal.returns
returns c = law.reading_lies_in_range
