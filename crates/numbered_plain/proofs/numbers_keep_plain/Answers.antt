use Rattle.numbered_plain.proofs.Plain.{numbers_keep_plain}
use Rattle.numbered_plain.proofs.numbers_keep_plain.Goals as goal

pub returns : goal.returns
returns c = numbers_keep_plain
