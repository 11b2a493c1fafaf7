use Rattle.numbered_plain.proofs.Plain.{numbered_code_owns}
use Rattle.numbered_plain.proofs.numbered_code_owns.Goals as goal

pub returns : goal.returns
returns c = numbered_code_owns
