use Rattle.parsed_laws.proofs.Forms.{reads_in_order}
use Rattle.parsed_laws.proofs.laws.reads_in_order.Goals as goal

pub returns : goal.returns
returns c = reads_in_order
