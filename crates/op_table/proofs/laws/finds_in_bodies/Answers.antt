use Rattle.op_table.proofs.Finding.{in_bodies}
use Rattle.op_table.proofs.laws.finds_in_bodies.Goals as goal

pub returns : goal.returns
returns c = in_bodies
