use Rattle.op_table.proofs.Finding.{exact}
use Rattle.op_table.proofs.laws.finds_exactly.Goals as goal

pub returns : goal.returns
returns c = exact
