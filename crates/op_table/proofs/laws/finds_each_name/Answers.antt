use Rattle.op_table.proofs.Finding.{each_name}
use Rattle.op_table.proofs.laws.finds_each_name.Goals as goal

pub returns : goal.returns
returns c = each_name
