use Rattle.op_table.proofs.Finding.{each_kind}
use Rattle.op_table.proofs.laws.lists_each_kind.Goals as goal

pub returns : goal.returns
returns c = each_kind
