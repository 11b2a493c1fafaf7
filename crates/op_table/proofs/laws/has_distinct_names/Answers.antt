use Rattle.op_table.proofs.Finding.{distinct}
use Rattle.op_table.proofs.laws.has_distinct_names.Goals as goal

pub returns : goal.returns
returns c = distinct
