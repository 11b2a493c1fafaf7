use Rattle.op_table.proofs.Finding.{body_kind}
use Rattle.op_table.proofs.laws.lists_body_kinds.Goals as goal

pub returns : goal.returns
returns c = body_kind
