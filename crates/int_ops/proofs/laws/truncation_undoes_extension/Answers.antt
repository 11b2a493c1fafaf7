use Rattle.int_ops.proofs.Readings.{extended-mod}
use Rattle.int_ops.proofs.laws.truncation_undoes_extension.Goals as goal

pub returns : goal.returns
returns c = extended-mod
