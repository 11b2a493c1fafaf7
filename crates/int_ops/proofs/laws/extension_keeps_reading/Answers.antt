use Rattle.int_ops.proofs.Readings.{reading-extended}
use Rattle.int_ops.proofs.laws.extension_keeps_reading.Goals as goal

pub returns : goal.returns
returns c = reading-extended
