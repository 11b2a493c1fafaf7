use Rattle.int_ops.proofs.Readings.{reads_back}
use Rattle.int_ops.proofs.fixed.Int.signed.Goals as goal

pub returns : goal.returns
returns g c = reads_back g.row.W c.args.a c.sign_extend.result c.cast_signed.result c.sign_extend.ensures.value c.cast_signed.ensures c.requires.width c.requires.below
