use Rattle.std.proofs.Common.{arith, ◌++◌, take}
use Rattle.std.proofs.lemmas.Grind.{common_steps}
use Rattle.std.proofs.KnownBytes.{Consumes-trans}
use Rattle.aio_base.proofs.whole.read_all.Goals as goal

pub returns-then-is_err-clause-front : goal.returns-then-is_err-clause-front
returns-then-is_err-clause-front g c = (
  c.loop-turn.all.items ++ take c.in-Ok.count c.read.new.piece,
  grind (arith, common_steps),
  Consumes-trans _ _ _ _ _ c.loop-turn.invariant.read c.in-Ok.ensures.bytes.0,
)
