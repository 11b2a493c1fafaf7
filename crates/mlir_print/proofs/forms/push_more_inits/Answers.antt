use Rattle.mlir_print.proofs.Pairs.{inits_over}
use Rattle.mlir_print.proofs.forms.push_more_inits.Goals as goal

pub returns : goal.returns
returns c = inits_over c.args.params.now c.args.list.now c.loop-place.place _ _ c.loop-place-test.false c.loop-place.invariant
