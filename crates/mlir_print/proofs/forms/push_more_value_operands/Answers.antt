use Rattle.std.proofs.Common.{arith}
use Rattle.std.proofs.lemmas.Grind.{common_steps}
use Rattle.mlir_print.proofs.Pairs.{params_over, types_over}
use Rattle.mlir_print.proofs.forms.push_more_value_operands.Goals as goal

pub returns-in_default : goal.returns-in_default
returns-in_default c = params_over c.args.list.now c.args.params.now c.args.types.now c.loop-place.place _ _ (grind (arith, common_steps)) c.loop-place.invariant

pub returns-in_default-get : goal.returns-in_default-get
returns-in_default-get c = types_over c.args.list.now c.args.params.now c.args.types.now c.loop-place.place _ _ (grind (arith, common_steps)) c.loop-place.invariant
