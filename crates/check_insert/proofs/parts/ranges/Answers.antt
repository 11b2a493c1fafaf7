use Rattle.std.proofs.Common.{arith}
use Rattle.std.proofs.lemmas.Grind.{common_steps}
use Rattle.check_insert.proofs.Ended.{steps_over, uppers_over}
use Rattle.check_insert.proofs.parts.ranges.Goals as goal

pub returns-in_default : goal.returns-in_default
returns-in_default c = uppers_over c.args.lowers.now c.args.uppers.now c.args.steps.now c.loop-at.at _ _ (grind (arith, common_steps)) c.loop-at.invariant

pub returns-in_default-get : goal.returns-in_default-get
returns-in_default-get c = steps_over c.args.lowers.now c.args.uppers.now c.args.steps.now c.loop-at.at _ _ (grind (arith, common_steps)) c.loop-at.invariant
