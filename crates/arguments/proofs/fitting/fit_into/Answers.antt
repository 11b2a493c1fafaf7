-- No parameter is left.
use Rattle.std.proofs.Common.{rules, arith}
use Rattle.arguments.proofs.FitLemmas.{ends_fit, ends_wrong}
use Rattle.arguments.proofs.fitting.fit_into.Goals as goal

pub returns-then-is_empty : goal.returns-then-is_empty
returns-then-is_empty c =
    ends_fit c.loop-param.values c.loop-param.at c.loop-param.used c.loop-param.params_left.now c.loop-param.args_left.now _ (search rules) (search rules) c.loop-param.invariant.0

pub returns-else-is_empty : goal.returns-else-is_empty
returns-else-is_empty c =
    ends_wrong c.loop-param.values c.loop-param.at c.loop-param.used c.loop-param.params_left.now c.loop-param.args_left.now _ (search rules) (search (rules, arith)) c.loop-param.invariant.0
