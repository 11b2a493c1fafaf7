use Rattle.std.proofs.Common.{◌≡◌, drop, max}
use Rattle.check_insert.specs.Shape.{above_params}
use Rattle.check_insert.proofs.free.above_params.Given as goal

abbrev pub invariant-loop-param : goal.invariant-loop-param
invariant-loop-param l = max l.most (above_params (drop l.param-index l.params)) ≡ max l.least (above_params l.params)
