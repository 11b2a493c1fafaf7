use Rattle.std.proofs.Common.{◌≡◌, drop}
use Rattle.liveness.specs.Flow.{args_have}
use Rattle.liveness.proofs.walk.args_name.Given as goal

abbrev pub invariant-loop-target : goal.invariant-loop-target
invariant-loop-target l = args_have l.number (drop l.target-index l.targets) ≡ args_have l.number l.targets
