use Rattle.std.proofs.Common.{◌≡◌, drop}
use Rattle.liveness.specs.Flow.{with_args}
use Rattle.liveness.proofs.walk.add_args.Given as goal

abbrev pub invariant-loop-target : goal.invariant-loop-target
invariant-loop-target l = with_args (drop l.target-index l.targets) l.set ≡ with_args l.targets l.initial.set
