use Rattle.std.proofs.Common.{◌≡◌, ◌++◌, map, drop}
use Rattle.coro_lower.specs.Shape.{moved}
use Rattle.coro_lower.proofs.plan.Plan.all_moved.Given as goal

abbrev pub invariant-loop-target : goal.invariant-loop-target
invariant-loop-target l = l.made ++ map (moved l.self) (drop l.target-index l.targets) ≡ map (moved l.self) l.targets
