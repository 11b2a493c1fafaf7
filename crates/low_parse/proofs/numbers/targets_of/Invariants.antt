use Rattle.std.proofs.Common.{◌≡◌, ◌++◌, drop, map}
use Rattle.low_names.specs.Numbers.{target_of}
use Rattle.low_parse.specs.Scopes.{scope}
use Rattle.low_parse.proofs.numbers.targets_of.Given as goal

abbrev pub invariant-loop-target : goal.invariant-loop-target
invariant-loop-target l = l.made ++ map (target_of (scope l.seen)) (drop l.target-index l.targets) ≡ map (target_of (scope l.seen)) l.targets
