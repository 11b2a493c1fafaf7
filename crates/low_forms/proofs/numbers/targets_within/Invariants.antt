use Rattle.std.proofs.Common.{◌≡◌, drop}
use Rattle.low_forms.specs.Registers.{every}
use Rattle.low_forms.specs.Numbers.{target_within}
use Rattle.low_forms.proofs.numbers.targets_within.Given as goal

abbrev pub invariant-loop-target : goal.invariant-loop-target
invariant-loop-target l = every (target_within l.func) (drop l.target-index l.targets) ≡ every (target_within l.func) l.targets
