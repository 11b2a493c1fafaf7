use Rattle.std.proofs.Common.{◌≡◌, ◌++◌, drop}
use Rattle.low_forms.specs.Given.{free_args}
use Rattle.low_forms.proofs.flow.push_free_args.Given as goal

abbrev pub invariant-loop-target : goal.invariant-loop-target
invariant-loop-target l = l.list ++ free_args l.marks (drop l.target-index l.targets) ≡ l.initial.list ++ free_args l.marks l.targets
