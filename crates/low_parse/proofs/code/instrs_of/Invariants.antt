use Rattle.std.proofs.Common.{◌≡◌, ◌++◌, drop}
use Rattle.low_names.specs.Numbers.{instrs_of}
use Rattle.low_parse.specs.Scopes.{scope}
use Rattle.low_parse.proofs.code.instrs_of.Given as goal

abbrev pub invariant-loop-at : goal.invariant-loop-at
invariant-loop-at l = l.made ++ instrs_of (scope l.seen) (drop l.at l.all) ≡ instrs_of (scope l.seen) l.all
