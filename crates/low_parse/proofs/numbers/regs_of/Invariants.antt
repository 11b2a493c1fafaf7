use Rattle.std.proofs.Common.{◌≡◌, ◌++◌, drop}
use Rattle.low_names.specs.Numbers.{regs_of}
use Rattle.low_parse.specs.Scopes.{scope}
use Rattle.low_parse.proofs.numbers.regs_of.Given as goal

abbrev pub invariant-loop-name : goal.invariant-loop-name
invariant-loop-name l = l.regs ++ regs_of (scope l.seen) (drop l.name-index l.names) ≡ regs_of (scope l.seen) l.names
