use Rattle.std.proofs.Common.{◌≡◌, ◌++◌, map, drop}
use Rattle.register_numbers.specs.Renumbered.{type_of_reg}
use Rattle.register_numbers.proofs.defined.types_of.Given as goal

abbrev pub invariant-loop-reg : goal.invariant-loop-reg
invariant-loop-reg l = l.ordered ++ map (type_of_reg l.types) (drop l.reg-index l.regs) ≡ map (type_of_reg l.types) l.regs
