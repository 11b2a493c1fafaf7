use Rattle.std.proofs.Common.{◌≡◌, drop}
use Rattle.made_funcs.specs.Captures.{numbers, with_all}
use Rattle.made_funcs.proofs.captures.add_operands.Given as goal

abbrev pub invariant-loop-operand : goal.invariant-loop-operand
invariant-loop-operand l = with_all l.used.keys (numbers (drop l.operand-index l.operands)) ≡ with_all l.initial.used.keys (numbers l.operands)
