use Rattle.std.proofs.Common.{◌≡◌, ◌++◌, drop}
use Rattle.ir_verify.proofs.walk.define_params.Given as goal

abbrev pub invariant-loop-value : goal.invariant-loop-value
invariant-loop-value l = l.scope ++ drop l.value-index l.params ≡ l.initial.scope ++ l.params
