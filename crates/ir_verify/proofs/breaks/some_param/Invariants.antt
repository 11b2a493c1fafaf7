use Rattle.std.proofs.Common.{◌≡◌, drop}
use Rattle.ir_verify.specs.Breaks.{some_from, some_at, param_breaks}
use Rattle.ir_verify.proofs.breaks.some_param.Given as goal

abbrev pub invariant-loop-place : goal.invariant-loop-place
invariant-loop-place l = some_from (param_breaks l.kind l.op l.region) l.place (drop l.place l.params) ≡ some_at (param_breaks l.kind l.op l.region) l.params
