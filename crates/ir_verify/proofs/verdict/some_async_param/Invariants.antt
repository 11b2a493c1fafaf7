use Rattle.std.proofs.Common.{◌≡◌, drop}
use Rattle.ir_verify.specs.Breaks.{some_from, some_at}
use Rattle.ir_verify.specs.Verdict.{param_has_async}
use Rattle.ir_verify.proofs.verdict.some_async_param.Given as goal

abbrev pub invariant-loop-place : goal.invariant-loop-place
invariant-loop-place l = some_from param_has_async l.place (drop l.place l.params) ≡ some_at param_has_async l.params
