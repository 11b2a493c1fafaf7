use Rattle.std.proofs.Common.{◌≡◌, drop}
use Rattle.ir_verify.specs.Breaks.{some_from, some_at}
use Rattle.ir_verify.specs.Entry.{param_is_async}
use Rattle.ir_verify.proofs.entry.some_async_param.Given as goal

abbrev pub invariant-loop-place : goal.invariant-loop-place
invariant-loop-place l = some_from param_is_async l.place (drop l.place l.params) ≡ some_at param_is_async l.params
