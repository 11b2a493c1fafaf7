use Rattle.std.proofs.Common.{◌≡◌, drop}
use Rattle.ir_verify.specs.Breaks.{some_from, some_at}
use Rattle.ir_verify.specs.Entry.{result_is_refused}
use Rattle.ir_verify.proofs.entry.some_refused_result.Given as goal

abbrev pub invariant-loop-place : goal.invariant-loop-place
invariant-loop-place l = some_from result_is_refused l.place (drop l.place l.types) ≡ some_at result_is_refused l.types
