use Rattle.std.proofs.Common.{◌≡◌, drop}
use Rattle.ir_verify.specs.Breaks.{some_from, some_at, result_breaks}
use Rattle.ir_verify.specs.Standing.{place_at}
use Rattle.ir_verify.proofs.breaks.some_result.Given as goal

abbrev pub invariant-loop-place : goal.invariant-loop-place
invariant-loop-place l = some_from (result_breaks l.kind (place_at l.here)) l.place (drop l.place l.types) ≡ some_at (result_breaks l.kind (place_at l.here)) l.types
