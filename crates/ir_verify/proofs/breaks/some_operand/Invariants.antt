use Rattle.std.proofs.Common.{◌≡◌, drop}
use Rattle.ir_verify.specs.Breaks.{some_from, some_at, operand_breaks}
use Rattle.ir_verify.specs.Standing.{place_at}
use Rattle.ir_verify.proofs.breaks.some_operand.Given as goal

abbrev pub invariant-loop-place : goal.invariant-loop-place
invariant-loop-place l = some_from (operand_breaks l.kind l.scope (place_at l.here)) l.place (drop l.place l.values) ≡ some_at (operand_breaks l.kind l.scope (place_at l.here)) l.values
