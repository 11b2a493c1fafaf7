use Rattle.std.proofs.Common.{◌≡◌, drop}
use Rattle.ir_verify.specs.Breaks.{some_from, some_at, region_breaks}
use Rattle.ir_verify.proofs.breaks.some_region.Given as goal

abbrev pub invariant-loop-place : goal.invariant-loop-place
invariant-loop-place l = some_from (region_breaks l.kind l.op) l.place (drop l.place l.regions) ≡ some_at (region_breaks l.kind l.op) l.regions
