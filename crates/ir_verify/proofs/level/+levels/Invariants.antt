use Rattle.std.proofs.Common.{◌≡◌, drop}
use Rattle.ir_verify.specs.Levels.{latest, kinds_at, kinds_in, kinds_held, kinds_along}
use Rattle.ir_verify.proofs.level.+levels.Given as goal

abbrev pub invariant-level_at-loop-region : goal.invariant-level_at-loop-region
invariant-level_at-loop-region l = latest l.latest (kinds_held (drop l.region-index l.region-items)) ≡ latest l.fn.level (kinds_at l.op)

abbrev pub invariant-level_in-loop-op : goal.invariant-level_in-loop-op
invariant-level_in-loop-op l = latest l.latest (kinds_along (drop l.op-index l.op-items)) ≡ latest l.fn.level (kinds_in l.region)
