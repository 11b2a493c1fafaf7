use Rattle.std.proofs.Common.{◌≡◌, ◌++◌, drop}
use Rattle.ir_verify.specs.Breaks.{noted_all}
use Rattle.ir_verify.specs.Places.{Seen, places_at, places_in, places_held, places_along}
use Rattle.ir_verify.specs.Standing.{around_of}
use Rattle.ir_verify.proofs.walk.Walk.+walk.Given as goal

abbrev pub invariant-walk_op-loop-place : goal.invariant-walk_op-loop-place
invariant-walk_op-loop-place l = record {
  seen : l.self.scope ≡ l.fn.self.scope;
  best : noted_all (places_held l.names (drop l.place l.regions) (around_of l.around) l.op l.place l.fn.self.scope) l.self.best
      ≡ noted_all (places_at l.names l.op (around_of l.around) l.fn.self.scope l.is_last) l.fn.self.best;
}

abbrev pub invariant-walk_region-loop-place : goal.invariant-walk_region-loop-place
invariant-walk_region-loop-place l = record {
  seen : (rest : Seen) × (l.self.scope ≡ l.fn.self.scope ++ rest);
  best : noted_all (places_along l.names (drop l.place l.ops) (around_of l.around) l.self.scope) l.self.best
      ≡ noted_all (places_in l.names l.region (around_of l.around) l.fn.self.scope) l.fn.self.best;
}
