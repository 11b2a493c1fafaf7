use Rattle.std.proofs.Common.{◌≡◌, ◌++◌, drop}
use Rattle.ir_verify.specs.Calls.{calls_at, calls_in, calls_held, calls_along}
use Rattle.ir_verify.proofs.graph.+calls.Given as goal

abbrev pub invariant-note_op-loop-region : goal.invariant-note_op-loop-region
invariant-note_op-loop-region l = l.calls ++ calls_held l.names (drop l.region-index l.region-items) l.inner ≡ l.fn.calls ++ calls_at l.names l.op l.fn.nest

abbrev pub invariant-note_region-loop-op : goal.invariant-note_region-loop-op
invariant-note_region-loop-op l = l.calls ++ calls_along l.names (drop l.op-index l.op-items) l.nest ≡ l.fn.calls ++ calls_in l.names l.region l.nest
