use Rattle.std.proofs.Common.{◌≡◌, drop}
use Rattle.scf_blocks.specs.Lowered.{with_failures}
use Rattle.scf_blocks.proofs.body.Body.write_each.Given as goal

abbrev pub invariant-loop-failure : goal.invariant-loop-failure
invariant-loop-failure l = with_failures (drop l.failure-index l.failures) l.self ≡ with_failures l.failures l.initial.self
