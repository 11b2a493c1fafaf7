use Rattle.ir_verify.proofs.CallLemmas.{AreSeeded, AreFollowed, ahead}
use Rattle.ir_verify.proofs.calls.marks.Given as goal

abbrev pub invariant-loop-calls : goal.invariant-loop-calls
invariant-loop-calls l = AreSeeded l.graph l.calls-index l.marking

abbrev pub invariant-loop-place : goal.invariant-loop-place
invariant-loop-place l = AreFollowed l.graph l.marking

abbrev pub decreases-loop-place : goal.decreases-loop-place
decreases-loop-place l = ahead l.marking
