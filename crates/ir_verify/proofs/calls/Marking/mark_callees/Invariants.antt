use Rattle.std.proofs.Common.{◌≡◌, drop}
use Rattle.ir_verify.specs.Calls.{with_callees}
use Rattle.ir_verify.proofs.calls.Marking.mark_callees.Given as goal

abbrev pub invariant-loop-call : goal.invariant-loop-call
invariant-loop-call l = with_callees l.all (drop l.call-index l.calls) l.self ≡ with_callees l.all l.calls l.initial.self
