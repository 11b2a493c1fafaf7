-- Each function's calls are followed once it is marked.
use Rattle.std.proofs.Common.{◌<◌, length, ap, ◌∙◌, arith, rules}
use Rattle.ir_verify.specs.Calls.{Marked}
use Rattle.ir_verify.proofs.CallLemmas.{seeded_next, seeded_all, taken_within, followed_next, followed_less, marked_all}
use Rattle.ir_verify.proofs.calls.marks.Goals as goal

pub loop-calls-preserved : goal.loop-calls-preserved
loop-calls-preserved c = rw (c.in_ok-mark_callees.ensures, c.as_slice.ensures)
    (seeded_next c.args.graph.now c.loop-calls.calls-index c.loop-calls.marking c.calls-item.result (omega arith) c.calls-item.is c.loop-calls.invariant)

pub loop-place-init : goal.loop-place-init
loop-place-init c = seeded_all c.args.graph.now c.loop-calls.calls-index c.loop-calls.marking (omega arith) c.loop-calls.invariant

pub offset_bounds-graph-place : goal.offset_bounds-graph-place
offset_bounds-graph-place c =
    let inside : c.in-Some.place < length c.args.graph.now = taken_within c.args.graph.now c.loop-place.marking c.next.new.self c.in-Some.place c.in-Some.ensures c.loop-place.invariant in
    search rules

pub bounds-graph-place : goal.bounds-graph-place
bounds-graph-place c = taken_within c.args.graph.now c.loop-place.marking c.next.new.self c.in-Some.place c.in-Some.ensures c.loop-place.invariant

pub loop-place-smaller : goal.loop-place-smaller
loop-place-smaller c = rw (c.in_ok-mark_callees-2.ensures, c.as_slice-in-Some.ensures)
    (followed_less c.args.graph.now c.loop-place.marking c.next.new.self c.in-Some.place c.in-Some.ensures c.loop-place.invariant c.index-graph-place.result c.index-graph-place.is)

pub loop-place-preserved : goal.loop-place-preserved
loop-place-preserved c = rw (c.in_ok-mark_callees-2.ensures, c.as_slice-in-Some.ensures)
    (followed_next c.args.graph.now c.loop-place.marking c.next.new.self c.in-Some.place c.in-Some.ensures c.loop-place.invariant c.index-graph-place.result c.index-graph-place.is)

pub returns : goal.returns
returns c = marked_all c.args.graph.now c.loop-place.marking c.marking-2.inside.marks.items c.loop-place.invariant c.in_default.ensures.0
    (ap (λ (m : Marked). m.marks) (c.marking-2.view_is ∙ c.in_default.ensures.1))
