-- The variable of one dimension more.
use Rattle.std.proofs.Common.{rules, ◌/◌}
use Rattle.source_tasks.proofs.Spans.{variables_begin, variables_next}
use Rattle.source_tasks.proofs.loops.variables.Goals as goal

pub loop-span-init : goal.loop-span-init
loop-span-init c =
    let b = variables_begin c.args.spans.now c.args.total c.args.i c.requires.total c.requires.within in
    (b.0, b.1, search rules)

pub loop-span-preserved : goal.loop-span-preserved
loop-span-preserved c =
    variables_next c.args.spans.now c.span-item.result c.loop-span.span-index c.loop-span.later (c.loop-span.later / c.span.inside.turns) c.args.i c.loop-span.vals c.push.new.self _
    c.loop-span-test.true c.span-item.is c.loop-span.invariant.0 c.loop-span.invariant.1 (search rules) (search rules) c.loop-span.invariant.2
