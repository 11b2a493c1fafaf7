use Rattle.std.proofs.Common.{ap, sym, ◌∙◌}
use Rattle.scf_blocks.specs.Bodies.{ends}
use Rattle.scf_blocks.proofs.Lists.{got}
use Rattle.scf_blocks.proofs.Behind.{count_end, count_next}
use Rattle.scf_blocks.proofs.count.+count.Goals as goal

pub count_ops-returns-then-ends : goal.count_ops-returns-then-ends
count_ops-returns-then-ends t c =
    count_end c.args.ops.now c.loop-op.op-index c.op-item.result c.loop-op.count (got _ _ _ c.loop-op-test.true c.op-item.is)
    (sym (ap ends c.role_of.ensures) ∙ sym c.ends.ensures ∙ c.if-ends.true) c.loop-op.invariant

pub count_ops-loop-op-preserved : goal.count_ops-loop-op-preserved
count_ops-loop-op-preserved t c =
    count_next c.args.ops.now c.loop-op.op-index c.op-item.result c.loop-op.count c.in_ok-count_op.field-0 c.in_ok-count.count (got _ _ _ c.loop-op-test.true c.op-item.is)
    (sym (ap ends c.role_of.ensures) ∙ sym c.ends.ensures ∙ c.if-ends.false) c.in_ok-count_op.ensures c.in_ok-count.ensures c.loop-op.invariant
