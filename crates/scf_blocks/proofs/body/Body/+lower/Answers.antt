use Rattle.std.proofs.Common.{◌+◌, [], drop, ap, sym, ◌∙◌}
use Rattle.ir_forms.specs.Ops.{kind_of, operands_of}
use Rattle.scf_blocks.specs.Tree.{role_of, ends_region, gives, tree}
use Rattle.scf_blocks.specs.Bodies.{ends}
use Rattle.scf_blocks.proofs.Lists.{got}
use Rattle.scf_blocks.proofs.Trees.{tree_next, tree_end}
use Rattle.scf_blocks.proofs.Behind.{left_all, left_next, region_done, ends_here}
use Rattle.scf_blocks.proofs.body.Body.+lower.Goals as goal

pub operations-loop-op-init : goal.operations-loop-op-init
operations-loop-op-init t c = left_all c.args.callees.now c.args.self.now (tree c.args.ops.now)

pub operations-loop-op-preserved : goal.operations-loop-op-preserved
operations-loop-op-preserved t c =
    left_next c.args.callees.now c.args.self.now c.loop-op.self c.operation.new.self c.op-item.result (tree c.args.ops.now) (tree (drop c.loop-op.op-index c.args.ops.now)) (tree (drop (c.loop-op.op-index + 1) c.args.ops.now))
    c.loop-op.invariant (tree_next c.args.ops.now c.loop-op.op-index c.op-item.result (got c.args.ops.now c.loop-op.op-index c.op-item.result c.loop-op-test.true c.op-item.is)) (sym (ap ends c.role_of.ensures) ∙ sym c.ends.ensures ∙ c.if-ends.false) c.in_ok-operation.ensures

pub operations-returns-then-ends : goal.operations-returns-then-ends
operations-returns-then-ends t c =
    region_done c.args.callees.now c.args.self.now c.loop-op.self c.end.new.self (tree c.args.ops.now) (tree (drop c.loop-op.op-index c.args.ops.now))
    (ends_region (role_of (kind_of c.op-item.result)) (operands_of c.op-item.result)) c.args.close c.truncate.new.self c.len-depth.result c.loop-op.invariant
    (ends_here c.args.ops.now c.loop-op.op-index c.op-item.result (got c.args.ops.now c.loop-op.op-index c.op-item.result c.loop-op-test.true c.op-item.is) (sym (ap ends c.role_of.ensures) ∙ sym c.ends.ensures ∙ c.if-ends.true))
    (c.in_ok-end.ensures c.args.callees.now) c.len-depth.ensures c.truncate.ensures

pub operations-returns : goal.operations-returns
operations-returns t c =
    region_done c.args.callees.now c.args.self.now c.loop-op.self c.give.new.self (tree c.args.ops.now) (tree (drop c.loop-op.op-index c.args.ops.now))
    (gives []) c.args.close c.truncate-2.new.self c.len-depth.result c.loop-op.invariant (tree_end c.args.ops.now c.loop-op.op-index c.loop-op-test.false)
    c.in_ok-give.ensures c.len-depth.ensures c.truncate-2.ensures
