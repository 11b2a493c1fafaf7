use Rattle.check_insert.proofs.Walked.{added}
use Rattle.check_insert.proofs.walk.+walk.Goals as goal

pub add_checked-returns : goal.add_checked-returns
add_checked-returns t c =
    added c.args.op.now c.in_ok-copy_op.field-0 c.args.free c.in_ok-regions.last c.as_slice.result.now c.in_ok-regions.regions c.in_ok-made.made c.args.all.now c.append.new.self c.push.new.self
    c.in_ok-made.ensures c.in_ok-append.ensures.ok c.as_slice.ensures c.in_ok-regions.ensures c.in_ok-copy_op.ensures c.in_ok-push.ensures.ok
