-- One more mark that is missing.
use Rattle.std.proofs.Common.{arith}
use Rattle.source_tasks.proofs.Marks.{marked_grown}
use Rattle.source_tasks.proofs.uses.mark.Goals as goal

pub loop-marks-preserved : goal.loop-marks-preserved
loop-marks-preserved c =
    marked_grown c.args.marks.now.items c.loop-marks.marks.items c.push.new.self.items c.args.place (c.loop-marks.invariant) (omega arith) (search c.in_ok-push.ensures.items)
