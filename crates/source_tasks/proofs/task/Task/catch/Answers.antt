-- A frame that lets the failure through.
use Rattle.std.proofs.Common.{rules}
use Rattle.source_tasks.proofs.Caught.{caught_popped}
use Rattle.source_tasks.proofs.Puts.{reverse_snoc}
use Rattle.source_tasks.proofs.task.Task.catch.Goals as goal

pub loop-frame-preserved : goal.loop-frame-preserved
loop-frame-preserved c =
    caught_popped c.args.at c.loop-frame.self c.catch_in.new.self c.in-Some.frame _ (search (rules, reverse_snoc)) (search rules) c.loop-frame.invariant
