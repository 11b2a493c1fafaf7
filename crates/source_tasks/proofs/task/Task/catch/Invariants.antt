use Rattle.std.proofs.Common.{◌≡◌, length}
use Rattle.source_meaning.specs.Flow.{caught}
use Rattle.source_tasks.proofs.task.Task.catch.Given as goal

-- the frames that are left catch the failure as all do
abbrev pub invariant-loop-frame : goal.invariant-loop-frame
invariant-loop-frame l = caught l.at l.self.frames l.self ≡ caught l.at l.initial.self.frames l.initial.self

abbrev pub decreases-loop-frame : goal.decreases-loop-frame
decreases-loop-frame l = length l.self.frames
