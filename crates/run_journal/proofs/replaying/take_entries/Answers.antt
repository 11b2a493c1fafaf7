-- A possible entry is one step of the fold, and the first one that isn't stops it.
use Rattle.run_journal.proofs.Running.{replays_next}
use Rattle.run_journal.proofs.replaying.take_entries.Goals as goal

pub loop-at-preserved : goal.loop-at-preserved
loop-at-preserved c =
    let answer = c.in_ok-take_entry.ensures.taken in
    let took = rw c.in-Possible.is at answer in
    replays_next c.args.core.now c.loop-at.core c.take_entry.new.core c.args.entries.now c.loop-at.at _ c.loop-at-test.true c.loop-at.invariant c.take_entry.ensures.same took
