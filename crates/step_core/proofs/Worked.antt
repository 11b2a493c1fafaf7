-- The definitions compute what worked runs come to.
use Rattle.std.proofs.Common.{refl}
use Rattle.step_core.specs.Runs.{run, burst}
use Rattle.step_core.specs.High as high
use Rattle.step_core.specs.Worked.{WorkedRuns, SevenIsReplayed, SevenIsRun, ErrorFailsTheAwait, GroupIsDone, FullGroupStops, GroupIsNoElement, HighSevenIsRun, HighErrorFailsTheAwait}

seven_is_replayed : SevenIsReplayed
unfolding burst run
seven_is_replayed = refl

seven_is_run : SevenIsRun
unfolding burst run
seven_is_run = refl

error_fails : ErrorFailsTheAwait
unfolding burst run
error_fails = refl

group_is_done : GroupIsDone
unfolding burst run
group_is_done = refl

full_group_stops : FullGroupStops
unfolding burst run
full_group_stops = refl

group_is_no_element : GroupIsNoElement
unfolding burst run
group_is_no_element = refl

high_seven_is_run : HighSevenIsRun
unfolding high.run
high_seven_is_run = refl

high_error_fails : HighErrorFailsTheAwait
unfolding high.run
high_error_fails = refl

pub worked_runs : WorkedRuns
worked_runs = (seven_is_replayed, seven_is_run, error_fails, group_is_done, full_group_stops, group_is_no_element, high_seven_is_run, high_error_fails)
