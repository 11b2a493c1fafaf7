use Rattle.std.proofs.Common.{◌≡◌, true}
use Rattle.async_cli.specs.Calls.{held}
use Rattle.serial_run.proofs.Driving.{is_finished}
use Rattle.async_cli.proofs.Leading.{replayed_end, replays_from}
use Rattle.async_cli.proofs.runs.replay_call.Goals as goal

pub returns-in-Ok-end_of : goal.returns-in-Ok-end_of
returns-in-Ok-end_of c =
    let on : c.finished.result ≡ true = let h = c.if-not-finished.false in cc in
    replayed_end c.replays_within_are_possible.ensures (held c.args.loaded.now) c.args.loaded.now.notes c.args.flags c.args.entries.now
    c.in-Ok-end_of.end.status c.in-Ok-end_of.end.text.items c.in-Ok.core.core
    (replays_from (held c.args.loaded.now) c.in-Ok.core c.args.entries.now c.as_slice.result.now c.as_slice.ensures c.in-Ok.ensures.ok)
    (is_finished c.in-Ok.core.core c.finished.result c.finished.ensures on) c.in-Ok-end_of.ensures
