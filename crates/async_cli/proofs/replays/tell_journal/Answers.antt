use Rattle.async_cli.specs.Calls.{held}
use Rattle.async_cli.proofs.Telling.{journaled}
use Rattle.async_cli.proofs.replays.tell_journal.Goals as goal

pub returns-in-Ok : goal.returns-in-Ok
returns-in-Ok c =
    journaled (held c.args.loaded.now) c.args.loaded.now.notes c.args.flags _ c.in-Ok.entries.items _ c.replay_call.result
    c.in-Ok.ensures.0 c.as_slice.ensures.value c.replay_call.ensures
