use Rattle.std.proofs.Common.{arith}
use Rattle.async_cli.specs.Words.{seen}
use Rattle.async_cli.specs.Replays.{ReplayCauses}
use Rattle.async_cli.proofs.Telling.{is_given, replayed}
use Rattle.async_cli.proofs.replays.tell_replay.Goals as goal

pub returns-in-Err : goal.returns-in-Err
returns-in-Err g c = ReplayCauses.input c.in-Err.stop c.in-Err.ensures

pub returns-then-text : goal.returns-then-text
returns-then-text g c =
    ReplayCauses.long_text _ _ (is_given _ _ _ _ _ c.in-Ok.ensures c.deref.ensures.value c.split_input.ensures) (omega (arith, c.if-text.true))

pub returns-in-Ok-read_call : goal.returns-in-Ok-read_call
returns-in-Ok-read_call g c =
    replayed _ (seen c.args.asked) _ _ c.in-Ok-read_call.loaded c.tell_journal.result
    (is_given _ _ _ _ _ c.in-Ok.ensures c.deref.ensures.value c.split_input.ensures)
    (omega (arith, c.if-text.false)) c.in-Ok-read_call.ensures c.tell_journal.ensures

pub returns : goal.returns
returns g c =
    ReplayCauses.no_call c.in-Err-read_call.stop _ _ (is_given _ _ _ _ _ c.in-Ok.ensures c.deref.ensures.value c.split_input.ensures)
    (omega (arith, c.if-text.false)) c.in-Err-read_call.ensures
