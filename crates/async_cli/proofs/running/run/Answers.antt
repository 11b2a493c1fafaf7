use Rattle.async_cli.proofs.Telling.{answered}
use Rattle.async_cli.proofs.running.run.Goals as goal

pub returns : goal.returns
returns g c =
    answered _ _ _ _ c.tell-told.result c.status_of.result c.stop_in.result c.write-written.result c.status_after.result c.stop_after.result
    c.entry_asked.ensures (c.tell-told.ensures _ c.read_words-read.ensures.asked)
    c.write-written.ensures c.status_of.ensures c.stop_in.ensures c.status_after.ensures c.stop_after.ensures
