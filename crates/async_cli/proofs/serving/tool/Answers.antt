use Rattle.async_cli.proofs.Telling.{tool_answered}
use Rattle.async_cli.proofs.serving.tool.Goals as goal

pub returns : goal.returns
returns g c =
    tool_answered _ _ _ c.tell-told.result c.status_of.result c.write-written.result c.status_after.result
    c.entry_asked.ensures (c.tell-told.ensures _ c.read_words-read.ensures.asked)
    c.write-written.ensures c.status_of.ensures c.status_after.ensures
