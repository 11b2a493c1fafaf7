use Rattle.async_cli.specs.Words.{seen}
use Rattle.async_cli.proofs.Entries.{loads}
use Rattle.async_cli.proofs.calls.load.Goals as goal

pub returns-in-Ok : goal.returns-in-Ok
returns-in-Ok c =
    loads c.args.verified.program (seen c.args.asked) c.args.asked.options c.args.print c.in-Ok.call c.load_call.result c.in-Ok.ensures
    c.load_call.ensures
