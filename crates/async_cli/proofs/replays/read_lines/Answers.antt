use Rattle.async_cli.proofs.Places.{lines_are}
use Rattle.async_cli.proofs.replays.read_lines.Goals as goal

pub returns-in-Ok : goal.returns-in-Ok
returns-in-Ok c = lines_are c.args.lines.now c.in-Ok.entries.items c.in-Ok.ensures.ok c.in-Ok.ensures.fits c.requires
