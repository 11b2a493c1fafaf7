use Rattle.async_cli.proofs.Entries.{made_of}
use Rattle.async_cli.proofs.calls.make_printed.Goals as goal

pub returns-in-Ok-listing : goal.returns-in-Ok-listing
returns-in-Ok-listing c =
    made_of c.args.options c.args.verified.program c.in-Ok.compiled c.in-Ok-listing.printed c.in-Ok.ensures c.in-Ok-listing.ensures
