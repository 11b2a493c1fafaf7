use Rattle.std.proofs.Common.{inl}
use Rattle.async_cli.specs.Words.{seen}
use Rattle.async_cli.proofs.Entries.{reads}
use Rattle.async_cli.proofs.calls.read_call.Goals as goal

pub returns-in-Ok : goal.returns-in-Ok
returns-in-Ok c =
    reads c.functions_stand.ensures c.args.text.now (seen c.args.asked) c.args.asked.options c.args.print c.in-Ok.verified.program c.load.result
    c.in-Ok.ensures c.load.ensures

pub returns-in-Err : goal.returns-in-Err
returns-in-Err c = inl c.in-Err.ensures
