use Rattle.std.proofs.Common.{subst}
use Rattle.async_cli.specs.Calls.{TextStops}
use Rattle.async_cli.specs.Runs.{Causes}
use Rattle.async_cli.specs.Words.{seen}
use Rattle.async_cli.proofs.Telling.{ran}
use Rattle.async_cli.proofs.running.tell_run.Goals as goal

pub returns-in-Err : goal.returns-in-Err
returns-in-Err g c = λ words asks. Causes.input c.in-Err.stop (seen c.args.asked) c.requires.empty asks c.in-Err.ensures

pub returns-in-Ok-read_call : goal.returns-in-Ok-read_call
returns-in-Ok-read_call g c = λ words asks.
    ran _ (seen c.args.asked) c.in-Ok.text.items c.in-Ok-read_call.loaded c.run_printed.new.journal.items c.run_printed.result asks
    c.in-Ok.ensures _ c.deref.ensures.value c.in-Ok-read_call.ensures c.run_printed.ensures

pub returns : goal.returns
returns g c = λ words asks.
    Causes.call c.in-Err-read_call.stop (seen c.args.asked) c.in-Ok.text.items c.requires.empty asks c.in-Ok.ensures
    (subst (λ t. TextStops t (seen c.args.asked) c.in-Err-read_call.stop) c.deref.ensures.value c.in-Err-read_call.ensures)
