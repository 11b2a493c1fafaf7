use Rattle.async_cli.specs.Words.{seen}
use Rattle.async_cli.proofs.Entries.{find_stops, named_fits, unfit_stops}
use Rattle.async_cli.proofs.calls.find_call.Goals as goal

pub returns-in-Err : goal.returns-in-Err
returns-in-Err c = find_stops c.args.verified.now.program (seen c.args.asked) c.in-Err.stop c.in-Err.ensures

pub returns-in-Ok-fit : goal.returns-in-Ok-fit
returns-in-Ok-fit c =
    named_fits c.args.verified.now.program (seen c.args.asked) c.in-Ok.function c.params_at.result.now c.in-Ok-fit.values c.in-Ok.ensures
    c.params_at.ensures c.in-Ok-fit.ensures

pub returns-in-Err-fit : goal.returns-in-Err-fit
returns-in-Err-fit c =
    unfit_stops c.args.verified.now.program (seen c.args.asked) c.in-Ok.function c.params_at.result.now c.in-Err-fit.stop c.in-Ok.ensures
    c.params_at.ensures c.in-Err-fit.ensures
