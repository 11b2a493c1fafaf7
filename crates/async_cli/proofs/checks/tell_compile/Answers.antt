use Rattle.std.proofs.Common.{refl, subst}
use Rattle.async_cli.specs.Answers.{ModuleStops}
use Rattle.async_cli.specs.Calls.{IsListing}
use Rattle.async_cli.specs.Checks.{CheckCauses}
use Rattle.async_cli.proofs.Telling.{accepts}
use Rattle.async_cli.proofs.checks.tell_compile.Goals as goal

pub returns-in-Err : goal.returns-in-Err
returns-in-Err g c = CheckCauses.input c.in-Err.stop c.in-Err.ensures

pub returns-in-Ok-read_module : goal.returns-in-Ok-read_module
returns-in-Ok-read_module g c =
    accepts (IsListing c.args.options) _ c.in-Ok.bytes.items _ _ _ c.listed_text.result c.in-Ok.ensures c.deref.ensures.value
    c.in-Ok-read_module.ensures refl c.listed_text.ensures

pub returns : goal.returns
returns g c =
    CheckCauses.no_module c.in-Err-read_module.stop c.in-Ok.bytes.items c.in-Ok.ensures
    (subst (λ t. ModuleStops t c.in-Err-read_module.stop) c.deref.ensures.value c.in-Err-read_module.ensures)
