use Rattle.async_cli.specs.Checks.{CheckCauses, IsSize}
use Rattle.async_cli.specs.Answers.{ModuleStops}
use Rattle.async_cli.proofs.Telling.{accepts}
use Rattle.std.proofs.Common.{subst}
use Rattle.async_cli.proofs.checks.tell_check.Goals as goal

pub returns-in-Err : goal.returns-in-Err
returns-in-Err g c = CheckCauses.input c.in-Err.stop c.in-Err.ensures

pub returns-in-Ok-read_module : goal.returns-in-Ok-read_module
returns-in-Ok-read_module g c =
    accepts IsSize _ c.in-Ok.bytes.items _ _ _ c.accepted_text.result c.in-Ok.ensures c.deref.ensures.value c.in-Ok-read_module.ensures
    c.module.ensures.value c.accepted_text.ensures

pub returns : goal.returns
returns g c =
    CheckCauses.no_module c.in-Err-read_module.stop c.in-Ok.bytes.items c.in-Ok.ensures
    (subst (λ t. ModuleStops t c.in-Err-read_module.stop) c.deref.ensures.value c.in-Err-read_module.ensures)
