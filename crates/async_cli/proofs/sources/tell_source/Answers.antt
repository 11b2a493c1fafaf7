use Rattle.std.proofs.Common.{subst}
use Rattle.async_cli.specs.Answers.{IsAccepted, ModuleStops}
use Rattle.async_cli.specs.Sources.{SourceCauses}
use Rattle.async_cli.proofs.sources.tell_source.Goals as goal

pub returns-in-Err : goal.returns-in-Err
returns-in-Err g c = SourceCauses.input c.in-Err.stop c.in-Err.ensures

pub returns-in-Err-read_module : goal.returns-in-Err-read_module
returns-in-Err-read_module g c =
    SourceCauses.no_module c.in-Err-read_module.stop c.in-Ok.bytes.items c.in-Ok.ensures
    (subst (λ t. ModuleStops t c.in-Err-read_module.stop) c.deref.ensures.value c.in-Err-read_module.ensures)

pub returns : goal.returns
returns g c =
    SourceCauses.no_run c.in-Err-run_source.stop c.in-Ok.bytes.items c.in-Ok-read_module.verified.program c.in-Ok.ensures
    (subst (λ t. IsAccepted t c.in-Ok-read_module.verified.program) c.deref.ensures.value c.in-Ok-read_module.ensures) c.in-Err-run_source.ensures
