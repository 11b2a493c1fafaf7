use Rattle.std.proofs.Common.{◌≡◌, Some, None, Ok, IfOk, option_map, sym, ap, subst, ◌∙◌}
use Rattle.async_cli.specs.Tools.{ToolOwes}
use Rattle.async_cli.specs.Words.{seen, asked_of}
use Rattle.async_cli.proofs.Telling.{served, refused}
use Rattle.async_cli.proofs.serving.tell.Goals as goal

pub returns-in-Ok-Some : goal.returns-in-Ok-Some
returns-in-Ok-Some g c = λ words same.
    let read : c.args.read ≡ Ok c.in-Ok-Some.field-0 = cc c.in-Ok-Some.is in
    let is : c.in-Ok-Some.field-0 ≡ Some c.in-Ok-Some.asked = cc c.in-Ok-Some.field-0-is in
    served _ (seen c.in-Ok-Some.asked) c.serve.result
    (ap (option_map seen) (sym is) ∙ subst (λ r. IfOk r (λ asked. option_map seen asked ≡ asked_of words)) read same)
    c.serve.ensures

pub returns-in-Ok-None : goal.returns-in-Ok-None
returns-in-Ok-None g c = λ words same.
    let read : c.args.read ≡ Ok c.in-Ok-None.field-0 = cc c.in-Ok-None.is in
    let is : c.in-Ok-None.field-0 ≡ None = cc c.in-Ok-None.field-0-is in
    refused _ (ap (option_map seen) (sym is) ∙ subst (λ r. IfOk r (λ asked. option_map seen asked ≡ asked_of words)) read same)

pub returns-in-Err : goal.returns-in-Err
returns-in-Err g c = λ words same. ToolOwes.no_memory
