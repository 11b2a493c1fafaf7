use Rattle.std.proofs.Common.{◌≡◌, Some, None, Ok, IfOk, option_map, sym, ap, subst, ◌∙◌}
use Rattle.async_cli.specs.declared.words.Command.TheVariants.{Check, Compile, Run, Source, Replay}
use Rattle.async_cli.specs.Runs.{Causes}
use Rattle.async_cli.specs.Words.{seen, asked_of}
use Rattle.async_cli.proofs.Telling.{asks_other, asks_none}
use Rattle.async_cli.proofs.running.tell.Goals as goal

pub returns-in-Check : goal.returns-in-Check
returns-in-Check g c = λ words same.
    let read : c.args.read ≡ Ok c.in-Ok-Some.field-0 = cc c.in-Ok-Some.is in
    let is : c.in-Ok-Some.field-0 ≡ Some c.in-Ok-Some.asked = cc c.in-Ok-Some.field-0-is in
    let command : c.in-Ok-Some.asked.command ≡ Check = cc c.in-Check.is in
    Causes.words c.requires.empty (
    asks_other words (seen c.in-Ok-Some.asked)
    (ap (option_map seen) (sym is) ∙ subst (λ r. IfOk r (λ asked. option_map seen asked ≡ asked_of words)) read same)
    (λ runs. let both : Check ≡ Run = sym command ∙ runs in cc both)
    )

pub returns-in-Replay : goal.returns-in-Replay
returns-in-Replay g c = λ words same.
    let read : c.args.read ≡ Ok c.in-Ok-Some.field-0 = cc c.in-Ok-Some.is in
    let is : c.in-Ok-Some.field-0 ≡ Some c.in-Ok-Some.asked = cc c.in-Ok-Some.field-0-is in
    let command : c.in-Ok-Some.asked.command ≡ Replay = cc c.in-Replay.is in
    Causes.words c.requires.empty (
    asks_other words (seen c.in-Ok-Some.asked)
    (ap (option_map seen) (sym is) ∙ subst (λ r. IfOk r (λ asked. option_map seen asked ≡ asked_of words)) read same)
    (λ runs. let both : Replay ≡ Run = sym command ∙ runs in cc both)
    )

pub returns-in-Compile : goal.returns-in-Compile
returns-in-Compile g c = λ words same.
    let read : c.args.read ≡ Ok c.in-Ok-Some.field-0 = cc c.in-Ok-Some.is in
    let is : c.in-Ok-Some.field-0 ≡ Some c.in-Ok-Some.asked = cc c.in-Ok-Some.field-0-is in
    let command : c.in-Ok-Some.asked.command ≡ Compile = cc c.in-Compile.is in
    Causes.words c.requires.empty (
    asks_other words (seen c.in-Ok-Some.asked)
    (ap (option_map seen) (sym is) ∙ subst (λ r. IfOk r (λ asked. option_map seen asked ≡ asked_of words)) read same)
    (λ runs. let both : Compile ≡ Run = sym command ∙ runs in cc both)
    )

pub returns-in-Ok-None : goal.returns-in-Ok-None
returns-in-Ok-None g c = λ words same.
    let read : c.args.read ≡ Ok c.in-Ok-None.field-0 = cc c.in-Ok-None.is in
    let is : c.in-Ok-None.field-0 ≡ None = cc c.in-Ok-None.field-0-is in
    Causes.words c.requires.empty (
    asks_none words
    (ap (option_map seen) (sym is) ∙ subst (λ r. IfOk r (λ asked. option_map seen asked ≡ asked_of words)) read same)
    )

pub returns-in-Err : goal.returns-in-Err
returns-in-Err g c = λ words same. Causes.no_memory c.requires.empty

pub returns-in-Source : goal.returns-in-Source
returns-in-Source g c = λ words same.
    let read : c.args.read ≡ Ok c.in-Ok-Some.field-0 = cc c.in-Ok-Some.is in
    let is : c.in-Ok-Some.field-0 ≡ Some c.in-Ok-Some.asked = cc c.in-Ok-Some.field-0-is in
    let command : c.in-Ok-Some.asked.command ≡ Source = cc c.in-Source.is in
    Causes.words c.requires.empty (
    asks_other words (seen c.in-Ok-Some.asked)
    (ap (option_map seen) (sym is) ∙ subst (λ r. IfOk r (λ asked. option_map seen asked ≡ asked_of words)) read same)
    (λ runs. let both : Source ≡ Run = sym command ∙ runs in cc both)
    )
