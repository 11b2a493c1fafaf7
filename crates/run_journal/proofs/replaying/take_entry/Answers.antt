-- A task that isn't there or is parked takes no step.
use Rattle.std.proofs.Common.{◌∙◌, sym, ap}
use Rattle.std.specs.Option.{option_copied}
use Rattle.run_journal.proofs.Running.{refused_gone, refused_parked}
use Rattle.run_journal.proofs.replaying.take_entry.Goals as goal

pub returns-in_default-clause-taken : goal.returns-in_default-clause-taken
returns-in_default-clause-taken c = refused_gone c.args.core.now c.args.entry (sym c.task.ensures ∙ ap option_copied c.in_default.is)

pub returns-in_ok-local-in-Some-parked-clause-taken : goal.returns-in_ok-local-in-Some-parked-clause-taken
returns-in_ok-local-in-Some-parked-clause-taken c =
    refused_parked c.args.core.now c.args.entry c.args.code.now c.in_ok-local-in-Some-parked.local c.in-Some.found.now c.in-Some-parked.field-0 c.requires.code
    (sym c.task.ensures ∙ ap option_copied c.in-Some.is) c.in-Some-parked.is c.in_ok-local-in-Some-parked.ensures
