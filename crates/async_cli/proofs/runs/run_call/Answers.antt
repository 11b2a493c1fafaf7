use Rattle.std.proofs.Common.{◌∙◌, None, arith, subst, sym}
use Rattle.async_cli.specs.Calls.{held}
use Rattle.async_cli.proofs.Leading.{Gives, gives, starts_from, stops_at_start}
use Rattle.async_cli.proofs.runs.run_call.Goals as goal

pub returns-then-len-ge-MOST_ARGUMENTS : goal.returns-then-len-ge-MOST_ARGUMENTS
returns-then-len-ge-MOST_ARGUMENTS c = stops_at_start (held c.args.loaded.now) c.args.bounds c.args.journal.now.items c.requires.stands c.requires.empty

pub returns-in_default : goal.returns-in_default
returns-in_default c = stops_at_start (held c.args.loaded.now) c.args.bounds c.args.journal.now.items c.requires.stands c.requires.empty

pub drive-requires-clause-start : goal.drive-requires-clause-start
drive-requires-clause-start c =
    (starts_from (held c.args.loaded.now) c.limits_of-limits.result c.in-Ok.core c.as_slice.result.now c.as_slice.ensures
    (omega (arith, c.if-len-ge-MOST_ARGUMENTS.false, c.len.ensures)) c.in-Ok.ensures).1.1

pub returns-in-Some : goal.returns-in-Some
returns-in-Some c =
    let begun = starts_from (held c.args.loaded.now) c.limits_of-limits.result c.in-Ok.core c.as_slice.result.now c.as_slice.ensures
    (omega (arith, c.if-len-ge-MOST_ARGUMENTS.false, c.len.ensures)) c.in-Ok.ensures in
    subst (Gives (held c.args.loaded.now) c.args.bounds c.drive.new.journal.items c.drive.new.core.core) (sym c.in-Some.ensures)
    (gives (held c.args.loaded.now) c.args.bounds c.in-Ok.core c.drive.new.core.core c.drive.new.journal.items c.in-Ok-drive.outcome begun.0.0
    (begun.0.1 ∙ c.limits_of-limits.ensures) begun.1.0 c.in-Ok-drive.ensures.outcome)

pub returns : goal.returns
returns c =
    let begun = starts_from (held c.args.loaded.now) c.limits_of-limits.result c.in-Ok.core c.as_slice.result.now c.as_slice.ensures
    (omega (arith, c.if-len-ge-MOST_ARGUMENTS.false, c.len.ensures)) c.in-Ok.ensures in
    let none : Gives (held c.args.loaded.now) c.args.bounds c.drive.new.journal.items c.drive.new.core.core None =
    subst (Gives (held c.args.loaded.now) c.args.bounds c.drive.new.journal.items c.drive.new.core.core) (sym c.in-None.ensures)
    (gives (held c.args.loaded.now) c.args.bounds c.in-Ok.core c.drive.new.core.core c.drive.new.journal.items c.in-Ok-drive.outcome begun.0.0
    (begun.0.1 ∙ c.limits_of-limits.ensures) begun.1.0 c.in-Ok-drive.ensures.outcome) in
    (c.drive.new.core.core, none.0)
