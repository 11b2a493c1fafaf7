-- The run that is driven was just made.
use Rattle.std.proofs.Common.{arith, [], slice_get}
use Rattle.journal_tests.proofs.Starting.{is_start}
use Rattle.journal_tests.proofs.drives.started.Goals as goal

pub driven-requires : goal.driven-requires
driven-requires c =
    is_start (slice_get c.args.module.now.funcs 0) c.args.module.now c.args.limits (record { 0 = 0 }) [] c.in-Ok.core c.in-Ok.ensures (omega arith)
