-- The run that is driven was just made.
use Rattle.std.proofs.Common.{arith, [], slice_get}
use Rattle.core_bench.proofs.Starting.{is_start}
use Rattle.core_bench.proofs.ending.run.Goals as goal

pub driven-requires : goal.driven-requires
driven-requires c =
    is_start (slice_get c.args.code.now.funcs 0) c.args.code.now _ (record { 0 = 0 }) [] c.in-Ok.core c.in-Ok.ensures (omega arith)
