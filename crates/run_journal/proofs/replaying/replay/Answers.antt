-- A start is within any journal, and want of memory says nothing.
use Rattle.std.proofs.Common.{slice_get}
use Rattle.run_journal.proofs.Running.{started_within, there_always}
use Rattle.run_journal.proofs.replaying.replay.Goals as goal

pub replay_from-requires-clause-within : goal.replay_from-requires-clause-within
replay_from-requires-clause-within c =
    started_within (slice_get c.args.code.now.funcs c.args.entry.0) c.args.code.now c.args.limits c.args.entry c.args.args.now c.in-Ok.core c.in-Ok.ensures c.requires.args

pub returns-in-Err-clause-fault : goal.returns-in-Err-clause-fault
returns-in-Err-clause-fault c = there_always c.args.code.now.funcs c.args.entry.0 _ c.requires.entry (λ f. tt)
