use Rattle.step_core.specs.State.{ready}
use Rattle.step_core.specs.Tasks.{stack_at}
use Rattle.step_core.proofs.Live.{live_over}
use Rattle.step_core.proofs.tasks.local_in.Goals as goal

pub returns-clause-live : goal.returns-clause-live
returns-clause-live c = live_over c.args.slots.now.items c.args.at (ready (stack_at c.args.slots.now.items c.args.at)) _ c.requires
