-- The end of a loop comes.
use Rattle.std.proofs.Common.{rules}
use Rattle.source_tasks.proofs.Posed.{step_join}
use Rattle.source_tasks.proofs.task.Task.pending_step.Goals as goal

pub returns-in-Join : goal.returns-in-Join
returns-in-Join c p =
    step_join p c.waiting.inside.at c.total.result c.in-Join.entered c.args.waiting c.args.self.now (search rules) (search rules)
