-- What was pending first is taken off.
use Rattle.std.proofs.Common.{rules, reverse}
use Rattle.source_meaning.specs.Tasks.{Task}
use Rattle.source_tasks.proofs.Posed.{step_pending}
use Rattle.source_tasks.proofs.Puts.{reverse_snoc}
use Rattle.source_tasks.proofs.task.Task.step.Goals as goal

pub returns-in_ok-step-in-Some : goal.returns-in_ok-step-in-Some
returns-in_ok-step-in-Some c =
    let left : Task = record { pending = reverse c.pop.new.self.items; rest = c.self.inside.rest.now; frames = reverse c.self.inside.frames.items; scope = c.self.inside.scope } in
    step_pending c.in_ok-step-in-Some.step c.args.facts.now c.args.self.now left c.pending_step.new.self c.in-Some.waiting
    (search (rules, reverse_snoc)) (c.in_ok-step-in-Some.ensures c.args.facts.now)
