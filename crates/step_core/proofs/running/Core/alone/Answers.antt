use Rattle.std.proofs.Common.{ap, subst}
use Rattle.task_stack.specs.Local.{IsLocal, local_step}
use Rattle.step_core.specs.Tasks.{stack_at}
use Rattle.step_core.proofs.TakeLemmas.{alone_done, alone_stuck, alone_deep}
use Rattle.step_core.proofs.running.Core.alone.Goals as goal

pub returns-in-Done-clause-step : goal.returns-in-Done-clause-step
returns-in-Done-clause-step c =
    alone_done c.self.inside.code.now c.self.inside.limits c.self.inside.tasks.tasks c.self.inside.objects c.self.inside.cells.buffers c.self.inside.arguments c.self.inside.root_end c.self.inside.steps c.self.inside.gone.items c.args.task.0 c.args.self.now c.self.view_is c.requires.ready
    c.local.new.self.tasks (ap (λ k. k.tasks) c.local.ensures.rest) c.in-Done.field-0 c.requires.count
    (subst (λ l. IsLocal l (stack_at c.self.inside.tasks.tasks c.args.task.0) (stack_at c.local.new.self.tasks c.args.task.0) (local_step c.self.inside.code.now (stack_at c.self.inside.tasks.tasks c.args.task.0))) c.in-Done.is c.in_ok-local.ensures.step)

pub returns-in-Stuck-clause-step : goal.returns-in-Stuck-clause-step
returns-in-Stuck-clause-step c =
    alone_stuck c.self.inside.code.now c.self.inside.limits c.self.inside.tasks.tasks c.self.inside.objects c.self.inside.cells.buffers c.self.inside.arguments c.self.inside.root_end c.self.inside.steps c.self.inside.gone.items c.args.task.0 c.args.self.now c.self.view_is c.requires.ready
    c.local.new.self.tasks (ap (λ k. k.tasks) c.local.ensures.rest)
    (subst (λ l. IsLocal l (stack_at c.self.inside.tasks.tasks c.args.task.0) (stack_at c.local.new.self.tasks c.args.task.0) (local_step c.self.inside.code.now (stack_at c.self.inside.tasks.tasks c.args.task.0))) c.in-Stuck.is c.in_ok-local.ensures.step)

pub returns-in-Deep-clause-step : goal.returns-in-Deep-clause-step
returns-in-Deep-clause-step c =
    alone_deep c.self.inside.code.now c.self.inside.limits c.self.inside.tasks.tasks c.self.inside.objects c.self.inside.cells.buffers c.self.inside.arguments c.self.inside.root_end c.self.inside.steps c.self.inside.gone.items c.args.task.0 c.args.self.now c.self.view_is c.requires.ready
    c.local.new.self.tasks (ap (λ k. k.tasks) c.local.ensures.rest)
    (subst (λ l. IsLocal l (stack_at c.self.inside.tasks.tasks c.args.task.0) (stack_at c.local.new.self.tasks c.args.task.0) (local_step c.self.inside.code.now (stack_at c.self.inside.tasks.tasks c.args.task.0))) c.in-Deep.is c.in_ok-local.ensures.step)
