use Rattle.std.proofs.Common.{◌≡◌, ◌+◌, None, slice_set, sym, subst, arith}
use Rattle.step_core.specs.State.{live_tasks, ready}
use Rattle.step_core.specs.Tasks.{stack_at, IsReady}
use Rattle.step_core.proofs.Live.{live_out}
use Rattle.step_core.proofs.tasks.Tasks.take_out.Goals as goal

pub overflow_sub-self : goal.overflow_sub-self
overflow_sub-self c =
    let h : IsReady c.self.inside.slots.items c.args.task.0 = subst (λ k. IsReady k.tasks c.args.task.0) (sym c.self.view_is) c.requires in
    let out : live_tasks (slice_set c.self.inside.slots.items c.args.task.0 None) + 1 ≡ live_tasks c.self.inside.slots.items = live_out c.self.inside.slots.items c.args.task.0 (ready (stack_at c.self.inside.slots.items c.args.task.0)) h in
    let is : c.self.inside.live ≡ live_tasks c.self.inside.slots.items = c.self.invariant in
    omega (arith, out, is)

pub invariant_of-self : goal.invariant_of-self
invariant_of-self c =
    let h : IsReady c.self.inside.slots.items c.args.task.0 = subst (λ k. IsReady k.tasks c.args.task.0) (sym c.self.view_is) c.requires in
    let out : live_tasks (slice_set c.self.inside.slots.items c.args.task.0 None) + 1 ≡ live_tasks c.self.inside.slots.items = live_out c.self.inside.slots.items c.args.task.0 (ready (stack_at c.self.inside.slots.items c.args.task.0)) h in
    let is : c.self.inside.live ≡ live_tasks c.self.inside.slots.items = c.self.invariant in
    omega (arith, out, is)
