use Rattle.std.proofs.Common.{◌≡◌, ◌≤◌, ◌<◌, ◌+◌, ◌-◌, ◌^◌, ◌∙◌, length, sym, ap, subst, arith}
use Rattle.step_core.specs.State.{live_tasks, ready}
use Rattle.step_core.proofs.Live.{live_most, live_push}
use Rattle.step_core.proofs.tasks.Tasks.push.Goals as goal

pub overflow_add-self : goal.overflow_add-self
overflow_add-self c =
    let few : length c.self.inside.slots.items < 2 ^ 32 - 1 = subst (λ k. length k.tasks < 2 ^ 32 - 1) (sym c.self.view_is) c.requires.few in
    let most : live_tasks c.self.inside.slots.items ≤ length c.self.inside.slots.items = live_most c.self.inside.slots.items in
    let is : c.self.inside.live ≡ live_tasks c.self.inside.slots.items = c.self.invariant in
    omega (arith, few, most, is)

pub invariant_of-self : goal.invariant_of-self
invariant_of-self c =
    ap (λ n. n + 1) c.self.invariant ∙ sym (ap live_tasks c.push_reserved.ensures.items ∙ live_push c.self.inside.slots.items (ready c.args.stack))
