use Rattle.std.proofs.Common.{◌≡◌, ◌≤◌, length, subst, arith}
use Rattle.step_core.specs.State.{live_tasks}
use Rattle.step_core.proofs.Live.{live_most}
use Rattle.step_core.proofs.tasks.Tasks.live.Goals as goal

pub returns-clause-most : goal.returns-clause-most
returns-clause-most c =
    let most : live_tasks c.self.inside.slots.items ≤ length c.self.inside.slots.items = live_most c.self.inside.slots.items in
    let is : c.self.inside.live ≡ live_tasks c.self.inside.slots.items = c.self.invariant in
    subst (λ k. c.self.inside.live ≤ length k.tasks) c.self.view_is (omega (arith, most, is))
