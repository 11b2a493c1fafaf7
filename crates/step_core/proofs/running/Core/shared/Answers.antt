use Rattle.std.proofs.Common.{◌≡◌, ◌≤◌, ◌<◌, ◌+◌, ◌^◌, length, refl, sym, ap, subst, ◌∙◌, arith}
use Rattle.step_core.specs.Running.{core_of}
use Rattle.step_core.specs.Tasks.{stack_at, put_task, IsReady}
use Rattle.step_core.proofs.TakeLemmas.{ready_again, sliced, row_longer, row_places, put_length, woken_length, row_stuck, row_stop, row_goes, row_launches, row_ends}
use Rattle.step_core.proofs.running.Core.shared.Goals as goal

pub split_at-requires : goal.split_at-requires
split_at-requires c =
    let longer : length c.reserve.new.self.items ≤ length c.shared.new.woken.items = row_longer c.in_ok-row.row c.in-Goes.parked _ _ c.reserve.new.self.items c.shared.new.woken.items c.args.task.0 _ _ _ c.in-Goes.is (c.in_ok-row.ensures.row (core_of c.reserve-2.new.self.tasks c.self.inside.objects c.self.inside.cells.buffers c.self.inside.arguments c.self.inside.root_end c.self.inside.steps c.self.inside.gone.items) refl) in
    let first : length c.as_slice-before.result.now ≡ length c.reserve.new.self.items = ap length c.as_slice-before.ensures ∙ sym (ap length c.reserve.ensures.items) in
    let last : length c.as_slice.result.now ≡ length c.shared.new.woken.items = ap length c.as_slice.ensures in
    omega (arith, longer, first, last)

pub go_on-requires : goal.go_on-requires
go_on-requires c =
    ready_again c.reserve-2.new.self.tasks c.shared.new.self.tasks c.args.task.0 (ap (λ k. k.tasks) c.shared.ensures.rest)
    (subst (λ ts. IsReady ts c.args.task.0) (sym c.reserve-2.ensures.tasks) (subst (λ n. IsReady n.core.plain.tasks c.args.task.0) (sym c.self.view_is) c.requires.ready))

pub invariant_of-self-in-Goes : goal.invariant_of-self-in-Goes
invariant_of-self-in-Goes c =
    let kept : length c.shared.new.self.tasks ≡ length c.self.inside.tasks.tasks = put_length c.reserve-2.new.self.tasks c.shared.new.self.tasks c.args.task.0 _ (ap (λ k. k.tasks) c.shared.ensures.rest) ∙ ap length c.reserve-2.ensures.tasks in
    let on : length c.go_on.new.self.tasks ≡ length c.shared.new.self.tasks =
    ap (λ k. length k.tasks) c.go_on.ensures ∙ (woken_length c.split_at.result.1.now (put_task c.shared.new.self.tasks c.args.task.0 (stack_at c.shared.new.self.tasks c.args.task.0) c.in-Goes.parked)
    ∙ put_length c.shared.new.self.tasks (put_task c.shared.new.self.tasks c.args.task.0 (stack_at c.shared.new.self.tasks c.args.task.0) c.in-Goes.parked) c.args.task.0 _ refl) in
    let few : length c.self.inside.tasks.tasks < 2 ^ 32 = c.self.invariant.1 in
    (c.shared.ensures.kept ∙ c.self.invariant.0, omega (arith, kept, on, few))

pub push-requires : goal.push-requires
push-requires c =
    let same : c.shared.new.woken.items ≡ c.reserve.new.self.items = row_places c.in_ok-row.row c.in-Launches.stack _ _ c.reserve.new.self.items c.shared.new.woken.items c.args.task.0 _ _ _ c.in-Launches.is (c.in_ok-row.ensures.row (core_of c.reserve-2.new.self.tasks c.self.inside.objects c.self.inside.cells.buffers c.self.inside.arguments c.self.inside.root_end c.self.inside.steps c.self.inside.gone.items) refl) in
    let long : length c.shared.new.woken.items ≡ length c.reserve.new.self.items = ap length same in
    let room : 1 ≤ c.reserve.new.self.room = c.in_ok-reserve.ensures.room in
    let places : length c.reserve.new.self.items + c.reserve.new.self.room ≤ length c.shared.new.woken.items + c.shared.new.woken.room = c.shared.ensures.places in
    omega (arith, long, room, places)

pub take_out-requires : goal.take_out-requires
take_out-requires c =
    ready_again c.reserve-2.new.self.tasks c.shared.new.self.tasks c.args.task.0 (ap (λ k. k.tasks) c.shared.ensures.rest)
    (subst (λ ts. IsReady ts c.args.task.0) (sym c.reserve-2.ensures.tasks) (subst (λ n. IsReady n.core.plain.tasks c.args.task.0) (sym c.self.view_is) c.requires.ready))

pub returns-in-Stuck-clause-step : goal.returns-in-Stuck-clause-step
returns-in-Stuck-clause-step c =
    row_stuck c.self.inside.code.now c.self.inside.limits c.reserve-2.new.self.tasks c.self.inside.objects c.self.inside.cells.buffers c.self.inside.arguments c.self.inside.root_end c.self.inside.steps c.self.inside.gone.items c.args.task.0 c.args.self.now
    (ap (λ ts. record { code = c.self.inside.code.now; limits = c.self.inside.limits; core = core_of ts c.self.inside.objects c.self.inside.cells.buffers c.self.inside.arguments c.self.inside.root_end c.self.inside.steps c.self.inside.gone.items }) c.reserve-2.ensures.tasks ∙ c.self.view_is) c.requires.ready
    c.shared.new.self.tasks (ap (λ k. k.tasks) c.shared.ensures.rest) c.requires.shared c.shared.new.objects c.shared.new.cells.buffers c.shared.new.gone.items c.args.woken.now.items c.reserve.new.self.items c.shared.new.woken.items c.reserve.ensures.items
    c.in_ok-row.row c.in-Stuck.is (c.in_ok-row.ensures.row (core_of c.reserve-2.new.self.tasks c.self.inside.objects c.self.inside.cells.buffers c.self.inside.arguments c.self.inside.root_end c.self.inside.steps c.self.inside.gone.items) refl)

pub returns-in-Stop-clause-step : goal.returns-in-Stop-clause-step
returns-in-Stop-clause-step c =
    row_stop c.self.inside.code.now c.self.inside.limits c.reserve-2.new.self.tasks c.self.inside.objects c.self.inside.cells.buffers c.self.inside.arguments c.self.inside.root_end c.self.inside.steps c.self.inside.gone.items c.args.task.0 c.args.self.now
    (ap (λ ts. record { code = c.self.inside.code.now; limits = c.self.inside.limits; core = core_of ts c.self.inside.objects c.self.inside.cells.buffers c.self.inside.arguments c.self.inside.root_end c.self.inside.steps c.self.inside.gone.items }) c.reserve-2.ensures.tasks ∙ c.self.view_is) c.requires.ready
    c.shared.new.self.tasks (ap (λ k. k.tasks) c.shared.ensures.rest) c.requires.shared c.shared.new.objects c.shared.new.cells.buffers c.shared.new.gone.items c.args.woken.now.items c.reserve.new.self.items c.shared.new.woken.items c.reserve.ensures.items
    c.in_ok-row.row c.in-Stop.limit c.in-Stop.is (c.in_ok-row.ensures.row (core_of c.reserve-2.new.self.tasks c.self.inside.objects c.self.inside.cells.buffers c.self.inside.arguments c.self.inside.root_end c.self.inside.steps c.self.inside.gone.items) refl)

pub returns-in-Goes-clause-step : goal.returns-in-Goes-clause-step
returns-in-Goes-clause-step c =
    row_goes c.self.inside.code.now c.self.inside.limits c.reserve-2.new.self.tasks c.self.inside.objects c.self.inside.cells.buffers c.self.inside.arguments c.self.inside.root_end c.self.inside.steps c.self.inside.gone.items c.args.task.0 c.args.self.now
    (ap (λ ts. record { code = c.self.inside.code.now; limits = c.self.inside.limits; core = core_of ts c.self.inside.objects c.self.inside.cells.buffers c.self.inside.arguments c.self.inside.root_end c.self.inside.steps c.self.inside.gone.items }) c.reserve-2.ensures.tasks ∙ c.self.view_is) c.requires.ready
    c.shared.new.self.tasks (ap (λ k. k.tasks) c.shared.ensures.rest) c.requires.shared c.shared.new.objects c.shared.new.cells.buffers c.shared.new.gone.items c.args.woken.now.items c.reserve.new.self.items c.shared.new.woken.items c.reserve.ensures.items
    c.in_ok-row.row c.in-Goes.parked c.go_on.new.self.tasks _ c.in-Goes.is (c.in_ok-row.ensures.row (core_of c.reserve-2.new.self.tasks c.self.inside.objects c.self.inside.cells.buffers c.self.inside.arguments c.self.inside.root_end c.self.inside.steps c.self.inside.gone.items) refl)
    (λ wakes e. sliced c.args.woken.now.items c.as_slice.result.now wakes _ (length c.as_slice-before.result.now) c.split_at.ensures.back (c.as_slice.ensures ∙ e) (ap length c.as_slice-before.ensures)) (ap (λ k. k.tasks) c.go_on.ensures)

pub returns-in-Launches-clause-step : goal.returns-in-Launches-clause-step
returns-in-Launches-clause-step c =
    row_launches c.self.inside.code.now c.self.inside.limits c.reserve-2.new.self.tasks c.self.inside.objects c.self.inside.cells.buffers c.self.inside.arguments c.self.inside.root_end c.self.inside.steps c.self.inside.gone.items c.args.task.0 c.args.self.now
    (ap (λ ts. record { code = c.self.inside.code.now; limits = c.self.inside.limits; core = core_of ts c.self.inside.objects c.self.inside.cells.buffers c.self.inside.arguments c.self.inside.root_end c.self.inside.steps c.self.inside.gone.items }) c.reserve-2.ensures.tasks ∙ c.self.view_is) c.requires.ready
    c.shared.new.self.tasks (ap (λ k. k.tasks) c.shared.ensures.rest) c.requires.shared c.shared.new.objects c.shared.new.cells.buffers c.shared.new.gone.items c.args.woken.now.items c.reserve.new.self.items c.shared.new.woken.items c.reserve.ensures.items
    c.in_ok-row.row c.in-Launches.stack c.push-in-Launches.new.self.tasks c.made.result c.push.new.self.items c.in-Launches.is (c.in_ok-row.ensures.row (core_of c.reserve-2.new.self.tasks c.self.inside.objects c.self.inside.cells.buffers c.self.inside.arguments c.self.inside.root_end c.self.inside.steps c.self.inside.gone.items) refl)
    c.made.ensures (ap (λ k. k.items) c.push.ensures) c.push-in-Launches.ensures

pub returns-in-Ends-clause-step : goal.returns-in-Ends-clause-step
returns-in-Ends-clause-step c =
    row_ends c.self.inside.code.now c.self.inside.limits c.reserve-2.new.self.tasks c.self.inside.objects c.self.inside.cells.buffers c.self.inside.arguments c.self.inside.root_end c.self.inside.steps c.self.inside.gone.items c.args.task.0 c.args.self.now
    (ap (λ ts. record { code = c.self.inside.code.now; limits = c.self.inside.limits; core = core_of ts c.self.inside.objects c.self.inside.cells.buffers c.self.inside.arguments c.self.inside.root_end c.self.inside.steps c.self.inside.gone.items }) c.reserve-2.ensures.tasks ∙ c.self.view_is) c.requires.ready
    c.shared.new.self.tasks (ap (λ k. k.tasks) c.shared.ensures.rest) c.requires.shared c.shared.new.objects c.shared.new.cells.buffers c.shared.new.gone.items c.args.woken.now.items c.reserve.new.self.items c.shared.new.woken.items c.reserve.ensures.items
    c.in_ok-row.row c.in-Ends.end c.set_end.new.root_end c.take_out.new.self.tasks c.in-Ends.is (c.in_ok-row.ensures.row (core_of c.reserve-2.new.self.tasks c.self.inside.objects c.self.inside.cells.buffers c.self.inside.arguments c.self.inside.root_end c.self.inside.steps c.self.inside.gone.items) refl)
    c.set_end.ensures (ap (λ k. k.tasks) c.take_out.ensures)
