use Rattle.std.proofs.Common.{◌≡◌, ◌≤◌, ◌++◌, true, length, sym, ap, ◌∙◌, arith}
use Rattle.std.proofs.lemmas.Grind.{common_steps}
use Rattle.async_objects.specs.Objects.{object_at, is_open, set_to}
use Rattle.async_objects.specs.Counts.{freed, live, set_changes}
use Rattle.async_objects.specs.Sound.{awaiting}
use Rattle.task_stack.specs.Local.{operands}
use Rattle.task_stack.specs.Registers.{value}
use Rattle.step_core.proofs.SetBounds.{set_wakes, set_frees, can_set}
use Rattle.step_core.proofs.SetRows.{set_goes}
use Rattle.step_core.proofs.shared_objects.set.Goals as goal

pub set-requires-clause-woken : goal.set-requires-clause-woken
set-requires-clause-woken c =
    let most : length (set_to c.args.state c.in-Some.o c.args.objects.now.objects).tasks ≤ awaiting c.args.objects.now.objects = set_wakes c.args.state c.in-Some.o c.args.objects.now.objects in
    let room : awaiting c.args.objects.now.objects ≤ c.reserve_woken.new.woken.room = grind (arith, common_steps) in
    omega (arith, most, room)

pub set-requires-clause-gone : goal.set-requires-clause-gone
set-requires-clause-gone c =
    let opened : is_open (object_at c.args.objects.now.objects c.in-Some.o) ≡ true = grind (arith, common_steps) in
    let most : length (freed (set_changes c.in-Some.o c.args.objects.now.objects) c.args.objects.now.counts) ≤ live c.args.objects.now.counts =
    set_frees c.args.objects.now.objects c.args.objects.now.counts c.in-Some.o c.live.ensures.sound.0 opened c.in-Some.ensures.there in
    let room : c.live.result ≤ c.reserve.new.self.room = grind (arith, common_steps) in
    omega (arith, most, room, c.live.ensures.live)

pub returns-clause-row : goal.returns-clause-row
returns-clause-row c =
    let opened : is_open (object_at c.args.objects.now.objects c.in-Some.o) ≡ true = grind (arith, common_steps) in
    λ rest t.
    set_goes c.args.state (value (operands c.args.stack.now c.args.instr.now) 0) c.args.objects.now c.set.new.self c.args.gone.now.items c.set.new.gone.items rest c.args.woken.now.items c.set.new.woken.items t c.args.stack.now c.pass.new.self
    c.in-Some.o (sym c.in-Some.ensures.value) opened (can_set c.args.objects.now.objects c.args.objects.now.counts c.in-Some.o c.live.ensures.sound.0 opened c.in-Some.ensures.there) c.set.ensures.table
    (ap (λ r. r.items) c.set.ensures.gone ∙ ap (λ xs. xs ++ freed (set_changes c.in-Some.o c.args.objects.now.objects) c.args.objects.now.counts) c.reserve.ensures.items)
    (ap (λ r. r.items) c.set.ensures.woken ∙ ap (λ xs. xs ++ (set_to c.args.state c.in-Some.o c.args.objects.now.objects).tasks) c.reserve_woken.ensures.items)
    c.pass.ensures
