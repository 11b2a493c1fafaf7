use Rattle.std.proofs.Common.{◌≡◌, ◌≤◌, ◌<◌, ◌+◌, ◌++◌, false, cond, length, sym, ap, subst, ◌∙◌, arith, length-append}
use Rattle.async_objects.specs.declared.object.Object.{Object}
use Rattle.async_objects.specs.Objects.{object_at, put, is_done, with_awaiter, awaited}
use Rattle.async_objects.specs.Counts.{count_at}
use Rattle.async_objects.specs.Sound.{awaiting}
use Rattle.async_objects.specs.Tables.{Table, with_objects}
use Rattle.async_objects.proofs.SoundLemmas.{awaiting_at}
use Rattle.async_objects.proofs.TableLemmas.{like_keeps}
use Rattle.async_objects.proofs.objects.Objects.await_on.Goals as goal

pub add_last-requires : goal.add_last-requires
add_last-requires c =
    let most : length (object_at c.self.inside.slots.objects c.args.o).awaiters ≤ awaiting c.self.inside.slots.objects = awaiting_at c.self.inside.slots.objects c.args.o.0 in
    let are : length c.object_mut.result.now.awaiters ≡ length (object_at c.self.inside.slots.objects c.args.o).awaiters = ap (λ x. length x.awaiters) c.object_mut.ensures.value in
    let one : length c.in_ok-place.place ≡ 1 = ap length c.in_ok-place.ensures.place in
    omega (arith, most, are, one, c.self.invariant.2, c.self.invariant.4)

pub invariant_of-self-2 : goal.invariant_of-self-2
invariant_of-self-2 c =
    let y : Object = c.object_mut.result.now in
    let one : length c.in_ok-place.place ≡ 1 = ap length c.in_ok-place.ensures.place in
    let grew : length c.add_last.new.awaiters ≡ length y.awaiters + length c.in_ok-place.place = ap length c.add_last.ensures ∙ length-append y.awaiters c.in_ok-place.place in
    like_keeps c.self.inside.slots c.self.inside.limit c.self.inside.waiters c.self.inside.places c.take_place.new.places (length c.self.inside.spare) (length c.take_place.new.spare) c.args.o y y.payload c.add_last.new.awaiters c.self.invariant
    (subst (λ t. 0 < count_at t.counts c.args.o.0) (sym c.self.view_is) c.requires) c.object_mut.ensures.value (omega (arith, one, grew, c.in_ok-place.ensures.spare)) c.in_ok-place.ensures.places.0 c.in_ok-place.ensures.places.1

pub returns-clause-awaited : goal.returns-clause-awaited
returns-clause-awaited c =
    let y : Object = c.object_mut.result.now in
    let undone : is_done (object_at c.self.inside.slots.objects c.args.o) ≡ false = ap is_done (sym c.object.ensures) ∙ (sym c.is_done.ensures ∙ c.if-is_done.false) in
    let is : record { kind = y.kind; state = y.state; payload = y.payload; awaiters = c.add_last.new.awaiters; memberships = y.memberships; members = y.members } ≡ with_awaiter c.args.task (object_at c.self.inside.slots.objects c.args.o) =
    ap (λ a. record { kind = y.kind; state = y.state; payload = y.payload; awaiters = a; memberships = y.memberships; members = y.members }) (c.add_last.ensures ∙ ap (λ p. y.awaiters ++ p) c.in_ok-place.ensures.place) ∙ ap (with_awaiter c.args.task) c.object_mut.ensures.value in
    let all_of : put c.self.inside.slots.objects c.args.o (record { kind = y.kind; state = y.state; payload = y.payload; awaiters = c.add_last.new.awaiters; memberships = y.memberships; members = y.members }) ≡ awaited c.args.o c.args.task c.self.inside.slots.objects =
    ap (put c.self.inside.slots.objects c.args.o) is ∙ ap (λ b. cond b c.self.inside.slots.objects (put c.self.inside.slots.objects c.args.o (with_awaiter c.args.task (object_at c.self.inside.slots.objects c.args.o)))) (sym undone) in (
      ap (λ t. is_done (object_at t.objects c.args.o)) (sym c.self.view_is) ∙ undone,
      ap (λ xs. let t : Table = record { limit = c.self.inside.limit; room = c.self.inside.slots.room; waiters = c.self.inside.waiters; objects = xs; counts = c.self.inside.slots.counts } in t) all_of ∙ ap (λ t. with_objects (awaited c.args.o c.args.task t.objects) t) c.self.view_is,
    )
