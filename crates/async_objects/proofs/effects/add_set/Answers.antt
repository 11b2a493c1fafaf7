use Rattle.std.proofs.Common.{◌≡◌, ◌+◌, length, sym, ap, subst, ◌∙◌, arith}
use Rattle.async_objects.specs.declared.object.Object.{Object}
use Rattle.async_objects.specs.Objects.{object_at, put, with_added}
use Rattle.async_objects.specs.Kept.{CanCount}
use Rattle.async_objects.specs.Sound.{awaiting}
use Rattle.async_objects.proofs.LoopLemmas.{numbered}
use Rattle.async_objects.proofs.SoundLemmas.{put_same, awaiting_same}
use Rattle.async_objects.proofs.effects.add_set.Goals as goal

pub count_down-requires-clause-counts : goal.count_down-requires-clause-counts
count_down-requires-clause-counts c =
    let y : Object = c.object_mut.result.now in
    let x : Object = record { kind = y.kind; state = y.state; payload = y.payload; awaiters = y.awaiters; memberships = y.memberships; members = c.add.new.self } in
    let is : x ≡ with_added (object_at c.args.slots.now.objects c.args.group) = ap (λ m. record { kind = y.kind; state = y.state; payload = y.payload; awaiters = y.awaiters; memberships = y.memberships; members = m }) c.add.ensures ∙ ap with_added c.object_mut.ensures.value in
    subst CanCount (sym (put_same c.args.slots.now.objects c.args.group x (numbered c.args.slots.now.objects c.args.slots.now.counts c.args.group.0 c.requires.known c.requires.there) ∙ is)) c.requires.counts

pub count_down-requires-clause-places : goal.count_down-requires-clause-places
count_down-requires-clause-places c =
    let y : Object = c.object_mut.result.now in
    let x : Object = record { kind = y.kind; state = y.state; payload = y.payload; awaiters = y.awaiters; memberships = y.memberships; members = c.add.new.self } in
    let same : awaiting (put c.args.slots.now.objects c.args.group x) ≡ awaiting c.args.slots.now.objects = awaiting_same c.args.slots.now.objects c.args.group x (ap (λ z. length z.awaiters) c.object_mut.ensures.value) in
    omega (arith, same, c.requires.places)

pub returns-clause-places : goal.returns-clause-places
returns-clause-places c =
    let y : Object = c.object_mut.result.now in
    let x : Object = record { kind = y.kind; state = y.state; payload = y.payload; awaiters = y.awaiters; memberships = y.memberships; members = c.add.new.self } in
    c.count_down.ensures.places ∙ ap (λ n. length c.args.spare.now + n) (awaiting_same c.args.slots.now.objects c.args.group x (ap (λ z. length z.awaiters) c.object_mut.ensures.value))
