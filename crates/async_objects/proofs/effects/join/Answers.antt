use Rattle.std.proofs.Common.{◌≡◌, ◌<◌, ◌+◌, ◌-◌, ◌^◌, ℕ, List, sym, ap, subst, ◌∙◌, arith}
use Rattle.ir_forms.specs.declared.runs.ObjNo.{ObjNo}
use Rattle.async_objects.specs.declared.object.Object.{Object}
use Rattle.async_objects.specs.Objects.{object_at, put, with_added, with_membership}
use Rattle.async_objects.specs.Counts.{put_count, more, raised}
use Rattle.async_objects.specs.Slots.{Kept}
use Rattle.async_objects.proofs.ListLemmas.{err_always}
use Rattle.async_objects.proofs.SoundLemmas.{put_self, put_other, join_swap}
use Rattle.async_objects.proofs.effects.join.Goals as goal

pub returns-in_err-push-clause-err : goal.returns-in_err-push-clause-err
returns-in_err-push-clause-err c =
    let y : Object = c.object_mut.result.now in
    let k : Kept = c.args.slots.now in
    err_always c.from_residual.result
    (ap (λ ms. record { objects = put k.objects c.args.element (record { kind = y.kind; state = y.state; payload = y.payload; awaiters = y.awaiters; memberships = ms; members = y.members }); counts = k.counts; room = k.room }) c.in_err-push.ensures.err
    ∙ (ap (λ x. record { objects = put k.objects c.args.element x; counts = k.counts; room = k.room }) c.object_mut.ensures.value
    ∙ ap (λ xs. record { objects = xs; counts = k.counts; room = k.room }) (put_self k.objects c.args.element.0)))

pub add-requires : goal.add-requires
add-requires c =
    let same : c.object_mut-2.result.now ≡ object_at c.args.slots.now.objects c.args.group = c.object_mut-2.ensures.value ∙ put_other c.args.slots.now.objects c.args.element c.args.group _ c.requires.apart in
    subst (λ x. x.members.added < 2 ^ 64 - 1) (sym same) c.requires.added

pub returns-clause-ok : goal.returns-clause-ok
returns-clause-ok c =
    let objects : List Object = c.args.slots.now.objects in
    let counts : List ℕ = c.args.slots.now.counts in
    let e : ObjNo = c.args.element in
    let g : ObjNo = c.args.group in
    let y : Object = c.object_mut.result.now in
    let z : Object = c.object_mut-2.result.now in
    let x : Object = record { kind = y.kind; state = y.state; payload = y.payload; awaiters = y.awaiters; memberships = c.push.new.self; members = y.members } in
    let is_joined : x ≡ with_membership g (object_at objects e) = ap (λ ms. record { kind = y.kind; state = y.state; payload = y.payload; awaiters = y.awaiters; memberships = ms; members = y.members }) c.in_ok-push.ensures.ok ∙ ap (with_membership g) c.object_mut.ensures.value in
    let is_added : record { kind = z.kind; state = z.state; payload = z.payload; awaiters = z.awaiters; memberships = z.memberships; members = c.add.new.self } ≡ with_added (object_at (put objects e x) g) = ap (λ m. record { kind = z.kind; state = z.state; payload = z.payload; awaiters = z.awaiters; memberships = z.memberships; members = m }) c.add.ensures ∙ ap with_added c.object_mut-2.ensures.value in
    let number : c.count-count.result + 1 ≡ raised (more g 1) counts - 0 = omega (arith, c.count-count.ensures) in
    c.set_count.ensures ∙ (λ i. record {
      objects = (ap (λ v. put (put objects e x) g v) is_added ∙ (ap (λ v. put (put objects e v) g (with_added (object_at (put objects e v) g))) is_joined ∙ join_swap objects e g c.requires.apart)) i;
      counts = put_count counts g.0 (number i);
      room = c.args.slots.now.room;
    })
