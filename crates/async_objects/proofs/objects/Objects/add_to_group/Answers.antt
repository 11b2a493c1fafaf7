use Rattle.std.proofs.Common.{◌≡◌, ◌<◌, true, false, cond, length, sym, ap, subst, ◌∙◌}
use Rattle.std.proofs.lemmas.Bool.{true≢false}
use Rattle.async_objects.specs.Objects.{object_at, is_group, is_unset, takes_more}
use Rattle.async_objects.specs.Counts.{count_at}
use Rattle.async_objects.specs.Kept.{IsFilled}
use Rattle.async_objects.proofs.SetLemmas.{ok_holds}
use Rattle.async_objects.proofs.TableLemmas.{is_filled, apart, join_keeps, added_keeps}
use Rattle.async_objects.proofs.objects.Objects.add_to_group.Goals as goal
use Rattle.async_objects.proofs.objects.Objects.add_to_group.Goals.{in-Unset, in_default}

pub rank-requires : goal.rank-requires
rank-requires c = subst IsFilled (sym c.object.ensures) (is_filled c.self.inside.slots c.args.group c.self.invariant.0.0 (subst (λ t. is_group (object_at t.objects c.args.group).kind ≡ true) (sym c.self.view_is) c.requires.grouped))

pub invariant_of-self : goal.invariant_of-self
invariant_of-self c =
    added_keeps c.self.inside.slots c.add_set.new.slots c.self.inside.limit c.self.inside.waiters c.self.inside.places (length c.self.inside.spare) (length c.add_set.new.spare) c.args.group c.is_error.result c.self.invariant
    (subst (λ t. 0 < count_at t.counts c.args.group.0) (sym c.self.view_is) c.requires.group) (ap takes_more (sym c.object.ensures) ∙ c.in_ok-rank.ensures.rank.1) c.add_set.ensures.slots c.add_set.ensures.places

pub invariant_of-self-2 : goal.invariant_of-self-2
invariant_of-self-2 c =
    join_keeps c.self.inside.slots c.join.new.slots c.self.inside.limit c.self.inside.waiters c.self.inside.places (length c.self.inside.spare) c.args.element c.args.group c.self.invariant
    (subst (λ t. 0 < count_at t.counts c.args.element.0) (sym c.self.view_is) c.requires.element) (subst (λ t. 0 < count_at t.counts c.args.group.0) (sym c.self.view_is) c.requires.group) (ap takes_more (sym c.object.ensures) ∙ c.in_ok-rank.ensures.rank.1)
    (ap (λ b. cond b false (is_unset (object_at c.self.inside.slots.objects c.args.element).state)) (subst (λ t. is_group (object_at t.objects c.args.element).kind ≡ false) (sym c.self.view_is) c.requires.single)
    ∙ elim c.match-matches.branch [ in-Unset w ↦ ap (λ x. is_unset x.state) (sym c.object-2.ensures) ∙ ap is_unset w.in-Unset.is | in_default w ↦ absurd (true≢false (sym c.if-not-matches.false ∙ w.matches-is)) ])
    (apart c.self.inside.slots.objects c.args.group c.args.element (subst (λ t. is_group (object_at t.objects c.args.group).kind ≡ true) (sym c.self.view_is) c.requires.grouped) (subst (λ t. is_group (object_at t.objects c.args.element).kind ≡ false) (sym c.self.view_is) c.requires.single))
    (ok_holds c.join.result (sym c.is_err.ensures.value ∙ c.if-is_err.false) c.join.ensures.ok)
