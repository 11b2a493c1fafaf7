use Rattle.std.proofs.Common.{◌≡◌, inr, sym, rules, ap, length, ◌∙◌, arith}
use Rattle.std.specs.List.{filter}
use Rattle.async_objects.proofs.SlotLemmas.{has_count, length_swept}
use Rattle.std.proofs.lemmas.List.Elements.{filter_from_retain}
use Rattle.async_objects.proofs.slots.make_place.Goals as goal

pub returns-then-live-len-clause-slots : goal.returns-then-live-len-clause-slots
returns-then-live-len-clause-slots c = inr (filter_from_retain _ has_count (λ p x b q h. search rules) _ _ _ c.retain.ensures.filtered)

pub returns-then-live-len-clause-ok : goal.returns-then-live-len-clause-ok
returns-then-live-len-clause-ok c =
    let swept : c.retain.new.self.items ≡ filter has_count c.args.slots.now.items = filter_from_retain _ has_count (λ p x b q h. search rules) _ _ _ c.retain.ensures.filtered in
    let left : length c.retain.new.self.items ≡ c.args.live = ap length swept ∙ (length_swept c.args.slots.now.items ∙ sym c.requires) in
    omega (arith, left, c.retain.ensures.capacity, c.if-live-len.true, c.if-len-capacity.false, c.len.ensures, c.len-2.ensures, c.capacity.ensures)
