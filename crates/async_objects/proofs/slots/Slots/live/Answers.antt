use Rattle.std.proofs.Common.{◌∙◌, sym, ap}
use Rattle.async_objects.specs.Counts.{live}
use Rattle.async_objects.proofs.SlotLemmas.{live_listed}
use Rattle.async_objects.proofs.slots.Slots.live.Goals as goal

pub returns : goal.returns
returns c = c.self.invariant.2 ∙ (sym (live_listed 0 c.self.inside.made c.self.inside.slots.items c.self.invariant.0) ∙ ap (λ k. live k.counts) c.self.view_is)
