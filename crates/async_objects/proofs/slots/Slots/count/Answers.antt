use Rattle.std.proofs.Common.{◌∙◌, ap}
use Rattle.async_objects.specs.Slots.{count_in}
use Rattle.async_objects.proofs.ViewLemmas.{count_seen}
use Rattle.async_objects.proofs.slots.Slots.count.Goals as goal

pub returns : goal.returns
returns c = c.count_of.ensures ∙ (ap (λ xs. count_in xs c.args.o.0) c.as_slice.ensures.value ∙ count_seen c.self.inside.slots.items c.self.inside.made c.self.inside.room c.args.self.now c.self.view_is c.self.invariant.0 c.args.o.0)
