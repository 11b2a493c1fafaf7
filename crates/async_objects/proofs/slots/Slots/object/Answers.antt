use Rattle.std.proofs.Common.{◌<◌, length, ap, subst, ◌∙◌}
use Rattle.async_objects.specs.Slots.{place_in}
use Rattle.async_objects.proofs.ViewLemmas.{slot_at, there, object_reads}
use Rattle.async_objects.proofs.slots.Slots.object.Goals as goal

pub place_of-at-requires-clause-there : goal.place_of-at-requires-clause-there
place_of-at-requires-clause-there c = rw c.as_slice.ensures.value (there c.self.inside.slots.items c.self.inside.made c.self.inside.room c.args.self.now c.self.view_is c.args.o.0 c.requires)

pub returns : goal.returns
returns c = object_reads c.self.inside.slots.items c.self.inside.made c.self.inside.room c.args.self.now c.self.view_is c.args.o.0 c.place_of-at.result (c.place_of-at.ensures.place ∙ ap (λ xs. place_in xs c.args.o.0) c.as_slice.ensures.value) c.index.result.now (slot_at c.self.inside.slots.items c.place_of-at.result c.index.result.now (subst (λ xs. c.place_of-at.result < length xs) c.as_slice.ensures.value c.place_of-at.ensures.within) c.index.ensures) c.requires
