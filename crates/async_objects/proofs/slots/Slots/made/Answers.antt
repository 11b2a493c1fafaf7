use Rattle.std.proofs.Common.{◌∙◌, sym, ap, length}
use Rattle.async_objects.specs.Slots.{object_in}
use Rattle.async_objects.proofs.ListLemmas.{listed_length}
use Rattle.async_objects.proofs.slots.Slots.made.Goals as goal

pub returns : goal.returns
returns c = sym (listed_length c.self.inside.made (object_in c.self.inside.slots.items)) ∙ ap (λ k. length k.objects) c.self.view_is
