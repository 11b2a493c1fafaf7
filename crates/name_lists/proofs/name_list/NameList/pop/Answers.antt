use Rattle.std.proofs.Common.{◌≡◌, ◌∙◌, sym, ap, rules}
use Rattle.name_lists.proofs.Firsts.{popped_mapped}
use Rattle.name_lists.proofs.name_list.NameList.pop.Goals as goal

pub invariant_of-self-then-place-self : goal.invariant_of-self-then-place-self
invariant_of-self-then-place-self g c = popped_mapped g.T.HasName.text c.pop.new.self c.self.inside.items c.in_ok-item.item c.self.inside.places c.leave.new.places c.self.inside.mapped c.len-place.result _ c.self.invariant (search rules) c.len-place.ensures (search rules) c.name.ensures c.leave.ensures
