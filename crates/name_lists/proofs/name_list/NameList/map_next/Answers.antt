use Rattle.std.proofs.Common.{rules, add-one}
use Rattle.name_lists.proofs.Firsts.{mapped_next}
use Rattle.name_lists.proofs.name_list.NameList.map_next.Goals as goal

pub invariant_of-self-then-self-items : goal.invariant_of-self-then-self-items
invariant_of-self-then-self-items g c = mapped_next g.T.HasName.text c.self.inside.items c.index-items-self.result c.self.inside.places c.enter.new.places c.self.inside.mapped _ c.name-name.result.now c.self.invariant (search rules) (add-one _) (search rules) (search rules) c.in_ok-enter.ensures.ok
