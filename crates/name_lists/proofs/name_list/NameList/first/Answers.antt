use Rattle.std.proofs.Common.{◌≡◌, ◌∙◌, sym, ap, rules}
use Rattle.name_lists.proofs.Firsts.{first_here, none_here, first_mapped, first_unmapped, none_in_all}
use Rattle.name_lists.proofs.name_list.NameList.first.Goals as goal

pub returns-in-Some : goal.returns-in-Some
returns-in-Some g c = first_mapped g.T.HasName.text _ _ c.self.inside.places c.self.inside.mapped _ c.args.name.now c.self.invariant (search rules) (search rules)

pub returns-then-eq : goal.returns-then-eq
returns-then-eq g c = search (rules, first_here)

pub loop-place-preserved : goal.loop-place-preserved
loop-place-preserved g c = search (rules, none_here)

pub returns : goal.returns
returns g c = search (rules, none_in_all)
