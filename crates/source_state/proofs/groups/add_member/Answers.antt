use Rattle.std.proofs.Common.{refl, ap}
use Rattle.std.proofs.lemmas.Result.{on_ok_weaker}
use Rattle.source_state.specs.declared.groups.Group.{Group}
use Rattle.source_state.proofs.Changes.{added_there, added_nowhere}
use Rattle.source_state.proofs.groups.add_member.Goals as goal

pub returns-in-Some : goal.returns-in-Some
returns-in-Some c =
    let grown_group : Group = record { size = c.in-Some.group.now.size; members = c.push.new.self } in
    on_ok_weaker c.push.result (λ grown g. added_there c.args.groups.now (c.get_mut.follows.lender grown_group) c.args.name.now c.in-Some.group.now grown_group c.args.element c.in-Some.ensures.value refl grown (c.get_mut.follows.holds grown_group) g) c.push.ensures.ok

pub returns-in-None : goal.returns-in-None
returns-in-None c g = added_nowhere c.args.groups.now.entries c.get_mut.follows.lender-at-none.entries c.args.name.now c.args.element c.in-None.ensures.value (ap (λ m. m.entries) c.get_mut.follows.holds-at-none) g
