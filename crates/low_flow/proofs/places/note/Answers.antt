use Rattle.std.proofs.Common.{◌<◌, length, rules}
use Rattle.low_flow.proofs.InverseLemmas.{placed}
use Rattle.low_flow.proofs.places.note.Goals as goal

pub returns-in_ok-add_last : goal.returns-in_ok-add_last
returns-in_ok-add_last c =
    let inside : c.args.number < length c.args.lists.now.items = search rules in
    placed c.args.place c.args.number c.args.lists.now.items c.index_mut.result.now c.add_last.new.places inside c.index_mut.ensures.value c.in_ok-add_last.ensures
