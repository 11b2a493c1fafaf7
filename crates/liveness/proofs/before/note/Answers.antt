use Rattle.std.proofs.Common.{◌<◌, length, rules}
use Rattle.liveness.proofs.FlowLemmas.{placed}
use Rattle.liveness.proofs.before.note.Goals as goal

pub returns-in_ok-add : goal.returns-in_ok-add
returns-in_ok-add c =
    let inside : c.args.to < length c.args.lists.now.items = search rules in
    placed c.args.from c.args.to c.args.lists.now.items c.index_mut.result.now c.add.new.list inside c.index_mut.ensures.value c.in_ok-add.ensures
