use Rattle.race_order.proofs.Entries.{inserts}
use Rattle.race_order.proofs.table.Table.set.Goals as goal

pub returns : goal.returns
returns c = λ other. rw c.in_ok-insert.ensures.entries (inserts c.args.self.now.entries.entries c.args.key c.args.number other)
