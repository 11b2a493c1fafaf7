use Rattle.std.proofs.Common.{ap}
use Rattle.source_state.proofs.Changes.{written_there, written_nowhere}
use Rattle.source_state.proofs.stores.write_cell.Goals as goal

pub returns-in-Some : goal.returns-in-Some
returns-in-Some c b = written_there c.args.buffers.now (c.get_mut.follows.lender c.set_cell.new.cells) c.args.name.now c.in-Some.cells.now c.set_cell.new.cells c.args.at c.args.number c.in-Some.ensures.value c.set_cell.ensures (c.get_mut.follows.holds _) b

pub returns-in_default : goal.returns-in_default
returns-in_default c b = written_nowhere c.args.buffers.now.entries _ c.args.name.now c.args.at c.args.number c.in_default.ensures.value (ap (λ m. m.entries) c.get_mut.follows.holds-at-none) b
