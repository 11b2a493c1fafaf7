use Rattle.std.proofs.Common.{◌∙◌, sym, ap}
use Rattle.step_core.specs.State.{cells_used}
use Rattle.step_core.proofs.CellLemmas.{cells_set}
use Rattle.step_core.proofs.cells.Cells.set.Goals as goal

pub invariant_of-self : goal.invariant_of-self
invariant_of-self c =
    (c.self.invariant.0 ∙ sym (ap cells_used c.set_in.ensures.cell ∙ cells_set c.self.inside.buffers.items c.args.buffer c.args.cell c.args.n), c.self.invariant.1)
