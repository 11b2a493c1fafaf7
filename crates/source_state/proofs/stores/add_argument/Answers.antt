use Rattle.std.proofs.Common.{◌≡◌, ◌∙◌, sym, subst}
use Rattle.source_meaning.specs.Start.{stored}
use Rattle.source_state.specs.Seen.{cells_of, found_before}
use Rattle.source_state.proofs.Loops.{argument_put}
use Rattle.source_state.proofs.stores.add_argument.Goals as goal

pub returns-in_ok-insert-in-Cells-clause-cells : goal.returns-in_ok-insert-in-Cells-clause-cells
returns-in_ok-insert-in-Cells-clause-cells c b =
    subst (λ a. cells_of c.insert.new.self.entries b ≡ found_before (stored c.args.at a) b (cells_of c.args.buffers.now.entries b)) (sym c.in-Cells.is)
    (argument_put c.args.buffers.now c.insert.new.self c.args.at c.in-Cells.dims _ c.in_ok-cells-in-Cells.cells (c.in_ok-cells-in-Cells.ensures ∙ c.as_slice.ensures) c.in_ok-insert-in-Cells.ensures.updates b)
