use Rattle.std.proofs.Common.{refl, sym}
use Rattle.task_stack.specs.Local.{operands}
use Rattle.step_core.proofs.RowLemmas.{given}
use Rattle.step_core.proofs.CellRows.{load_goes}
use Rattle.step_core.proofs.shared_cells.load_cell.Goals as goal

pub returns-in-Some-get-clause-row : goal.returns-in-Some-get-clause-row
returns-in-Some-get-clause-row c =
    given c.give.result _ _ c.give.ensures.ok (λ gives l f rest w t.
    load_goes l f c.args.instr.now (operands c.args.stack.now c.args.instr.now) c.args.cells.now.buffers c.args.cells.now.buffers rest w t c.args.stack.now c.give.new.stack
    c.in-Some.buffer c.in-Some.cell c.in-Some-get.number c.in-Some.ensures (sym c.in-Some-get.ensures) refl gives)
