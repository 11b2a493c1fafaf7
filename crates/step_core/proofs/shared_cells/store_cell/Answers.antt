use Rattle.std.proofs.Common.{drop, slice_set, ap, ◌∙◌}
use Rattle.task_stack.specs.Local.{operands}
use Rattle.task_stack.specs.Registers.{value}
use Rattle.step_core.specs.Shared.{numbers}
use Rattle.step_core.specs.Cells.{cells_in}
use Rattle.step_core.proofs.CellRows.{store_goes, named_holds}
use Rattle.step_core.proofs.shared_cells.store_cell.Goals as goal

pub returns : goal.returns
returns c = λ l f rest w t.
    let held = named_holds (value (operands c.args.stack.now c.args.instr.now) 1) (numbers (drop 2 (operands c.args.stack.now c.args.instr.now))) c.args.cells.now.buffers c.in-Some.buffer c.in-Some.cell c.in-Some.ensures in
    store_goes l f c.args.instr.now (operands c.args.stack.now c.args.instr.now) c.args.cells.now.buffers c.set.new.self.buffers rest w t c.args.stack.now c.pass.new.self
    c.in-Some.buffer c.in-Some.cell held.0 c.in-Some.ensures held.1
    (ap (λ k. k.buffers) c.set.ensures ∙ ap (λ n. slice_set c.args.cells.now.buffers c.in-Some.buffer (slice_set (cells_in c.args.cells.now.buffers c.in-Some.buffer) c.in-Some.cell n)) c.number.ensures)
    c.pass.ensures
