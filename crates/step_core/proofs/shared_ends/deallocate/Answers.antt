use Rattle.task_stack.specs.Local.{operands}
use Rattle.step_core.proofs.EndRows.{passes}
use Rattle.step_core.proofs.shared_ends.deallocate.Goals as goal

pub returns : goal.returns
returns c = λ l f s w t. passes s w t c.args.stack.now c.pass.new.self c.pass.ensures l f c.args.instr.now (operands c.args.stack.now c.args.instr.now)
