use Rattle.std.proofs.Common.{sym}
use Rattle.task_stack.specs.Local.{operands}
use Rattle.task_stack.specs.Registers.{value}
use Rattle.task_stack.specs.Shared.{passed}
use Rattle.step_core.proofs.ObjectRows.{await_goes}
use Rattle.step_core.proofs.shared_objects.await_object.Goals as goal

pub returns-in-Ok-clause-row : goal.returns-in-Ok-clause-row
returns-in-Ok-clause-row c = λ rest w.
    await_goes c.args.objects.now c.wait.new.objects rest w c.args.task c.args.stack.now c.pass.new.self (value (operands c.args.stack.now c.args.instr.now) 0) c.in-Some.o c.in-Ok.parked (passed c.args.stack.now)
    (sym c.in-Some.ensures.value) c.in-Ok.ensures.waits.0 c.in-Ok.ensures.waits.1 c.pass.ensures
