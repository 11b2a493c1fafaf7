use Rattle.std.proofs.Common.{IsSome, sym, arith}
use Rattle.std.proofs.lemmas.Grind.{common_steps}
use Rattle.task_stack.specs.Local.{operands}
use Rattle.task_stack.specs.Shared.{kept}
use Rattle.step_core.proofs.ObjectRows.{resume_await_goes}
use Rattle.step_core.proofs.shared_objects.await_and_resume.Goals as goal

pub returns-in-Ok-clause-row : goal.returns-in-Ok-clause-row
returns-in-Ok-clause-row c =
    let some : IsSome (kept c.args.stack.now) = grind (arith, common_steps) in
    λ l f rest w.
    resume_await_goes c.args.objects.now c.wait.new.objects rest w c.args.task c.args.stack.now c.become_copy.new.self l f c.args.instr.now (operands c.args.stack.now c.args.instr.now) c.in-Some.o c.in-Ok.parked c.become_copy.result
    (sym c.in-Some.ensures.value) c.in-Ok.ensures.waits.0 c.in-Ok.ensures.waits.1 some c.become_copy.ensures
