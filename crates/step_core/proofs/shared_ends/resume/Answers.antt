use Rattle.std.proofs.Common.{IsSome, arith}
use Rattle.std.proofs.lemmas.Grind.{common_steps}
use Rattle.task_stack.specs.Local.{operands}
use Rattle.task_stack.specs.Shared.{kept}
use Rattle.step_core.proofs.EndRows.{resume_goes}
use Rattle.step_core.proofs.shared_ends.resume.Goals as goal

pub returns : goal.returns
returns c =
    let some : IsSome (kept c.args.stack.now) = grind (arith, common_steps) in
    λ f s w t live.
    resume_goes c.args.limits f c.args.instr.now (operands c.args.stack.now c.args.instr.now) s w t c.args.stack.now c.resume.new.self c.args.live c.resume.result c.in-Some.copy c.in-Some.is live some c.if-live-limits.false c.resume.ensures
