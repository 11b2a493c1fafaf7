use Rattle.task_stack.specs.Shared.{kept}
use Rattle.step_core.proofs.EnabledLemmas.{copy_is}
use Rattle.step_core.proofs.enabled_rows.may_resume.Goals as goal

pub returns : goal.returns
returns c = copy_is c.has_copy.result (kept c.args.stack.now) c.has_copy.ensures
