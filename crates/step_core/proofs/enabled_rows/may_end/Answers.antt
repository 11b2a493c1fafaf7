use Rattle.step_core.proofs.EnabledLemmas.{only_is}
use Rattle.step_core.proofs.enabled_rows.may_end.Goals as goal

pub returns : goal.returns
returns c = only_is c.is_only_frame.result c.args.stack.now.below c.args.stack.now.is_root c.args.of_root c.is_only_frame.ensures
