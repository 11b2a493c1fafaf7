use Rattle.std.proofs.Common.{◌≡◌, [], false, arith}
use Rattle.std.proofs.lemmas.Grind.{common_steps}
use Rattle.step_core.proofs.EndRows.{task_is_over}
use Rattle.step_core.proofs.shared_ends.finish.Goals as goal

pub returns : goal.returns
returns c =
    let below : c.args.stack.now.below ≡ [] = grind (arith, common_steps) in
    let root : c.args.stack.now.is_root ≡ false = grind (arith, common_steps) in
    λ l f s w t. task_is_over s w t c.args.stack.now (below, root)
