use Rattle.std.proofs.Common.{◌≡◌, [], true, ap, arith}
use Rattle.std.proofs.lemmas.Grind.{common_steps}
use Rattle.step_core.specs.declared.ends.RootEnd.TheVariants.{Returned}
use Rattle.step_core.specs.Shared.{outs}
use Rattle.task_stack.specs.Local.{operands}
use Rattle.step_core.proofs.EndRows.{root_is_over}
use Rattle.step_core.proofs.shared_ends.end_root.Goals as goal

pub returns-in-Ok : goal.returns-in-Ok
returns-in-Ok c =
    let below : c.args.stack.now.below ≡ [] = grind (arith, common_steps) in
    let root : c.args.stack.now.is_root ≡ true = grind (arith, common_steps) in
    λ l s w t. root_is_over s w t c.args.stack.now (Returned c.in-Ok.results) (Returned (outs c.args.func.now.results (operands c.args.stack.now c.args.instr.now))) (ap Returned c.in-Ok.ensures) (below, root)
