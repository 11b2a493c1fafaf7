use Rattle.std.proofs.Common.{◌≡◌, ◌%◌, ◌^◌, [], true, ap, arith}
use Rattle.std.proofs.lemmas.Grind.{common_steps}
use Rattle.step_core.specs.declared.ends.RootEnd.TheVariants.{FailedAt}
use Rattle.task_stack.specs.Local.{operands}
use Rattle.task_stack.specs.Registers.{number}
use Rattle.step_core.proofs.EndRows.{root_is_over}
use Rattle.step_core.proofs.shared_ends.fail_root.Goals as goal

pub returns : goal.returns
returns c =
    let below : c.args.stack.now.below ≡ [] = grind (arith, common_steps) in
    let root : c.args.stack.now.is_root ≡ true = grind (arith, common_steps) in
    λ l f s w t. root_is_over s w t c.args.stack.now (FailedAt (c.number.result % 2 ^ 32)) (FailedAt (number (operands c.args.stack.now c.args.instr.now) 0 % 2 ^ 32)) (ap (λ n. FailedAt (n % 2 ^ 32)) c.number.ensures) (below, root)
