-- A call pushes a frame.
use Rattle.std.proofs.Common.{sym, arith}
use Rattle.std.proofs.lemmas.Grind.{common_steps}
use Rattle.task_stack.proofs.Calls.{call_done}
use Rattle.task_stack.proofs.stack.Stack.call.Goals as goal

pub returns-clause-step : goal.returns-clause-step
returns-clause-step c =
    call_done c.args.code.now c.args.instr.now.attr c.in-Callee.no c.in-Some.func.now _ c.args.self.now c.self.inside.is_root c.self.inside.top c.replace-caller.new.dest c.self.inside.below.items c.push_reserved.new.self.items
    (sym c.self.view_is) (search) (grind (arith, common_steps)) (grind (arith, common_steps)) (grind (arith, common_steps)) (grind (arith, common_steps))
