use Rattle.std.proofs.Common.{◌≡◌, drop}
use Rattle.run_report.specs.Messages.{message_in_funcs}
use Rattle.run_report.proofs.messages.message_in_funcs.Given as goal

abbrev pub invariant-loop-func : goal.invariant-loop-func
invariant-loop-func l = message_in_funcs l.number (drop l.func-index l.funcs) ≡ message_in_funcs l.number l.funcs
