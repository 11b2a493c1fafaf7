use Rattle.std.proofs.Common.{◌≡◌, ◌++◌, drop}
use Rattle.run_report.specs.Texts.{more_listed}
use Rattle.run_report.proofs.texts.push_more.Given as goal

-- what stands there so far, and what is left, is the whole
abbrev pub invariant-loop-out : goal.invariant-loop-out
invariant-loop-out l = l.text.items ++ more_listed (drop l.out-index l.outs) ≡ l.initial.text.items ++ more_listed l.outs
