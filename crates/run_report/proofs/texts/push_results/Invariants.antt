use Rattle.std.proofs.Common.{◌≡◌, ◌++◌, drop}
use Rattle.run_report.specs.Texts.{result_lines}
use Rattle.run_report.proofs.texts.push_results.Given as goal

-- the lines so far, and those of the results left, are all
abbrev pub invariant-loop-index : goal.invariant-loop-index
invariant-loop-index l = l.text.items ++ result_lines l.index (drop l.index l.outs) ≡ l.initial.text.items ++ result_lines 0 l.outs
