use Rattle.std.proofs.Common.{◌≡◌, ◌++◌, drop}
use Rattle.run_report.specs.Source.{steps_text}
use Rattle.run_report.proofs.source.push_steps.Given as goal

-- what stands there so far, and what is left, is the whole
abbrev pub invariant-loop-step : goal.invariant-loop-step
invariant-loop-step l = l.text.items ++ steps_text (drop l.step-index l.path) ≡ l.initial.text.items ++ steps_text l.path
