use Rattle.std.proofs.Common.{◌≡◌, ◌++◌, drop}
use Rattle.run_report.specs.Texts.{buffer_lines}
use Rattle.run_report.proofs.texts.push_buffers.Given as goal

-- what stands there so far, and what is left, is the whole
abbrev pub invariant-loop-buffer : goal.invariant-loop-buffer
invariant-loop-buffer l = l.text.items ++ buffer_lines (drop l.buffer-index l.buffers) ≡ l.initial.text.items ++ buffer_lines l.buffers
