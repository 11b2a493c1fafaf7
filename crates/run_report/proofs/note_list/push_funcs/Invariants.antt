use Rattle.std.proofs.Common.{◌≡◌, ◌++◌, drop}
use Rattle.run_report.specs.Notes.{notes_in_funcs}
use Rattle.run_report.proofs.note_list.push_funcs.Given as goal

-- what stands there so far, and what is left, is the whole
abbrev pub invariant-loop-func : goal.invariant-loop-func
invariant-loop-func l = l.notes ++ notes_in_funcs (drop l.func-index l.funcs) ≡ l.initial.notes ++ notes_in_funcs l.funcs
