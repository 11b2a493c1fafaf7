use Rattle.std.proofs.Common.{◌≡◌, ◌++◌, map, drop}
use Rattle.run_report.specs.Notes.{joined, notes_at, notes_in}
use Rattle.run_report.proofs.note_list.+note_list.Given as goal

-- what stands there so far, and what is left, is the whole
abbrev pub invariant-push_inside-loop-op : goal.invariant-push_inside-loop-op
invariant-push_inside-loop-op l = l.notes ++ joined (map notes_at (drop l.op-index l.op-items)) ≡ l.initial.notes ++ notes_in l.region

abbrev pub invariant-push_at-loop-region : goal.invariant-push_at-loop-region
invariant-push_at-loop-region l = l.notes ++ joined (map notes_in (drop l.region-index l.region-items)) ≡ l.fn.notes ++ notes_at l.op
