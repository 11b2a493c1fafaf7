use Rattle.std.proofs.Common.{◌≡◌, drop}
use Rattle.run_report.specs.Notes.{message_of}
use Rattle.run_report.proofs.note_list.Notes.message.Given as goal

-- none of the notes so far has this number
abbrev pub invariant-loop-note : goal.invariant-loop-note
invariant-loop-note l = message_of (drop l.note-index l.note-items) l.op ≡ message_of l.note-items l.op
