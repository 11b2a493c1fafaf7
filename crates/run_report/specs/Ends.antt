-- The text of a run's end. Each line ends with a newline.
use Rattle.std.specs.Prelude.{ℕ, List, [], ◌++◌, Option, Some, None, codes}
use Rattle.step_core.specs.declared.ends.Counts.{Counts}
use Rattle.step_core.specs.declared.ends.End.{End}
use Rattle.step_core.specs.declared.ends.End.TheVariants.{Done, Failed}
use Rattle.run_report.specs.declared.note_list.Note.{Note}
use Rattle.run_report.specs.Notes.{message_of}
use Rattle.run_report.specs.Texts.{numbered, result_lines, buffer_lines, failed_line}

-- what the root returned and the cells of its buffers, or where it failed and why
abbrev pub end_lines : List Note → End → List ℕ
end_lines notes (Done results buffers) = result_lines 0 results ++ buffer_lines buffers
end_lines notes (Failed op) = failed_line op (message_of notes op)

-- what a run made: tasks beside the root, and objects
abbrev pub made_line : ℕ → ℕ → List ℕ
made_line tasks objects = numbered (codes "tasks ") tasks (numbered (codes ", objects ") objects (codes "\n"))

abbrev pub steps_line : ℕ → ℕ → List ℕ
steps_line steps entries = numbered (codes "steps ") steps (numbered (codes ", entries ") entries (codes "\n"))

-- the line of steps is there where the number of entries is told
abbrev pub asked_steps : ℕ → Option ℕ → List ℕ
asked_steps steps None = []
asked_steps steps (Some entries) = steps_line steps entries

-- The text of a run's end: the end itself, what the run made, and its steps where they are asked for.
abbrev pub end_text : List Note → End → Counts → Option ℕ → List ℕ
end_text notes end counts entries = end_lines notes end ++ made_line counts.tasks counts.objects ++ asked_steps counts.steps entries
