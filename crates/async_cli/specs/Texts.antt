-- The text and the status of a run's end. Each line ends with a newline.
pub use Rattle.run_report.specs.Texts.{between, numbered}
use Rattle.std.specs.Prelude.{ℕ, if◌then◌else◌, List, [], ◌++◌, length, Some, None, codes}
use Rattle.step_core.specs.declared.ends.Counts.{Counts}
use Rattle.step_core.specs.declared.ends.End.{End}
use Rattle.step_core.specs.declared.ends.End.TheVariants.{Done, Failed}
use Rattle.step_core.specs.declared.ends.Entry.{Entry}
use Rattle.run_journal.specs.Lines.{journal_lines}
use Rattle.run_report.specs.declared.note_list.Note.{Note}
use Rattle.run_report.specs.Ends.{end_text}
use Rattle.async_cli.specs.declared.words.Flags.{Flags}

abbrev pub end_status : End → ℕ
end_status (Done results buffers) = 0
end_status (Failed op) = 1

-- the text of a run's end, with what the flags ask for
abbrev pub run_text : List Note → Flags → End → Counts → List Entry → List ℕ
run_text notes flags end counts journal =
    end_text notes end counts (if flags.steps then Some (length journal) else None)
    ++ (if flags.journal then codes "-- journal\n" ++ journal_lines journal else [])
