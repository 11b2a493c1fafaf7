-- The status and the text of a sequential run.
use Rattle.std.specs.Prelude.{ℕ, List, [], ◌∷◌, ◌++◌, if◌then◌else◌, Bool, true, false, Option, Some, None, slice_get, codes, decimal}
use Rattle.ir_forms.specs.declared.names.Action.{Action}
use Rattle.ir_forms.specs.declared.names.Action.TheVariants.{Read, Write, Add}
use Rattle.ir_forms.specs.declared.names.MadeName.{MadeName}
use Rattle.ir_forms.specs.declared.names.MadeName.TheVariants.{Argument, Made}
use Rattle.ir_forms.specs.declared.names.TraceEntry.{TraceEntry}
use Rattle.ir_forms.specs.declared.ops.Module.{Module}
use Rattle.ir_forms.specs.Names.{Path}
use Rattle.source_meaning.specs.declared.ends.SourceEnd.{SourceEnd}
use Rattle.source_meaning.specs.declared.ends.SourceEnd.TheVariants.{Done, Failed, Short, Overfull, Cells, Spent}
use Rattle.run_report.specs.Texts.{between, numbered, result_lines, buffer_lines, failed_line}
use Rattle.run_report.specs.Messages.{note_at}

-- ---- names

-- each step behind a dot
abbrev pub steps_text : Path → List ℕ
steps_text [] = []
steps_text (k ∷ path) = codes "." ++ decimal k ++ steps_text path

abbrev pub path_text : Path → List ℕ
path_text path = codes "root" ++ steps_text path

-- a parameter's buffer, or what a task made by its action of this number
abbrev pub made_text : MadeName → List ℕ
made_text (Argument j) = codes "arg" ++ decimal j
made_text (Made path k) = path_text path ++ codes ":" ++ decimal k

-- ---- a race

abbrev pub use_text : Bool → List ℕ
use_text used = if used then codes " used" else codes " unused"

-- an action that can be in a race
abbrev pub action_text : Action → List ℕ
action_text (Read b i) = between (codes "read ") (made_text b) (numbered (codes "[") i (codes "]"))
action_text (Write b i) = between (codes "write ") (made_text b) (numbered (codes "[") i (codes "]"))
action_text (Add g x used) = between (codes "add ") (made_text g) (use_text used)
action_text _ = []

abbrev pub entry_line : ℕ → Option TraceEntry → List ℕ
entry_line i None = []
entry_line i (Some e) = numbered (codes "entry ") i (codes ": task ") ++ path_text e.task ++ codes " " ++ action_text e.action ++ codes "\n"

abbrev pub race_line : ℕ → ℕ → List ℕ
race_line i j = numbered (codes "race: entries ") i (numbered (codes " and ") j (codes "\n"))

abbrev pub race_text : List TraceEntry → ℕ → ℕ → List ℕ
race_text trace i j = race_line i j ++ entry_line i (slice_get trace i) ++ entry_line j (slice_get trace j)

-- ---- an end

abbrev pub group_line : MadeName → List ℕ → List ℕ
group_line g rest = codes "stopped: group " ++ made_text g ++ rest

-- the text of an end, where no race is found
abbrev pub end_text : Module → SourceEnd → List ℕ
end_text program (Done results buffers) = result_lines 0 results ++ buffer_lines buffers ++ codes "race: none\n"
end_text program (Failed op) = failed_line op (note_at program op) ++ codes "race: none\n"
end_text program (Short g added size) = group_line g (numbered (codes " has ") added (numbered (codes " of ") size (codes " elements\n")))
end_text program (Overfull g size) = group_line g (numbered (codes " is full at ") size (codes "\n"))
end_text program (Cells used) = numbered (codes "stopped: cells ") used (codes "\n")
end_text program (Spent fuel) = numbered (codes "stopped: fuel ") fuel (codes "\n")

abbrev pub end_status : SourceEnd → ℕ
end_status (Done results buffers) = 0
end_status (Failed op) = 1
end_status (Short g added size) = 4
end_status (Overfull g size) = 5
end_status (Cells used) = 5
end_status (Spent fuel) = 6

-- the end is the root's; any other comes before a race
abbrev pub has_ended : SourceEnd → Bool
has_ended (Done results buffers) = true
has_ended (Failed op) = true
has_ended _ = false

-- what is told of a race, or of the end where there is none
abbrev pub status_beside : SourceEnd → Option (ℕ × ℕ) → ℕ
status_beside end None = end_status end
status_beside end (Some race) = 10

abbrev pub text_beside : Module → SourceEnd → List TraceEntry → Option (ℕ × ℕ) → List ℕ
text_beside program end trace None = end_text program end
text_beside program end trace (Some race) = race_text trace race.0 race.1

-- The status of a run with this first race.
abbrev pub source_status : SourceEnd → Option (ℕ × ℕ) → ℕ
source_status end race = if has_ended end then status_beside end race else end_status end

-- Its text.
abbrev pub source_text : Module → SourceEnd → List TraceEntry → Option (ℕ × ℕ) → List ℕ
source_text program end trace race = if has_ended end then text_beside program end trace race else end_text program end
