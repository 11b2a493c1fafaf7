-- Laws of the messages of operations.
use Rattle.std.specs.Prelude.{◌≡◌, ℕ}
use Rattle.ir_forms.specs.declared.ops.Module.{Module}
use Rattle.run_report.specs.Messages.{note_at}
use Rattle.run_report.specs.Notes.{notes_of, message_of}

-- What is found in the list of a module's messages is the message of its first operation that has this number and one.
abbrev pub FindsNotes : Type 0
FindsNotes = (program : Module) (number : ℕ) → message_of (notes_of program) number ≡ note_at program number
