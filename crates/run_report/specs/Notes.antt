-- The messages of a module's operations, listed in the order of the text.
use Rattle.std.specs.Prelude.{ℕ, ◌==◌, if◌then◌else◌, List, [], ◌∷◌, ◌++◌, Option, Some, None}
use Rattle.op_table.specs.declared.kind.OpKind.{OpKind}
use Rattle.ir_forms.specs.declared.ops.Attr.{Attr}
use Rattle.ir_forms.specs.declared.ops.Func.{Func}
use Rattle.ir_forms.specs.declared.ops.Module.{Module}
use Rattle.ir_forms.specs.declared.ops.Op.{Op, Op-F}
use Rattle.ir_forms.specs.declared.ops.Op.TheFolds.{fold-Op, fold-Region}
use Rattle.ir_forms.specs.declared.ops.Region.{Region, Region-F}
use Rattle.run_report.specs.declared.note_list.Note.{Note}
use Rattle.run_report.specs.Messages.{message}

-- the number of an operation that has a message, with it
abbrev pub note_if : ℕ → Option (List ℕ) → List Note
note_if at None = []
note_if at (Some text) = record { op = at; text = text } ∷ []

abbrev pub own_note : ℕ → OpKind → Attr → List Note
own_note at kind attr = note_if at (message kind attr)

abbrev pub joined : List (List Note) → List Note
joined [] = []
joined (notes ∷ more) = notes ++ joined more

-- an operation's own message stands before those in its regions
abbrev pub notes_here : Op-F (List Note) (List Note) → List Note
notes_here layer = own_note layer.at layer.kind layer.attr ++ joined layer.regions

abbrev pub notes_under : Region-F (List Note) (List Note) → List Note
notes_under layer = joined layer.ops

unfoldable pub notes_at : Op → List Note
notes_at = fold-Op (List Note) (List Note) notes_here notes_under

unfoldable pub notes_in : Region → List Note
notes_in = fold-Region (List Note) (List Note) notes_here notes_under

abbrev pub notes_in_funcs : List Func → List Note
notes_in_funcs [] = []
notes_in_funcs (f ∷ fs) = notes_in f.body ++ notes_in_funcs fs

-- The messages of a module's operations.
abbrev pub notes_of : Module → List Note
notes_of program = notes_in_funcs program.funcs

-- The first message listed for this number; else it is empty.
abbrev pub message_of : List Note → ℕ → List ℕ
message_of [] number = []
message_of (note ∷ notes) number = if note.op == number then note.text else message_of notes number
