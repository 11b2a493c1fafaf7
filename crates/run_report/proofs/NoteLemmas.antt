-- The lists of messages by their layers, and what is found in them.
use Rattle.std.proofs.Common.{◌≡◌, ℕ, ◌==◌, if◌then◌else◌, List, [], ◌∷◌, ◌++◌, map, Option, Some, None, refl, ap, sym, ◌∙◌}
use Rattle.ir_forms.specs.declared.ops.Func.{Func}
use Rattle.ir_forms.specs.declared.ops.Op.{Op, Op-F, roll-Op}
use Rattle.ir_forms.specs.declared.ops.Op.TheFolds.{fold_out-Op, fold_out-Region, fold-roll-Op, fold-roll-Region, ind-Region}
use Rattle.ir_forms.specs.declared.ops.Region.{Region, Region-F, roll-Region}
use Rattle.ir_forms.specs.Ops.{kind_of, attr_of, regions_of, ops_of}
use Rattle.run_report.specs.declared.note_list.Note.{Note}
use Rattle.run_report.specs.Messages.{number_of}
use Rattle.run_report.specs.Notes.{own_note, joined, notes_here, notes_under, notes_at, notes_in}

pub notes_at_out : (op : Op) → notes_at op ≡ own_note (number_of op) (kind_of op) (attr_of op) ++ joined (map notes_in (regions_of op))
unfolding notes_at notes_in
notes_at_out op = fold_out-Op (List Note) (List Note) notes_here notes_under op

pub notes_in_out : (region : Region) → notes_in region ≡ joined (map notes_at (ops_of region))
unfolding notes_at notes_in
notes_in_out region = fold_out-Region (List Note) (List Note) notes_here notes_under region
