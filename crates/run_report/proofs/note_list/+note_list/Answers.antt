use Rattle.std.proofs.Common.{◌≡◌, List, ◌++◌, map, refl, sym, ap, ◌∙◌}
use Rattle.ir_forms.specs.declared.ops.Region.{Region}
use Rattle.ir_forms.specs.Ops.{kind_of, attr_of}
use Rattle.run_report.specs.declared.note_list.Note.{Note}
use Rattle.run_report.specs.Messages.{number_of}
use Rattle.run_report.specs.Notes.{own_note, joined, notes_in}
use Rattle.run_report.proofs.Chains.{two}
use Rattle.run_report.proofs.NoteLemmas.{notes_at_out}
use Rattle.run_report.proofs.note_list.+note_list.Goals as goal

pub push_at-loop-region-init : goal.push_at-loop-region-init
push_at-loop-region-init t c =
    let own : List Note = own_note (number_of c.args.op.now) (kind_of c.args.op.now) (attr_of c.args.op.now) in
    two c.args.notes.now own (joined (map notes_in c.as_slice-region-items.result.now)) c.push_own.new.notes _ c.in_ok-push_own.ensures refl
    ∙ ap (λ (rs : List Region). c.args.notes.now ++ (own ++ joined (map notes_in rs))) c.as_slice-region-items.ensures
    ∙ ap (λ (ns : List Note). c.args.notes.now ++ ns) (sym (notes_at_out c.args.op.now))
