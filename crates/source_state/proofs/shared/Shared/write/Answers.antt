use Rattle.std.proofs.Common.{◌≡◌, subst, cond, slice_set, sym}
use Rattle.ir_forms.specs.Names.{same_made}
use Rattle.ir_forms.specs.declared.names.MadeName.{MadeName}
use Rattle.source_state.specs.Seen.{Alike, cells_of}
use Rattle.source_state.proofs.Changes.{write_alike}
use Rattle.source_state.proofs.shared.Shared.write.Goals as goal

pub returns : goal.returns
returns c w p k like =
    write_alike c.self.inside.buffers.entries c.write_cell.new.buffers.entries c.self.inside.used c.self.inside.groups.entries _ w c.args.buffer.now c.args.at c.args.number (subst (λ v. Alike v w) (sym c.self.view_is) like)
    (subst (λ name. (b : MadeName) → cells_of c.write_cell.new.buffers.entries b ≡ cond (same_made name b) (slice_set (cells_of c.self.inside.buffers.entries b) c.args.at c.args.number) (cells_of c.self.inside.buffers.entries b)) c.in_ok-name.ensures c.write_cell.ensures)
