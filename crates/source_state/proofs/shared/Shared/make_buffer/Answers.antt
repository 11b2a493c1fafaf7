use Rattle.std.proofs.Common.{ap, ◌+◌, sym, subst}
use Rattle.source_state.specs.Seen.{Alike}
use Rattle.ir_forms.specs.declared.names.MadeName.TheVariants.{Made}
use Rattle.ir_forms.specs.Shapes.{product}
use Rattle.source_state.specs.declared.names.Name.TheVariants as name
use Rattle.source_state.proofs.Changes.{buffer_alike}
use Rattle.source_state.proofs.shared.Shared.make_buffer.Goals as goal

pub returns : goal.returns
returns c w dims same like =
    buffer_alike c.self.inside.buffers c.insert.new.self c.self.inside.used c.self.inside.groups.entries _ w (name.Made c.in_ok-from_slice.field-0 (c.args.taken + 1)) (Made c.args.task.now (c.args.taken + 1)) _ c.args.cells (product dims) (subst (λ v. Alike v w) (sym c.self.view_is) like)
    (ap (λ p. Made p (c.args.taken + 1)) c.in_ok-from_slice.ensures.items) c.in_ok-cleared.ensures same c.in_ok-insert.ensures.updates
