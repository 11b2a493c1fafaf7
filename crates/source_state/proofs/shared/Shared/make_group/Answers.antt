use Rattle.std.proofs.Common.{ap, ◌+◌, sym, subst}
use Rattle.source_state.specs.Seen.{Alike}
use Rattle.ir_forms.specs.declared.names.MadeName.TheVariants.{Made}
use Rattle.source_state.specs.declared.names.Name.TheVariants as name
use Rattle.source_state.proofs.Changes.{group_alike}
use Rattle.source_state.proofs.shared.Shared.make_group.Goals as goal

pub returns : goal.returns
returns c w like =
    group_alike c.self.inside.buffers.entries c.self.inside.used c.self.inside.groups c.insert.new.self _ w (name.Made c.in_ok-from_slice.field-0 (c.args.taken + 1)) (Made c.args.task.now (c.args.taken + 1)) _ (subst (λ v. Alike v w) (sym c.self.view_is) like)
    (ap (λ p. Made p (c.args.taken + 1)) c.in_ok-from_slice.ensures.items) c.new.ensures c.in_ok-insert.ensures.updates
