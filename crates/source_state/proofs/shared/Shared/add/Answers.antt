use Rattle.std.proofs.Common.{◌≡◌, subst, cond, sym}
use Rattle.std.proofs.lemmas.Result.{on_ok_weaker}
use Rattle.std.specs.Option.{option_map}
use Rattle.ir_forms.specs.Names.{same_made}
use Rattle.ir_forms.specs.declared.names.MadeName.{MadeName}
use Rattle.source_state.specs.Seen.{Alike, group_of, more}
use Rattle.source_state.proofs.Changes.{add_alike}
use Rattle.source_state.proofs.shared.Shared.add.Goals as goal

pub returns : goal.returns
returns c =
    on_ok_weaker c.add_member.result (λ h w p k used like. add_alike c.self.inside.buffers.entries c.self.inside.used c.self.inside.groups.entries c.add_member.new.groups.entries _ w c.args.group.now c.args.element (subst (λ v. Alike v w) (sym c.self.view_is) like)
    (subst (λ name. (g : MadeName) → group_of c.add_member.new.groups.entries g ≡ cond (same_made name g) (option_map (more c.args.element) (group_of c.self.inside.groups.entries g)) (group_of c.self.inside.groups.entries g)) c.in_ok-name.ensures h)) c.add_member.ensures
