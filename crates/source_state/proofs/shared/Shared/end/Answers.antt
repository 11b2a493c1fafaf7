use Rattle.std.proofs.Common.{sym, subst}
use Rattle.source_state.specs.Seen.{Alike, outcome_of, ends_of}
use Rattle.source_state.proofs.Looks.{end_put}
use Rattle.source_state.proofs.Changes.{end_alike}
use Rattle.source_state.proofs.shared.Shared.end.Goals as goal

pub returns : goal.returns
returns c w like =
    end_alike c.self.inside.buffers.entries c.self.inside.used c.self.inside.groups.entries (ends_of c.self.inside.ends.entries) (ends_of c.insert.new.self.entries) w c.in_ok-path.path.items c.args.task.now (outcome_of c.args.ended) (subst (λ v. Alike v w) (sym c.self.view_is) like) c.in_ok-path.ensures.items (end_put c.self.inside.ends c.insert.new.self c.in_ok-path.path c.args.ended c.in_ok-insert.ensures.updates)
