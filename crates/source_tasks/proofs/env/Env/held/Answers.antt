use Rattle.std.proofs.Common.{◌∙◌}
use Rattle.source_tasks.proofs.Tables.{kept_view}
use Rattle.source_tasks.proofs.env.Env.held.Goals as goal

pub returns : goal.returns
returns c = c.get.ensures ∙ kept_view c.self.inside.table c.self.inside.len c.args.name.0 c.args.self.now c.self.view_is c.self.invariant
