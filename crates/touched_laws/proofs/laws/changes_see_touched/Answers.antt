use Rattle.touched_laws.proofs.Steps.{changes_see_touched}
use Rattle.touched_laws.proofs.laws.changes_see_touched.Goals as goal

pub returns : goal.returns
returns c = changes_see_touched
