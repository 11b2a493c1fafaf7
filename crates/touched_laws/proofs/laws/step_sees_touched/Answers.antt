use Rattle.touched_laws.proofs.Steps.{step_sees_touched}
use Rattle.touched_laws.proofs.laws.step_sees_touched.Goals as goal

pub returns : goal.returns
returns c = step_sees_touched
