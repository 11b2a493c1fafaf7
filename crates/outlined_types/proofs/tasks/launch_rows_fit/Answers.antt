use Rattle.outlined_types.proofs.Rows.{launch_rows_fit as law}
use Rattle.outlined_types.proofs.tasks.launch_rows_fit.Goals as goal

pub returns : goal.returns
returns c = law
