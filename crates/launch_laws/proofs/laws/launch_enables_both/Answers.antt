use Rattle.launch_laws.proofs.Launched.{launch_enables_both}
use Rattle.launch_laws.proofs.laws.launch_enables_both.Goals as goal

pub returns : goal.returns
returns c = launch_enables_both c.launch_readies_both.ensures
