use Rattle.launch_laws.proofs.Launched.{launch_readies_both}
use Rattle.launch_laws.proofs.laws.launch_readies_both.Goals as goal

pub returns : goal.returns
returns c = launch_readies_both
