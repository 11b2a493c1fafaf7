use Rattle.parsed_laws.proofs.Sizes.{reads_sizes}
use Rattle.parsed_laws.proofs.laws.reads_sizes.Goals as goal

pub returns : goal.returns
returns c = reads_sizes
