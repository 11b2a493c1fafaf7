use Rattle.read_forms.proofs.Deep.{reads-depth}
use Rattle.read_forms.proofs.laws.reads_depth.Goals as goal

pub returns : goal.returns
returns c = reads-depth
