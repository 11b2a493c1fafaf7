use Rattle.check_laws.proofs.Pass.{sound_reads_below as law}
use Rattle.check_laws.proofs.laws.sound_reads_below.Goals as goal

pub returns : goal.returns
returns c = law
