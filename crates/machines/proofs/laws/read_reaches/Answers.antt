use Rattle.machines.proofs.Read.{read_reaches as law}
use Rattle.machines.proofs.laws.read_reaches.Goals as goal

pub returns : goal.returns
returns g c = law g.R.Readable.reader g.R.Readable.one
