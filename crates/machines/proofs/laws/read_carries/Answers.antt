use Rattle.machines.proofs.Read.{read_carries as law}
use Rattle.machines.proofs.laws.read_carries.Goals as goal

pub returns : goal.returns
returns g c = law g.R.Readable.reader g.R.Readable.one g.R.Readable.two
