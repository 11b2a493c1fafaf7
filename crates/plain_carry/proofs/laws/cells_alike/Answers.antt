use Rattle.plain_carry.proofs.Cells.{cells_alike as law}
use Rattle.plain_carry.proofs.laws.cells_alike.Goals as goal

pub returns : goal.returns
returns c = law
