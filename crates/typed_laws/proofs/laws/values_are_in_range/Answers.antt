use Rattle.typed_laws.proofs.Reached.{values_are_in_range as law}
use Rattle.typed_laws.proofs.laws.values_are_in_range.Goals as goal

pub returns : goal.returns
returns c = law
