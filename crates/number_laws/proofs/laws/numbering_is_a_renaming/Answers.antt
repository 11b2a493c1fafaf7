use Rattle.number_laws.proofs.Renaming.{numbering_is_a_renaming as law}
use Rattle.number_laws.proofs.laws.numbering_is_a_renaming.Goals as goal

pub returns : goal.returns
returns c = law
