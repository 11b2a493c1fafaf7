use Rattle.meaning_laws.proofs.Examples.{worked_modules as law}
use Rattle.meaning_laws.proofs.laws.worked_modules.Goals as goal

pub returns : goal.returns
returns c = law
