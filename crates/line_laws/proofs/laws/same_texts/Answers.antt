use Rattle.line_laws.proofs.One.{same_texts as law}
use Rattle.line_laws.proofs.laws.same_texts.Goals as goal

pub returns : goal.returns
returns c = law
