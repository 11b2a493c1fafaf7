use Rattle.line_laws.proofs.One.{texts_with_code as law}
use Rattle.line_laws.proofs.laws.texts_with_code.Goals as goal

pub returns : goal.returns
returns c = law
