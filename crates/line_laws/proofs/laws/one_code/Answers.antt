use Rattle.line_laws.proofs.One.{one_code as law}
use Rattle.line_laws.proofs.laws.one_code.Goals as goal

pub returns : goal.returns
returns c = law
