use Rattle.typed_laws.proofs.Typings.{buffers_fit as law}
use Rattle.typed_laws.proofs.laws.buffers_fit.Goals as goal

pub returns : goal.returns
returns c = law
