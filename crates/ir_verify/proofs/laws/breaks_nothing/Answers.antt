use Rattle.ir_verify.proofs.LawLemmas.{breaks_nothing}
use Rattle.ir_verify.proofs.laws.breaks_nothing.Goals as goal

pub returns : goal.returns
returns c = breaks_nothing
