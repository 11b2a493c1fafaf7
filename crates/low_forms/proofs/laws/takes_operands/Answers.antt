use Rattle.low_forms.proofs.LawLemmas.{takes_operands}
use Rattle.low_forms.proofs.laws.takes_operands.Goals as goal

pub returns : goal.returns
returns c = takes_operands
