use Rattle.ir_forms.proofs.NumberLaws.{renumbered_once_lem}
use Rattle.ir_forms.proofs.laws.renumbered_once.Goals as goal

pub returns : goal.returns
returns c = renumbered_once_lem
