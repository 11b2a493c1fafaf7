use Rattle.read_forms.proofs.Sees.{sees-no-deeper}
use Rattle.read_forms.proofs.laws.sees_no_deeper.Goals as goal

pub returns : goal.returns
returns c = sees-no-deeper
