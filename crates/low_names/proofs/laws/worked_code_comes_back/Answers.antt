use Rattle.low_names.proofs.Worked.{comes_back}
use Rattle.low_names.proofs.laws.worked_code_comes_back.Goals as goal

pub returns : goal.returns
returns c = comes_back
