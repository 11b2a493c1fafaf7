use Rattle.low_names.proofs.Back.{gives_back}
use Rattle.low_names.proofs.laws.gives_numbers_back.Goals as goal

pub returns : goal.returns
returns c = gives_back
