use Rattle.round_trip.proofs.Modules.{gives-back}
use Rattle.round_trip.proofs.laws.gives_back.Goals as goal

pub returns : goal.returns
returns c = gives-back
