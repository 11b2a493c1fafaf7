use Rattle.live_laws.proofs.TakeLemmas.{takes_are_uses}
use Rattle.live_laws.proofs.takes_are_uses.Goals as goal

pub returns : goal.returns
returns c = takes_are_uses
