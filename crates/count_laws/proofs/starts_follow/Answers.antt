use Rattle.count_laws.proofs.StartLemmas.{starts_follow}
use Rattle.count_laws.proofs.starts_follow.Goals as goal

pub returns : goal.returns
returns c = starts_follow
