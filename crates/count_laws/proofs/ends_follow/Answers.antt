use Rattle.count_laws.proofs.EndLemmas.{ends_follow}
use Rattle.count_laws.proofs.ends_follow.Goals as goal

pub returns : goal.returns
returns c = ends_follow
