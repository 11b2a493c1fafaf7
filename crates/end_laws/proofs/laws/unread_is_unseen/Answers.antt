use Rattle.end_laws.proofs.Unread.{unread_is_unseen as law}
use Rattle.end_laws.proofs.laws.unread_is_unseen.Goals as goal

pub returns : goal.returns
returns c = law
