use Rattle.end_laws.proofs.Unread.{unread_is_free as law}
use Rattle.end_laws.proofs.laws.unread_is_free.Goals as goal

pub returns : goal.returns
returns c = law
