use Rattle.meaning_laws.proofs.SeqRun.{turns_are_reached as law}
use Rattle.meaning_laws.proofs.laws.turns_are_reached.Goals as goal

pub returns : goal.returns
returns c = law
