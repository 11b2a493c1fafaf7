use Rattle.meaning_laws.proofs.SeqRun.{sequential_is_a_run as law}
use Rattle.meaning_laws.proofs.laws.sequential_is_a_run.Goals as goal

pub returns : goal.returns
returns c = law
