use Rattle.meaning_laws.proofs.Follow.{tasks_follow_answers as law}
use Rattle.meaning_laws.proofs.laws.tasks_follow_answers.Goals as goal

pub returns : goal.returns
returns c = law
