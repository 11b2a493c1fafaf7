use Rattle.run_report.proofs.FoundNotes.{finds_notes as law}
use Rattle.run_report.proofs.laws.finds_notes.Goals as goal

pub returns : goal.returns
returns c = law
