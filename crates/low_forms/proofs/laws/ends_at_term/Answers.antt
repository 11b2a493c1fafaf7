use Rattle.low_forms.proofs.LawLemmas.{ends_at_term}
use Rattle.low_forms.proofs.laws.ends_at_term.Goals as goal

pub returns : goal.returns
returns c = ends_at_term
