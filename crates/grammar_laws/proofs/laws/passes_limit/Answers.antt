use Rattle.grammar_laws.proofs.Limits.{passes-limit}
use Rattle.grammar_laws.proofs.laws.passes_limit.Goals as goal

pub returns : goal.returns
returns c = passes-limit
