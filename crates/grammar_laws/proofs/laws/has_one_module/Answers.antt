use Rattle.grammar_laws.proofs.Texts.{one-module}
use Rattle.grammar_laws.proofs.laws.has_one_module.Goals as goal

pub returns : goal.returns
returns c = one-module
