use Rattle.grammar_laws.proofs.Texts.{each-text}
use Rattle.grammar_laws.proofs.laws.reads_each_text.Goals as goal

pub returns : goal.returns
returns c = each-text
