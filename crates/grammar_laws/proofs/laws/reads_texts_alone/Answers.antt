use Rattle.grammar_laws.proofs.Texts.{texts-alone}
use Rattle.grammar_laws.proofs.laws.reads_texts_alone.Goals as goal

pub returns : goal.returns
returns c = texts-alone
