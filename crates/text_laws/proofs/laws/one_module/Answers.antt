use Rattle.text_laws.proofs.Answers.{one_module_lem}
use Rattle.text_laws.proofs.laws.one_module.Goals as goal

pub returns : goal.returns
returns c = one_module_lem c.one_reading.ensures c.accepts_exactly.ensures
