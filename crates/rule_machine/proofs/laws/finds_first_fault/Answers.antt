use Rattle.rule_machine.proofs.FirstFault.{fault-at}
use Rattle.rule_machine.proofs.laws.finds_first_fault.Goals as goal

pub returns : goal.returns
returns g c can last k s ts rest good e = fault-at g.G.Ending.table g.G.Ending.endings can last k s ts rest good e
