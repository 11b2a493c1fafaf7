use Rattle.rule_machine.proofs.Runs.{one-end}
use Rattle.rule_machine.proofs.laws.leads_to_one.Goals as goal

pub returns : goal.returns
returns g c k s ts p q d e = one-end g.G.Grammar.table k s ts p q d e
