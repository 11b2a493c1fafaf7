use Rattle.rule_machine.proofs.Runs.{leads-run}
use Rattle.rule_machine.proofs.laws.runs_each_text.Goals as goal

pub returns : goal.returns
returns g c k s ts s' d = leads-run g.G.Grammar.table k s ts s' d
