use Rattle.rule_machine.proofs.Runs.{run-leads}
use Rattle.rule_machine.proofs.laws.runs_texts_alone.Goals as goal

pub returns : goal.returns
returns g c k s ts s' e = run-leads g.G.Grammar.table ts k s s' e
