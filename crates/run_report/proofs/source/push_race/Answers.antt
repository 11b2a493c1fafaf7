use Rattle.run_report.proofs.Chains.{three}
use Rattle.run_report.proofs.source.push_race.Goals as goal

pub returns : goal.returns
returns c = three _ _ _ _ _ _ _ c.in_ok-push_two_numbered.ensures c.in_ok-push_entry.ensures c.in_ok-push_entry-2.ensures
