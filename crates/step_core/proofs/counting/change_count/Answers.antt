use Rattle.step_core.proofs.CountLemmas.{count_none}
use Rattle.step_core.proofs.counting.change_count.Goals as goal

pub returns-else-n-gt0-clause-objects : goal.returns-else-n-gt0-clause-objects
returns-else-n-gt0-clause-objects c = count_none c.args.objects.now c.args.count c.requires.may c.if-adds.false c.if-n-gt0.false
