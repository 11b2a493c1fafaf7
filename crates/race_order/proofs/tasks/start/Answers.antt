use Rattle.race_order.proofs.Step.{holds_first}
use Rattle.race_order.proofs.tasks.start.Goals as goal

pub returns-clause-holds : goal.returns-clause-holds
returns-clause-holds c = λ nodes e. holds_first (record { depth = c.args.depth; numbers = c.args.numbers; taken = c.new.result; turns = c.new-2.result; clocks = c.new-3.result; adds = c.new-4.result }) nodes c.new.ensures c.new-2.ensures c.new-3.ensures c.new-4.ensures e
