use Rattle.race_order.proofs.Trees.{empty_below}
use Rattle.race_order.proofs.clocks.+is_below.Goals as goal

pub returns-then-first-eq0 : goal.returns-then-first-eq0
returns-then-first-eq0 t c = λ key. empty_below c.args.nodes.now c.args.depth c.args.first c.args.second key c.if-first-eq0.true c.requires.empty
