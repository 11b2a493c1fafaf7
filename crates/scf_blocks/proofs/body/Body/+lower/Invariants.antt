use Rattle.std.proofs.Common.{drop}
use Rattle.scf_blocks.specs.Tree.{tree}
use Rattle.scf_blocks.proofs.Behind.{Left}
use Rattle.scf_blocks.proofs.body.Body.+lower.Given as goal

abbrev pub invariant-operations-loop-op : goal.invariant-operations-loop-op
invariant-operations-loop-op l = Left l.callees l.initial.self l.self (tree l.ops) (tree (drop l.op-index l.ops))
