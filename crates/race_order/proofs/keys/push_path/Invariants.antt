use Rattle.std.proofs.Common.{◌≡◌, ◌++◌, take}
use Rattle.race_order.proofs.keys.push_path.Given as goal

abbrev pub invariant-loop-number : goal.invariant-loop-number
invariant-loop-number l = l.key.items ≡ l.initial.key.items ++ take l.number-index l.number-items
