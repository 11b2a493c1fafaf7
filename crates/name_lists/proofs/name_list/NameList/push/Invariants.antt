use Rattle.std.proofs.Common.{◌≡◌}
use Rattle.name_lists.proofs.name_list.NameList.push.Given as goal

abbrev pub invariant-loop-turn : goal.invariant-loop-turn
invariant-loop-turn g l = l.self ≡ l.initial.self
