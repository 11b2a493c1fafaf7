use Rattle.std.proofs.Common.{◌≡◌, take}
use Rattle.source_meaning.specs.Values.{values_at}
use Rattle.source_meaning.specs.Steps.{numbers}
use Rattle.source_tasks.proofs.env.Env.numbers.Given as goal

abbrev pub invariant-loop-i : goal.invariant-loop-i
invariant-loop-i l = l.all ≡ numbers (values_at l.self (take l.i l.names))
