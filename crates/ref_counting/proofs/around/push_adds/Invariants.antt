use Rattle.std.proofs.Common.{◌≡◌, ◌++◌, drop}
use Rattle.ref_counting.specs.Shape.{adds}
use Rattle.ref_counting.proofs.around.push_adds.Given as goal

abbrev pub invariant-loop-number : goal.invariant-loop-number
invariant-loop-number l = l.instrs ++ adds l.taken (drop l.number-index l.numbers) ≡ l.initial.instrs ++ adds l.taken l.numbers
