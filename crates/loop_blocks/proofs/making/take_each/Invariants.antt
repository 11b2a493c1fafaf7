use Rattle.std.proofs.Common.{◌≡◌, ◌++◌, drop}
use Rattle.loop_blocks.specs.Made.{each_taken}
use Rattle.loop_blocks.proofs.making.take_each.Given as goal

abbrev pub invariant-loop-value : goal.invariant-loop-value
invariant-loop-value l =
    (l.taken ++ (each_taken (drop l._value-index l.values) l.made).0 ≡ (each_taken l.values l.initial.made).0)
    × ((each_taken (drop l._value-index l.values) l.made).1 ≡ (each_taken l.values l.initial.made).1)
