use Rattle.std.proofs.Common.{◌≡◌, ◌++◌, drop}
use Rattle.loop_blocks.specs.Made.{renewed}
use Rattle.loop_blocks.proofs.making.renew.Given as goal

abbrev pub invariant-loop-value : goal.invariant-loop-value
invariant-loop-value l =
    (l.taken ++ (renewed (drop l.value-index l.values) l.made).0 ≡ (renewed l.values l.initial.made).0)
    × ((renewed (drop l.value-index l.values) l.made).1 ≡ (renewed l.values l.initial.made).1)
