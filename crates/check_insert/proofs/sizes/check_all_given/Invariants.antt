use Rattle.std.proofs.Common.{◌≡◌, drop}
use Rattle.check_insert.specs.Shape.{check_given, each, most_cells}
use Rattle.check_insert.proofs.sizes.check_all_given.Given as goal

abbrev pub invariant-loop-size : goal.invariant-loop-size
invariant-loop-size l =
    each (check_given l.text most_cells) (drop l.size-index l.sizes) l.made ≡ each (check_given l.text most_cells) l.sizes l.initial.made
