use Rattle.std.proofs.Common.{◌≡◌, drop}
use Rattle.check_insert.specs.Shape.{check_indexes}
use Rattle.check_insert.proofs.access.check_indexes.Given as goal

abbrev pub invariant-loop-dimension : goal.invariant-loop-dimension
invariant-loop-dimension l =
    check_indexes l.text l.memref l.buffer l.dimension (drop l.dimension l.memref.dims) (drop l.dimension l.indexes) l.made
    ≡ check_indexes l.text l.memref l.buffer 0 l.memref.dims l.indexes l.initial.made
