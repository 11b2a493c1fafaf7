use Rattle.std.proofs.Common.{◌≡◌, ◌++◌, ◌≤◌, drop, length, reverse}
use Rattle.low_reader.specs.Choices.{symbols_of}
use Rattle.low_reader.proofs.piece.push_pieces.Given as goal

abbrev pub invariant-loop-at : goal.invariant-loop-at
invariant-loop-at l = record {
  within : l.at ≤ length l.pieces;
  so_far : reverse l.stack ≡ symbols_of (drop l.at l.pieces) ++ reverse l.initial.stack;
}

abbrev pub decreases-loop-at : goal.decreases-loop-at
decreases-loop-at l = l.at
