use Rattle.std.proofs.Common.{◌≡◌, ◌+◌, ◌≤◌, length, drop}
use Rattle.mlir_lex.specs.Scan.{spare, closed_at}
use Rattle.mlir_lex.proofs.brackets.closed_at.Given as goal

abbrev pub invariant-loop-at : goal.invariant-loop-at
invariant-loop-at l = record {
  closed : drop l.at l.closed.items ≡ closed_at (drop l.at l.text);
  spare : l.spare ≡ spare (drop l.at l.text);
  few : l.spare + l.at ≤ length l.text;
  lengths : length l.closed.items ≡ length l.text;
  within : l.at ≤ length l.text;
}

abbrev pub decreases-loop-at : goal.decreases-loop-at
decreases-loop-at l = l.at
