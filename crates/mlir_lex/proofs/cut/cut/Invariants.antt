use Rattle.std.proofs.Common.{◌≡◌, ◌-◌, ◌≤◌, length, drop}
use Rattle.mlir_lex.specs.Scan.{read, reading}
use Rattle.mlir_lex.proofs.Reading.{with_front}
use Rattle.mlir_lex.proofs.cut.cut.Given as goal

abbrev pub invariant-loop-at : goal.invariant-loop-at
invariant-loop-at l = record {
  same : with_front l.tokens.items (read (drop l.at l.text) l.at l.after_digits 0) ≡ reading l.text;
  within : l.at ≤ length l.text;
  table : length l.closed ≡ length l.text;
}

abbrev pub decreases-loop-at : goal.decreases-loop-at
decreases-loop-at l = length l.text - l.at
