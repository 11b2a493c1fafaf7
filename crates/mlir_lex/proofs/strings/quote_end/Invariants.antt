use Rattle.std.proofs.Common.{◌≡◌, ◌-◌, ◌≤◌, length, drop, false}
use Rattle.mlir_lex.specs.Scan.{quote_end}
use Rattle.mlir_lex.proofs.strings.quote_end.Given as goal

abbrev pub invariant-loop-at : goal.invariant-loop-at
invariant-loop-at l = record {
  same : quote_end (drop l.at l.text) l.is_hidden l.at ≡ quote_end (drop l.from l.text) false l.from;
  moved : l.from ≤ l.at;
  within : l.at ≤ length l.text;
}

abbrev pub decreases-loop-at : goal.decreases-loop-at
decreases-loop-at l = length l.text - l.at
