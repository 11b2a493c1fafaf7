use Rattle.std.proofs.Common.{◌≡◌, ◌≤◌, drop}
use Rattle.mlir_lex.specs.Scan.{bracket_end}
use Rattle.mlir_lex.proofs.brackets.bracket_end.Given as goal

abbrev pub invariant-loop-at : goal.invariant-loop-at
invariant-loop-at l = record {
  same : bracket_end (drop l.at l.text) l.inner l.at ≡ bracket_end (drop l.from l.text) 0 l.from;
  few : l.inner ≤ l.at;
}
