use Rattle.std.proofs.Common.{◌≡◌, ◌+◌, ◌-◌, ◌≤◌, length, drop}
use Rattle.std.specs.List.{prefix_len}
use Rattle.mlir_lex.specs.Bytes.{is_in}
use Rattle.mlir_lex.proofs.bytes.past.Given as goal

abbrev pub invariant-loop-end : goal.invariant-loop-end
invariant-loop-end l = record {
  same : l.end + prefix_len (is_in l.class) (drop l.end l.text) ≡ l.at + prefix_len (is_in l.class) (drop l.at l.text);
  moved : l.at ≤ l.end;
  within : l.end ≤ length l.text;
}

abbrev pub decreases-loop-end : goal.decreases-loop-end
decreases-loop-end l = length l.text - l.end
