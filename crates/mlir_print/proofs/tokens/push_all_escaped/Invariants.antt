use Rattle.std.proofs.Common.{◌≡◌, ◌++◌, drop}
use Rattle.mlir_print.specs.Tokens.{all_escaped}
use Rattle.mlir_print.proofs.tokens.push_all_escaped.Given as goal

-- the text so far, and what is left, are all
abbrev pub invariant-loop-byte : goal.invariant-loop-byte
invariant-loop-byte l = l.text.items ++ all_escaped (drop l.byte-index l.bytes) ≡ l.initial.text.items ++ all_escaped l.bytes
