use Rattle.std.proofs.Common.{◌≡◌, drop}
use Rattle.mlir_print.specs.Tokens.{all_symbol_bytes}
use Rattle.mlir_print.proofs.tokens.all_symbol_bytes.Given as goal

-- the bytes that are left decide
abbrev pub invariant-loop-byte : goal.invariant-loop-byte
invariant-loop-byte l = all_symbol_bytes (drop l.byte-index l.bytes) ≡ all_symbol_bytes l.bytes
