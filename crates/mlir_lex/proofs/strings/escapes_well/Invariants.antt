use Rattle.std.proofs.Common.{◌≡◌, drop}
use Rattle.mlir_lex.specs.Grammar.{escapes_well}
use Rattle.mlir_lex.specs.declared.strings.Escape.TheVariants as escape
use Rattle.mlir_lex.proofs.strings.escapes_well.Given as goal

abbrev pub invariant-loop-byte : goal.invariant-loop-byte
invariant-loop-byte l = escapes_well (drop l.byte-index l.text) l.escape ≡ escapes_well l.text escape.Outside
