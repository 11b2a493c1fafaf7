use Rattle.std.proofs.Common.{◌≡◌, drop}
use Rattle.module_grammar.specs.Tokens.{all_digits}
use Rattle.module_grammar.proofs.words.classes.all_digits.Given as goal

abbrev pub invariant-loop-byte : goal.invariant-loop-byte
invariant-loop-byte l = all_digits (drop l.byte-index l.text) ≡ all_digits l.text
