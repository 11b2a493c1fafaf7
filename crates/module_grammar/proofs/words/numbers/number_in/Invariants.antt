use Rattle.std.proofs.Common.{◌≡◌, drop}
use Rattle.module_grammar.specs.Tokens.{number_in}
use Rattle.module_grammar.proofs.words.numbers.number_in.Given as goal

abbrev pub invariant-loop-byte : goal.invariant-loop-byte
invariant-loop-byte l = number_in l.base (drop l.byte-index l.digits) l.number ≡ number_in l.base l.digits 0
