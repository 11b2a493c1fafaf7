use Rattle.std.proofs.Common.{◌≡◌, ◌++◌, false, None, drop}
use Rattle.module_grammar.specs.Tokens.{said}
use Rattle.module_grammar.proofs.words.strings.said.Given as goal

abbrev pub invariant-loop-byte : goal.invariant-loop-byte
invariant-loop-byte l = l.bytes ++ said (drop l.byte-index l.text) l.hidden l.first ≡ said l.text false None
