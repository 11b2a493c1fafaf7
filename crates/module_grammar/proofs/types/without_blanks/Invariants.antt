use Rattle.std.proofs.Common.{◌≡◌, ◌++◌, drop, filter, not}
use Rattle.module_grammar.specs.Tokens.{is_blank}
use Rattle.module_grammar.proofs.types.without_blanks.Given as goal

abbrev pub invariant-loop-byte : goal.invariant-loop-byte
invariant-loop-byte l = l.rest.items ++ filter (λ b. not (is_blank b)) (drop l.byte-index l.text) ≡ filter (λ b. not (is_blank b)) l.text
