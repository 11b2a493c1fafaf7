use Rattle.std.proofs.Common.{◌≡◌, drop, map}
use Rattle.module_grammar.specs.Tokens.{among}
use Rattle.module_grammar.proofs.words.names.among.Given as goal

abbrev pub invariant-loop-word : goal.invariant-loop-word
invariant-loop-word g l = among (map (λ w. (w.0.now, w.1)) (drop l.word-index l.words)) l.text ≡ among (map (λ w. (w.0.now, w.1)) l.words) l.text
