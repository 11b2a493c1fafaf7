use Rattle.std.proofs.Common.{◌≡◌, true, take}
use Rattle.module_grammar.specs.Rules.{are_distinct}
use Rattle.module_grammar.proofs.words.classes.are_distinct.Given as goal

abbrev pub invariant-loop-token : goal.invariant-loop-token
invariant-loop-token l = (l.at ≡ l.token-index) × (are_distinct (take l.token-index l.tokens) ≡ true)
