use Rattle.std.proofs.Common.{◌≡◌, drop}
use Rattle.module_grammar.specs.Rules.{none_named}
use Rattle.module_grammar.proofs.words.classes.none_named.Given as goal

abbrev pub invariant-loop-token : goal.invariant-loop-token
invariant-loop-token l = none_named l.names (drop l.token-index l.tokens) ≡ none_named l.names l.tokens
