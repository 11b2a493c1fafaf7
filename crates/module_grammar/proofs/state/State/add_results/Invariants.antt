use Rattle.std.proofs.Common.{◌≡◌, drop}
use Rattle.module_grammar.specs.State.{add_results}
use Rattle.module_grammar.proofs.state.State.add_results.Given as goal

abbrev pub invariant-loop-token : goal.invariant-loop-token
invariant-loop-token l = add_results (drop l.token-index l.tokens) l.self ≡ add_results l.tokens l.initial.self
