use Rattle.std.proofs.Common.{◌≡◌, drop}
use Rattle.module_grammar.specs.State.{add_operands}
use Rattle.module_grammar.proofs.state.State.add_operands.Given as goal

abbrev pub invariant-loop-token : goal.invariant-loop-token
invariant-loop-token l = add_operands (drop l.token-index l.tokens) l.self ≡ add_operands l.tokens l.initial.self
