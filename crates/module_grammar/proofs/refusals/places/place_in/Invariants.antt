use Rattle.std.proofs.Common.{◌≡◌, drop}
use Rattle.module_grammar.specs.Faults.{place_in}
use Rattle.module_grammar.proofs.refusals.places.place_in.Given as goal

abbrev pub invariant-loop-token : goal.invariant-loop-token
invariant-loop-token l = place_in (drop l.token-index l.tokens) l.left l.place ≡ place_in l.tokens l.number l.at
