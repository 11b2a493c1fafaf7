use Rattle.std.proofs.Common.{◌≡◌, None, drop}
use Rattle.module_grammar.specs.Faults.{last_place}
use Rattle.module_grammar.proofs.refusals.places.last_place.Given as goal

abbrev pub invariant-loop-name : goal.invariant-loop-name
invariant-loop-name l = last_place (drop l.name-index l.names) l.place ≡ last_place l.names None
