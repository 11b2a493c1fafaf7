use Rattle.std.proofs.Common.{◌≡◌, drop}
use Rattle.module_grammar.specs.Faults.{name_past}
use Rattle.module_grammar.proofs.refusals.places.name_past.Given as goal

abbrev pub invariant-loop-name : goal.invariant-loop-name
invariant-loop-name l = name_past (drop l.name-index l.names) l.left ≡ name_past l.names l.room
