use Rattle.std.proofs.Common.{◌≡◌, drop}
use Rattle.low_grammar.specs.State.{all_among}
use Rattle.low_reader.proofs.classes.all_among.Given as goal

abbrev pub invariant-loop-name : goal.invariant-loop-name
invariant-loop-name l = all_among l.names (drop l.name-index l.sought) ≡ all_among l.names l.sought
