use Rattle.std.proofs.Common.{◌≡◌, Some, take, drop}
use Rattle.module_grammar.specs.State.{at_start}
use Rattle.module_grammar.specs.Texts.{whole}
use Rattle.module_grammar.specs.Faults.{reached, walk}
use Rattle.module_grammar.specs.Machines.{place_of}
use Rattle.module_grammar.proofs.machine.reader.read_from.Given as goal

abbrev pub invariant-loop-at : goal.invariant-loop-at
invariant-loop-at l = record {
  there : reached l.level whole at_start (take l.at l.tokens) ≡ Some (place_of l.machine);
  rest : walk l.limits l.level (place_of l.machine).left (place_of l.machine).state (drop l.at l.tokens) ≡ walk l.limits l.level whole at_start l.tokens;
}
