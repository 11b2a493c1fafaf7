use Rattle.std.proofs.Common.{◌≡◌, ◌++◌, ◌-◌, ◌≤◌}
use Rattle.module_grammar.specs.State.{counted_from}
use Rattle.module_grammar.proofs.names.add_values.Given as goal

abbrev pub invariant-loop : goal.invariant-loop
invariant-loop l = record {
  within : l.counter ≤ l.end;
  rest : l.values ++ counted_from l.number (l.end - l.counter) ≡ l.initial.values ++ counted_from l.name.first l.end;
}
