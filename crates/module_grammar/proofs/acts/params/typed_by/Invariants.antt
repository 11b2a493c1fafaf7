use Rattle.std.proofs.Common.{◌≡◌, ◌++◌, ◌≤◌, length, drop}
use Rattle.module_grammar.specs.State.{typed_by}
use Rattle.module_grammar.proofs.acts.params.typed_by.Given as goal

abbrev pub invariant-loop-param : goal.invariant-loop-param
invariant-loop-param l = record {
  within : l.at ≤ length l.types;
  rest : l.typed ++ typed_by (drop l.param-index l.params) (drop l.at l.types) ≡ typed_by l.params l.types;
}
