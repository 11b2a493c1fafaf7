use Rattle.std.proofs.Common.{◌≡◌, ◌++◌, ◌≤◌, drop, length, reverse}
use Rattle.module_grammar.proofs.machine.stack.push_all.Given as goal

abbrev pub invariant-loop-at : goal.invariant-loop-at
invariant-loop-at l = record {
  within : l.at ≤ length l.symbols;
  so_far : reverse l.stack ≡ drop l.at l.symbols ++ reverse l.initial.stack;
}

abbrev pub decreases-loop-at : goal.decreases-loop-at
decreases-loop-at l = l.at
