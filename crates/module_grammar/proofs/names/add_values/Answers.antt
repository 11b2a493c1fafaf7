use Rattle.std.proofs.Common.{sym, ◌∙◌, arith}
use Rattle.module_grammar.proofs.Values.{counted-one}
use Rattle.module_grammar.proofs.names.add_values.Goals as goal

pub loop-preserved : goal.loop-preserved
loop-preserved c = record {
  within = omega arith;
  rest = rw (c.in_ok-push.ensures.ok, c.number_up-number.ensures)
      (sym (counted-one c.loop.values c.loop.number c.values-end.result c.loop.counter c.loop-test.true) ∙ c.loop.invariant.rest);
}
