use Rattle.std.proofs.Common.{sym, ◌∙◌}
use Rattle.ir_forms.specs.declared.ops.ValueNo.{ValueNo}
use Rattle.made_funcs.proofs.KeyLemmas.{one_less}
use Rattle.made_funcs.proofs.captures.remove_results.Goals as goal

pub loop-result-preserved : goal.loop-result-preserved
loop-result-preserved c =
    let none : ValueNo = record { 0 = 0 } in
    sym (one_less c.loop-result.used.keys c.remove.new.self.keys c.args.results.now c.loop-result.result-index none c.loop-result-test.true c.remove.ensures.keys) ∙ c.loop-result.invariant
