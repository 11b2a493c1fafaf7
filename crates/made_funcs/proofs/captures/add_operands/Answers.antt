use Rattle.std.proofs.Common.{sym, ◌∙◌}
use Rattle.ir_forms.specs.declared.ops.ValueNo.{ValueNo}
use Rattle.made_funcs.proofs.KeyLemmas.{one_more}
use Rattle.made_funcs.proofs.captures.add_operands.Goals as goal

pub loop-operand-preserved : goal.loop-operand-preserved
loop-operand-preserved c =
    let none : ValueNo = record { 0 = 0 } in
    sym (one_more c.loop-operand.used.keys c.insert.new.self.keys c.args.operands.now c.loop-operand.operand-index none c.loop-operand-test.true c.in_ok-insert.ensures.keys) ∙ c.loop-operand.invariant
