use Rattle.ir_forms.specs.declared.ops.ValueNo.{ValueNo}
use Rattle.loop_blocks.specs.Made.{each_taken}
use Rattle.loop_blocks.proofs.Taken.{each_more}
use Rattle.loop_blocks.proofs.making.take_each.Goals as goal

pub loop-value-preserved : goal.loop-value-preserved
loop-value-preserved c =
    let none : ValueNo = record { 0 = 0 } in
    each_more c.args.values.now c.loop-value._value-index none c.loop-value.taken c.push.new.self c.loop-value.made c.take_value.new.self c.in_ok-take_value.field-0 (each_taken c.args.values.now c.args.made.now).0 (each_taken c.args.values.now c.args.made.now).1
    c.loop-value-test.true c.in_ok-take_value.ensures.0 c.in_ok-take_value.ensures.1 c.in_ok-push.ensures.ok c.loop-value.invariant
