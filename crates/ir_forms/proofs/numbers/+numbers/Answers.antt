use Rattle.std.proofs.Common.{ap, ◌∙◌}
use Rattle.ir_forms.specs.declared.ops.Op.{Op, Op-F, out-roll-Op}
use Rattle.ir_forms.specs.declared.ops.Region.{Region}
use Rattle.ir_forms.proofs.CountLemmas.{counted}
use Rattle.ir_forms.proofs.numbers.+numbers.Goals as goal

pub number_op-returns-clause-last : goal.number_op-returns-clause-last
number_op-returns-clause-last t c =
    counted c.args.op.now c.args.given c.number_regions.result c.as_mut_slice.result.now
    (c.as_mut_slice.ensures.value ∙ ap (λ (z : Op-F Op Region). z.regions) (out-roll-Op _)) c.number_regions.ensures.last
