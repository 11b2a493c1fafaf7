use Rattle.std.proofs.Common.{◌∙◌}
use Rattle.std.proofs.lemmas.Result.{IfOk-weaker}
use Rattle.exec_outline.proofs.Walked.{launch_made, kept_made, region_made}
use Rattle.exec_outline.proofs.walk.+walk.Goals as goal

pub outlined_op-returns-in_ok-body-in-Some : goal.outlined_op-returns-in_ok-body-in-Some
outlined_op-returns-in_ok-body-in-Some t c =
    IfOk-weaker c.launched.result _ _
    (λ done is. launch_made c.args.taken.now c.args.values.now c.args.op.now c.args.number c.in_ok-inside-in-Some.inside c.in-Some.region.now c.in_ok-body-in-Some.body c.in_ok-body-in-Some.inner
    c.in-Some.ensures c.in_ok-inside-in-Some.ensures c.in_ok-body-in-Some.ensures ∙ is)
    c.launched.ensures

pub outlined_op-returns-in_ok-copy_op-in-None : goal.outlined_op-returns-in_ok-copy_op-in-None
outlined_op-returns-in_ok-copy_op-in-None t c =
    kept_made c.args.taken.now c.args.values.now c.args.op.now c.in_ok-copy_op-in-None.field-0 c.args.number c.as_slice-regions.result.now c.in_ok-regions-in-None.regions c.in_ok-regions-in-None.tasks
    c.in-None.ensures c.as_slice-regions.ensures c.in_ok-regions-in-None.ensures c.in_ok-copy_op-in-None.ensures

pub outlined_region-returns : goal.outlined_region-returns
outlined_region-returns t c =
    region_made c.args.taken.now c.args.values.now c.args.region.now c.args.first c.as_slice.result.now c.in_ok-params.params c.as_slice-2.result.now c.in_ok-ops.ops c.in_ok-ops.tasks
    c.as_slice.ensures c.in_ok-params.ensures c.as_slice-2.ensures c.in_ok-ops.ensures
