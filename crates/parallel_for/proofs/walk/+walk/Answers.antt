use Rattle.std.proofs.Common.{◌≡◌, ◌∙◌, List}
use Rattle.std.proofs.lemmas.Result.{IfOk-weaker}
use Rattle.ir_forms.specs.declared.ops.Func.{Func}
use Rattle.ir_forms.specs.declared.ops.Op.{Op, out-Op}
use Rattle.parallel_for.specs.declared.walk.Next.{Next}
use Rattle.parallel_for.specs.Shape.{looped, split_op}
use Rattle.parallel_for.proofs.Walked.{loop_made, kept_made, region_made}
use Rattle.parallel_for.proofs.walk.+walk.Goals as goal

pub split_op-returns-in_ok-body-in-Some : goal.split_op-returns-in_ok-body-in-Some
split_op-returns-in_ok-body-in-Some t c =
    IfOk-weaker c.looped.result
    (λ (done : List Op × List Func × Next). looped c.args.options c.args.taken.now c.args.called c.args.values.now (out-Op c.args.op.now) c.args.nest c.args.next (c.in_ok-body-in-Some.body, c.in_ok-body-in-Some.inner, c.in_ok-body-in-Some.last) ≡ done)
    (λ (done : List Op × List Func × Next). split_op c.args.options c.args.taken.now c.args.called c.args.values.now c.args.op.now c.args.nest c.args.next ≡ done)
    (λ done is. loop_made c.args.options c.args.taken.now c.args.called c.args.values.now c.args.op.now c.args.nest c.nest_in-within.result c.args.next c.in_ok-begun-in-Some.begun c.in_ok-body-in-Some.last c.in-Some.region.now c.in_ok-body-in-Some.body c.in_ok-body-in-Some.inner
    c.in-Some.ensures c.nest_in-within.ensures c.in_ok-begun-in-Some.ensures c.in_ok-body-in-Some.ensures ∙ is)
    c.looped.ensures

pub split_op-returns-in_ok-kept-in-None : goal.split_op-returns-in_ok-kept-in-None
split_op-returns-in_ok-kept-in-None t c =
    kept_made c.args.options c.args.taken.now c.args.called c.args.values.now c.args.op.now c.args.nest c.nest_in-within.result c.args.next c.in_ok-regions-in-None.last c.as_slice-regions.result.now c.in_ok-regions-in-None.regions c.in_ok-kept-in-None.field-0 c.in_ok-regions-in-None.funcs
    c.in-None.ensures c.nest_in-within.ensures c.as_slice-regions.ensures c.in_ok-regions-in-None.ensures c.in_ok-kept-in-None.ensures

pub split_region-returns : goal.split_region-returns
split_region-returns t c =
    region_made c.args.options c.args.taken.now c.args.called c.args.values.now c.args.region.now c.args.nest c.args.first c.in_ok-ops.last c.as_slice.result.now c.in_ok-params.params c.as_slice-ops.result.now c.in_ok-ops.ops c.in_ok-ops.funcs
    c.as_slice.ensures c.in_ok-params.ensures c.as_slice-ops.ensures c.in_ok-ops.ensures
