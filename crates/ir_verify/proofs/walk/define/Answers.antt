use Rattle.std.proofs.Common.{◌++◌, ◌∷◌, [], get_or, ap, ◌∙◌, refl}
use Rattle.ir_forms.specs.declared.ops.ValueNo.{ValueNo}
use Rattle.ir_forms.specs.declared.types.Ty.{Ty}
use Rattle.ir_verify.specs.Places.{defined}
use Rattle.ir_verify.proofs.WalkLemmas.{defined_next}
use Rattle.ir_verify.proofs.walk.define.Goals as goal

pub loop-place-preserved : goal.loop-place-preserved
loop-place-preserved c =
    let v : ValueNo = get_or c.args.values.now c.loop-place.place (record { 0 = 0 }) in
    defined_next c.loop-place.scope c.define.new.self (c.args.scope.now ++ defined c.args.values.now c.args.types.now) c.args.values.now c.args.types.now c.loop-place.place v (record { 0 = 0 })
    c.loop-place-test.true refl (c.in_ok-define.ensures ∙ ap (λ (t : Ty). c.loop-place.scope ++ (v, t) ∷ []) c.type_at.ensures) c.loop-place.invariant
