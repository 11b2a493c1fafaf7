use Rattle.std.proofs.Common.{◌≡◌, ◌+◌, List, [], ◌∷◌, ◌++◌, length, drop, get_or, slice_get, ap, ◌∙◌}
use Rattle.std.proofs.lemmas.Option.{slice_get-get_or}
use Rattle.ir_forms.specs.declared.ops.ValueNo.{ValueNo}
use Rattle.ir_forms.specs.declared.types.Ty.{Ty}
use Rattle.low_forms.specs.declared.code.Reg.{Reg}
use Rattle.scf_blocks.specs.Tree.{Var, typed, or_untyped}
use Rattle.scf_blocks.specs.Code.{regs_from}
use Rattle.scf_blocks.specs.Bodies.{defined}
use Rattle.scf_blocks.proofs.Lists.{typed_next, made_next, defined_next}
use Rattle.scf_blocks.proofs.body.Body.define_results.Goals as goal

pub loop-place-preserved : goal.loop-place-preserved
loop-place-preserved c =
    let xs : List ValueNo = c.args.results.now in
    let ts : List Ty = c.args.types.now in
    let x : ValueNo = get_or xs c.loop-place.place (record { 0 = 0 }) in
    let v : Var = (x, or_untyped (slice_get ts c.loop-place.place)) in
    let here : List Var = typed (drop c.loop-place.place xs) (drop c.loop-place.place ts) in
    let more : List Var = typed (drop (c.loop-place.place + 1) xs) (drop (c.loop-place.place + 1) ts) in
    let step : here ≡ v ∷ more = typed_next xs ts c.loop-place.place x (slice_get-get_or xs c.loop-place.place (record { 0 = 0 }) c.loop-place-test.true) in
    let made : c.define.new.self ≡ defined (v ∷ []) c.loop-place.self =
    c.in_ok-define.ensures.1 ∙ ap (λ (t : Ty). let y : Var = (x, t) in defined (y ∷ []) c.loop-place.self) c.in_ok-ty.ensures in (
      ap (λ (l : List Reg). l ++ regs_from (length c.define.new.self.types) more) (c.in_ok-push.ensures.ok ∙ ap (λ (r : Reg). c.loop-place.list ++ r ∷ []) c.in_ok-define.ensures.0)
          ∙ made_next here more v c.loop-place.self c.define.new.self c.loop-place.list _ step made c.loop-place.invariant.0,
      defined_next here more v c.loop-place.self c.define.new.self _ step made c.loop-place.invariant.1,
    )
