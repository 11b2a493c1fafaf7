-- The functions are gone through one by one.
use Rattle.std.proofs.Common.{◌≡◌, ◌<◌, ◌≤◌, length, get_or, refl, rules}
use Rattle.low_forms.specs.WellFormed.{IsWellFormed}
use Rattle.low_forms.proofs.WellLemmas.{kept_next, kept_all}
use Rattle.low_forms.proofs.well.well_formed.Goals as goal

pub loop-func-preserved : goal.loop-func-preserved
loop-func-preserved c =
    let inside : c.loop-func.func-index < length c.args.code.now.funcs = search rules in
    let item : c.func-item.result ≡ get_or c.args.code.now.funcs c.loop-func.func-index c.func-item.result = search rules in
    let well : IsWellFormed c.args.code.now c.func-item.result = search rules in
    kept_next c.args.code.now c.loop-func.func-index c.func-item.result inside item well c.loop-func.invariant

pub returns : goal.returns
returns c =
    let past : length c.args.code.now.funcs ≤ c.loop-func.func-index = search rules in
    ((λ holds. kept_all c.args.code.now c.loop-func.func-index past c.loop-func.invariant), λ all. refl)
