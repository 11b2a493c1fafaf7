use Rattle.std.proofs.Common.{◌≡◌, suc, ◌-◌, length, arith, ◌∙◌}
use Rattle.ir_verify.proofs.LastLemmas.{last_at}
use Rattle.ir_verify.proofs.breaks.last_form.Goals as goal

pub returns-in-len1-up : goal.returns-in-len1-up
returns-in-len1-up c =
    let counted : length c.args.ops.now ≡ suc (length c.args.ops.now - 1) = omega arith in
    c.form_of.ensures ∙ last_at c.args.ops.now (length c.args.ops.now - 1) c.op-item.result counted c.op-item.is
