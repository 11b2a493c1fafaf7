use Rattle.std.proofs.Common.{◌≡◌, ◌<◌, ◌≤◌, length, Some, false, ap, ◌∙◌, subst, arith, rules}
use Rattle.std.specs.Prelude.{slice_get}
use Rattle.low_forms.specs.declared.code.LowFunc.{LowFunc}
use Rattle.live_truths.specs.Truths.{is_live}
use Rattle.ref_counting.proofs.LiveLemmas.{told, not_known}
use Rattle.ref_counting.proofs.plan.Plan.is_live.Goals as goal

pub returns-then-number-len : goal.returns-then-number-len
returns-then-number-len c =
    let block : c.in_ok-block.block ≡ c.args.block = search rules in
    let row : c.in_ok-row.row ≡ c.args.row = search rules in
    let same : c.in_ok-number.number ≡ c.args.number = search rules in
    let known : c.in_ok-number.number < length c.self.inside.func.now.regs = omega (arith, c.len.ensures, c.if-number-len.true, same) in
    told c.self.inside.map.now c.self.inside.number c.self.inside.func.now c.in_ok-block.block c.in_ok-row.row c.in_ok-number.number c.self.invariant.0 known c.at.result c.at.ensures
    ∙ ap (λ (f : LowFunc). is_live f c.in_ok-block.block c.in_ok-row.row c.in_ok-number.number) c.self.view_is
    ∙ ap (λ x. is_live c.args.self.now x c.in_ok-row.row c.in_ok-number.number) block
    ∙ ap (λ x. is_live c.args.self.now c.args.block x c.in_ok-number.number) row
    ∙ ap (λ x. is_live c.args.self.now c.args.block c.args.row x) same

pub returns : goal.returns
returns c =
    let past : length c.self.inside.func.now.regs ≤ c.args.number = omega (arith, c.len.ensures, c.if-number-len.false) in
    not_known c.self.inside.func.now c.args.block c.args.row c.args.number past
    ∙ ap (λ (f : LowFunc). is_live f c.args.block c.args.row c.args.number) c.self.view_is
