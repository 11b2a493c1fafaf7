use Rattle.std.proofs.Common.{◌≤◌, ◌+◌, ◌++◌, List, length, sym, ap, ◌∙◌, arith}
use Rattle.std.proofs.lemmas.List.{append-nil}
use Rattle.low_forms.specs.declared.code.Instr.{Instr}
use Rattle.low_parse.specs.Scopes.{scope}
use Rattle.low_parse.proofs.Lasts.{none_left}
use Rattle.low_parse.proofs.code.instrs_of.Goals as goal

pub returns : goal.returns
returns c =
    let few : length c.args.all.now ≤ c.loop-at.at + 1 = omega (arith, c.loop-at-test.false, c.saturating_sub-at-end.ensures) in
    sym (append-nil c.loop-at.made)
    ∙ (ap (λ (l : List Instr). c.loop-at.made ++ l) (sym (none_left (scope c.args.seen) c.args.all.now c.loop-at.at few)) ∙ c.loop-at.invariant)
