use Rattle.std.proofs.Common.{◌≡◌, List, Bool, ℕ, drop, Some, None, ap, ◌∙◌, arith, rules}
use Rattle.std.specs.Prelude.{slice_get}
use Rattle.low_flow.specs.Lists.{list_at}
use Rattle.liveness.specs.Flow.{live_before, over}
use Rattle.liveness.proofs.LiveLemmas.{exact, not_missing, not_past}
use Rattle.liveness.proofs.live_map.is_live.Goals as goal

pub returns-in_default : goal.returns-in_default
returns-in_default c =
    let none : slice_get c.args.func.now.blocks c.args.block ≡ None = search rules in
    not_missing c.args.func.now c.args.number c.args.block c.args.row none

pub returns-then-row-len : goal.returns-then-row-len
returns-then-row-len c =
    let at : slice_get c.args.func.now.blocks c.args.block ≡ Some c.in-Some.code.now = search rules in
    not_past c.args.func.now c.args.number c.args.block c.args.row c.in-Some.code.now at (omega (arith, c.len.ensures, c.if-row-len.true))

pub returns : goal.returns
returns c =
    let at : slice_get c.args.func.now.blocks c.args.block ≡ Some c.in-Some.code.now = search rules in
    exact c.args.func.now c.args.number c.args.table.now.sets.items c.requires.table.solution c.requires.known c.args.block c.args.row c.in-Some.code.now c.live_from.result at
    (omega (arith, c.len.ensures, c.if-row-len.false))
    (c.live_from.ensures ∙ ap (λ out. live_before (drop c.args.row c.in-Some.code.now.instrs) c.in-Some.code.now.term out c.args.number)
    (c.is_over-out.ensures ∙ ap (λ (ss : List (List Bool)). over ss c.args.number c.list_at.result.now) c.deref.ensures.value
    ∙ ap (λ (cs : List ℕ). over c.args.table.now.sets.items c.args.number cs)
    (c.list_at.ensures ∙ ap (λ (ls : List (List ℕ)). list_at ls c.args.block) (c.deref-2.ensures.value ∙ c.requires.table.targets))))
