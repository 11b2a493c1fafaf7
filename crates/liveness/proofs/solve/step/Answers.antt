use Rattle.std.proofs.Common.{◌≡◌, ◌++◌, List, ℕ, ap, ◌∙◌, rules}
use Rattle.liveness.proofs.ListLemmas.{has_here}
use Rattle.liveness.proofs.StateLemmas.{state_kept, less_kept, state_grown, less_grown}
use Rattle.liveness.proofs.solve.step.Goals as goal

pub visit-requires-clause-within : goal.visit-requires-clause-within
visit-requires-clause-within c = c.requires.state.within c.args.block (has_here c.args.block c.args.waiting.now.items)

pub returns-clause-state : goal.returns-clause-state
returns-clause-state c = state_kept c.args.func.now c.args.sets.now.items c.visit.new.sets.items c.args.block c.in_ok-visit.field-0 c.args.waiting.now.items c.in_ok-visit.ensures c.requires.state c.if-branch.false

pub returns-clause-less : goal.returns-clause-less
returns-clause-less c = less_kept c.args.func.now c.args.before.now c.args.sets.now.items c.visit.new.sets.items c.args.block c.in_ok-visit.field-0 c.args.waiting.now.items c.in_ok-visit.ensures c.requires.state c.if-branch.false

pub returns-then-branch-clause-state : goal.returns-then-branch-clause-state
returns-then-branch-clause-state c =
    let all : c.wait_all.new.waiting.items ≡ c.args.waiting.now.items ++ c.list_at.result.now = search rules in
    state_grown c.args.func.now c.args.before.now c.args.sets.now.items c.visit.new.sets.items c.args.block c.in_ok-visit.field-0 c.args.waiting.now.items c.wait_all.new.waiting.items
    c.requires.before c.in_ok-visit.ensures c.requires.state (all ∙ ap (λ (xs : List ℕ). c.args.waiting.now.items ++ xs) c.list_at.ensures)

pub returns-then-branch-clause-less : goal.returns-then-branch-clause-less
returns-then-branch-clause-less c =
    let all : c.wait_all.new.waiting.items ≡ c.args.waiting.now.items ++ c.list_at.result.now = search rules in
    less_grown c.args.func.now c.args.before.now c.args.sets.now.items c.visit.new.sets.items c.args.block c.in_ok-visit.field-0 c.args.waiting.now.items c.wait_all.new.waiting.items
    c.in_ok-visit.ensures c.requires.state c.if-branch.true (all ∙ ap (λ (xs : List ℕ). c.args.waiting.now.items ++ xs) c.list_at.ensures)
