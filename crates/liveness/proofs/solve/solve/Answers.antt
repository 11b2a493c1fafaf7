use Rattle.std.proofs.Common.{◌≡◌, List, Bool, ℕ, false, length, replicate, sym, subst, rules}
use Rattle.liveness.specs.Flow.{before, countdown}
use Rattle.liveness.specs.State.{IsState}
use Rattle.liveness.proofs.StateLemmas.{begins}
use Rattle.liveness.proofs.BeforeLemmas.{are_before_by, most_to_do, visits_within}
use Rattle.liveness.proofs.solve.solve.Goals as goal

pub run-requires-clause-before : goal.run-requires-clause-before
run-requires-clause-before g c =
    let is : c.in_ok-before.before.items ≡ before c.args.targets.now = search rules in
    are_before_by c.args.func.now c.deref.result.now c.in_ok-before.before.items c.args.targets.now c.deref.ensures.value is c.requires

pub run-requires-clause-state : goal.run-requires-clause-state
run-requires-clause-state g c =
    let sets_are : c.in_ok-sets.sets.items ≡ replicate (length c.args.func.now.blocks) (replicate (length c.args.func.now.regs) false) = search rules in
    let waiting_is : c.in_ok-waiting.waiting.items ≡ countdown (length c.args.func.now.blocks) = search rules in
    subst (λ (ws : List ℕ). IsState c.args.func.now c.in_ok-sets.sets.items ws) (sym waiting_is)
    (subst (λ (ss : List (List Bool)). IsState c.args.func.now ss (countdown (length c.args.func.now.blocks))) (sym sets_are) (begins c.args.func.now))

pub returns-in_err-run-clause-visits : goal.returns-in_err-run-clause-visits
returns-in_err-run-clause-visits g c =
    let is : c.in_ok-before.before.items ≡ before c.args.targets.now = search rules in
    let sets_are : c.in_ok-sets.sets.items ≡ replicate (length c.args.func.now.blocks) (replicate (length c.args.func.now.regs) false) = search rules in
    let waiting_is : c.in_ok-waiting.waiting.items ≡ countdown (length c.args.func.now.blocks) = search rules in
    visits_within c.args.steps.now c.run.new.steps _ _ c.run.ensures.visits
    (most_to_do c.args.func.now c.deref.result.now c.in_ok-before.before.items c.args.targets.now c.in_ok-sets.sets.items c.in_ok-waiting.waiting.items c.deref.ensures.value is c.requires sets_are waiting_is)

pub returns-clause-visits : goal.returns-clause-visits
returns-clause-visits g c =
    let is : c.in_ok-before.before.items ≡ before c.args.targets.now = search rules in
    let sets_are : c.in_ok-sets.sets.items ≡ replicate (length c.args.func.now.blocks) (replicate (length c.args.func.now.regs) false) = search rules in
    let waiting_is : c.in_ok-waiting.waiting.items ≡ countdown (length c.args.func.now.blocks) = search rules in
    visits_within c.args.steps.now c.run.new.steps _ _ c.run.ensures.visits
    (most_to_do c.args.func.now c.deref.result.now c.in_ok-before.before.items c.args.targets.now c.in_ok-sets.sets.items c.in_ok-waiting.waiting.items c.deref.ensures.value is c.requires sets_are waiting_is)
