use Rattle.std.proofs.Common.{◌≡◌, ℕ, List, [], subst, rules}
use Rattle.liveness.specs.State.{IsState}
use Rattle.liveness.proofs.StateLemmas.{solved}
use Rattle.liveness.proofs.solve.run.Goals as goal

pub returns-clause-solution : goal.returns-clause-solution
returns-clause-solution g c =
    let none : c.loop-block.waiting.items ≡ [] = search rules in
    solved c.args.func.now c.loop-block.sets.items (subst (λ (ws : List ℕ). IsState c.args.func.now c.loop-block.sets.items ws) none c.loop-block.invariant.state)
