use Rattle.std.proofs.Common.{◌≡◌, ℕ, List, cond}
use Rattle.race_order.specs.Known.{is_iteration}
use Rattle.race_order.specs.Sights.{number_in}
use Rattle.race_order.proofs.tasks.make_iterations.Given as goal

abbrev pub invariant-loop-iteration : goal.invariant-loop-iteration
invariant-loop-iteration l = (q : List ℕ) → number_in l.clocks q ≡ cond (is_iteration l.task l.action l.iteration q) l.own (number_in l.initial.clocks q)
