use Rattle.std.proofs.Common.{◌≡◌, ◌+◌, ◌≤◌, length, map}
use Rattle.ir_forms.specs.Shapes.{most_cells}
use Rattle.arguments.specs.Fits.{before_all, fitted_from, fitted_args}
use Rattle.arguments.proofs.fitting.fit_into.Given as goal

-- the values so far, and those of the arguments that are left
abbrev pub invariant-loop-param : goal.invariant-loop-param
invariant-loop-param l =
    (before_all l.values (fitted_from l.at l.used (map (λ p. p.1) l.params_left) l.args_left) ≡ fitted_args (map (λ p. p.1) l.params) l.args)
    × (l.used ≤ most_cells) × (l.at + length l.args_left ≡ length l.args)

abbrev pub decreases-loop-param : goal.decreases-loop-param
decreases-loop-param l = length l.args_left
