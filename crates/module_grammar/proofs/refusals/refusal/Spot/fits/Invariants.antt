use Rattle.std.proofs.Common.{◌≡◌, drop}
use Rattle.module_grammar.specs.Faults.{fits_first}
use Rattle.module_grammar.proofs.refusals.refusal.Spot.fits.Given as goal

abbrev pub invariant-loop-symbol : goal.invariant-loop-symbol
invariant-loop-symbol l = fits_first l.self.level l.sought (drop l.symbol-index l.self.left.now) ≡ fits_first l.self.level l.sought l.self.left.now
