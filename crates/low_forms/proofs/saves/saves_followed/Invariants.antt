use Rattle.std.proofs.Common.{◌≡◌, drop}
use Rattle.low_forms.specs.Saves.{saves_followed}
use Rattle.low_forms.proofs.saves.saves_followed.Given as goal

abbrev pub invariant-loop-place : goal.invariant-loop-place
invariant-loop-place l = saves_followed l.is_first (drop l.place l.instrs) l.term ≡ saves_followed l.is_first l.instrs l.term
