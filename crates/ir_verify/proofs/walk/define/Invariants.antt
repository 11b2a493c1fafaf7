use Rattle.std.proofs.Common.{◌≡◌, ◌++◌, drop}
use Rattle.ir_verify.specs.Places.{defined}
use Rattle.ir_verify.proofs.walk.define.Given as goal

abbrev pub invariant-loop-place : goal.invariant-loop-place
invariant-loop-place l = l.scope ++ defined (drop l.place l.values) (drop l.place l.types) ≡ l.initial.scope ++ defined l.values l.types
