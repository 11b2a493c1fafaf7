use Rattle.std.proofs.Common.{◌≡◌, drop}
use Rattle.ir_verify.specs.Levels.{latest, level_of, kinds_of}
use Rattle.ir_verify.proofs.level.level_of.Given as goal

abbrev pub invariant-loop-func : goal.invariant-loop-func
invariant-loop-func l = latest l.latest (kinds_of (drop l.func-index l.funcs)) ≡ level_of l.funcs
