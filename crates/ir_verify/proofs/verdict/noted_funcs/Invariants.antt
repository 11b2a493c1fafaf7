use Rattle.std.proofs.Common.{◌≡◌, drop, None}
use Rattle.ir_verify.specs.Verdict.{noted_funcs}
use Rattle.ir_verify.proofs.verdict.noted_funcs.Given as goal

abbrev pub invariant-loop-place : goal.invariant-loop-place
invariant-loop-place l = noted_funcs l.funcs l.marks l.place (drop l.place l.funcs) l.best ≡ noted_funcs l.funcs l.marks 0 l.funcs None
