use Rattle.std.proofs.Common.{◌≡◌, drop}
use Rattle.ir_verify.specs.Entry.{entry_from}
use Rattle.ir_verify.proofs.entry.entry_among.Given as goal

abbrev pub invariant-loop-place : goal.invariant-loop-place
invariant-loop-place l = entry_from l.place (drop l.place l.funcs) l.name ≡ entry_from 0 l.funcs l.name
