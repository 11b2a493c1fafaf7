use Rattle.std.proofs.Common.{◌≡◌, drop}
use Rattle.arguments.specs.Grammar.{verdict_from}
use Rattle.arguments.proofs.reader.Front.take_all.Given as goal

-- what is read so far, and the bytes that are left
abbrev pub invariant-loop-at : goal.invariant-loop-at
invariant-loop-at l = verdict_from l.at l.self (drop l.at l.bytes) ≡ verdict_from 0 l.initial.self l.bytes
