use Rattle.std.proofs.Common.{◌≡◌, ◌≤◌, drop}
use Rattle.async_cli.specs.Words.{number_behind}
use Rattle.async_cli.proofs.words.read_digits.Given as goal

-- the digits left go on from the number of those before
abbrev pub invariant-loop-byte : goal.invariant-loop-byte
invariant-loop-byte l = (l.number ≤ l.most) × (number_behind l.most l.number (drop l.byte-index l.bytes) ≡ number_behind l.most 0 l.bytes)
