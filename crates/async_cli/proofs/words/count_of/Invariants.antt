use Rattle.std.proofs.Common.{◌≡◌, ◌≤◌, ◌+◌, map, drop}
use Rattle.std.specs.String.{string_bytes}
use Rattle.async_cli.specs.Words.{count_of}
use Rattle.async_cli.proofs.words.count_of.Given as goal

-- those counted so far, and those among the words left, are all
abbrev pub invariant-loop-word : goal.invariant-loop-word
invariant-loop-word l =
    (l.count ≤ l.word-index)
    × (count_of l.front (map string_bytes (drop l.word-index l.words)) + l.count ≡ count_of l.front (map string_bytes l.words))
