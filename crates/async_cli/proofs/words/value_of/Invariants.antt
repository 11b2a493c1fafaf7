use Rattle.std.proofs.Common.{◌≡◌, map, drop}
use Rattle.std.specs.String.{string_bytes}
use Rattle.async_cli.specs.Words.{value_of}
use Rattle.async_cli.proofs.words.value_of.Given as goal

abbrev pub invariant-loop-word : goal.invariant-loop-word
invariant-loop-word l = value_of l.front (map string_bytes (drop l.word-index l.words)) ≡ value_of l.front (map string_bytes l.words)
