use Rattle.std.proofs.Common.{◌≡◌, map, drop}
use Rattle.std.specs.String.{string_bytes}
use Rattle.async_cli.specs.Words.{are_options}
use Rattle.async_cli.proofs.words.are_options.Given as goal

abbrev pub invariant-loop-word : goal.invariant-loop-word
invariant-loop-word l = are_options (map string_bytes (drop l.word-index l.words)) ≡ are_options (map string_bytes l.words)
