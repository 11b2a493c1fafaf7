use Rattle.std.proofs.Common.{◌≡◌, ◌++◌, drop}
use Rattle.mlir_text.specs.Tokens.{text_tokens_of, text_tokens_behind}
use Rattle.low_parse.proofs.tokens.text_tokens_of.Given as goal

abbrev pub invariant-loop-token : goal.invariant-loop-token
invariant-loop-token l = l.text_tokens.items ++ text_tokens_behind l.bytes l.end (drop l.token-index l.tokens) ≡ text_tokens_of l.bytes l.tokens
