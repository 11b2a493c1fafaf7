-- The tokens of a text with their bytes, as the grammar reads them.
use Rattle.std.specs.Prelude.{◌≡◌, ℕ, ◌-◌, ◌==◌, Bool, false, List, [], ◌∷◌, Option, Some, None, take, drop}
use Rattle.mlir_lex.specs.declared.kinds.Token.{Token}
use Rattle.mlir_lex.specs.Answer.{AreTokens}
use Rattle.module_grammar.specs.declared.state.TextToken.{TextToken}

-- a token that begins here follows at once on one that ends here
abbrev pub is_at : Option ℕ → ℕ → Bool
is_at None start = false
is_at (Some end) start = end == start

-- a token with its bytes, behind one that ends here
abbrev pub text_token_of : List ℕ → Option ℕ → Token → TextToken
text_token_of text end t = record { kind = t.kind; text = take (t.end - t.start) (drop t.start text); at = t.start; joined = is_at end t.start }

abbrev pub text_tokens_behind : List ℕ → Option ℕ → List Token → List TextToken
text_tokens_behind text end [] = []
text_tokens_behind text end (t ∷ ts) = text_token_of text end t ∷ text_tokens_behind text (Some t.end) ts

-- the tokens, each with its bytes and whether it follows at once on the one before; the first follows on none
abbrev pub text_tokens_of : List ℕ → List Token → List TextToken
text_tokens_of text tokens = text_tokens_behind text None tokens

-- the text is cut into these tokens
abbrev pub AreTokensOf : List ℕ → List TextToken → Type 0
AreTokensOf text text_tokens = (tokens : List Token) × AreTokens text tokens × (text_tokens ≡ text_tokens_of text tokens)
