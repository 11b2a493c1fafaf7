-- What a call answers.
use Rattle.std.specs.Prelude.{◌≡◌, ◌<◌, ◌≤◌, ℕ, Bool, true, false, List, [], ◌∷◌, Result, Ok, Err, IsUtf8, All}
use Rattle.std.specs.Str.{IsValidUpTo}
use Rattle.mlir_lex.specs.declared.kinds.TokenKind.{TokenKind}
use Rattle.mlir_lex.specs.declared.kinds.TokenKind.TheVariants.{End}
use Rattle.mlir_lex.specs.declared.kinds.Token.{Token}
use Rattle.mlir_lex.specs.declared.kinds.LexFault.{LexFault}
use Rattle.mlir_lex.specs.declared.kinds.LexFault.TheVariants.{BadUtf8, OpenString, BadByte, OutOfMemory}
use Rattle.mlir_lex.specs.Grammar.{token_at, Reads}

-- the text reads as these tokens
abbrev pub AreTokens : List ℕ → List Token → Type 0
AreTokens text tokens = IsUtf8 text × Reads 0 false text (Ok tokens)

-- This is why the text has no tokens. What isn't UTF-8 stands before all else, then the first of the others.
abbrev pub IsFault : List ℕ → LexFault → Type 0
IsFault text (BadUtf8 at) = (IsUtf8 text → ⊥) × IsValidUpTo text at
IsFault text (OpenString at) = IsUtf8 text × Reads 0 false text (Err (OpenString at))
IsFault text (BadByte at) = IsUtf8 text × Reads 0 false text (Err (BadByte at))
IsFault text OutOfMemory = IsUtf8 text

-- the fault is that of the computed reading, unless memory ran out
abbrev pub Refuses : LexFault → Result (List Token) LexFault → Type 0
Refuses (BadUtf8 at) outcome = outcome ≡ Err (BadUtf8 at)
Refuses (OpenString at) outcome = outcome ≡ Err (OpenString at)
Refuses (BadByte at) outcome = outcome ≡ Err (BadByte at)
Refuses OutOfMemory outcome = Unit {0}

abbrev pub is_end : TokenKind → Bool
is_end End = true
is_end _ = false

-- Each token begins where the one before ends, or later, and has a byte. The last one alone is End, at the length.
abbrev pub AreInOrder : ℕ → List Token → ℕ → Type 0
AreInOrder from [] len = ⊥
AreInOrder from (t ∷ []) len = (from ≤ len) × (t ≡ token_at End len len)
AreInOrder from (t ∷ u ∷ ts) len = (from ≤ t.start) × (t.start < t.end) × (is_end t.kind ≡ false) × AreInOrder t.end (u ∷ ts) len

-- each token is a part of a text of this length
abbrev pub AreWithin : List Token → ℕ → Type 0
AreWithin tokens len = All (λ t. (t.start ≤ t.end) × (t.end ≤ len)) tokens
