-- Laws over the definitions alone.
use Rattle.std.specs.Prelude.{◌≡◌, ℕ, Bool, true, false, not, ◌&&◌, ◌==◌, List, ◌++◌, length, slice_index, Result, ◌↔◌, codes}
use Rattle.std.specs.Str.{bytes_eq}
use Rattle.mlir_lex.specs.declared.bytes.ByteClass.TheVariants.{NamePart, SuffixPart, Digit, HexDigit}
use Rattle.mlir_lex.specs.declared.kinds.Token.{Token}
use Rattle.mlir_lex.specs.declared.kinds.TokenKind.{TokenKind}
use Rattle.mlir_lex.specs.declared.kinds.TokenKind.TheVariants.{Name, ValueName, BlockName, SymbolName, HashName, SymbolText, Digits, Hex, Text, Memref, BangName, Arrow, Byte, End}
use Rattle.mlir_lex.specs.declared.kinds.LexFault.{LexFault}
use Rattle.mlir_lex.specs.Bytes.{is_in}
use Rattle.mlir_lex.specs.Grammar.{is_token, IsLongest, Reads}
use Rattle.mlir_lex.specs.Scan.{reading}

-- each text reads as one thing, and that is what is computed
abbrev pub OneReading : Type 0
OneReading = (text : List ℕ) (outcome : Result (List Token) LexFault) → Reads 0 false text outcome ↔ (reading text ≡ outcome)

-- The text after a token of this kind can't lengthen it, as its first byte shows. (Past its end a text reads as 0, which is in
-- no class.) The byte 60 is `<`, 62 `>`, 120 `x`.
abbrev pub is_apart : TokenKind → List ℕ → List ℕ → Bool
is_apart Name token rest =
    not (is_in NamePart (slice_index rest 0)) && not (bytes_eq token (codes "memref") && slice_index rest 0 == 60)
is_apart ValueName token rest = not (is_in SuffixPart (slice_index rest 0))
is_apart BlockName token rest = not (is_in SuffixPart (slice_index rest 0))
is_apart SymbolName token rest = not (is_in SuffixPart (slice_index rest 0))
is_apart HashName token rest = not (is_in SuffixPart (slice_index rest 0))
is_apart SymbolText token rest = true
is_apart Digits token rest = not (is_in Digit (slice_index rest 0)) && not (bytes_eq token (codes "0") && slice_index rest 0 == 120)
is_apart Hex token rest = not (is_in HexDigit (slice_index rest 0))
is_apart Text token rest = true
is_apart Memref token rest = true
is_apart BangName token rest = not (is_in NamePart (slice_index rest 0))
is_apart Arrow token rest = true
is_apart (Byte mark) token rest = not (mark == 45 && slice_index rest 0 == 62)
is_apart End token rest = true

-- a token with what can't lengthen it behind it is read back as itself
abbrev pub ReadBack : Type 0
ReadBack = (kind : TokenKind) (token rest : List ℕ) → is_token kind token ≡ true → is_apart kind token rest ≡ true
    → IsLongest kind (length token) (token ++ rest)

-- no bytes are a token of two kinds
abbrev pub OneKind : Type 0
OneKind = (text : List ℕ) (kind other : TokenKind) → is_token kind text ≡ true → is_token other text ≡ true → kind ≡ other
