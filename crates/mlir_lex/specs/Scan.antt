-- The tokens of a text, computed from its front to its end. What they are is said in Grammar.
use Rattle.std.specs.Prelude.{ℕ, zero, suc, ◌+◌, ◌-◌, Bool, false, not, ◌&&◌, ◌==◌, if◌then◌else◌, List, [], ◌∷◌, take, drop, slice_index, nat_eq, nat_lt, is_none, Option, Some, None, Result, Ok, Err, codes}
use Rattle.std.specs.List.{starts_with}
use Rattle.std.specs.Option.{option_map, option_and_then}
use Rattle.mlir_lex.specs.declared.bytes.ByteClass.TheVariants.{Blank, Line, NameStart, NamePart, SuffixPart, Digit, HexDigit, Mark}
use Rattle.mlir_lex.specs.declared.strings.Escape.TheVariants as escape
use Rattle.mlir_lex.specs.declared.kinds.TokenKind.{TokenKind}
use Rattle.mlir_lex.specs.declared.kinds.TokenKind.TheVariants.{Name, ValueName, BlockName, SymbolName, HashName, SymbolText, Digits, Hex, Text, Memref, BangName, Arrow, Byte, End}
use Rattle.mlir_lex.specs.declared.kinds.Token.{Token}
use Rattle.mlir_lex.specs.declared.kinds.LexFault.{LexFault}
use Rattle.mlir_lex.specs.declared.kinds.LexFault.TheVariants as fault
use Rattle.mlir_lex.specs.declared.scan.Lead.{Lead}
use Rattle.mlir_lex.specs.declared.scan.Lead.TheVariants as lead
use Rattle.mlir_lex.specs.declared.scan.Item.{Item}
use Rattle.mlir_lex.specs.declared.scan.Item.TheVariants as item
use Rattle.mlir_lex.specs.Bytes.{is_in, past}
use Rattle.mlir_lex.specs.Grammar.{escapes_well, open_after, before, token_at, is_digits}

-- the place after the closing quote of a string, for bytes that begin at `at`
abbrev pub quote_end : List ℕ → Bool → ℕ → Option ℕ
quote_end [] hidden at = None
quote_end (b ∷ bs) hidden at =
    if b == 10 then None else (if b == 34 && not hidden then Some (at + 1) else quote_end bs (b == 92 && not hidden) (at + 1))

-- the length of what a quote at the front encloses, with its quotes
abbrev pub quoted_len : List ℕ → Option ℕ
quoted_len text = if slice_index text 0 == 34 then quote_end (drop 1 text) false 1 else None

abbrev pub string_len : List ℕ → Option ℕ
string_len text = option_and_then (λ n. if escapes_well (take n text) escape.Outside then Some n else None) (quoted_len text)

-- the place after the matching `>`, for bytes that begin at `at`
abbrev pub bracket_end : List ℕ → ℕ → ℕ → Option ℕ
bracket_end [] inner at = None
bracket_end (b ∷ bs) inner at = if b == 62 && inner == 0 then Some (at + 1) else bracket_end bs (open_after b inner) (at + 1)

-- how many of the bytes `>` have no matching `<` among the bytes
abbrev pub spare : List ℕ → ℕ
spare [] = 0
spare (b ∷ bs) = if b == 62 then spare bs + 1 else (if b == 60 then spare bs - 1 else spare bs)

-- for each byte, whether a `<` there would have its matching `>`
abbrev pub closed_at : List ℕ → List Bool
closed_at [] = []
closed_at (b ∷ bs) = nat_lt 0 (spare bs) ∷ closed_at bs

abbrev pub memref_len : List ℕ → Option ℕ
memref_len text = if starts_with nat_eq text (codes "memref<") then bracket_end (drop 7 text) 0 7 else None

abbrev pub word : List ℕ → Option ℕ → TokenKind × ℕ
word text (Some n) = (Memref, n)
word text None = (Name, past NamePart text 1)

abbrev pub number : List ℕ → TokenKind × ℕ
number text =
    if starts_with nat_eq text (codes "0x") && is_in HexDigit (slice_index text 2) then (Hex, past HexDigit text 2) else (Digits, past Digit text 1)

abbrev pub signed_name : TokenKind → List ℕ → Option (TokenKind × ℕ)
signed_name kind text = if is_in SuffixPart (slice_index text 1) then Some (kind, past SuffixPart text 1) else None

abbrev pub symbol : List ℕ → Option (TokenKind × ℕ)
symbol text =
    if is_in SuffixPart (slice_index text 1) then Some (SymbolName, past SuffixPart text 1)
    else option_map (λ n. (SymbolText, n + 1)) (string_len (drop 1 text))

abbrev pub bang_name : List ℕ → Option (TokenKind × ℕ)
bang_name text = if is_in NameStart (slice_index text 1) then Some (BangName, past NamePart text 1) else None

abbrev pub dash : List ℕ → TokenKind × ℕ
dash text = if slice_index text 1 == 62 then (Arrow, 2) else (Byte 45, 1)

-- what a byte begins
unfoldable pub lead_of : ℕ → Lead
lead_of b =
    if is_in NameStart b then lead.Word else (if is_in Digit b then lead.Number
    else (if b == 37 then lead.Signed ValueName else (if b == 94 then lead.Signed BlockName else (if b == 35 then lead.Signed HashName
    else (if b == 64 then lead.Symbol else (if b == 34 then lead.Quote else (if b == 33 then lead.Bang else (if b == 45 then lead.Dash
    else (if is_in Mark b then lead.Mark b else lead.Other)))))))))

abbrev pub front_from : Lead → List ℕ → Option (TokenKind × ℕ)
front_from lead.Word text = Some (word text (memref_len text))
front_from lead.Number text = Some (number text)
front_from (lead.Signed kind) text = signed_name kind text
front_from lead.Symbol text = symbol text
front_from lead.Quote text = option_map (λ n. (Text, n)) (string_len text)
front_from lead.Bang text = bang_name text
front_from lead.Dash text = Some (dash text)
front_from (lead.Mark mark) text = Some (Byte mark, 1)
front_from lead.Other text = None

-- the longest token at the front of a text that has a byte
unfoldable pub front : List ℕ → Option (TokenKind × ℕ)
front text = front_from (lead_of (slice_index text 0)) text

abbrev pub piece_of : List ℕ → Option (TokenKind × ℕ) → Item
piece_of text (Some t) = item.Piece t.0 t.1
piece_of text None = if slice_index text 0 == 34 && is_none (quoted_len text) then item.OpenString else item.BadByte

-- blanks, a comment, a token or a fault at the front of a text that has a byte
unfoldable pub item_of : Bool → List ℕ → Item
item_of digits text =
    if is_in Blank (slice_index text 0) then item.Gap 1
    else (if starts_with nat_eq text (codes "//") then item.Gap (past Line text 2)
    else (if digits && slice_index text 0 == 46 then item.Piece (Byte 46) 1
    else piece_of text (front text)))

-- The tokens from byte `at` on, or the first fault. The next `left` bytes are of a token or gap that was read already.
abbrev pub read : List ℕ → ℕ → Bool → ℕ → Result (List Token) LexFault
read [] at digits left = Ok (token_at End at at ∷ [])
read (b ∷ bs) at digits (suc left) = read bs (at + 1) digits left
read (b ∷ bs) at digits zero = elim (item_of digits (b ∷ bs)) [
  | item.Gap n ↦ read bs (at + 1) false (n - 1)
  | item.Piece kind n ↦ before (token_at kind at (at + n)) (read bs (at + 1) (is_digits kind) (n - 1))
  | item.OpenString ↦ Err (fault.OpenString at)
  | item.BadByte ↦ Err (fault.BadByte at)
]

-- a whole text
abbrev pub reading : List ℕ → Result (List Token) LexFault
reading text = read text 0 false 0
