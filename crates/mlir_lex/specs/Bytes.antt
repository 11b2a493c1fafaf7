-- Classes of bytes.
use Rattle.std.specs.Prelude.{ℕ, ◌+◌, Bool, not, ◌||◌, ◌==◌, List, drop}
use Rattle.std.specs.Char.{is_ascii_digit, is_ascii_hexdigit, is_ascii_alphabetic, is_ascii_alphanumeric}
use Rattle.std.specs.List.{prefix_len}
use Rattle.mlir_lex.specs.declared.bytes.ByteClass.{ByteClass}
use Rattle.mlir_lex.specs.declared.bytes.ByteClass.TheVariants.{Blank, Line, NameStart, NamePart, SuffixPart, Digit, HexDigit, ShortEscape, Mark}

-- the byte is b's code: 9 tab, 10 newline, 13 carriage return, 32 space, 34 `"`, 36 `$`, 45 `-`, 46 `.`, 92 `\`, 95 `_`
unfoldable pub is_in : ByteClass → ℕ → Bool
is_in Blank b = b == 32 || b == 9 || b == 13 || b == 10
is_in Line b = not (b == 10)
is_in NameStart b = is_ascii_alphabetic b || b == 95
is_in NamePart b = is_ascii_alphanumeric b || b == 95 || b == 36 || b == 46
is_in SuffixPart b = is_ascii_alphanumeric b || b == 95 || b == 36 || b == 46 || b == 45
is_in Digit b = is_ascii_digit b
is_in HexDigit b = is_ascii_hexdigit b
-- `"`, `\`, `n`, `t`
is_in ShortEscape b = b == 34 || b == 92 || b == 110 || b == 116
-- `( ) { } [ ]`, `< >`, `, : = - *`
is_in Mark b =
    b == 40 || b == 41 || b == 123 || b == 125 || b == 91 || b == 93
    || b == 60 || b == 62 || b == 44 || b == 58 || b == 61 || b == 45 || b == 42

-- the first place from `at` on whose byte isn't of the class
abbrev pub past : ByteClass → List ℕ → ℕ → ℕ
past c text at = at + prefix_len (is_in c) (drop at text)
