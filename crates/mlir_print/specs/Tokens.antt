-- The tokens of values, symbols, strings, literals and predicates.
use Rattle.std.specs.Prelude.{ℕ, ◌/◌, ◌%◌, ◌==◌, nat_lt, Bool, true, false, ◌&&◌, ◌||◌, if◌then◌else◌, List, [], ◌∷◌, ◌++◌, codes, decimal}
use Rattle.std.specs.Fmt.{digit_glyph}
use Rattle.std.specs.Char.{is_ascii_alphanumeric}
use Rattle.mlir_lex.specs.declared.kinds.TokenKind.TheVariants as kind
use Rattle.int_ops.specs.declared.Pred.{Pred}
use Rattle.int_ops.specs.declared.Pred.TheVariants as pred
use Rattle.ir_forms.specs.declared.ops.ValueNo.{ValueNo}
use Rattle.ir_forms.specs.declared.ops.Attr.{Attr}
use Rattle.ir_forms.specs.declared.ops.Attr.TheVariants as attr
use Rattle.mlir_print.specs.Docs.{Doc, Empty, Token, ◌<>◌, word, mark, number}

-- ---- values

-- a value's number; one that stands for a name that isn't visible is `unknown`
unfoldable pub value_name : ValueNo → List ℕ
value_name v = if v.0 == 4294967295 then codes "unknown" else decimal v.0

abbrev pub value : ValueNo → Doc
value v = Token kind.ValueName (37 ∷ value_name v)

-- ---- strings

-- the last hexadecimal digit of a number
abbrev pub hex_digit : ℕ → ℕ
hex_digit n = digit_glyph true (n % 16)

-- a quote and a backslash have a backslash in front; a byte outside of 32 to 126 is a backslash and two hexadecimal digits
abbrev pub escaped : ℕ → List ℕ
escaped b =
    if b == 34 || b == 92 then 92 ∷ b ∷ []
    else (if nat_lt b 32 || nat_lt 126 b then 92 ∷ hex_digit (b / 16) ∷ hex_digit b ∷ [] else b ∷ [])

abbrev pub all_escaped : List ℕ → List ℕ
all_escaped [] = []
all_escaped (b ∷ bs) = escaped b ++ all_escaped bs

abbrev pub quoted : List ℕ → List ℕ
quoted text = 34 ∷ all_escaped text ++ 34 ∷ []

-- ---- symbols

-- letters, digits, `_`, `$`, `.`, `-`
abbrev pub is_symbol_byte : ℕ → Bool
is_symbol_byte b = is_ascii_alphanumeric b || b == 95 || b == 36 || b == 46 || b == 45

abbrev pub all_symbol_bytes : List ℕ → Bool
all_symbol_bytes [] = true
all_symbol_bytes (b ∷ bs) = is_symbol_byte b && all_symbol_bytes bs

-- the name needs no quotes
abbrev pub is_plain : List ℕ → Bool
is_plain [] = false
is_plain (b ∷ bs) = all_symbol_bytes (b ∷ bs)

abbrev pub symbol : List ℕ → Doc
symbol name = if is_plain name then Token kind.SymbolName (64 ∷ name) else Token kind.SymbolText (64 ∷ quoted name)

-- ---- what an operation carries

abbrev pub pred_name : Pred → List ℕ
pred_name pred.Eq = codes "eq"
pred_name pred.Ne = codes "ne"
pred_name pred.Slt = codes "slt"
pred_name pred.Sle = codes "sle"
pred_name pred.Sgt = codes "sgt"
pred_name pred.Sge = codes "sge"
pred_name pred.Ult = codes "ult"
pred_name pred.Ule = codes "ule"
pred_name pred.Ugt = codes "ugt"
pred_name pred.Uge = codes "uge"

-- a literal with its sign, a truth, a predicate, a text, or the name of a function
abbrev pub attr_doc : Attr → Doc
attr_doc attr.None = Empty
attr_doc (attr.Literal true magnitude) = mark 45 <> number magnitude
attr_doc (attr.Literal false magnitude) = number magnitude
attr_doc (attr.Truth true) = word (codes "true")
attr_doc (attr.Truth false) = word (codes "false")
attr_doc (attr.Pred p) = word (pred_name p)
attr_doc (attr.Text text) = Token kind.Text (quoted text)
attr_doc (attr.Callee name) = symbol name
