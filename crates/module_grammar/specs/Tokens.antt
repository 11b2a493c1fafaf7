-- What one token says: a word, a number, a type, a symbol, a string.
use Rattle.std.specs.Prelude.{ℕ, ◌+◌, ◌-◌, ◌*◌, ◌%◌, min, Bool, true, false, not, ◌&&◌, ◌||◌, if◌then◌else◌, ◌==◌, nat_le, nat_lt, List, [], ◌∷◌, ◌++◌, length, drop, take, filter, Option, Some, None, codes, bytes_eq, option_map}
use Rattle.mlir_lex.specs.declared.kinds.TokenKind.{TokenKind}
use Rattle.mlir_lex.specs.declared.kinds.TokenKind.TheVariants as kind
use Rattle.op_table.specs.declared.kind.OpKind.{OpKind}
use Rattle.op_table.specs.declared.kind.OpKind.TheVariants.{FuncCall, FuncReturn}
use Rattle.op_table.specs.Rows.{name_of}
use Rattle.int_ops.specs.declared.Width.{Width}
use Rattle.int_ops.specs.declared.Width.TheVariants.{W1, W8, W16, W32, W64}
use Rattle.int_ops.specs.declared.Pred.{Pred}
use Rattle.int_ops.specs.declared.Pred.TheVariants as pred
use Rattle.ir_forms.specs.declared.types.Ty.{Ty}
use Rattle.ir_forms.specs.declared.types.Ty.TheVariants as ty
use Rattle.ir_forms.specs.declared.types.ValTy.{ValTy}
use Rattle.ir_forms.specs.declared.types.ValTy.TheVariants as val
use Rattle.ir_forms.specs.declared.types.NumTy.TheVariants as num
use Rattle.ir_forms.specs.declared.types.CellTy.{CellTy}
use Rattle.ir_forms.specs.declared.types.CellTy.TheVariants as cell
use Rattle.ir_forms.specs.declared.types.Dim.{Dim}
use Rattle.ir_forms.specs.declared.types.Dim.TheVariants.{Fixed, Dynamic}
use Rattle.ir_forms.specs.declared.types.MemTy.{MemTy}
use Rattle.module_grammar.specs.declared.types.DimSoFar.{DimSoFar}
use Rattle.module_grammar.specs.declared.types.DimSoFar.TheVariants as so_far
use Rattle.module_grammar.specs.declared.state.TextToken.{TextToken}
use Rattle.module_grammar.specs.declared.symbols.Keyword.{Keyword}
use Rattle.module_grammar.specs.declared.symbols.Keyword.TheVariants as key

-- ---- words

abbrev pub word_of : Keyword → List ℕ
word_of key.As = codes "as"
word_of key.Attributes = codes "attributes"
word_of key.Do = codes "do"
word_of key.Else = codes "else"
word_of key.False = codes "false"
word_of key.Func = codes "func.func"
word_of key.IterArgs = codes "iter_args"
word_of key.Loc = codes "loc"
word_of key.Module = codes "module"
word_of key.Private = codes "private"
word_of key.Public = codes "public"
word_of key.Step = codes "step"
word_of key.To = codes "to"
word_of key.True = codes "true"

-- a form may be written with its full name; calls and returns also without the dialect
abbrev pub is_name_of : OpKind → List ℕ → Bool
is_name_of FuncCall text = bytes_eq text (codes "call") || bytes_eq text (codes "func.call")
is_name_of FuncReturn text = bytes_eq text (codes "return") || bytes_eq text (codes "func.return")
is_name_of k text = bytes_eq text (name_of k)

-- the value of the first name in this list
abbrev pub among : {A : Type 0} → List (List ℕ × A) → List ℕ → Option A
among [] text = None
among (x ∷ xs) text = if bytes_eq text x.0 then Some x.1 else among xs text

-- the first of these kinds that a text names
abbrev pub kind_among : List OpKind → List ℕ → Option OpKind
kind_among [] text = None
kind_among (k ∷ ks) text = if is_name_of k text then Some k else kind_among ks text

-- ---- numbers

abbrev pub digit_of : ℕ → ℕ
digit_of b = if nat_le 97 b then b - 87 else (if nat_le 65 b then b - 55 else b - 48)

abbrev pub number_in : ℕ → List ℕ → ℕ → ℕ
number_in base [] n = n
number_in base (b ∷ bs) n = number_in base bs (n * base + digit_of b)

abbrev pub number_of_kind : TokenKind → List ℕ → ℕ
number_of_kind kind.Hex text = number_in 16 (drop 2 text) 0
number_of_kind _ text = number_in 10 text 0

abbrev pub below : ℕ → Option ℕ
below n = if nat_lt n 18446744073709551616 then Some n else None

-- the number that digits or hexadecimal digits write, where it is below 2^64
unfoldable pub number_of : TextToken → Option ℕ
number_of t = below (number_of_kind t.kind t.text)

abbrev pub is_up_to : ℕ → Option ℕ → Bool
is_up_to limit (Some n) = nat_le n limit
is_up_to limit None = false

abbrev pub is_number_kind : TokenKind → Bool
is_number_kind kind.Digits = true
is_number_kind kind.Hex = true
is_number_kind _ = false

abbrev pub is_digit : ℕ → Bool
is_digit b = nat_le 48 b && nat_le b 57

abbrev pub all_digits : List ℕ → Bool
all_digits [] = true
all_digits (b ∷ bs) = is_digit b && all_digits bs

-- `#` and digits
abbrev pub is_index : List ℕ → Bool
is_index (sign ∷ b ∷ bs) = is_digit b && all_digits bs
is_index _ = false

-- ---- types

abbrev pub widths : List (List ℕ × Width)
widths = (codes "i1", W1) ∷ (codes "i8", W8) ∷ (codes "i16", W16) ∷ (codes "i32", W32) ∷ (codes "i64", W64) ∷ []

abbrev pub cells : List (List ℕ × CellTy)
cells =
    (codes "i1", cell.Int W1) ∷ (codes "i8", cell.Int W8) ∷ (codes "i16", cell.Int W16) ∷ (codes "i32", cell.Int W32)
    ∷ (codes "i64", cell.Int W64) ∷ (codes "index", cell.Index) ∷ (codes "!async.token", cell.Token) ∷ (codes "!async.group", cell.Group)
    ∷ (codes "!async.value<i1>", cell.Value (num.Int W1)) ∷ (codes "!async.value<i8>", cell.Value (num.Int W8))
    ∷ (codes "!async.value<i16>", cell.Value (num.Int W16)) ∷ (codes "!async.value<i32>", cell.Value (num.Int W32))
    ∷ (codes "!async.value<i64>", cell.Value (num.Int W64)) ∷ (codes "!async.value<index>", cell.Value num.Index) ∷ []

abbrev pub is_blank : ℕ → Bool
is_blank b = b == 32 || b == 9 || b == 13 || b == 10

-- a size with one more digit, not counted past 2^24 + 1
abbrev pub grown : ℕ → ℕ → ℕ
grown n digit = min (min n 16777217 * 10 + digit) 16777217

-- the type with these dimensions, of which there are four at most, and this element
abbrev pub shaped : List Dim → Option CellTy → Option MemTy
shaped dims None = None
shaped dims (Some elem) = if nat_le (length dims) 4 then Some (record { elem = elem; dims = dims }) else None

-- dimensions, each `?` or a decimal of at most 2^24 with an `x` behind it, and an element
abbrev pub memref_of : List ℕ → List Dim → DimSoFar → Option MemTy
memref_of [] dims now = None
memref_of (b ∷ bs) dims so_far.Nothing =
    if b == 63 then memref_of bs dims so_far.Unknown
    else (if is_digit b then memref_of bs dims (so_far.Size (b - 48)) else shaped dims (among cells (b ∷ bs)))
memref_of (b ∷ bs) dims so_far.Unknown = if b == 120 then memref_of bs (dims ++ Dynamic ∷ []) so_far.Nothing else None
memref_of (b ∷ bs) dims (so_far.Size n) =
    if is_digit b then memref_of bs dims (so_far.Size (grown n (b - 48)))
    else (if b == 120 && nat_le n 16777216 then memref_of bs (dims ++ Fixed n ∷ []) so_far.Nothing else None)

-- the type of `memref<..>`, in whose brackets blanks are dropped
unfoldable pub memref_type : List ℕ → Option MemTy
memref_type text = memref_of (filter (λ b. not (is_blank b)) (take (length text - 8) (drop 7 text))) [] so_far.Nothing

abbrev pub number_type : List ℕ → Option Ty
number_type text = if bytes_eq text (codes "index") then Some ty.Index else option_map (λ w. ty.Int w) (among widths text)

abbrev pub bang_types : List (List ℕ × Ty)
bang_types = (codes "!async.token", ty.Token) ∷ (codes "!async.group", ty.Group) ∷ []

abbrev pub type_of_kind : TokenKind → List ℕ → Option Ty
type_of_kind kind.Name text = number_type text
type_of_kind kind.BangName text = among bang_types text
type_of_kind kind.Memref text = option_map (λ m. ty.Memref m) (memref_type text)
type_of_kind _ text = None

-- the type that one token writes
unfoldable pub type_of : TextToken → Option Ty
type_of t = type_of_kind t.kind t.text

abbrev pub payload_of_type : Option Ty → Option ValTy
payload_of_type (Some (ty.Int w)) = Some (val.Int w)
payload_of_type (Some ty.Index) = Some val.Index
payload_of_type (Some (ty.Memref m)) = Some (val.Memref m)
payload_of_type _ = None

-- what an `!async.value` holds by one token
abbrev pub payload_of : TextToken → Option ValTy
payload_of t = payload_of_type (type_of t)

abbrev pub is_memref_type : Option Ty → Bool
is_memref_type (Some (ty.Memref m)) = true
is_memref_type _ = false

abbrev pub is_group_type : Option Ty → Bool
is_group_type (Some ty.Group) = true
is_group_type _ = false

abbrev pub is_truth_type : Option Ty → Bool
is_truth_type (Some (ty.Int W1)) = true
is_truth_type _ = false

-- ---- predicates, symbols and strings

abbrev pub predicates : List (List ℕ × Pred)
predicates =
    (codes "eq", pred.Eq) ∷ (codes "ne", pred.Ne) ∷ (codes "slt", pred.Slt) ∷ (codes "sle", pred.Sle) ∷ (codes "sgt", pred.Sgt)
    ∷ (codes "sge", pred.Sge) ∷ (codes "ult", pred.Ult) ∷ (codes "ule", pred.Ule) ∷ (codes "ugt", pred.Ugt) ∷ (codes "uge", pred.Uge) ∷ []

abbrev pub predicate_of : TextToken → Option Pred
predicate_of t = among predicates t.text

-- the byte that two hexadecimal digits write
abbrev pub hex_byte : ℕ → ℕ → ℕ
hex_byte a b = (digit_of a * 16 + digit_of b) % 256

-- what an escape stands for: a quote, a backslash, a newline or a tab
abbrev pub short_escape : ℕ → Option ℕ
short_escape b =
    if b == 34 then Some 34 else (if b == 92 then Some 92 else (if b == 110 then Some 10 else (if b == 116 then Some 9 else None)))

-- the bytes that what stands before the closing quote says; `first` is a digit read after a backslash
abbrev pub said : List ℕ → Bool → Option ℕ → List ℕ
said [] hidden first = []
said (b ∷ bs) hidden (Some a) = hex_byte a b ∷ said bs false None
said (b ∷ bs) true None = escaped (short_escape b) b (said bs false None) (said bs false (Some b))
  where
    escaped : Option ℕ → ℕ → List ℕ → List ℕ → List ℕ
    escaped (Some x) b short long = x ∷ short
    escaped None b short long = long
said (b ∷ bs) false None = if b == 92 then said bs true None else (if b == 34 then [] else b ∷ said bs false None)

abbrev pub string_of : List ℕ → List ℕ
string_of text = said (drop 1 text) false None

abbrev pub symbol_of_kind : TokenKind → List ℕ → List ℕ
symbol_of_kind kind.SymbolText text = string_of (drop 1 text)
symbol_of_kind _ text = drop 1 text

-- the bytes of a symbol, without `@` and quotes
abbrev pub symbol_of : TextToken → List ℕ
symbol_of t = symbol_of_kind t.kind t.text
