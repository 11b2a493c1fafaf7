-- The bytes of each token of a printed text are ASCII.
use Rattle.std.proofs.Common.{◌≡◌, ◌<◌, ℕ, zero, suc, ◌+◌, ◌/◌, ◌%◌, Bool, true, false, ◌&&◌, ◌||◌, ◌==◌, nat_lt, if◌then◌else◌, List, [], ◌∷◌, ◌++◌, IsAscii, refl, arith, codes, decimal}
use Rattle.std.specs.Fmt.{digits, digits_onto, digit_glyph}
use Rattle.std.proofs.lemmas.Bool.Decides.{nat_tests}
use Rattle.int_ops.specs.declared.Width.{Width}
use Rattle.int_ops.specs.declared.Width.TheVariants.{W1, W8, W16, W32, W64}
use Rattle.int_ops.specs.declared.Pred.{Pred}
use Rattle.int_ops.specs.declared.Pred.TheVariants as pred
use Rattle.ir_forms.specs.declared.ops.ValueNo.{ValueNo}
use Rattle.ir_forms.specs.declared.ops.Attr.{Attr}
use Rattle.ir_forms.specs.declared.ops.Attr.TheVariants as attr
use Rattle.ir_forms.specs.declared.types.Ty.{Ty}
use Rattle.ir_forms.specs.declared.types.Ty.TheVariants as ty
use Rattle.ir_forms.specs.declared.types.ValTy.{ValTy}
use Rattle.ir_forms.specs.declared.types.ValTy.TheVariants as val
use Rattle.ir_forms.specs.declared.types.NumTy.{NumTy}
use Rattle.ir_forms.specs.declared.types.NumTy.TheVariants as num
use Rattle.ir_forms.specs.declared.types.CellTy.{CellTy}
use Rattle.ir_forms.specs.declared.types.CellTy.TheVariants as cell
use Rattle.ir_forms.specs.declared.types.Dim.{Dim}
use Rattle.ir_forms.specs.declared.types.Dim.TheVariants.{Fixed, Dynamic}
use Rattle.ir_forms.specs.declared.types.MemTy.{MemTy}
use Rattle.mlir_print.specs.Docs.{Doc, ◌<>◌, bytes_of, number}
use Rattle.mlir_print.specs.Types.{width_name, number_name, value_word, cell_text, dim_text, dims_text, memref_text, payload_doc, type_doc}
use Rattle.mlir_print.specs.Tokens.{value, value_name, hex_digit, escaped, all_escaped, quoted, is_symbol_byte, all_symbol_bytes, is_plain, symbol, pred_name, attr_doc}
use Rattle.mlir_print.proofs.Spacing.{both}

abbrev pub all_ascii : List ℕ → Bool
all_ascii [] = true
all_ascii (b ∷ bs) = nat_lt b 128 && all_ascii bs

pub each-ascii : (bs : List ℕ) → all_ascii bs ≡ true → IsAscii bs
each-ascii [] are i = omega arith
each-ascii (b ∷ bs) are zero = let first = (both (nat_lt b 128) (all_ascii bs) are).0 in grind (arith, nat_tests, first)
each-ascii (b ∷ bs) are (suc i) = each-ascii bs (both (nat_lt b 128) (all_ascii bs) are).1 i

pub ascii-append : (xs ys : List ℕ) → all_ascii xs ≡ true → all_ascii ys ≡ true → all_ascii (xs ++ ys) ≡ true
ascii-append [] ys are others = others
ascii-append (b ∷ bs) ys are others =
    let p = both (nat_lt b 128) (all_ascii bs) are in
    rw (p.0, ascii-append bs ys p.1 others) refl

-- the bytes of a document are ASCII
pub record Ascii (d : Doc) : Type 0 where
  pub ascii : all_ascii (bytes_of d) ≡ true

pub seq : {a b : Doc} → Ascii a → Ascii b → Ascii (a <> b)
seq {a} {b} front back = record { ascii = ascii-append (bytes_of a) (bytes_of b) front.ascii back.ascii }

-- ---- numbers

low : (b : ℕ) → b < 128 → nat_lt b 128 ≡ true
low b within = grind (arith, nat_tests)

chosen : (test : Bool) (x y : List ℕ) → all_ascii x ≡ true → all_ascii y ≡ true → all_ascii (if test then x else y) ≡ true
chosen true x y p q = p
chosen false x y p q = q

glyph : (upper : Bool) (d : ℕ) → d < 16 → nat_lt (digit_glyph upper d) 128 ≡ true
glyph upper d within = by_case (nat_lt d 10) upper
  where
    by_case : (small upper : Bool) → nat_lt (if small then 48 + d else (if upper then 55 + d else 87 + d)) 128 ≡ true
    by_case true upper = low (48 + d) (omega (arith, within))
    by_case false true = low (55 + d) (omega (arith, within))
    by_case false false = low (87 + d) (omega (arith, within))

ascii-onto : (k n : ℕ) (bs : List ℕ) → all_ascii bs ≡ true → all_ascii (digits_onto k 10 false n bs) ≡ true
ascii-onto zero n bs are = are
ascii-onto (suc k) n bs are =
    let within : n % 10 < 16 = omega arith in
    let more : all_ascii (digit_glyph false (n % 10) ∷ bs) ≡ true = rw (glyph false (n % 10) within) are in
    chosen (n / 10 == 0) _ _ more (ascii-onto k (n / 10) (digit_glyph false (n % 10) ∷ bs) more)

pub ascii-decimal : (n : ℕ) → all_ascii (decimal n) ≡ true
unfolding digits
ascii-decimal n = ascii-onto 64 n [] refl

pub ascii-number : (n : ℕ) → Ascii (number n)
ascii-number n = record { ascii = ascii-decimal n }

-- ---- values

value_named : (v : ValueNo) → all_ascii (value_name v) ≡ true
unfolding value_name
value_named v = chosen (v.0 == 4294967295) _ _ refl (ascii-decimal v.0)

pub ascii-value : (v : ValueNo) → Ascii (value v)
ascii-value v = record { ascii = value_named v }

-- ---- strings

hex : (n : ℕ) → nat_lt (hex_digit n) 128 ≡ true
hex n = glyph true (n % 16) (omega arith)

ascii-escaped : (b : ℕ) → all_ascii (escaped b) ≡ true
ascii-escaped b = by_quote (b == 34 || b == 92) refl
  where
    by_range : (out : Bool) → (nat_lt b 32 || nat_lt 126 b) ≡ out → all_ascii (if out then 92 ∷ hex_digit (b / 16) ∷ hex_digit b ∷ [] else b ∷ []) ≡ true
    by_range true out = rw (hex (b / 16), hex b) refl
    by_range false out = let within : nat_lt b 128 ≡ true = grind (arith, nat_tests) in rw within refl

    by_quote : (is : Bool) → (b == 34 || b == 92) ≡ is
        → all_ascii (if is then 92 ∷ b ∷ [] else (if nat_lt b 32 || nat_lt 126 b then 92 ∷ hex_digit (b / 16) ∷ hex_digit b ∷ [] else b ∷ [])) ≡ true
    by_quote true is = let within : nat_lt b 128 ≡ true = grind (arith, nat_tests) in rw within refl
    by_quote false is = by_range (nat_lt b 32 || nat_lt 126 b) refl

all-escaped : (text : List ℕ) → all_ascii (all_escaped text) ≡ true
all-escaped [] = refl
all-escaped (b ∷ bs) = ascii-append (escaped b) (all_escaped bs) (ascii-escaped b) (all-escaped bs)

ascii-quoted : (text : List ℕ) → all_ascii (quoted text) ≡ true
ascii-quoted text = ascii-append (all_escaped text) (34 ∷ []) (all-escaped text) refl

-- ---- symbols

symbol-byte : (b : ℕ) → is_symbol_byte b ≡ true → nat_lt b 128 ≡ true
symbol-byte b is = grind (arith, nat_tests)

symbol-bytes : (name : List ℕ) → all_symbol_bytes name ≡ true → all_ascii name ≡ true
symbol-bytes [] are = refl
symbol-bytes (b ∷ bs) are =
    let p = both (is_symbol_byte b) (all_symbol_bytes bs) are in
    rw (symbol-byte b p.0, symbol-bytes bs p.1) refl

plain-bytes : (name : List ℕ) → is_plain name ≡ true → all_ascii name ≡ true
plain-bytes [] is = refl
plain-bytes (b ∷ bs) is = symbol-bytes (b ∷ bs) is

pub ascii-symbol : (name : List ℕ) → Ascii (symbol name)
ascii-symbol name = by_case (is_plain name) refl
  where
    by_case : (plain : Bool) → is_plain name ≡ plain → Ascii (symbol name)
    by_case true is = rw is (record { ascii = plain-bytes name is })
    by_case false is = rw is (record { ascii = ascii-quoted name })

-- ---- what an operation carries

pred-ascii : (p : Pred) → all_ascii (pred_name p) ≡ true
pred-ascii pred.Eq = refl
pred-ascii pred.Ne = refl
pred-ascii pred.Slt = refl
pred-ascii pred.Sle = refl
pred-ascii pred.Sgt = refl
pred-ascii pred.Sge = refl
pred-ascii pred.Ult = refl
pred-ascii pred.Ule = refl
pred-ascii pred.Ugt = refl
pred-ascii pred.Uge = refl

pub ascii-attr : (a : Attr) → Ascii (attr_doc a)
ascii-attr attr.None = record { ascii = refl }
ascii-attr (attr.Literal true magnitude) = record { ascii = ascii-decimal magnitude }
ascii-attr (attr.Literal false magnitude) = ascii-number magnitude
ascii-attr (attr.Truth true) = record { ascii = refl }
ascii-attr (attr.Truth false) = record { ascii = refl }
ascii-attr (attr.Pred p) = record { ascii = pred-ascii p }
ascii-attr (attr.Text text) = record { ascii = ascii-quoted text }
ascii-attr (attr.Callee name) = ascii-symbol name

-- ---- types

width-ascii : (w : Width) → all_ascii (width_name w) ≡ true
width-ascii W1 = refl
width-ascii W8 = refl
width-ascii W16 = refl
width-ascii W32 = refl
width-ascii W64 = refl

number-ascii : (n : NumTy) → all_ascii (number_name n) ≡ true
number-ascii (num.Int w) = width-ascii w
number-ascii num.Index = refl

cell-ascii : (e : CellTy) → all_ascii (cell_text e) ≡ true
unfolding value_word
cell-ascii (cell.Int w) = width-ascii w
cell-ascii cell.Index = refl
cell-ascii cell.Token = refl
cell-ascii cell.Group = refl
cell-ascii (cell.Value n) = ascii-append (number_name n) (62 ∷ []) (number-ascii n) refl

dim-ascii : (d : Dim) → all_ascii (dim_text d) ≡ true
dim-ascii (Fixed n) = ascii-append (decimal n) (codes "x") (ascii-decimal n) refl
dim-ascii Dynamic = refl

dims-ascii : (ds : List Dim) → all_ascii (dims_text ds) ≡ true
dims-ascii [] = refl
dims-ascii (d ∷ ds) = ascii-append (dim_text d) (dims_text ds) (dim-ascii d) (dims-ascii ds)

memref-ascii : (m : MemTy) → all_ascii (memref_text m) ≡ true
memref-ascii m =
    ascii-append (dims_text m.dims ++ cell_text m.elem) (codes ">")
    (ascii-append (dims_text m.dims) (cell_text m.elem) (dims-ascii m.dims) (cell-ascii m.elem)) refl

payload-ascii : (v : ValTy) → Ascii (payload_doc v)
payload-ascii (val.Int w) = record { ascii = width-ascii w }
payload-ascii val.Index = record { ascii = refl }
payload-ascii (val.Memref m) = record { ascii = memref-ascii m }

pub ascii-type : (t : Ty) → Ascii (type_doc t)
unfolding value_word
ascii-type (ty.Int w) = record { ascii = width-ascii w }
ascii-type ty.Index = record { ascii = refl }
ascii-type (ty.Memref m) = record { ascii = memref-ascii m }
ascii-type ty.Token = record { ascii = refl }
ascii-type (ty.Value v) = record { ascii = ascii-append (bytes_of (payload_doc v)) (62 ∷ []) (payload-ascii v).ascii refl }
ascii-type ty.Group = record { ascii = refl }
ascii-type ty.CoroId = record { ascii = refl }
ascii-type ty.CoroHandle = record { ascii = refl }
ascii-type ty.CoroState = record { ascii = refl }
ascii-type ty.Untyped = record { ascii = refl }
