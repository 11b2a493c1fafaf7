-- The tokens of a printed text are tokens.
use Rattle.std.proofs.Common.{◌≡◌, ◌<◌, ℕ, zero, suc, ◌/◌, ◌%◌, Bool, true, false, not, ◌&&◌, ◌||◌, ◌==◌, nat_lt, eqb, if◌then◌else◌, List, [], ◌∷◌, ◌++◌, refl, sym, ap, subst, ◌∙◌, append_assoc, arith, codes, decimal, slice_index}
use Rattle.std.specs.Fmt.{digits, digits_onto, digit_glyph}
use Rattle.std.proofs.lemmas.Bool.{eqb-true}
use Rattle.std.proofs.lemmas.Bool.Decides.{nat_tests}
use Rattle.mlir_lex.specs.declared.bytes.ByteClass.{ByteClass}
use Rattle.mlir_lex.specs.declared.bytes.ByteClass.TheVariants.{SuffixPart, Digit, HexDigit, ShortEscape}
use Rattle.mlir_lex.specs.declared.strings.Escape.TheVariants.{Outside}
use Rattle.mlir_lex.specs.Bytes.{is_in}
use Rattle.mlir_lex.specs.Grammar.{is_name, is_string, ends_quoted, escapes_well, after, all_in, some_in, ends_bracket, is_empty, is_memref}
use Rattle.int_ops.specs.declared.Width.{Width}
use Rattle.int_ops.specs.declared.Width.TheVariants.{W1, W8, W16, W32, W64}
use Rattle.int_ops.specs.declared.Pred.{Pred}
use Rattle.int_ops.specs.declared.Pred.TheVariants as pred
use Rattle.ir_forms.specs.declared.ops.ValueNo.{ValueNo}
use Rattle.ir_forms.specs.declared.ops.Attr.{Attr}
use Rattle.ir_forms.specs.declared.ops.Attr.TheVariants as attr
use Rattle.ir_forms.specs.declared.types.Ty.{Ty}
use Rattle.ir_forms.specs.declared.types.Ty.TheVariants as ty
use Rattle.ir_forms.specs.declared.types.ValTy.{ValTy}
use Rattle.ir_forms.specs.declared.types.ValTy.TheVariants as val
use Rattle.ir_forms.specs.declared.types.NumTy.TheVariants as num
use Rattle.ir_forms.specs.declared.types.CellTy.{CellTy}
use Rattle.ir_forms.specs.declared.types.CellTy.TheVariants as cell
use Rattle.ir_forms.specs.declared.types.Dim.{Dim}
use Rattle.ir_forms.specs.declared.types.Dim.TheVariants.{Fixed, Dynamic}
use Rattle.ir_forms.specs.declared.types.MemTy.{MemTy}
use Rattle.mlir_print.specs.Docs.{number}
use Rattle.mlir_print.specs.Types.{width_name, value_word, cell_text, dim_text, dims_text, memref_text, payload_doc, type_doc}
use Rattle.mlir_print.specs.Tokens.{value, value_name, hex_digit, escaped, all_escaped, quoted, is_symbol_byte, all_symbol_bytes, is_plain, symbol, pred_name, attr_doc}
use Rattle.mlir_print.proofs.Spacing.{both}
use Rattle.mlir_print.proofs.Separators.{Fits, good_fits, good_empty, fits_word, digits_at, suffix_at, name_part_at, greater}

-- ---- numbers

-- a test that passes below n passes at each number below n
abbrev all_below : (ℕ → Bool) → ℕ → Bool
all_below test zero = true
all_below test (suc n) = test n && all_below test n

pub passes : (test : ℕ → Bool) (n d : ℕ) → all_below test n ≡ true → d < n → test d ≡ true
passes test zero d all within = absurd (omega arith)
passes test (suc n) d all within = by_case (passes test n d (both (test n) (all_below test n) all).1) (eqb d n) refl
  where
    by_case : ((d < n) → test d ≡ true) → (same : Bool) → eqb d n ≡ same → test d ≡ true
    by_case before true is = ap test (eqb-true d n is) ∙ (both (test n) (all_below test n) all).0
    by_case before false is = before (grind (arith, nat_tests))

chosen : (test : Bool) {x y : List ℕ} (P : List ℕ → Bool) → P x ≡ true → P y ≡ true → P (if test then x else y) ≡ true
chosen true P p q = p
chosen false P p q = q

module _ (c : ByteClass) (digit : (n : ℕ) → is_in c (digit_glyph false (n % 10)) ≡ true) where
  some_onto : (k n b : ℕ) (bs : List ℕ) → all_in c (b ∷ bs) ≡ true → some_in c (digits_onto k 10 false n (b ∷ bs)) ≡ true
  some_onto zero n b bs are = are
  some_onto (suc k) n b bs are =
      let more : all_in c (digit_glyph false (n % 10) ∷ b ∷ bs) ≡ true = rw (digit n) are in
      chosen (n / 10 == 0) (some_in c) more (some_onto k (n / 10) (digit_glyph false (n % 10)) (b ∷ bs) more)

  pub some_decimal : (n : ℕ) → some_in c (decimal n) ≡ true
  unfolding digits
  some_decimal n =
      let one : all_in c (digit_glyph false (n % 10) ∷ []) ≡ true = rw (digit n) refl in
      chosen (n / 10 == 0) (some_in c) one (some_onto 63 (n / 10) (digit_glyph false (n % 10)) [] one)

pub digit_is : (n : ℕ) → is_in Digit (digit_glyph false (n % 10)) ≡ true
unfolding is_in
digit_is n = passes (λ d. is_in Digit (digit_glyph false d)) 10 (n % 10) refl (omega arith)

pub digit_is_suffix : (n : ℕ) → is_in SuffixPart (digit_glyph false (n % 10)) ≡ true
unfolding is_in
digit_is_suffix n = passes (λ d. is_in SuffixPart (digit_glyph false d)) 10 (n % 10) refl (omega arith)

pub fits_number : (n : ℕ) → Fits (number n)
fits_number n = record { stand = λ rest ends. (some_decimal Digit digit_is n, digits_at (slice_index rest 0) _ ends) }

-- ---- values

value_named : (v : ValueNo) → some_in SuffixPart (value_name v) ≡ true
unfolding value_name is_in
value_named v = chosen (v.0 == 4294967295) (some_in SuffixPart) refl (some_decimal SuffixPart digit_is_suffix v.0)

pub fits_value : (v : ValueNo) → Fits (value v)
fits_value v = record { stand = λ rest ends. (value_named v, suffix_at (slice_index rest 0) ends) }

-- ---- strings

record IsHex (h : ℕ) : Type 0 where
  hex : is_in HexDigit h ≡ true
  no_short : is_in ShortEscape h ≡ false
  no_line : (h == 10) ≡ false
  no_quote : (h == 34) ≡ false
  no_backslash : (h == 92) ≡ false

unless : (b : Bool) → not b ≡ true → b ≡ false
unless true e = cc
unless false e = refl

hex_digit_is : (n : ℕ) → IsHex (hex_digit n)
unfolding is_in
hex_digit_is n =
    let within : n % 16 < 16 = omega arith in
    record {
      hex = passes (λ d. is_in HexDigit (digit_glyph true d)) 16 (n % 16) refl within;
      no_short = unless (is_in ShortEscape (hex_digit n)) (passes (λ d. not (is_in ShortEscape (digit_glyph true d))) 16 (n % 16) refl within);
      no_line = unless (hex_digit n == 10) (passes (λ d. not (digit_glyph true d == 10)) 16 (n % 16) refl within);
      no_quote = unless (hex_digit n == 34) (passes (λ d. not (digit_glyph true d == 34)) 16 (n % 16) refl within);
      no_backslash = unless (hex_digit n == 92) (passes (λ d. not (digit_glyph true d == 92)) 16 (n % 16) refl within);
    }

-- what these bytes leave of a string's end, and of its escapes
record Passes (bytes rest : List ℕ) : Type 0 where
  ends : ends_quoted (bytes ++ rest) false ≡ ends_quoted rest false
  escapes : escapes_well (bytes ++ rest) Outside ≡ escapes_well rest Outside

hex_passes : (h g : ℕ) (rest : List ℕ) → IsHex h → IsHex g → Passes (92 ∷ h ∷ g ∷ []) rest
unfolding after is_in
hex_passes h g rest a b = record {
  ends = rw (a.no_line, a.no_quote, a.no_backslash, b.no_line, b.no_quote, b.no_backslash) refl;
  escapes = rw (a.no_short, a.hex, b.hex, escapes_well) refl;
}

plain_passes : (b : ℕ) (rest : List ℕ) → (b == 10) ≡ false → (b == 34) ≡ false → (b == 92) ≡ false → Passes (b ∷ []) rest
unfolding after
plain_passes b rest no_line no_quote no_backslash = record {
  ends = rw (no_line, no_quote, no_backslash) refl;
  escapes = rw (no_backslash, escapes_well) refl;
}

quote_passes : (rest : List ℕ) → Passes (92 ∷ 34 ∷ []) rest
unfolding after is_in
quote_passes rest = record { ends = refl; escapes = refl }

backslash_passes : (rest : List ℕ) → Passes (92 ∷ 92 ∷ []) rest
unfolding after is_in
backslash_passes rest = record { ends = refl; escapes = refl }

escaped_passes : (b : ℕ) (rest : List ℕ) → Passes (escaped b) rest
escaped_passes b rest = by_quote (b == 34) refl
  where
    by_range : (out : Bool) → (nat_lt b 32 || nat_lt 126 b) ≡ out → (b == 34) ≡ false → (b == 92) ≡ false → Passes (escaped b) rest
    by_range true out no_quote no_backslash = rw (no_quote, no_backslash, out) (hex_passes (hex_digit (b / 16)) (hex_digit b) rest (hex_digit_is (b / 16)) (hex_digit_is b))
    by_range false out no_quote no_backslash =
        let no_line : (b == 10) ≡ false = grind (arith, nat_tests) in
        rw (no_quote, no_backslash, out) (plain_passes b rest no_line no_quote no_backslash)

    by_backslash : (is : Bool) → (b == 92) ≡ is → (b == 34) ≡ false → Passes (escaped b) rest
    by_backslash true is no_quote = subst (λ x. Passes (escaped x) rest) (sym (eqb-true b 92 is)) (backslash_passes rest)
    by_backslash false is no_quote = by_range (nat_lt b 32 || nat_lt 126 b) refl no_quote is

    by_quote : (is : Bool) → (b == 34) ≡ is → Passes (escaped b) rest
    by_quote true is = subst (λ x. Passes (escaped x) rest) (sym (eqb-true b 34 is)) (quote_passes rest)
    by_quote false is = by_backslash (b == 92) refl is

all_pass : (text rest : List ℕ) → Passes (all_escaped text) rest
all_pass [] rest = record { ends = refl; escapes = refl }
all_pass (b ∷ bs) rest =
    let one = escaped_passes b (all_escaped bs ++ rest) in
    let others = all_pass bs rest in
    record {
      ends = rw append_assoc (one.ends ∙ others.ends);
      escapes = rw append_assoc (one.escapes ∙ others.escapes);
    }

pub quoted_is : (text : List ℕ) → is_string (quoted text) ≡ true
unfolding after
quoted_is text = let p = all_pass text (34 ∷ []) in rw (p.ends, p.escapes) refl

-- ---- symbols

plain_in : (name : List ℕ) → all_symbol_bytes name ≡ true → all_in SuffixPart name ≡ true
unfolding is_in
plain_in [] are = refl
plain_in (b ∷ bs) are =
    let p = both (is_symbol_byte b) (all_symbol_bytes bs) are in
    rw (p.0, plain_in bs p.1) refl

plain_some : (name : List ℕ) → is_plain name ≡ true → some_in SuffixPart name ≡ true
plain_some [] is = cc
plain_some (b ∷ bs) is = plain_in (b ∷ bs) is

pub fits_symbol : (name : List ℕ) → Fits (symbol name)
fits_symbol name = by_case (is_plain name) refl
  where
    by_case : (plain : Bool) → is_plain name ≡ plain → Fits (symbol name)
    by_case true is = rw is (record { stand = λ rest ends. (plain_some name is, suffix_at (slice_index rest 0) ends) })
    by_case false is = rw is (record { stand = λ rest ends. (quoted_is name, refl) })

-- ---- what an operation carries

pred_is : (p : Pred) → is_name (pred_name p) ≡ true
unfolding is_in
pred_is pred.Eq = refl
pred_is pred.Ne = refl
pred_is pred.Slt = refl
pred_is pred.Sle = refl
pred_is pred.Sgt = refl
pred_is pred.Sge = refl
pred_is pred.Ult = refl
pred_is pred.Ule = refl
pred_is pred.Ugt = refl
pred_is pred.Uge = refl

-- a digit stands directly behind the minus
minus_apart : (n : ℕ) (rest : List ℕ) → not (slice_index (decimal n ++ rest) 0 == 62) ≡ true
unfolding is_in
minus_apart n rest = first (decimal n) (some_decimal Digit digit_is n)
  where
    first : (ds : List ℕ) → some_in Digit ds ≡ true → not (slice_index (ds ++ rest) 0 == 62) ≡ true
    first [] some = cc
    first (b ∷ bs) some = let p = both (is_in Digit b) (all_in Digit bs) some in grind (arith, nat_tests)

pub fits_attr : (a : Attr) → Fits (attr_doc a)
unfolding is_in
fits_attr attr.None = good_fits good_empty
fits_attr (attr.Literal true magnitude) = record { stand = λ rest ends. ((refl, minus_apart magnitude rest), (fits_number magnitude).stand rest ends) }
fits_attr (attr.Literal false magnitude) = fits_number magnitude
fits_attr (attr.Truth true) = fits_word (codes "true") refl
fits_attr (attr.Truth false) = fits_word (codes "false") refl
fits_attr (attr.Pred p) = fits_word (pred_name p) (pred_is p)
fits_attr (attr.Text text) = record { stand = λ rest ends. (quoted_is text, refl) }
fits_attr (attr.Callee name) = fits_symbol name

-- ---- types

width_is : (w : Width) → is_name (width_name w) ≡ true
unfolding is_in
width_is W1 = refl
width_is W8 = refl
width_is W16 = refl
width_is W32 = refl
width_is W64 = refl

-- no brackets are among digits
digits_skipped : (ds rest : List ℕ) (inner : ℕ) → all_in Digit ds ≡ true → ends_bracket (ds ++ rest) inner ≡ ends_bracket rest inner
unfolding is_in
digits_skipped [] rest inner are = refl
digits_skipped (b ∷ bs) rest inner are =
    let p = both (is_in Digit b) (all_in Digit bs) are in
    let no_close : (b == 62) ≡ false = grind (arith, nat_tests) in
    let no_open : (b == 60) ≡ false = grind (arith, nat_tests) in
    rw (no_close, no_open) (digits_skipped bs rest inner p.1)

decimal_digits : (n : ℕ) → all_in Digit (decimal n) ≡ true
decimal_digits n = (both (not (is_empty (decimal n))) (all_in Digit (decimal n)) (some_decimal Digit digit_is n)).1

dim_skipped : (d : Dim) (rest : List ℕ) → ends_bracket (dim_text d ++ rest) 0 ≡ ends_bracket rest 0
dim_skipped (Fixed n) rest = rw append_assoc (digits_skipped (decimal n) (120 ∷ rest) 0 (decimal_digits n))
dim_skipped Dynamic rest = refl

dims_skipped : (ds : List Dim) (rest : List ℕ) → ends_bracket (dims_text ds ++ rest) 0 ≡ ends_bracket rest 0
dims_skipped [] rest = refl
dims_skipped (d ∷ ds) rest = rw append_assoc (dim_skipped d (dims_text ds ++ rest) ∙ dims_skipped ds rest)

cell_closed : (e : CellTy) → ends_bracket (cell_text e ++ 62 ∷ []) 0 ≡ true
unfolding value_word
cell_closed (cell.Int W1) = refl
cell_closed (cell.Int W8) = refl
cell_closed (cell.Int W16) = refl
cell_closed (cell.Int W32) = refl
cell_closed (cell.Int W64) = refl
cell_closed cell.Index = refl
cell_closed cell.Token = refl
cell_closed cell.Group = refl
cell_closed (cell.Value (num.Int W1)) = refl
cell_closed (cell.Value (num.Int W8)) = refl
cell_closed (cell.Value (num.Int W16)) = refl
cell_closed (cell.Value (num.Int W32)) = refl
cell_closed (cell.Value (num.Int W64)) = refl
cell_closed (cell.Value num.Index) = refl

pub memref_is : (m : MemTy) → is_memref (memref_text m) ≡ true
memref_is m = rw append_assoc (dims_skipped m.dims (cell_text m.elem ++ 62 ∷ []) ∙ cell_closed m.elem)

fits_payload : (v : ValTy) → Fits (payload_doc v)
unfolding is_in
fits_payload (val.Int w) = fits_word (width_name w) (width_is w)
fits_payload val.Index = fits_word (codes "index") refl
fits_payload (val.Memref m) = record { stand = λ rest ends. (memref_is m, refl) }

pub fits_type : (t : Ty) → Fits (type_doc t)
unfolding is_in value_word
fits_type (ty.Int w) = fits_word (width_name w) (width_is w)
fits_type ty.Index = fits_word (codes "index") refl
fits_type (ty.Memref m) = record { stand = λ rest ends. (memref_is m, refl) }
fits_type ty.Token = record { stand = λ rest ends. (refl, name_part_at (slice_index rest 0) ends) }
fits_type (ty.Value v) = record { stand = λ rest ends. ((refl, refl), ((refl, refl), ((fits_payload v).stand (62 ∷ rest) greater, (refl, refl)))) }
fits_type ty.Group = record { stand = λ rest ends. (refl, name_part_at (slice_index rest 0) ends) }
fits_type ty.CoroId = record { stand = λ rest ends. (refl, name_part_at (slice_index rest 0) ends) }
fits_type ty.CoroHandle = record { stand = λ rest ends. (refl, name_part_at (slice_index rest 0) ends) }
fits_type ty.CoroState = record { stand = λ rest ends. (refl, name_part_at (slice_index rest 0) ends) }
fits_type ty.Untyped = good_fits good_empty
