-- The sizes of buffers in a text of arguments are small.
use Rattle.std.proofs.Common.{◌≡◌, ◌<◌, ℕ, ◌+◌, ◌*◌, ◌^◌, Bool, true, false, cond, ◌==◌, List, [], ◌∷◌, ◌++◌, length, nat_le, nat_lt, Option, Some, None, slice_get, refl, subst, arith}
use Rattle.std.specs.Prelude.{⊤}
use Rattle.std.specs.Option.{option_map}
use Rattle.std.specs.Char.{is_ascii_digit}
use Rattle.std.proofs.lemmas.Bool.{and_parts, leb-true}
use Rattle.ir_forms.specs.declared.args.Arg.{Arg}
use Rattle.ir_forms.specs.declared.args.Arg.TheVariants as arg
use Rattle.ir_forms.specs.declared.args.Scalar.{Scalar}
use Rattle.ir_forms.specs.declared.args.Scalar.TheVariants as scalar
use Rattle.ir_forms.specs.Shapes.{product, most_cells}
use Rattle.arguments.specs.declared.reader.Place.{Place}
use Rattle.arguments.specs.declared.reader.Place.TheVariants as place
use Rattle.arguments.specs.declared.reader.Part.{Part}
use Rattle.arguments.specs.declared.reader.Part.TheVariants.{Start, Argument, Value, Minus, Digits, Letters, Sizes, Size, NextSize, Cells, Behind}
use Rattle.arguments.specs.Grammar.{Front, Whole, is_comma, is_minus, is_colon, is_equals, opens, closes, is_times, digit, letters, in_range, as_arg, begins_value, begins_argument, ends_cell, ends_value, after_digits, after_letters, ends_sizes, begins_sizes, after_size, begins_cells, after_part, after_byte, last_of, ends_at, judged, verdict_from, nothing_read, goes_if, part_after, with_arg}
use Rattle.source_meaning.specs.TaskOrder.{Each}
use Rattle.check_laws.proofs.Defined.{each_append}
use Rattle.parsed_laws.specs.Arguments.{HasSizes, ReadsSizes}

abbrev IsSize : ℕ → Type 0
IsSize n = n < 2 ^ 32

abbrev IsSizePart : Part → Type 0
IsSizePart (Size n) = IsSize n
IsSizePart _ = ⊤

-- all sizes that are read are so
abbrev HasSmall : Front → Type 0
HasSmall f = Each HasSizes f.args × Each IsSize f.dims × IsSizePart f.part

-- and those that are read with one more byte, if it may stand there
abbrev Keeps : Option Front → Type 0
Keeps None = ⊤
Keeps (Some g) = HasSmall g

choice : (b : Bool) (x y : Option Front) → (b ≡ true → Keeps x) → Keeps y → Keeps (cond b x y)
choice true x y h g = h refl
choice false x y h g = g

if_so : (b : Bool) (g : Front) → (b ≡ true → HasSmall g) → Keeps (goes_if b g)
if_so b g h = choice b (Some g) None h tt

-- ---- values

with-arg : (a : Arg) (p : Part) (f : Front) → HasSizes a → IsSizePart p → HasSmall f → HasSmall (with_arg a p f)
with-arg a p f one part h = (each_append HasSizes f.args (a ∷ []) h.0 (one, tt), tt, part)

no-size : (v : Scalar) → HasSizes (as_arg v)
no-size (scalar.Number negative n) = tt
no-size (scalar.Truth b) = tt

keeps-value : (at : Place) (b : ℕ) (f : Front) → HasSmall f → Keeps (begins_value at b f)
keeps-value at b f h =
    let same : HasSmall (part_after f (Minus at)) = (h.0, h.1, tt) in
    choice (is_ascii_digit b) (Some (part_after f (Digits at false (digit b)))) (cond (is_minus b) (Some (part_after f (Minus at))) (cond (b == 116) (Some (part_after f (Letters at true 1))) (cond (b == 102) (Some (part_after f (Letters at false 1))) None))) (λ e. same)
    (choice (is_minus b) (Some (part_after f (Minus at))) (cond (b == 116) (Some (part_after f (Letters at true 1))) (cond (b == 102) (Some (part_after f (Letters at false 1))) None)) (λ e. same)
    (choice (b == 116) (Some (part_after f (Letters at true 1))) (cond (b == 102) (Some (part_after f (Letters at false 1))) None) (λ e. same)
    (choice (b == 102) (Some (part_after f (Letters at false 1))) None (λ e. same) tt)))

keeps-argument : (b : ℕ) (f : Front) → HasSmall f → Keeps (begins_argument b f)
keeps-argument b f h = choice (opens b) (Some (part_after f Sizes)) (begins_value place.Argument b f) (λ e. (h.0, h.1, tt)) (keeps-value place.Argument b f h)

keeps-cell : (v : Scalar) (b : ℕ) (f : Front) → HasSmall f → Keeps (ends_cell v b f)
keeps-cell v b f h =
    let more : Front = record f { values = f.values ++ v ∷ []; part = Value place.Cell } in
    let whole : Front = with_arg (arg.Cells f.dims (f.values ++ v ∷ [])) Behind f in
    choice (is_comma b) (goes_if (nat_lt (length f.values + 1) f.wanted) more) (cond (closes b) (goes_if (length f.values + 1 == f.wanted) whole) None)
    (λ e. if_so (nat_lt (length f.values + 1) f.wanted) more (λ e. (h.0, h.1, tt)))
    (choice (closes b) (goes_if (length f.values + 1 == f.wanted) whole) None
    (λ e. if_so (length f.values + 1 == f.wanted) whole (λ e. with-arg (arg.Cells f.dims (f.values ++ v ∷ [])) Behind f h.1 tt h)) tt)

keeps-ended : (at : Place) (v : Scalar) (b : ℕ) (f : Front) → HasSmall f → Keeps (ends_value at v b f)
keeps-ended place.Argument v b f h = if_so (is_comma b) (with_arg (as_arg v) Argument f) (λ e. with-arg (as_arg v) Argument f (no-size v) tt h)
keeps-ended place.Cell v b f h = keeps-cell v b f h
keeps-ended place.Filler v b f h = if_so (closes b) (with_arg (arg.Fill f.dims v) Behind f) (λ e. with-arg (arg.Fill f.dims v) Behind f h.1 tt h)

keeps-digits : (at : Place) (negative : Bool) (n b : ℕ) (f : Front) → HasSmall f → Keeps (after_digits at negative n b f)
keeps-digits at negative n b f h =
    let more : Front = part_after f (Digits at negative (n * 10 + digit b)) in
    choice (is_ascii_digit b) (goes_if (in_range negative (n * 10 + digit b)) more) (ends_value at (scalar.Number negative n) b f)
    (λ e. if_so (in_range negative (n * 10 + digit b)) more (λ e. (h.0, h.1, tt)))
    (keeps-ended at (scalar.Number negative n) b f h)

keeps-letters : (at : Place) (t : Bool) (n : ℕ) (o : Option ℕ) (b : ℕ) (f : Front) → HasSmall f → Keeps (after_letters at t n o b f)
keeps-letters at t n None b f h = keeps-ended at (scalar.Truth t) b f h
keeps-letters at t n (Some letter) b f h = if_so (b == letter) (part_after f (Letters at t (n + 1))) (λ e. (h.0, h.1, tt))

-- ---- buffers

first-digit : (b : ℕ) → is_ascii_digit b ≡ true → IsSize (digit b)
first-digit b e = let most = leb-true b 57 (and_parts (nat_le 48 b) (nat_le b 57) e).1 in omega (arith, most)

size-fits : (n : ℕ) → nat_le n most_cells ≡ true → IsSize n
size-fits n e = let most = leb-true n most_cells e in omega (arith, most)

keeps-sizes : (dims : List ℕ) (f : Front) → Each IsSize dims → HasSmall f → Keeps (ends_sizes dims f)
keeps-sizes dims f all h = if_so (nat_le (product dims) most_cells) (record f { dims = dims; wanted = product dims; part = Cells }) (λ e. (h.0, all, tt))

keeps-first-size : (b : ℕ) (f : Front) → HasSmall f → Keeps (begins_sizes b f)
keeps-first-size b f h =
    choice (is_ascii_digit b) (Some (part_after f (Size (digit b)))) (cond (is_colon b) (ends_sizes f.dims f) None) (λ e. (h.0, h.1, first-digit b e))
    (choice (is_colon b) (ends_sizes f.dims f) None (λ e. keeps-sizes f.dims f h.1 h) tt)

keeps-size : (n b : ℕ) (f : Front) → IsSize n → HasSmall f → Keeps (after_size n b f)
keeps-size n b f small h =
    let longer : Front = part_after f (Size (n * 10 + digit b)) in
    let next : Front = record f { dims = f.dims ++ n ∷ []; part = NextSize } in
    let all : Each IsSize (f.dims ++ n ∷ []) = each_append IsSize f.dims (n ∷ []) h.1 (small, tt) in
    choice (is_ascii_digit b) (goes_if (nat_le (n * 10 + digit b) most_cells) longer) (cond (is_times b) (Some next) (cond (is_colon b) (ends_sizes (f.dims ++ n ∷ []) f) None))
    (λ e. if_so (nat_le (n * 10 + digit b) most_cells) longer (λ e. (h.0, h.1, size-fits (n * 10 + digit b) e)))
    (choice (is_times b) (Some next) (cond (is_colon b) (ends_sizes (f.dims ++ n ∷ []) f) None) (λ e. (h.0, all, tt))
    (choice (is_colon b) (ends_sizes (f.dims ++ n ∷ []) f) None (λ e. keeps-sizes (f.dims ++ n ∷ []) f all h) tt))

keeps-first-cell : (b : ℕ) (f : Front) → HasSmall f → Keeps (begins_cells b f)
keeps-first-cell b f h =
    let whole : Front = with_arg (arg.Cells f.dims []) Behind f in
    choice (is_equals b) (Some (part_after f (Value place.Filler))) (cond (f.wanted == 0) (goes_if (closes b) whole) (begins_value place.Cell b f)) (λ e. (h.0, h.1, tt))
    (choice (f.wanted == 0) (goes_if (closes b) whole) (begins_value place.Cell b f)
    (λ e. if_so (closes b) whole (λ e. with-arg (arg.Cells f.dims []) Behind f h.1 tt h))
    (keeps-value place.Cell b f h))

-- ---- all

keeps-part : (p : Part) (b : ℕ) (f : Front) → IsSizePart p → HasSmall f → Keeps (after_part p b f)
keeps-part Start b f part h = keeps-argument b f h
keeps-part Argument b f part h = keeps-argument b f h
keeps-part (Value at) b f part h = keeps-value at b f h
keeps-part (Minus at) b f part h = if_so (is_ascii_digit b) (part_after f (Digits at true (digit b))) (λ e. (h.0, h.1, tt))
keeps-part (Digits at negative n) b f part h = keeps-digits at negative n b f h
keeps-part (Letters at t n) b f part h = keeps-letters at t n (slice_get (letters t) n) b f h
keeps-part Sizes b f part h = keeps-first-size b f h
keeps-part (Size n) b f part h = keeps-size n b f part h
keeps-part NextSize b f part h = if_so (is_ascii_digit b) (part_after f (Size (digit b))) (λ e. (h.0, h.1, first-digit b e))
keeps-part Cells b f part h = keeps-first-cell b f h
keeps-part Behind b f part h = if_so (is_comma b) (part_after f Argument) (λ e. (h.0, h.1, tt))

-- the arguments before the last one, and the last one, if there is one
last-args : (front : List Arg) (p : Part) (at : ℕ) (args : List Arg) → Each HasSizes front → ends_at at (option_map (λ last. front ++ last) (last_of p)) ≡ Whole args → Each HasSizes args
last-args front Start at args h e = let same : front ++ [] ≡ args = cc in subst (Each HasSizes) same (each_append HasSizes front [] h tt)
last-args front Behind at args h e = let same : front ++ [] ≡ args = cc in subst (Each HasSizes) same (each_append HasSizes front [] h tt)
last-args front (Digits place.Argument negative n) at args h e =
    let same : front ++ arg.Number negative n ∷ [] ≡ args = cc in
    subst (Each HasSizes) same (each_append HasSizes front (arg.Number negative n ∷ []) h (tt, tt))
last-args front (Letters place.Argument t n) at args h e = by (n == length (letters t)) e
  where
    by : (b : Bool) → ends_at at (option_map (λ last. front ++ last) (cond b (Some (arg.Truth t ∷ [])) None)) ≡ Whole args → Each HasSizes args
    by true e =
        let same : front ++ arg.Truth t ∷ [] ≡ args = cc in
        subst (Each HasSizes) same (each_append HasSizes front (arg.Truth t ∷ []) h (tt, tt))
    by false e = absurd cc
last-args front _ at args h e = absurd cc

from : (at : ℕ) (f : Front) (bytes : List ℕ) (args : List Arg) → HasSmall f → verdict_from at f bytes ≡ Whole args → Each HasSizes args
from at f [] args h e = last-args f.args f.part at args h.0 e
from at f (b ∷ bytes) args h e = by (after_byte b f) (keeps-part f.part b f h.2 h) (λ g small. from (at + 1) g bytes args small) e
  where
    by : (o : Option Front) → Keeps o → ((g : Front) → HasSmall g → verdict_from (at + 1) g bytes ≡ Whole args → Each HasSizes args)
        → judged at (λ g. verdict_from (at + 1) g bytes) o ≡ Whole args → Each HasSizes args
    by None k again e = absurd cc
    by (Some g) k again e = again g k e

pub reads_sizes : ReadsSizes
reads_sizes text args e = from 0 nothing_read text args (tt, tt, tt) e
