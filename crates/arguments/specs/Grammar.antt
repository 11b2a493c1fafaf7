-- The text of arguments, judged byte by byte: what is read so far says which bytes may come next.
use Rattle.std.specs.Prelude.{ℕ, ◌+◌, ◌-◌, ◌*◌, ◌^◌, ◌==◌, nat_le, nat_lt, Bool, true, false, if◌then◌else◌, List, [], ◌∷◌, ◌++◌, length, Option, Some, None, slice_get}
use Rattle.std.specs.Char.{is_ascii_digit}
use Rattle.std.specs.Option.{option_map}
use Rattle.ir_forms.specs.declared.args.Arg.{Arg}
use Rattle.ir_forms.specs.declared.args.Arg.TheVariants as arg
use Rattle.ir_forms.specs.declared.args.Scalar.{Scalar}
use Rattle.ir_forms.specs.declared.args.Scalar.TheVariants as scalar
use Rattle.ir_forms.specs.Shapes.{product, most_cells}
use Rattle.arguments.specs.declared.reader.Place.{Place}
use Rattle.arguments.specs.declared.reader.Place.TheVariants as place
use Rattle.arguments.specs.declared.reader.Part.{Part}
use Rattle.arguments.specs.declared.reader.Part.TheVariants.{Start, Argument, Value, Minus, Digits, Letters, Sizes, Size, NextSize, Cells, Behind}

-- the arguments that are whole, the sizes of a buffer that isn't, how many cells it has, and its values, and what the last
-- bytes are
pub record Front : Type 0 where
  pub args : List Arg
  pub dims : List ℕ
  pub wanted : ℕ
  pub values : List Scalar
  pub part : Part

-- bytes
abbrev pub is_comma : ℕ → Bool
is_comma b = b == 44

abbrev pub is_minus : ℕ → Bool
is_minus b = b == 45

abbrev pub is_colon : ℕ → Bool
is_colon b = b == 58

abbrev pub is_equals : ℕ → Bool
is_equals b = b == 61

abbrev pub opens : ℕ → Bool
opens b = b == 91

abbrev pub closes : ℕ → Bool
closes b = b == 93

abbrev pub is_times : ℕ → Bool
is_times b = b == 120

-- the value of a digit
abbrev pub digit : ℕ → ℕ
digit b = b - 48

-- the letters of a truth
abbrev pub letters : Bool → List ℕ
letters true = 116 ∷ 114 ∷ 117 ∷ 101 ∷ []
letters false = 102 ∷ 97 ∷ 108 ∷ 115 ∷ 101 ∷ []

-- a number lies from -2^63 to 2^64 - 1
abbrev pub in_range : Bool → ℕ → Bool
in_range true n = nat_le n (2 ^ 63)
in_range false n = nat_lt n (2 ^ 64)

abbrev pub part_after : Front → Part → Front
part_after f p = record f { part = p }

abbrev pub goes_if : Bool → Front → Option Front
goes_if b f = if b then Some f else None

-- ---- values

-- a value as an argument
abbrev pub as_arg : Scalar → Arg
as_arg (scalar.Number negative n) = arg.Number negative n
as_arg (scalar.Truth b) = arg.Truth b

-- one more argument is whole
abbrev pub with_arg : Arg → Part → Front → Front
with_arg a p f = record { args = f.args ++ a ∷ []; dims = []; wanted = 0; values = []; part = p }

-- a byte that begins a value
abbrev pub begins_value : Place → ℕ → Front → Option Front
begins_value at b f =
    if is_ascii_digit b then Some (part_after f (Digits at false (digit b)))
    else (if is_minus b then Some (part_after f (Minus at))
    else (if b == 116 then Some (part_after f (Letters at true 1))
    else (if b == 102 then Some (part_after f (Letters at false 1)) else None)))

-- a byte that begins an argument
abbrev pub begins_argument : ℕ → Front → Option Front
begins_argument b f = if opens b then Some (part_after f Sizes) else begins_value place.Argument b f

-- a byte behind a cell: a comma where more cells are wanted, the bracket where none is
abbrev pub ends_cell : Scalar → ℕ → Front → Option Front
ends_cell v b f =
    if is_comma b then goes_if (nat_lt (length f.values + 1) f.wanted) (record f { values = f.values ++ v ∷ []; part = Value place.Cell })
    else (if closes b then goes_if (length f.values + 1 == f.wanted) (with_arg (arg.Cells f.dims (f.values ++ v ∷ [])) Behind f) else None)

-- a byte behind a whole value
abbrev pub ends_value : Place → Scalar → ℕ → Front → Option Front
ends_value place.Argument v b f = goes_if (is_comma b) (with_arg (as_arg v) Argument f)
ends_value place.Cell v b f = ends_cell v b f
ends_value place.Filler v b f = goes_if (closes b) (with_arg (arg.Fill f.dims v) Behind f)

-- a byte behind digits
abbrev pub after_digits : Place → Bool → ℕ → ℕ → Front → Option Front
after_digits at negative n b f =
    if is_ascii_digit b then goes_if (in_range negative (n * 10 + digit b)) (part_after f (Digits at negative (n * 10 + digit b)))
    else ends_value at (scalar.Number negative n) b f

-- a byte behind some letters of a truth; the next letter, if there is one
abbrev pub after_letters : Place → Bool → ℕ → Option ℕ → ℕ → Front → Option Front
after_letters at t n None b f = ends_value at (scalar.Truth t) b f
after_letters at t n (Some letter) b f = goes_if (b == letter) (part_after f (Letters at t (n + 1)))

-- ---- buffers

-- the sizes are whole
abbrev pub ends_sizes : List ℕ → Front → Option Front
ends_sizes dims f = goes_if (nat_le (product dims) most_cells) (record f { dims = dims; wanted = product dims; part = Cells })

-- a byte that begins a buffer's sizes
abbrev pub begins_sizes : ℕ → Front → Option Front
begins_sizes b f =
    if is_ascii_digit b then Some (part_after f (Size (digit b))) else (if is_colon b then ends_sizes f.dims f else None)

-- a byte behind digits of a size
abbrev pub after_size : ℕ → ℕ → Front → Option Front
after_size n b f =
    if is_ascii_digit b then goes_if (nat_le (n * 10 + digit b) most_cells) (part_after f (Size (n * 10 + digit b)))
    else (if is_times b then Some (record f { dims = f.dims ++ n ∷ []; part = NextSize })
    else (if is_colon b then ends_sizes (f.dims ++ n ∷ []) f else None))

-- a byte behind the colon
abbrev pub begins_cells : ℕ → Front → Option Front
begins_cells b f =
    if is_equals b then Some (part_after f (Value place.Filler))
    else (if f.wanted == 0 then goes_if (closes b) (with_arg (arg.Cells f.dims []) Behind f) else begins_value place.Cell b f)

-- ---- all

-- one more byte, if it may stand there
abbrev pub after_part : Part → ℕ → Front → Option Front
after_part Start b f = begins_argument b f
after_part Argument b f = begins_argument b f
after_part (Value at) b f = begins_value at b f
after_part (Minus at) b f = goes_if (is_ascii_digit b) (part_after f (Digits at true (digit b)))
after_part (Digits at negative n) b f = after_digits at negative n b f
after_part (Letters at t n) b f = after_letters at t n (slice_get (letters t) n) b f
after_part Sizes b f = begins_sizes b f
after_part (Size n) b f = after_size n b f
after_part NextSize b f = goes_if (is_ascii_digit b) (part_after f (Size (digit b)))
after_part Cells b f = begins_cells b f
after_part Behind b f = goes_if (is_comma b) (part_after f Argument)

abbrev pub after_byte : ℕ → Front → Option Front
after_byte b f = after_part f.part b f

-- the argument that the end of the text makes whole, if it may end there
abbrev pub last_of : Part → Option (List Arg)
last_of Start = Some []
last_of Behind = Some []
last_of (Digits place.Argument negative n) = Some (arg.Number negative n ∷ [])
last_of (Letters place.Argument t n) = if n == length (letters t) then Some (arg.Truth t ∷ []) else None
last_of _ = None

-- a text is read whole, or the byte at a place can't stand there
pub data Verdict : Type 0 where
  Whole : List Arg → Verdict
  Bad : ℕ → Verdict

-- all arguments, if the text may end here
abbrev pub whole_args : Front → Option (List Arg)
whole_args f = option_map (λ last. f.args ++ last) (last_of f.part)

-- at the end of the text
abbrev pub ends_at : ℕ → Option (List Arg) → Verdict
ends_at at None = Bad at
ends_at at (Some args) = Whole args

-- the byte at this place is bad, or what follows is judged
abbrev pub judged : ℕ → (Front → Verdict) → Option Front → Verdict
judged at later None = Bad at
judged at later (Some g) = later g

-- the bytes from this place on, behind what was read
abbrev pub verdict_from : ℕ → Front → List ℕ → Verdict
verdict_from at f [] = ends_at at (whole_args f)
verdict_from at f (b ∷ bytes) = judged at (λ g. verdict_from (at + 1) g bytes) (after_byte b f)

-- nothing is read
abbrev pub nothing_read : Front
nothing_read = record { args = []; dims = []; wanted = 0; values = []; part = Start }

-- a whole text
abbrev pub verdict : List ℕ → Verdict
verdict bytes = verdict_from 0 nothing_read bytes
