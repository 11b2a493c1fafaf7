-- The input of `replay`: a module's text, and a journal behind the first line `-- journal`.
use Rattle.std.specs.Prelude.{ℕ, ◌≡◌, ◌+◌, ◌-◌, ◌≤◌, ◌<◌, Bool, true, false, ◌&&◌, ◌||◌, ◌==◌, nat_le, List, take, drop, length, slice_index, Option, Some, None, codes}
use Rattle.std.specs.Str.{bytes_eq}

-- the most bytes of the whole input
abbrev pub input_limit : ℕ
input_limit = 536870912

-- a line begins here
abbrev pub begins_line : List ℕ → ℕ → Bool
begins_line bytes at = at == 0 || slice_index bytes (at - 1) == 10

-- a line ends here: the bytes end, or a newline stands here
abbrev pub ends_line : List ℕ → ℕ → Bool
ends_line bytes at = at == length bytes || slice_index bytes at == 10

-- the line that begins here is `-- journal`
abbrev pub is_heading : List ℕ → ℕ → Bool
is_heading bytes at =
    begins_line bytes at
    && (nat_le (at + 10) (length bytes) && (bytes_eq (take 10 (drop at bytes)) (codes "-- journal") && ends_line bytes (at + 10)))

-- Where no line is `-- journal`, the whole is a module's text. Else the text ends before the first such line, and the journal
-- begins behind it.
abbrev pub IsSplit : List ℕ → List ℕ → Option (List ℕ) → Type 0
IsSplit bytes text None = (text ≡ bytes) × ((at : ℕ) → at ≤ length bytes → is_heading bytes at ≡ false)
IsSplit bytes text (Some journal) =
    (at : ℕ) × ((is_heading bytes at ≡ true) × (((before : ℕ) → before < at → is_heading bytes before ≡ false)
    × ((text ≡ take at bytes) × (journal ≡ drop (at + 11) bytes))))
