-- Edges to each block, counted up to two.
use Rattle.std.specs.Prelude.{ℕ, zero, suc, ◌+◌, ◌&&◌, ◌||◌, nat_lt, if◌then◌else◌, Bool, List, [], ◌∷◌, length, replicate, slice_set}
use Rattle.low_forms.specs.Registers.{every}

abbrev pub count_at : List ℕ → ℕ → ℕ
count_at [] b = 0
count_at (n ∷ counts) zero = n
count_at (n ∷ counts) (suc b) = count_at counts b

abbrev pub with_edge : ℕ → List ℕ → List ℕ
with_edge b counts = if nat_lt b (length counts) then (if nat_lt (count_at counts b) 2 then slice_set counts b (count_at counts b + 1) else counts) else counts

abbrev pub with_edges : List ℕ → List ℕ → List ℕ
with_edges [] counts = counts
with_edges (b ∷ bs) counts = with_edges bs (with_edge b counts)

abbrev pub with_all : List (List ℕ) → List ℕ → List ℕ
with_all [] counts = counts
with_all (bs ∷ lists) counts = with_all lists (with_edges bs counts)

abbrev pub counted : List (List ℕ) → List ℕ
counted lists = with_all lists (replicate (length lists) 0)

abbrev pub has_one : List ℕ → ℕ → Bool
has_one counts b = nat_lt b (length counts) && nat_lt (count_at counts b) 2

abbrev pub is_uncritical_by : List ℕ → List ℕ → Bool
is_uncritical_by counts bs = nat_lt (length bs) 2 || every (has_one counts) bs
