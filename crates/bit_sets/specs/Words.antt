-- The truths that the bits of words are.
use Rattle.std.specs.Prelude.{ℕ, zero, suc, ◌+◌, ◌/◌, ◌%◌, ◌==◌, ◌||◌, not, Bool, false, List, [], ◌∷◌, slice_set, bit_or}
use Rattle.std.specs.Int.{bit_at}

-- a word that is missing has no bits
abbrev pub word_at : List ℕ → ℕ → ℕ
word_at [] k = 0
word_at (w ∷ words) zero = w
word_at (w ∷ words) (suc k) = word_at words k

abbrev pub bit_of : List ℕ → ℕ → Bool
bit_of words n = bit_at (word_at words (n / 64)) (n % 64) == 1

-- as many truths, from a number on
abbrev pub truths_from : (ℕ → Bool) → ℕ → ℕ → List Bool
truths_from f n zero = []
truths_from f n (suc many) = f n ∷ truths_from f (suc n) many

abbrev pub truths : ℕ → List ℕ → List Bool
truths limit words = truths_from (bit_of words) 0 limit

-- ---- the bits of other words are added to those from the k-th word on

abbrev pub joined : ℕ → ℕ → List ℕ → ℕ
joined k more words = bit_or (word_at words k) more

abbrev pub united : ℕ → List ℕ → List ℕ → List ℕ
united k [] words = words
united k (more ∷ others) words = united (k + 1) others (slice_set words k (joined k more words))

-- some word changes
abbrev pub grows : ℕ → List ℕ → List ℕ → Bool
grows k [] words = false
grows k (more ∷ others) words = not (joined k more words == word_at words k) || grows (k + 1) others (slice_set words k (joined k more words))
