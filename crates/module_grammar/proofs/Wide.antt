-- Numbers that digits write, past 2^64.
use Rattle.std.proofs.Common.{◌≡◌, ◌<◌, ◌≤◌, ℕ, ◌+◌, ◌-◌, ◌*◌, ◌/◌, List, [], ◌∷◌, length, drop, None, get_or, refl, arith, le-ltb, div-lt_iff_lt-mul, drop-cons, add-one}
use Rattle.module_grammar.specs.Tokens.{below, number_in, digit_of}

grows : (base n d : ℕ) → 1 ≤ base → n ≤ n * base + d
grows base n d h = grind arith

pub too-large : (base : ℕ) (bs : List ℕ) (n : ℕ) → 1 ≤ base → 18446744073709551616 ≤ n → below (number_in base bs n) ≡ None
too-large base [] n h w = rw (le-ltb n 18446744073709551616 w) refl
too-large base (b ∷ bs) n h w = too-large base bs (n * base + digit_of b) h (omega (arith, grows base n (digit_of b) h))

pub past : (base n d : ℕ) → 1 ≤ base → (18446744073709551615 - d) / base < n → 18446744073709551616 ≤ n * base + d
past base n d h w = let e : 18446744073709551615 - d < n * base = (div-lt_iff_lt-mul h).0 w in omega arith

pub digit-step : (base : ℕ) (bs : List ℕ) (i n : ℕ) → i < length bs
    → number_in base (drop i bs) n ≡ number_in base (drop (i + 1) bs) (n * base + digit_of (get_or bs i 0))
digit-step base bs i n h = rw (add-one, drop-cons bs i 0 h) refl
