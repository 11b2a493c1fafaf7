-- Truths of words, number by number.
use Rattle.std.proofs.Common.{◌≡◌, ◌⊎◌, inl, inr, ℕ, zero, suc, ◌+◌, ◌*◌, ◌/◌, ◌%◌, ◌<◌, ◌≤◌, ◌==◌, max, ◌||◌, Bool, true, false, List, [], ◌∷◌, length, replicate, refl, sym, ap, ◌∙◌, arith, subst}
use Rattle.std.specs.Prelude.{slice_set}
use Rattle.std.specs.Bool.{MatchBool}
use Rattle.std.proofs.lemmas.Bool.Decides.{eqb_tells}
use Rattle.std.proofs.lemmas.List.{length-replicate}
use Rattle.std.proofs.Math.ListN.{length-set}
use Rattle.bit_sets.specs.Members.{is_in, union}
use Rattle.std.specs.Int.{bit_at}
use Rattle.std.proofs.lemmas.Nat.Bits.{bit_at_or, bit_at-lt, bit_at-zero}
use Rattle.bit_sets.specs.Words.{word_at, bit_of, united, truths_from, truths}
use Rattle.bit_sets.proofs.WordLemmas.{is_none, word_replicate, united_all}

pub length_truths : (f : ℕ → Bool) (s many : ℕ) → length (truths_from f s many) ≡ many
length_truths f s zero = refl
length_truths f s (suc many) = ap suc (length_truths f (suc s) many)

in_truths : (f : ℕ → Bool) (s many n m : ℕ) → n < many → m ≡ s + n → is_in (truths_from f s many) n ≡ f m
in_truths f s zero n m inside is = absurd (omega arith)
in_truths f s (suc many) zero m inside is = ap f (omega (arith, is))
in_truths f s (suc many) (suc n) m inside is = in_truths f (suc s) many n m (omega arith) (omega (arith, is))

pub in_words : (limit : ℕ) (words : List ℕ) (n : ℕ) → n < limit → is_in (truths limit words) n ≡ bit_of words n
in_words limit words n inside = in_truths (bit_of words) 0 limit n n inside (omega arith)

pub in_beyond : (set : List Bool) (n : ℕ) → length set ≤ n → is_in set n ≡ false
in_beyond [] n beyond = refl
in_beyond (b ∷ set) zero beyond = absurd (omega arith)
in_beyond (b ∷ set) (suc n) beyond = in_beyond set n (omega arith)

pub in_set : (set : List Bool) (n : ℕ) (b : Bool) → n < length set → is_in (slice_set set n b) n ≡ b
in_set [] n b inside = absurd (omega arith)
in_set (a ∷ set) zero b inside = refl
in_set (a ∷ set) (suc n) b inside = in_set set n b (omega arith)

pub in_set_other : (set : List Bool) (n m : ℕ) (b : Bool) → (n ≡ m → ⊥) → is_in (slice_set set n b) m ≡ is_in set m
in_set_other [] n m b other = refl
in_set_other (a ∷ set) zero zero b other = absurd (other refl)
in_set_other (a ∷ set) zero (suc m) b other = refl
in_set_other (a ∷ set) (suc n) zero b other = refl
in_set_other (a ∷ set) (suc n) (suc m) b other = in_set_other set n m b (λ same. other (ap suc same))

pub set_beyond : (set : List Bool) (n : ℕ) (b : Bool) → length set ≤ n → slice_set set n b ≡ set
set_beyond [] n b beyond = refl
set_beyond (a ∷ set) zero b beyond = absurd (omega arith)
set_beyond (a ∷ set) (suc n) b beyond = ap (λ (bs : List Bool). a ∷ bs) (set_beyond set n b (omega arith))

pub in_replicate : (limit n : ℕ) → is_in (replicate limit false) n ≡ false
in_replicate zero n = refl
in_replicate (suc limit) zero = refl
in_replicate (suc limit) (suc n) = in_replicate limit n

pub length_union : (set other : List Bool) → length (union set other) ≡ length set
length_union [] other = refl
length_union (a ∷ set) [] = refl
length_union (a ∷ set) (b ∷ other) = ap suc (length_union set other)

pub in_union : (set other : List Bool) (n : ℕ) → length set ≡ length other → is_in (union set other) n ≡ (is_in set n || is_in other n)
in_union [] [] n long = refl
in_union [] (b ∷ other) n long = absurd (omega (arith, long))
in_union (a ∷ set) [] n long = absurd (omega (arith, long))
in_union (a ∷ set) (b ∷ other) zero long = refl
in_union (a ∷ set) (b ∷ other) (suc n) long = in_union set other n (omega (arith, long))

-- lists of truths are equal where they are equal number by number
pub same_sets : (set other : List Bool) → length set ≡ length other → ((n : ℕ) → n < length set → is_in set n ≡ is_in other n) → set ≡ other
same_sets [] [] long same = refl
same_sets [] (b ∷ other) long same = absurd (omega (arith, long))
same_sets (a ∷ set) [] long same = absurd (omega (arith, long))
same_sets (a ∷ set) (b ∷ other) long same =
    let first : a ≡ b = same 0 (omega arith) in
    let rest : set ≡ other = same_sets set other (omega (arith, long)) (λ n inside. same (suc n) (omega (arith, inside))) in
    cc

-- ---- what the calls do

pub truths_empty : (limit : ℕ) (words : List ℕ) → ((n : ℕ) → bit_of words n ≡ false) → truths limit words ≡ replicate limit false
truths_empty limit words none = same_sets (truths limit words) (replicate limit false)
    (length_truths (bit_of words) 0 limit ∙ sym (length-replicate limit false))
    (λ n inside. in_words limit words n (let e : length (truths limit words) ≡ limit = length_truths (bit_of words) 0 limit in omega (arith, inside, e)) ∙ none n ∙ sym (in_replicate limit n))

pub truths_set : (limit : ℕ) (words news : List ℕ) (number : ℕ) (b : Bool) → number < limit → bit_of news number ≡ b
    → ((n : ℕ) → (n ≡ number → ⊥) → bit_of news n ≡ bit_of words n) → truths limit news ≡ slice_set (truths limit words) number b
truths_set limit words news number b below is others =
    let old_long : length (truths limit words) ≡ limit = length_truths (bit_of words) 0 limit in
    let new_long : length (truths limit news) ≡ limit = length_truths (bit_of news) 0 limit in
    same_sets (truths limit news) (slice_set (truths limit words) number b)
    (new_long ∙ sym old_long ∙ sym (length-set (truths limit words) number b))
    (λ n inside.
    let within : n < limit = omega (arith, inside, new_long) in
    in_words limit news n within ∙ elim (eqb_tells number n) [
      | inl same ↦ subst (λ x. bit_of news x ≡ is_in (slice_set (truths limit words) number b) x) same.1 (is ∙ sym (in_set (truths limit words) number b (omega (arith, below, old_long))))
      | inr other ↦ others n (λ same. other.1 (sym same)) ∙ sym (in_words limit words n within) ∙ sym (in_set_other (truths limit words) number n b other.1)
    ])

pub truths_united : (limit : ℕ) (words others news : List ℕ) → ((n : ℕ) → bit_of news n ≡ (bit_of words n || bit_of others n))
    → truths limit news ≡ union (truths limit words) (truths limit others)
truths_united limit words others news is =
    let old_long : length (truths limit words) ≡ limit = length_truths (bit_of words) 0 limit in
    let more_long : length (truths limit others) ≡ limit = length_truths (bit_of others) 0 limit in
    let new_long : length (truths limit news) ≡ limit = length_truths (bit_of news) 0 limit in
    same_sets (truths limit news) (union (truths limit words) (truths limit others))
    (new_long ∙ sym old_long ∙ sym (length_union (truths limit words) (truths limit others)))
    (λ n inside.
    let within : n < limit = omega (arith, inside, new_long) in
    in_words limit news n within ∙ is n
    ∙ sym (in_union (truths limit words) (truths limit others) n (old_long ∙ sym more_long)
    ∙ ap (λ b. b || is_in (truths limit others) n) (in_words limit words n within) ∙ ap (λ b. bit_of words n || b) (in_words limit others n within)))

-- words with a bit that differs are other truths, where none is set beyond the limit
pub truths_differ : (limit : ℕ) (words news : List ℕ) → ((n : ℕ) → limit ≤ n → bit_of words n ≡ false) → ((n : ℕ) → limit ≤ n → bit_of news n ≡ false)
    → (n : ℕ) → (bit_of news n ≡ bit_of words n → ⊥) → truths limit news ≡ truths limit words → ⊥
truths_differ limit words news none new_none n other same = elim (within n limit) [
  | inl inside ↦ other (sym (in_words limit news n inside) ∙ ap (λ (s : List Bool). is_in s n) same ∙ in_words limit words n inside)
  | inr beyond ↦ other (new_none n beyond ∙ sym (none n beyond))
]
  where
    within : (a b : ℕ) → (a < b) ⊎ (b ≤ a)
    within a zero = inr (omega arith)
    within zero (suc b) = inl (omega arith)
    within (suc a) (suc b) = elim (within a b) [ inl is ↦ inl (omega (arith, is)) | inr not_is ↦ inr (omega (arith, not_is)) ]

-- ---- what calls keep

pub one_more_within : (limit number len : ℕ) → len ≡ limit / 64 + 1 → number < limit → number < 64 * len
one_more_within limit number len is below = omega arith

pub still_none : (limit number : ℕ) (words news : List ℕ) → number < limit → ((n : ℕ) → (n ≡ number → ⊥) → bit_of news n ≡ bit_of words n)
    → ((n : ℕ) → limit ≤ n → bit_of words n ≡ false) → (n : ℕ) → limit ≤ n → bit_of news n ≡ false
still_none limit number words news below others none n beyond = others n (λ same. omega (arith, below, beyond, same)) ∙ none n beyond

pub in_view : (limit : ℕ) (words : List ℕ) (view : List Bool) (n : ℕ) → truths limit words ≡ view → ((n : ℕ) → limit ≤ n → bit_of words n ≡ false) → bit_of words n ≡ is_in view n
in_view limit words view n is none = elim (within n limit) [
  | inl inside ↦ sym (in_words limit words n inside) ∙ ap (λ (s : List Bool). is_in s n) is
  | inr beyond ↦ none n beyond ∙ sym (in_beyond (truths limit words) n (let e : length (truths limit words) ≡ limit = length_truths (bit_of words) 0 limit in omega (arith, beyond, e))) ∙ ap (λ (s : List Bool). is_in s n) is
]
  where
    within : (a b : ℕ) → (a < b) ⊎ (b ≤ a)
    within a zero = inr (omega arith)
    within zero (suc b) = inl (omega arith)
    within (suc a) (suc b) = elim (within a b) [ inl is ↦ inl (omega (arith, is)) | inr not_is ↦ inr (omega (arith, not_is)) ]

pub view_long : (limit : ℕ) (words : List ℕ) (view : List Bool) → truths limit words ≡ view → limit ≡ length view
view_long limit words view is = sym (length_truths (bit_of words) 0 limit) ∙ ap length is

pub set_view : (limit : ℕ) (words news : List ℕ) (view : List Bool) (number : ℕ) (b : Bool) → truths limit words ≡ view → number < limit → bit_of news number ≡ b
    → ((n : ℕ) → (n ≡ number → ⊥) → bit_of news n ≡ bit_of words n) → truths limit news ≡ slice_set view number b
set_view limit words news view number b is below now others = truths_set limit words news number b below now others ∙ ap (λ (s : List Bool). slice_set s number b) is

pub kept_view : (limit : ℕ) (words : List ℕ) (view : List Bool) (number : ℕ) (b : Bool) → truths limit words ≡ view → limit ≤ number → view ≡ slice_set view number b
kept_view limit words view number b is beyond = sym (set_beyond view number b (let e : limit ≡ length view = view_long limit words view is in omega (arith, beyond, e)))

pub no_bits : (many n : ℕ) → bit_of (replicate many 0) n ≡ false
no_bits many n = is_none (bit_at (word_at (replicate many 0) (n / 64)) (n % 64)) (ap (λ w. bit_at w (n % 64)) (word_replicate many (n / 64)) ∙ bit_at-zero (n % 64))

or_bits : (a b : ℕ) → a < 2 → b < 2 → (max a b == 1) ≡ ((a == 1) || (b == 1))
or_bits zero zero small small' = refl
or_bits zero (suc zero) small small' = refl
or_bits (suc zero) zero small small' = refl
or_bits (suc zero) (suc zero) small small' = refl
or_bits zero (suc (suc b)) small small' = absurd (omega arith)
or_bits (suc zero) (suc (suc b)) small small' = absurd (omega arith)
or_bits (suc (suc a)) b small small' = absurd (omega arith)

pub united_bits : (words others news : List ℕ) → length others ≤ length words → news ≡ united 0 others words → (n : ℕ) → bit_of news n ≡ (bit_of words n || bit_of others n)
united_bits words others news fits is n =
    ap (λ (ws : List ℕ). bit_of ws n) is
    ∙ ap (λ w. bit_at w (n % 64) == 1) (united_all others words (n / 64) fits)
    ∙ ap (λ b. b == 1) (bit_at_or (word_at words (n / 64)) (word_at others (n / 64)) (n % 64))
    ∙ or_bits (bit_at (word_at words (n / 64)) (n % 64)) (bit_at (word_at others (n / 64)) (n % 64)) (bit_at-lt (word_at words (n / 64)) (n % 64)) (bit_at-lt (word_at others (n / 64)) (n % 64))

pub united_none : (limit : ℕ) (words others news : List ℕ) → ((n : ℕ) → bit_of news n ≡ (bit_of words n || bit_of others n))
    → ((n : ℕ) → limit ≤ n → bit_of words n ≡ false) → ((n : ℕ) → limit ≤ n → bit_of others n ≡ false) → (n : ℕ) → limit ≤ n → bit_of news n ≡ false
united_none limit words others news is none others_none n beyond = is n ∙ neither (bit_of words n) (bit_of others n) (none n beyond) (others_none n beyond)
  where
    neither : (a b : Bool) → a ≡ false → b ≡ false → (a || b) ≡ false
    neither true b is_not other_not = cc
    neither false b is_not other_not = other_not

pub united_view : (limit more : ℕ) (words others news : List ℕ) (view other : List Bool) → truths limit words ≡ view → truths more others ≡ other → limit ≡ more
    → ((n : ℕ) → bit_of news n ≡ (bit_of words n || bit_of others n)) → truths limit news ≡ union view other
united_view limit more words others news view other is other_is same bits =
    truths_united limit words others news bits ∙ ap (λ (s : List Bool). union s (truths limit others)) is
    ∙ ap (λ (s : List Bool). union view s) (ap (λ l. truths l others) same ∙ other_is)

pub view_grows : (limit : ℕ) (words news : List ℕ) (view : List Bool) (b : Bool) → truths limit words ≡ view
    → ((n : ℕ) → limit ≤ n → bit_of words n ≡ false) → ((n : ℕ) → limit ≤ n → bit_of news n ≡ false)
    → MatchBool b ((n : ℕ) × (bit_of news n ≡ bit_of words n → ⊥)) (news ≡ words)
    → MatchBool b (truths limit news ≡ view → ⊥) (truths limit news ≡ view)
view_grows limit words news view true is none new_none found = λ same. truths_differ limit words news none new_none found.0 found.1 (same ∙ sym is)
view_grows limit words news view false is none new_none kept = ap (λ (ws : List ℕ). truths limit ws) kept ∙ is
