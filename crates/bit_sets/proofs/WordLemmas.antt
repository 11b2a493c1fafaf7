-- Words at places, and their bits.
use Rattle.std.proofs.Common.{◌≡◌, ◌⊎◌, inl, inr, ℕ, zero, suc, ◌+◌, ◌*◌, ◌/◌, ◌%◌, ◌^◌, ◌<◌, ◌≤◌, ◌==◌, ◌||◌, not, Bool, true, false, List, [], ◌∷◌, length, replicate, Some, None, refl, sym, ap, ◌∙◌, arith, subst, bit_or, drop, add-one}
use Rattle.std.specs.Prelude.{slice_get, slice_set, slice_index_or}
use Rattle.std.specs.Int.{bit_at}
use Rattle.std.proofs.lemmas.Bool.Decides.{eqb_tells, nat_tests}
use Rattle.std.proofs.lemmas.Nat.Bits.{bit_at-lt, same_from_bits_below}
use Rattle.std.proofs.Math.ListN.{length-set}
use Rattle.std.specs.Int.Bits.{or_zero_r}
use Rattle.std.proofs.lemmas.Nat.{le_or_l}
use Rattle.std.specs.Bool.{MatchBool}
use Rattle.bit_sets.specs.Words.{word_at, bit_of, joined, united, grows}

pub word_some : (words : List ℕ) (k w : ℕ) → slice_get words k ≡ Some w → w ≡ word_at words k
word_some [] k w is = cc
word_some (v ∷ words) zero w is = cc
word_some (v ∷ words) (suc k) w is = word_some words k w is

pub word_none : (words : List ℕ) (k : ℕ) → slice_get words k ≡ None → 0 ≡ word_at words k
word_none [] k is = refl
word_none (v ∷ words) zero is = cc
word_none (v ∷ words) (suc k) is = word_none words k is

pub word_read : (words : List ℕ) (k d : ℕ) → k < length words → slice_index_or words k d ≡ word_at words k
word_read [] k d inside = absurd (omega arith)
word_read (v ∷ words) zero d inside = refl
word_read (v ∷ words) (suc k) d inside = word_read words k d (omega arith)

pub word_beyond : (words : List ℕ) (k : ℕ) → length words ≤ k → word_at words k ≡ 0
word_beyond [] k beyond = refl
word_beyond (v ∷ words) zero beyond = absurd (omega arith)
word_beyond (v ∷ words) (suc k) beyond = word_beyond words k (omega arith)

pub word_set : (words : List ℕ) (k w : ℕ) → k < length words → word_at (slice_set words k w) k ≡ w
word_set [] k w inside = absurd (omega arith)
word_set (v ∷ words) zero w inside = refl
word_set (v ∷ words) (suc k) w inside = word_set words k w (omega arith)

pub word_set_other : (words : List ℕ) (k j w : ℕ) → (k ≡ j → ⊥) → word_at (slice_set words k w) j ≡ word_at words j
word_set_other [] k j w other = refl
word_set_other (v ∷ words) zero zero w other = absurd (other refl)
word_set_other (v ∷ words) zero (suc j) w other = refl
word_set_other (v ∷ words) (suc k) zero w other = refl
word_set_other (v ∷ words) (suc k) (suc j) w other = word_set_other words k j w (λ same. other (ap suc same))

pub word_replicate : (n k : ℕ) → word_at (replicate n 0) k ≡ 0
word_replicate zero k = refl
word_replicate (suc n) zero = refl
word_replicate (suc n) (suc k) = word_replicate n k

-- ---- one bit changes

pub in_words : (words : List ℕ) (n : ℕ) → n < 64 * length words → n / 64 < length words
in_words words n inside = omega arith

pub is_one : (a : ℕ) → a ≡ 1 → (a == 1) ≡ true
is_one a e = grind (arith, nat_tests)

pub is_none : (a : ℕ) → a ≡ 0 → (a == 1) ≡ false
is_none a e = grind (arith, nat_tests)

pub set_word : (words : List ℕ) (n w : ℕ) → n < 64 * length words → bit_at w (n % 64) ≡ 1 → bit_of (slice_set words (n / 64) w) n ≡ true
set_word words n w inside one = is_one (bit_at (word_at (slice_set words (n / 64) w) (n / 64)) (n % 64)) (ap (λ v. bit_at v (n % 64)) (word_set words (n / 64) w (in_words words n inside)) ∙ one)

pub cleared_word : (words : List ℕ) (n w : ℕ) → n < 64 * length words → bit_at w (n % 64) ≡ 0 → bit_of (slice_set words (n / 64) w) n ≡ false
cleared_word words n w inside none = is_none (bit_at (word_at (slice_set words (n / 64) w) (n / 64)) (n % 64)) (ap (λ v. bit_at v (n % 64)) (word_set words (n / 64) w (in_words words n inside)) ∙ none)

other_bit : (m n : ℕ) → (m ≡ n → ⊥) → m / 64 ≡ n / 64 → m % 64 ≡ n % 64 → ⊥
other_bit m n other same rest = other (omega arith)

pub other_bits : (words : List ℕ) (n w m : ℕ) → n < 64 * length words
    → ((i : ℕ) → i < 64 → (i ≡ n % 64 → ⊥) → bit_at w i ≡ bit_at (word_at words (n / 64)) i)
    → (m ≡ n → ⊥) → bit_of (slice_set words (n / 64) w) m ≡ bit_of words m
other_bits words n w m inside keeps other = elim (eqb_tells (n / 64) (m / 64)) [
  | inr apart ↦ ap (λ v. bit_at v (m % 64) == 1) (word_set_other words (n / 64) (m / 64) w apart.1)
  | inl same ↦
      let there : word_at (slice_set words (n / 64) w) (m / 64) ≡ w = subst (λ k. word_at (slice_set words (n / 64) w) k ≡ w) same.1 (word_set words (n / 64) w (in_words words n inside)) in
      let kept : bit_at w (m % 64) ≡ bit_at (word_at words (n / 64)) (m % 64) = keeps (m % 64) (omega arith) (λ rest. other_bit m n other (sym same.1) rest) in
      ap (λ v. bit_at v (m % 64) == 1) there ∙ ap (λ a. a == 1) kept ∙ ap (λ k. bit_at (word_at words k) (m % 64) == 1) same.1
]

-- ---- the bits of other words are added

pub length_united : (k : ℕ) (others words : List ℕ) → length (united k others words) ≡ length words
length_united k [] words = refl
length_united k (more ∷ others) words = length_united (k + 1) others (slice_set words k (joined k more words)) ∙ length-set words k (joined k more words)

-- words before the k-th stay
united_before : (k : ℕ) (others words : List ℕ) (j : ℕ) → j < k → word_at (united k others words) j ≡ word_at words j
united_before k [] words j below = refl
united_before k (more ∷ others) words j below =
    united_before (k + 1) others (slice_set words k (joined k more words)) j (omega arith)
    ∙ word_set_other words k j (joined k more words) (λ same. omega (arith, same))

pub united_word : (k : ℕ) (others words : List ℕ) (i j : ℕ) → k + length others ≤ length words → j ≡ k + i → word_at (united k others words) j ≡ bit_or (word_at words j) (word_at others i)
united_word k [] words i j fits at = sym (or_zero_r (word_at words j))
united_word k (more ∷ others) words zero j fits at =
    let here : k ≡ j = omega (arith, at) in
    subst (λ x. word_at (united k (more ∷ others) words) x ≡ bit_or (word_at words x) more) here
    (united_before (k + 1) others (slice_set words k (joined k more words)) k (omega arith) ∙ word_set words k (joined k more words) (omega (arith, fits)))
united_word k (more ∷ others) words (suc i) j fits at =
    let ws : List ℕ = slice_set words k (joined k more words) in
    let long : length ws ≡ length words = length-set words k (joined k more words) in
    united_word (k + 1) others ws i j (omega (arith, fits, long)) (omega (arith, at))
    ∙ ap (λ w. bit_or w (word_at others i)) (word_set_other words k j (joined k more words) (λ same. omega (arith, same, at)))

pub united_all : (others words : List ℕ) (j : ℕ) → length others ≤ length words → word_at (united 0 others words) j ≡ bit_or (word_at words j) (word_at others j)
united_all others words j fits = united_word 0 others words j j (omega (arith, fits)) (omega arith)

set_same : (words : List ℕ) (k w : ℕ) → w ≡ word_at words k → slice_set words k w ≡ words
set_same [] k w same = refl
set_same (v ∷ words) zero w same = ap (λ x. x ∷ words) same
set_same (v ∷ words) (suc k) w same = ap (λ (ws : List ℕ). v ∷ ws) (set_same words k w same)

same_word : (a b : ℕ) → not (a == b) ≡ false → a ≡ b
same_word a b is = grind (arith, nat_tests)

other_word : (a b : ℕ) → not (a == b) ≡ true → a ≡ b → ⊥
other_word a b is same = grind (arith, nat_tests)

or_splits : (a b : Bool) → (a || b) ≡ true → (a ≡ true) ⊎ (b ≡ true)
or_splits true b is = inl refl
or_splits false b is = inr is

or_none : (a b : Bool) → (a || b) ≡ false → (a ≡ false) × (b ≡ false)
or_none true b is = cc
or_none false b is = (refl, is)

pub none_grows : (k : ℕ) (others words : List ℕ) → grows k others words ≡ false → united k others words ≡ words
none_grows k [] words none = refl
none_grows k (more ∷ others) words none =
    let ws : List ℕ = slice_set words k (joined k more words) in
    let both : (not (joined k more words == word_at words k) ≡ false) × (grows (k + 1) others ws ≡ false) = or_none (not (joined k more words == word_at words k)) (grows (k + 1) others ws) none in
    none_grows (k + 1) others ws both.1 ∙ set_same words k (joined k more words) (same_word (joined k more words) (word_at words k) both.0)

pub some_grows : (k : ℕ) (others words : List ℕ) → k + length others ≤ length words → grows k others words ≡ true → (j : ℕ) × (word_at (united k others words) j ≡ word_at words j → ⊥)
some_grows k [] words fits some = cc
some_grows k (more ∷ others) words fits some =
    let ws : List ℕ = slice_set words k (joined k more words) in
    let long : length ws ≡ length words = length-set words k (joined k more words) in
    elim (or_splits (not (joined k more words == word_at words k)) (grows (k + 1) others ws) some) [
      | inl here ↦ (
        k,
        λ same. other_word (joined k more words) (word_at words k) here
            (sym (word_set words k (joined k more words) (omega (arith, fits))) ∙ sym (united_before (k + 1) others ws k (omega arith)) ∙ same),
      )
      | inr later ↦
          let more_there : (j : ℕ) × (word_at (united (k + 1) others ws) j ≡ word_at ws j → ⊥) = some_grows (k + 1) others ws (omega (arith, fits, long)) later in (
            more_there.0,
            λ same. more_there.1 (same ∙ sym (word_set_other words k more_there.0 (joined k more words)
                (λ here. more_there.1 (subst (λ x. word_at (united (k + 1) others ws) x ≡ word_at ws x) here (united_before (k + 1) others ws k (omega arith)))))),
          )
    ]

drop_word : (others : List ℕ) (k : ℕ) → k < length others → drop k others ≡ word_at others k ∷ drop (suc k) others
drop_word [] k inside = absurd (omega arith)
drop_word (more ∷ others) zero inside = refl
drop_word (more ∷ others) (suc k) inside = drop_word others k (omega arith)

pub drop_next : (others : List ℕ) (k : ℕ) → k < length others → drop k others ≡ word_at others k ∷ drop (k + 1) others
drop_next others k inside = rw add-one (drop_word others k inside)

-- ---- words that differ have a bit that differs

differ_below : (a b : ℕ) (n : ℕ) → ((i : ℕ) → i < n → bit_at a i ≡ bit_at b i) ⊎ ((i : ℕ) × (i < n) × (bit_at a i ≡ bit_at b i → ⊥))
differ_below a b zero = inl (λ i below. absurd (omega arith))
differ_below a b (suc n) = elim (differ_below a b n) [
  | inr found ↦ inr (found.0, omega (arith, found.1), found.2)
  | inl same ↦ elim (eqb_tells (bit_at a n) (bit_at b n)) [
    | inr other ↦ inr (n, omega arith, other.1)
    | inl here ↦ inl (λ i below. elim (eqb_tells i n) [
      | inl last ↦ subst (λ x. bit_at a x ≡ bit_at b x) (sym last.1) here.1
      | inr before ↦ same i (let e : i ≡ n → ⊥ = before.1 in omega (arith, below, e))
    ])
  ]
]

number_word : (j i : ℕ) → i < 64 → (64 * j + i) / 64 ≡ j
number_word j i below = omega arith

number_bit : (j i : ℕ) → i < 64 → (64 * j + i) % 64 ≡ i
number_bit j i below = omega arith

pub bit_differs : (words news : List ℕ) (j : ℕ) → word_at words j < 2 ^ 64 → word_at news j < 2 ^ 64 → (word_at news j ≡ word_at words j → ⊥)
    → (n : ℕ) × (bit_of news n ≡ bit_of words n → ⊥)
bit_differs words news j small small' other = elim (differ_below (word_at news j) (word_at words j) 64) [
  | inl same ↦ absurd (other (same_from_bits_below 64 (word_at news j) (word_at words j) small' small same))
  | inr found ↦ (
    64 * j + found.0,
    λ same. found.2 (
        same_truth (bit_at (word_at news j) found.0) (bit_at (word_at words j) found.0) (bit_at-lt (word_at news j) found.0) (bit_at-lt (word_at words j) found.0)
        (sym (at news found.0 found.1) ∙ same ∙ at words found.0 found.1)),
  )
]
  where
    at : (ws : List ℕ) (i : ℕ) → i < 64 → bit_of ws (64 * j + i) ≡ (bit_at (word_at ws j) i == 1)
    at ws i below = ap (λ k. bit_at (word_at ws k) ((64 * j + i) % 64) == 1) (number_word j i below) ∙ ap (λ k. bit_at (word_at ws j) k == 1) (number_bit j i below)

    same_truth : (a b : ℕ) → a < 2 → b < 2 → (a == 1) ≡ (b == 1) → a ≡ b
    same_truth a b small small' same = elim (eqb_tells a 1) [
      | inl one ↦ elim (eqb_tells b 1) [
        | inl also ↦ one.1 ∙ sym also.1
        | inr not_also ↦ (let e : true ≡ false = sym one.0 ∙ same ∙ not_also.0 in cc)
      ]
      | inr none ↦ elim (eqb_tells b 1) [
        | inl also ↦ (let e : false ≡ true = sym none.0 ∙ same ∙ also.0 in cc)
        | inr not_also ↦ (let e : a ≡ 1 → ⊥ = none.1 in let e' : b ≡ 1 → ⊥ = not_also.1 in omega (arith, small, small', e, e'))
      ]
    ]

-- ---- the loop over other words

pub long_on : (words others : List ℕ) (k more : ℕ) → length words ≡ length others → length (slice_set words k (joined k more words)) ≡ length others
long_on words others k more long = length-set words k (joined k more words) ∙ long

pub unites_on : (words others initial : List ℕ) (k more : ℕ) → k < length others → more ≡ word_at others k
    → united k (drop k others) words ≡ united 0 others initial → united (k + 1) (drop (k + 1) others) (slice_set words k (joined k more words)) ≡ united 0 others initial
unites_on words others initial k more inside is so_far =
    ap (λ m. united (k + 1) (drop (k + 1) others) (slice_set words k (joined k m words))) is
    ∙ sym (ap (λ (rest : List ℕ). united k rest words) (drop_next others k inside)) ∙ so_far

grows_step : (words others : List ℕ) (k more : ℕ) → k < length others → more ≡ word_at others k
    → grows k (drop k others) words ≡ (not (joined k more words == word_at words k) || grows (k + 1) (drop (k + 1) others) (slice_set words k (joined k more words)))
grows_step words others k more inside is =
    ap (λ (rest : List ℕ). grows k rest words) (drop_next others k inside)
    ∙ sym (ap (λ m. not (joined k m words == word_at words k) || grows (k + 1) (drop (k + 1) others) (slice_set words k (joined k m words))) is)

-- what has grown so far, and what this word and the rest do
pub grows_on : (words others initial : List ℕ) (k more : ℕ) (grew now new : Bool) → k < length others → more ≡ word_at others k
    → now ≡ not (joined k more words == word_at words k) → new ≡ (grew || now)
    → (grew || grows k (drop k others) words) ≡ grows 0 others initial
    → (new || grows (k + 1) (drop (k + 1) others) (slice_set words k (joined k more words))) ≡ grows 0 others initial
grows_on words others initial k more grew now new inside is now_is new_is so_far =
    ap (λ b. b || rest) new_is ∙ or_assoc grew now rest ∙ ap (λ b. grew || (b || rest)) now_is ∙ sym (ap (λ b. grew || b) (grows_step words others k more inside is)) ∙ so_far
  where
    rest : Bool
    rest = grows (k + 1) (drop (k + 1) others) (slice_set words k (joined k more words))

    or_assoc : (a b c : Bool) → ((a || b) || c) ≡ (a || (b || c))
    or_assoc true b c = refl
    or_assoc false b c = refl

pub truth_after : (grew now : Bool) → now ≡ true → true ≡ (grew || now)
truth_after true now is = refl
truth_after false now is = sym is

pub same_after : (grew now : Bool) → now ≡ false → grew ≡ (grew || now)
same_after true now is = refl
same_after false now is = sym is

pub drop_all : (others : List ℕ) (k : ℕ) → length others ≤ k → drop k others ≡ []
drop_all [] zero past = refl
drop_all [] (suc k) past = refl
drop_all (more ∷ others) zero past = absurd (omega arith)
drop_all (more ∷ others) (suc k) past = drop_all others k (omega arith)

pub word_small : (words : List ℕ) → ((i d : ℕ) → i < length words → slice_index_or words i d < 2 ^ 64) → (j : ℕ) → word_at words j < 2 ^ 64
word_small words small j = elim (within j (length words)) [
  | inl inside ↦ subst (λ w. w < 2 ^ 64) (word_read words j 0 inside) (small j 0 inside)
  | inr beyond ↦ (let e : word_at words j ≡ 0 = word_beyond words j beyond in omega (arith, e))
]
  where
    within : (a b : ℕ) → (a < b) ⊎ (b ≤ a)
    within a zero = inr (omega arith)
    within zero (suc b) = inl (omega arith)
    within (suc a) (suc b) = elim (within a b) [ inl is ↦ inl (omega (arith, is)) | inr not_is ↦ inr (omega (arith, not_is)) ]

pub united_at_end : (words others initial : List ℕ) (k : ℕ) → length others ≤ k → united k (drop k others) words ≡ united 0 others initial → words ≡ united 0 others initial
united_at_end words others initial k past so_far = sym (ap (λ (rest : List ℕ). united k rest words) (drop_all others k past)) ∙ so_far

-- what the loop says at its end
pub grown : (words others initial : List ℕ) (k : ℕ) (grew : Bool) → length others ≤ k → length initial ≡ length others
    → words ≡ united 0 others initial → (grew || grows k (drop k others) words) ≡ grows 0 others initial → ((i d : ℕ) → i < length words → slice_index_or words i d < 2 ^ 64)
    → MatchBool grew ((n : ℕ) × (bit_of words n ≡ bit_of initial n → ⊥)) (words ≡ initial)
grown words others initial k grew past long all so_far small =
    told grew (sym (or_false grew) ∙ sym (ap (λ (rest : List ℕ). grew || grows k rest words) (drop_all others k past)) ∙ so_far)
  where
    or_false : (b : Bool) → (b || false) ≡ b
    or_false true = refl
    or_false false = refl

    told : (b : Bool) → b ≡ grows 0 others initial → MatchBool b ((n : ℕ) × (bit_of words n ≡ bit_of initial n → ⊥)) (words ≡ initial)
    told false is = all ∙ none_grows 0 others initial (sym is)
    told true is =
        let found : (j : ℕ) × (word_at (united 0 others initial) j ≡ word_at initial j → ⊥) = some_grows 0 others initial (omega (arith, long)) (sym is) in
        let j : ℕ = found.0 in
        let joins : word_at words j ≡ bit_or (word_at initial j) (word_at others j) = ap (λ (ws : List ℕ). word_at ws j) all ∙ united_all others initial j (omega (arith, long)) in
        let new_small : word_at words j < 2 ^ 64 = word_small words small j in
        let under : word_at initial j ≤ bit_or (word_at initial j) (word_at others j) = le_or_l (word_at initial j) (word_at others j) in
        bit_differs initial words j (omega (arith, joins, new_small, under)) new_small (λ same. found.1 (sym (ap (λ (ws : List ℕ). word_at ws j) all) ∙ same))
