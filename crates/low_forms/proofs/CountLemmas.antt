-- Edges counted up to two.
use Rattle.std.proofs.Common.{◌≡◌, ◌⊎◌, inl, inr, ℕ, zero, suc, ◌+◌, ◌<◌, ◌≤◌, ◌==◌, ◌||◌, ◌&&◌, if◌then◌else◌, Bool, true, false, List, [], ◌∷◌, length, replicate, Some, None, refl, sym, ap, ◌∙◌, arith, subst}
use Rattle.std.specs.Prelude.{slice_get, slice_set, nat_lt}
use Rattle.std.proofs.lemmas.List.{length-replicate}
use Rattle.std.proofs.lemmas.Bool.Decides.{eqb_tells, leb_tells, nat_tests}
use Rattle.std.proofs.Math.ListN.{length-set}
use Rattle.low_forms.specs.Registers.{every}
use Rattle.low_forms.specs.Edges.{count_to, predecessors, has_one_before, is_uncritical}
use Rattle.low_forms.specs.Counting.{count_at, with_edge, with_edges, with_all, counted, has_one, is_uncritical_by}
use Rattle.low_forms.proofs.Words.{every_same}

pub count_some : (counts : List ℕ) (b n : ℕ) → slice_get counts b ≡ Some n → n ≡ count_at counts b
count_some [] b n is = cc
count_some (m ∷ counts) zero n is = cc
count_some (m ∷ counts) (suc b) n is = count_some counts b n is

pub count_none : (counts : List ℕ) (b : ℕ) → slice_get counts b ≡ None → 0 ≡ count_at counts b
count_none [] b is = refl
count_none (m ∷ counts) zero is = cc
count_none (m ∷ counts) (suc b) is = count_none counts b is

-- the first number is the second one, up to two
abbrev IsCap : ℕ → ℕ → Type 0
IsCap m n = ((m ≡ n) × (n < 2)) ⊎ ((m ≡ 2) × (2 ≤ n))

set_here : (counts : List ℕ) (b n : ℕ) → b < length counts → count_at (slice_set counts b n) b ≡ n
set_here [] b n inside = absurd (omega arith)
set_here (m ∷ counts) zero n inside = refl
set_here (m ∷ counts) (suc b) n inside = set_here counts b n (omega arith)

set_other : (counts : List ℕ) (b c n : ℕ) → (b ≡ c → ⊥) → count_at (slice_set counts b n) c ≡ count_at counts c
set_other [] b c n other = refl
set_other (m ∷ counts) zero zero n other = absurd (other refl)
set_other (m ∷ counts) zero (suc c) n other = refl
set_other (m ∷ counts) (suc b) zero n other = refl
set_other (m ∷ counts) (suc b) (suc c) n other = set_other counts b c n (λ same. other (ap suc same))

-- one more
abbrev Edge : ℕ → List ℕ → Bool → Bool → List ℕ
Edge b counts inside small = if inside then (if small then slice_set counts b (count_at counts b + 1) else counts) else counts

edge_length : (b : ℕ) (counts : List ℕ) → length (with_edge b counts) ≡ length counts
edge_length b counts = step (nat_lt b (length counts)) (nat_lt (count_at counts b) 2)
  where
    step : (inside small : Bool) → length (if inside then (if small then slice_set counts b (count_at counts b + 1) else counts) else counts) ≡ length counts
    step true true = length-set counts b (count_at counts b + 1)
    step true false = refl
    step false small = refl

edge_here : (b n : ℕ) (counts : List ℕ) → b < length counts → IsCap (count_at counts b) n → IsCap (count_at (with_edge b counts) b) (n + 1)
edge_here b n counts within cap = step (nat_lt b (length counts)) (nat_lt (count_at counts b) 2) (grind (arith, nat_tests)) refl cap
  where
    step : (inside small : Bool) → inside ≡ true → nat_lt (count_at counts b) 2 ≡ small → IsCap (count_at counts b) n
        → IsCap (count_at (if inside then (if small then slice_set counts b (count_at counts b + 1) else counts) else counts) b) (n + 1)
    step true true in_is small_is (inl low) = elim (leb_tells (n + 2) 2) [
      | inl one ↦ inl (set_here counts b (count_at counts b + 1) within ∙ ap (λ k. k + 1) low.0, omega (arith, one.1))
      | inr two ↦ inr (set_here counts b (count_at counts b + 1) within ∙ (let e : count_at counts b + 1 ≡ 2 = omega (arith, low.0, low.1, two.1) in e), omega (arith, low.1, two.1))
    ]
    step true true in_is small_is (inr high) = absurd (let l : count_at counts b < 2 = grind (arith, nat_tests) in omega (arith, high.0))
    step true false in_is small_is (inl low) = absurd (let l : 2 ≤ count_at counts b = grind (arith, nat_tests) in omega (arith, low.0, low.1))
    step true false in_is small_is (inr high) = inr (high.0, omega (arith, high.1))
    step false small in_is small_is cap = cc

edge_other : (b c : ℕ) (counts : List ℕ) → (b ≡ c → ⊥) → count_at (with_edge b counts) c ≡ count_at counts c
edge_other b c counts other = step (nat_lt b (length counts)) (nat_lt (count_at counts b) 2)
  where
    step : (inside small : Bool) → count_at (if inside then (if small then slice_set counts b (count_at counts b + 1) else counts) else counts) c ≡ count_at counts c
    step true true = set_other counts b c (count_at counts b + 1) other
    step true false = refl
    step false small = refl

edges_length : (bs counts : List ℕ) → length (with_edges bs counts) ≡ length counts
edges_length [] counts = refl
edges_length (b ∷ bs) counts = edges_length bs (with_edge b counts) ∙ edge_length b counts

edges_cap : (bs : List ℕ) (c n : ℕ) (counts : List ℕ) → c < length counts → IsCap (count_at counts c) n → IsCap (count_at (with_edges bs counts) c) (count_to c bs + n)
edges_cap [] c n counts within cap = subst (λ k. IsCap (count_at counts c) k) (let e : n ≡ 0 + n = omega arith in e) cap
edges_cap (b ∷ bs) c n counts within cap = elim (eqb_tells c b) [
  | inl same ↦
      let first : IsCap (count_at (with_edge c counts) c) (n + 1) = edge_here c n counts within cap in
      let now : IsCap (count_at (with_edge b counts) c) (n + 1) = subst (λ k. IsCap (count_at (with_edge k counts) c) (n + 1)) same.1 first in
      let rest : IsCap (count_at (with_edges bs (with_edge b counts)) c) (count_to c bs + (n + 1)) = edges_cap bs c (n + 1) (with_edge b counts) (omega (arith, within, edge_length b counts)) now in
      let e : count_to c bs + (n + 1) ≡ (if c == b then count_to c bs + 1 else count_to c bs) + n = (let f : count_to c bs + (n + 1) ≡ (count_to c bs + 1) + n = omega arith in f ∙ sym (ap (λ t. (if t then count_to c bs + 1 else count_to c bs) + n) same.0)) in
      subst (λ k. IsCap (count_at (with_edges bs (with_edge b counts)) c) k) e rest
  | inr other ↦
      let now : IsCap (count_at (with_edge b counts) c) n = subst (λ m. IsCap m n) (sym (edge_other b c counts (λ e. other.1 (sym e)))) cap in
      let rest : IsCap (count_at (with_edges bs (with_edge b counts)) c) (count_to c bs + n) = edges_cap bs c n (with_edge b counts) (omega (arith, within, edge_length b counts)) now in
      subst (λ t. IsCap (count_at (with_edges bs (with_edge b counts)) c) ((if t then count_to c bs + 1 else count_to c bs) + n)) (sym other.0) rest
]

all_length : (lists : List (List ℕ)) (counts : List ℕ) → length (with_all lists counts) ≡ length counts
all_length [] counts = refl
all_length (bs ∷ lists) counts = all_length lists (with_edges bs counts) ∙ edges_length bs counts

all_cap : (lists : List (List ℕ)) (c n : ℕ) (counts : List ℕ) → c < length counts → IsCap (count_at counts c) n → IsCap (count_at (with_all lists counts) c) (predecessors lists c + n)
all_cap [] c n counts within cap = subst (λ k. IsCap (count_at counts c) k) (let e : n ≡ 0 + n = omega arith in e) cap
all_cap (bs ∷ lists) c n counts within cap =
    let now : IsCap (count_at (with_edges bs counts) c) (count_to c bs + n) = edges_cap bs c n counts within cap in
    let rest : IsCap (count_at (with_all lists (with_edges bs counts)) c) (predecessors lists c + (count_to c bs + n)) = all_cap lists c (count_to c bs + n) (with_edges bs counts) (omega (arith, within, edges_length bs counts)) now in
    let e : predecessors lists c + (count_to c bs + n) ≡ (count_to c bs + predecessors lists c) + n = omega arith in
    subst (λ k. IsCap (count_at (with_all lists (with_edges bs counts)) c) k) e rest

zeros : (n c : ℕ) → count_at (replicate n 0) c ≡ 0
zeros zero c = refl
zeros (suc n) zero = refl
zeros (suc n) (suc c) = zeros n c

cap_tells : (m n : ℕ) → IsCap m n → nat_lt m 2 ≡ nat_lt n 2
cap_tells m n (inl low) = ap (λ k. nat_lt k 2) low.0
cap_tells m n (inr high) = elim (leb_tells (suc n) 2) [
  | inl below ↦ absurd (omega (arith, high.1, below.1))
  | inr above ↦ ap (λ k. nat_lt k 2) high.0 ∙ sym above.0
]

counted_length : (lists : List (List ℕ)) → length (counted lists) ≡ length lists
counted_length lists = all_length lists (replicate (length lists) 0) ∙ length-replicate {A = ℕ} (length lists) 0

one_same : (lists : List (List ℕ)) (c : ℕ) → has_one (counted lists) c ≡ has_one_before lists c
one_same lists c = ap (λ n. nat_lt c n && nat_lt (count_at (counted lists) c) 2) (counted_length lists) ∙ elim (leb_tells (suc c) (length lists)) [
  | inl inside ↦
      let within : c < length (replicate (length lists) 0) = omega (arith, inside.1, length-replicate {A = ℕ} (length lists) 0) in
      let start : IsCap (count_at (replicate (length lists) 0) c) 0 = inl (zeros (length lists) c, omega arith) in
      let cap : IsCap (count_at (counted lists) c) (predecessors lists c + 0) = all_cap lists c 0 (replicate (length lists) 0) within start in
      let e : predecessors lists c + 0 ≡ predecessors lists c = omega arith in
      ap (λ b. nat_lt c (length lists) && b) (cap_tells (count_at (counted lists) c) (predecessors lists c + 0) cap ∙ ap (λ k. nat_lt k 2) e)
  | inr outside ↦ ap (λ b. b && nat_lt (count_at (counted lists) c) 2) outside.0 ∙ sym (ap (λ b. b && nat_lt (predecessors lists c) 2) outside.0)
]

pub uncritical_same : (lists : List (List ℕ)) → every (is_uncritical_by (counted lists)) lists ≡ every (is_uncritical lists) lists
uncritical_same lists = every_same (is_uncritical_by (counted lists)) (is_uncritical lists) lists
    (λ bs. ap (λ b. nat_lt (length bs) 2 || b) (every_same (has_one (counted lists)) (has_one_before lists) bs (one_same lists)))
