-- A block has fewer than two predecessors where no two edges lead to it.
use Rattle.std.proofs.Common.{◌≡◌, ◌⊎◌, inl, inr, ℕ, zero, suc, ◌+◌, ◌<◌, ◌≤◌, ◌==◌, ◌||◌, nat_lt, if◌then◌else◌, Bool, true, false, List, [], ◌∷◌, length, Some, refl, sym, ap, ◌∙◌, arith}
use Rattle.std.specs.Prelude.{slice_get}
use Rattle.std.proofs.lemmas.Bool.{ltb-true, lt-ltb, cases_lt}
use Rattle.std.proofs.lemmas.Bool.Decides.{eqb_tells}
use Rattle.low_flow.specs.Lists.{list_at}
use Rattle.low_forms.specs.Registers.{every}
use Rattle.low_forms.specs.Edges.{count_to, predecessors, has_one_before, is_uncritical}
use Rattle.low_forms.proofs.Words.{and_right}
use Rattle.register_laws.proofs.Lists.{every_at}

-- the a-th edge of block i leads to c
abbrev pub EdgeAt : List (List ℕ) → (i a c : ℕ) → Type 0
EdgeAt lists i a c = slice_get (list_at lists i) a ≡ Some c

-- at most one edge leads to c
abbrev pub OneEdge : List (List ℕ) → ℕ → Type 0
OneEdge lists c = (i a j b : ℕ) → EdgeAt lists i a c → EdgeAt lists j b c → (i ≡ j) × (a ≡ b)

-- ---- edges of one block

same_bool : (c : ℕ) → (c == c) ≡ true
same_bool c = elim (eqb_tells c c) [ inl s ↦ s.0 | inr o ↦ absurd (o.1 refl) ]

pub count_pos : (cs : List ℕ) (a c : ℕ) → slice_get cs a ≡ Some c → 1 ≤ count_to c cs
count_pos [] a c at = cc
count_pos (x ∷ cs) zero c at =
    let same : x ≡ c = cc in
    let is : count_to c (x ∷ cs) ≡ count_to c cs + 1 = ap (λ y. if c == y then count_to c cs + 1 else count_to c cs) same ∙ ap (λ b. if b then count_to c cs + 1 else count_to c cs) (same_bool c) in
    omega (arith, is)
count_pos (x ∷ cs) (suc a) c at = more (c == x) (count_pos cs a c at)
  where
    more : (b : Bool) → 1 ≤ count_to c cs → 1 ≤ (if b then count_to c cs + 1 else count_to c cs)
    more true some = omega (arith, some)
    more false some = some

at_least : (n : ℕ) (b : Bool) → n ≤ (if b then n + 1 else n)
at_least n true = omega arith
at_least n false = omega arith

pub count_two : (cs : List ℕ) (a b c : ℕ) → a < b → slice_get cs a ≡ Some c → slice_get cs b ≡ Some c → 2 ≤ count_to c cs
count_two [] a b c less at also = cc
count_two (x ∷ cs) zero zero c less at also = absurd (omega (arith, less))
count_two (x ∷ cs) zero (suc b) c less at also =
    let same : x ≡ c = cc in
    let is : count_to c (x ∷ cs) ≡ count_to c cs + 1 = ap (λ y. if c == y then count_to c cs + 1 else count_to c cs) same ∙ ap (λ t. if t then count_to c cs + 1 else count_to c cs) (same_bool c) in
    let some : 1 ≤ count_to c cs = count_pos cs b c also in
    omega (arith, is, some)
count_two (x ∷ cs) (suc a) zero c less at also = absurd (omega (arith, less))
count_two (x ∷ cs) (suc a) (suc b) c less at also =
    let more : 2 ≤ count_to c cs = count_two cs a b c (omega (arith, less)) at also in
    let so : count_to c cs ≤ (if c == x then count_to c cs + 1 else count_to c cs) = at_least (count_to c cs) (c == x) in
    omega (arith, more, so)

abbrev pub Somewhere : List ℕ → ℕ → Type 0
Somewhere cs c = (a : ℕ) × (slice_get cs a ≡ Some c)

abbrev pub Twice : List ℕ → ℕ → Type 0
Twice cs c = (a : ℕ) × (b : ℕ) × (a < b) × (slice_get cs a ≡ Some c) × (slice_get cs b ≡ Some c)

pub count_some : (cs : List ℕ) (c : ℕ) → 1 ≤ count_to c cs → Somewhere cs c
count_some [] c some = absurd (omega (arith, some))
count_some (x ∷ cs) c some = elim (eqb_tells c x) [
  | inl same ↦ (0, ap (λ (n : ℕ). Some n) (sym same.1))
  | inr other ↦ (let is : count_to c (x ∷ cs) ≡ count_to c cs = ap (λ b. if b then count_to c cs + 1 else count_to c cs) other.0 in
      let r : Somewhere cs c = count_some cs c (omega (arith, is, some)) in (suc r.0, r.1))
]

pub count_pair : (cs : List ℕ) (c : ℕ) → 2 ≤ count_to c cs → Twice cs c
count_pair [] c two = absurd (omega (arith, two))
count_pair (x ∷ cs) c two = elim (eqb_tells c x) [
  | inl same ↦ (let is : count_to c (x ∷ cs) ≡ count_to c cs + 1 = ap (λ b. if b then count_to c cs + 1 else count_to c cs) same.0 in
      let r : Somewhere cs c = count_some cs c (omega (arith, is, two)) in
      (0, suc r.0, omega arith, ap (λ (n : ℕ). Some n) (sym same.1), r.1))
  | inr other ↦ (let is : count_to c (x ∷ cs) ≡ count_to c cs = ap (λ b. if b then count_to c cs + 1 else count_to c cs) other.0 in
      let r : Twice cs c = count_pair cs c (omega (arith, is, two)) in
      (suc r.0, suc r.1, (let less : r.0 < r.1 = r.2 in omega (arith, less)), r.3, r.4))
]

-- ---- edges of all blocks

pred_pos : (lists : List (List ℕ)) (i a c : ℕ) → EdgeAt lists i a c → 1 ≤ predecessors lists c
pred_pos [] i a c at = cc
pred_pos (cs ∷ lists) zero a c at = let some : 1 ≤ count_to c cs = count_pos cs a c at in omega (arith, some)
pred_pos (cs ∷ lists) (suc i) a c at = let some : 1 ≤ predecessors lists c = pred_pos lists i a c at in omega (arith, some)

pred_two : (lists : List (List ℕ)) (i a j b c : ℕ) → EdgeAt lists i a c → EdgeAt lists j b c → (i ≡ j → a ≡ b → ⊥) → 2 ≤ predecessors lists c
pred_two [] i a j b c at also other = cc
pred_two (cs ∷ lists) zero a zero b c at also other = elim (cases_lt a b) [
  | inl less ↦ (let two : 2 ≤ count_to c cs = count_two cs a b c less at also in omega (arith, two))
  | inr more ↦ (let apart : a ≡ b → ⊥ = other refl in elim (cases_lt b a) [
    | inl less ↦ (let two : 2 ≤ count_to c cs = count_two cs b a c less also at in omega (arith, two))
    | inr same ↦ absurd (apart (omega (arith, more, same)))
  ])
]
pred_two (cs ∷ lists) zero a (suc j) b c at also other =
    let here : 1 ≤ count_to c cs = count_pos cs a c at in
    let there : 1 ≤ predecessors lists c = pred_pos lists j b c also in
    omega (arith, here, there)
pred_two (cs ∷ lists) (suc i) a zero b c at also other =
    let here : 1 ≤ count_to c cs = count_pos cs b c also in
    let there : 1 ≤ predecessors lists c = pred_pos lists i a c at in
    omega (arith, here, there)
pred_two (cs ∷ lists) (suc i) a (suc j) b c at also other =
    let two : 2 ≤ predecessors lists c = pred_two lists i a j b c at also (λ same. other (ap suc same)) in
    omega (arith, two)

record Edge (lists : List (List ℕ)) (c : ℕ) : Type 0 where
  block : ℕ
  place : ℕ
  at : EdgeAt lists block place c

record Pair (lists : List (List ℕ)) (c : ℕ) : Type 0 where
  one : Edge lists c
  two : Edge lists c
  other : one.block ≡ two.block → one.place ≡ two.place → ⊥

pred_some : (lists : List (List ℕ)) (c : ℕ) → 1 ≤ predecessors lists c → Edge lists c
pred_some [] c some = absurd (omega (arith, some))
pred_some (cs ∷ lists) c some = elim (cases_lt 0 (count_to c cs)) [
  | inl here ↦ (let r : Somewhere cs c = count_some cs c here in record { block = 0; place = r.0; at = r.1 })
  | inr none ↦ (let r : Edge lists c = pred_some lists c (omega (arith, none, some)) in record { block = suc r.block; place = r.place; at = r.at })
]

pred_pair : (lists : List (List ℕ)) (c : ℕ) → 2 ≤ predecessors lists c → Pair lists c
pred_pair [] c two = absurd (omega (arith, two))
pred_pair (cs ∷ lists) c two = elim (cases_lt 1 (count_to c cs)) [
  | inl here ↦ (let r : Twice cs c = count_pair cs c here in
      record {
        one = record { block = 0; place = r.0; at = r.3 };
        two = record { block = 0; place = r.1; at = r.4 };
        other = λ same also. (let less : r.0 < r.1 = r.2 in absurd (omega (arith, less, also)));
      })
  | inr few ↦ elim (cases_lt 0 (count_to c cs)) [
    | inl here ↦ (let r : Somewhere cs c = count_some cs c here in
        let s : Edge lists c = pred_some lists c (omega (arith, few, two)) in
        record {
          one = record { block = 0; place = r.0; at = r.1 };
          two = record { block = suc s.block; place = s.place; at = s.at };
          other = λ same also. absurd (omega (arith, same));
        })
    | inr none ↦ (let r : Pair lists c = pred_pair lists c (omega (arith, none, two)) in
        record {
          one = record { block = suc r.one.block; place = r.one.place; at = r.one.at };
          two = record { block = suc r.two.block; place = r.two.place; at = r.two.at };
          other = λ same also. r.other (omega (arith, same)) also;
        })
  ]
]

pub one_where : (lists : List (List ℕ)) (c : ℕ) → predecessors lists c < 2 → OneEdge lists c
one_where lists c few i a j b at also = elim (cases i j) [
  | inl same ↦ elim (cases a b) [
    | inl place ↦ (same, place)
    | inr apart ↦ (let two : 2 ≤ predecessors lists c = pred_two lists i a j b c at also (λ s t. apart t) in absurd (omega (arith, few, two)))
  ]
  | inr apart ↦ (let two : 2 ≤ predecessors lists c = pred_two lists i a j b c at also (λ s t. apart s) in absurd (omega (arith, few, two)))
]
  where
    cases : (m n : ℕ) → (m ≡ n) ⊎ (m ≡ n → ⊥)
    cases m n = elim (eqb_tells m n) [ inl s ↦ inl s.1 | inr o ↦ inr o.1 ]

pub few_where : (lists : List (List ℕ)) (c : ℕ) → OneEdge lists c → nat_lt (predecessors lists c) 2 ≡ true
few_where lists c one = elim (cases_lt (predecessors lists c) 2) [
  | inl few ↦ lt-ltb (predecessors lists c) 2 few
  | inr two ↦ (let p : Pair lists c = pred_pair lists c two in
      let same : (p.one.block ≡ p.two.block) × (p.one.place ≡ p.two.place) = one p.one.block p.one.place p.two.block p.two.place p.one.at p.two.at in
      absurd (p.other same.0 same.1))
]

-- ---- no critical edge

-- a block with two edges leads to none that has another edge
pub one_of_two : (lists : List (List ℕ)) (cs : List ℕ) (a c : ℕ) → is_uncritical lists cs ≡ true → 2 ≤ length cs → slice_get cs a ≡ Some c → OneEdge lists c
one_of_two lists cs a c is two at = elim (cases_lt (length cs) 2) [
  | inl less ↦ absurd (omega (arith, less, two))
  | inr more ↦ by (nat_lt (length cs) 2) refl
]
  where
    by : (b : Bool) → nat_lt (length cs) 2 ≡ b → OneEdge lists c
    by true less = (let l : length cs < 2 = ltb-true (length cs) 2 less in absurd (omega (arith, l, two)))
    by false less =
        let all : every (has_one_before lists) cs ≡ true = ap (λ b. b || every (has_one_before lists) cs) (sym less) ∙ is in
        let one : has_one_before lists c ≡ true = every_at (has_one_before lists) cs a c all at in
        one_where lists c (ltb-true (predecessors lists c) 2 (and_right (nat_lt c (length lists)) (nat_lt (predecessors lists c) 2) one))

pub uncritical_where : (lists : List (List ℕ)) (cs : List ℕ) → (2 ≤ length cs → every (has_one_before lists) cs ≡ true) → is_uncritical lists cs ≡ true
uncritical_where lists cs where_two = elim (cases_lt (length cs) 2) [
  | inl less ↦ ap (λ b. b || every (has_one_before lists) cs) (lt-ltb (length cs) 2 less)
  | inr two ↦ or_second (nat_lt (length cs) 2) (every (has_one_before lists) cs) (where_two two)
]
  where
    or_second : (a b : Bool) → b ≡ true → (a || b) ≡ true
    or_second true b is = refl
    or_second false b is = is
