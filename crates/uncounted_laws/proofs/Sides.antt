-- The blocks before a block, and those beside it.
use Rattle.std.proofs.Common.{◌≡◌, ◌⊎◌, inl, inr, ℕ, zero, suc, ◌+◌, ◌<◌, ◌==◌, ◌||◌, not, if◌then◌else◌, Bool, true, false, List, [], ◌∷◌, ◌++◌, length, replicate, refl, sym, ap, ◌∙◌, arith, subst, length-append}
use Rattle.std.specs.Prelude.{slice_set, nat_lt}
use Rattle.std.proofs.lemmas.Bool.Decides.{eqb_tells, nat_tests}
use Rattle.std.proofs.lemmas.List.{length-replicate}
use Rattle.std.proofs.Math.ListN.{length-set}
use Rattle.low_flow.specs.Lists.{has, list_at}
use Rattle.low_forms.specs.declared.code.LowFunc.{LowFunc}
use Rattle.low_forms.specs.Registers.{every}
use Rattle.low_forms.specs.Edges.{edges, count_to, predecessors, has_one_before, is_uncritical, none_is_start}
use Rattle.liveness.specs.Flow.{with_edge, with_edges, with_all, before}
use Rattle.liveness.proofs.ListLemmas.{and_both, or_splits, not_true}
use Rattle.liveness.proofs.LiveLemmas.{length_edges}
use Rattle.liveness.proofs.BeforeLemmas.{are_before}
use Rattle.ref_counting.specs.Shape.{beside_of, beside}

-- ---- how many blocks stand before one

list_here : (lists : List (List ℕ)) (k : ℕ) (xs : List ℕ) → k < length lists → list_at (slice_set lists k xs) k ≡ xs
list_here [] k xs inside = absurd (omega arith)
list_here (ys ∷ lists) zero xs inside = refl
list_here (ys ∷ lists) (suc k) xs inside = list_here lists k xs (omega arith)

list_other : (lists : List (List ℕ)) (k j : ℕ) (xs : List ℕ) → (k ≡ j → ⊥) → list_at (slice_set lists k xs) j ≡ list_at lists j
list_other [] k j xs other = refl
list_other (ys ∷ lists) zero zero xs other = absurd (other refl)
list_other (ys ∷ lists) zero (suc j) xs other = refl
list_other (ys ∷ lists) (suc k) zero xs other = refl
list_other (ys ∷ lists) (suc k) (suc j) xs other = list_other lists k j xs (λ same. other (ap suc same))

edge_long : (from to : ℕ) (lists : List (List ℕ)) → length (with_edge from to lists) ≡ length lists
edge_long from to lists = step (nat_lt to (length lists))
  where
    step : (b : Bool) → length (if b then slice_set lists to (list_at lists to ++ from ∷ []) else lists) ≡ length lists
    step true = length-set lists to (list_at lists to ++ from ∷ [])
    step false = refl

edges_long : (from : ℕ) (targets : List ℕ) (lists : List (List ℕ)) → length (with_edges from targets lists) ≡ length lists
edges_long from [] lists = refl
edges_long from (to ∷ targets) lists = edges_long from targets (with_edge from to lists) ∙ edge_long from to lists

-- one more before the block, or none
edge_counts : (from to c : ℕ) (lists : List (List ℕ)) → c < length lists → length (list_at (with_edge from to lists) c) ≡ (if c == to then length (list_at lists c) + 1 else length (list_at lists c))
edge_counts from to c lists below = elim (eqb_tells c to) [
  | inl same ↦
      let inside : nat_lt c (length lists) ≡ true = grind (arith, nat_tests, below) in
      ap (λ n. length (list_at (with_edge from n lists) c)) (sym same.1)
      ∙ ap (λ b. length (list_at (if b then slice_set lists c (list_at lists c ++ from ∷ []) else lists) c)) inside
      ∙ ap (λ (xs : List ℕ). length xs) (list_here lists c (list_at lists c ++ from ∷ []) below)
      ∙ length-append (list_at lists c) (from ∷ [])
      ∙ sym (ap (λ b. if b then length (list_at lists c) + 1 else length (list_at lists c)) same.0)
  | inr other ↦ kept (nat_lt to (length lists)) (λ same. other.1 (sym same)) ∙ sym (ap (λ b. if b then length (list_at lists c) + 1 else length (list_at lists c)) other.0)
]
  where
    kept : (b : Bool) → (to ≡ c → ⊥) → length (list_at (if b then slice_set lists to (list_at lists to ++ from ∷ []) else lists) c) ≡ length (list_at lists c)
    kept true apart = ap (λ (xs : List ℕ). length xs) (list_other lists to c (list_at lists to ++ from ∷ []) apart)
    kept false apart = refl

edges_count : (from c : ℕ) (targets : List ℕ) (lists : List (List ℕ)) → c < length lists → length (list_at (with_edges from targets lists) c) ≡ count_to c targets + length (list_at lists c)
edges_count from c [] lists below = omega arith
edges_count from c (to ∷ targets) lists below =
    edges_count from c targets (with_edge from to lists) (omega (arith, below, edge_long from to lists))
    ∙ ap (λ n. count_to c targets + n) (edge_counts from to c lists below) ∙ step (c == to)
  where
    step : (b : Bool) → count_to c targets + (if b then length (list_at lists c) + 1 else length (list_at lists c)) ≡ (if b then count_to c targets + 1 else count_to c targets) + length (list_at lists c)
    step true = omega arith
    step false = refl

all_count : (from c : ℕ) (es lists : List (List ℕ)) → c < length lists → length (list_at (with_all from es lists) c) ≡ predecessors es c + length (list_at lists c)
all_count from c [] lists below = omega arith
all_count from c (targets ∷ es) lists below =
    let later : length (list_at (with_all (from + 1) es (with_edges from targets lists)) c) ≡ predecessors es c + length (list_at (with_edges from targets lists) c) =
    all_count (from + 1) c es (with_edges from targets lists) (omega (arith, below, edges_long from targets lists)) in
    let now : length (list_at (with_edges from targets lists) c) ≡ count_to c targets + length (list_at lists c) = edges_count from c targets lists below in
    omega (arith, later, now)

none_at : (n c : ℕ) → length (list_at (replicate n []) c) ≡ 0
none_at zero c = refl
none_at (suc n) zero = refl
none_at (suc n) (suc c) = none_at n c

before_count : (es : List (List ℕ)) (c : ℕ) → c < length es → length (list_at (before es) c) ≡ predecessors es c
before_count es c below =
    let e : length (list_at (with_all 0 es (replicate (length es) [])) c) ≡ predecessors es c + length (list_at (replicate (length es) []) c) =
    all_count 0 c es (replicate (length es) []) (omega (arith, below, length-replicate {A = List ℕ} (length es) [])) in
    omega (arith, e, none_at (length es) c)

-- ---- a lone one

pub in_lone : (x y : ℕ) → has x (y ∷ []) ≡ true → x ≡ y
in_lone x y there = elim (or_splits (x == y) false there) [
  | inl same ↦ grind (arith, nat_tests, same)
  | inr never ↦ cc
]

lone_of : (xs : List ℕ) (x : ℕ) → length xs < 2 → has x xs ≡ true → xs ≡ x ∷ []
lone_of [] x few there = cc
lone_of (y ∷ []) x few there = ap (λ n. n ∷ []) (sym (in_lone x y there))
lone_of (y ∷ z ∷ xs) x few there = absurd (omega (arith, few))

every_has : (p : ℕ → Bool) (xs : List ℕ) (x : ℕ) → every p xs ≡ true → has x xs ≡ true → p x ≡ true
every_has p [] x all there = cc
every_has p (y ∷ xs) x all there = elim (or_splits (x == y) (has x xs) there) [
  | inl now ↦ (let same : y ≡ x = grind (arith, nat_tests, now) in subst (λ n. p n ≡ true) same (and_both (p y) (every p xs) all).0)
  | inr later ↦ every_has p xs x (and_both (p y) (every p xs) all).1 later
]

every_list : (p : List ℕ → Bool) (lists : List (List ℕ)) (c : ℕ) → every p lists ≡ true → p [] ≡ true → p (list_at lists c) ≡ true
every_list p [] c all empty = empty
every_list p (xs ∷ lists) zero all empty = (and_both (p xs) (every p lists) all).0
every_list p (xs ∷ lists) (suc c) all empty = every_list p lists c (and_both (p xs) (every p lists) all).1 empty

-- ---- no edge leads to the first block

zero_not : (xs : List ℕ) → none_is_start xs ≡ true → (has 0 xs ≡ false) × (count_to 0 xs ≡ 0)
zero_not [] none = (refl, refl)
zero_not (x ∷ xs) none =
    let both = and_both (not (x == 0)) (none_is_start xs) none in
    let apart : (x == 0) ≡ false = not_true (x == 0) both.0 in
    let other : (0 == x) ≡ false = grind (arith, nat_tests, apart) in
    let later = zero_not xs both.1 in
    (ap (λ b. b || has 0 xs) other ∙ later.0, ap (λ b. if b then count_to 0 xs + 1 else count_to 0 xs) other ∙ later.1)

none_before : (lists : List (List ℕ)) → every none_is_start lists ≡ true → predecessors lists 0 ≡ 0
none_before [] all = refl
none_before (xs ∷ lists) all =
    let both = and_both (none_is_start xs) (every none_is_start lists) all in
    let now : count_to 0 xs ≡ 0 = (zero_not xs both.0).1 in
    let later : predecessors lists 0 ≡ 0 = none_before lists both.1 in
    omega (arith, now, later)

empty_of : (xs : List ℕ) → length xs ≡ 0 → xs ≡ []
empty_of [] none = refl
empty_of (x ∷ xs) none = cc

module _ (f : LowFunc) where
  within_edges : (d : ℕ) → d < length f.blocks → d < length (edges f)
  within_edges d below = omega (arith, below, length_edges true f.blocks)

  pub not_to_start : every none_is_start (edges f) ≡ true → (c : ℕ) → has 0 (list_at (edges f) c) ≡ false
  not_to_start all c = (zero_not (list_at (edges f) c) (every_list none_is_start (edges f) c all refl)).0

  pub beside_start : every none_is_start (edges f) ≡ true → 0 < length f.blocks → beside f 0 ≡ []
  beside_start all below =
      ap (λ xs. beside_of (edges f) xs) (empty_of (list_at (before (edges f)) 0) (before_count (edges f) 0 (within_edges 0 below) ∙ none_before (edges f) all))

  -- the block before one that is beside another
  pub before_is : (p c : ℕ) → c < length f.blocks → has c (list_at (edges f) p) ≡ true → has p (list_at (before (edges f)) c) ≡ true
  before_is p c below there = (are_before f).all c p below there

  pub sides : every (is_uncritical (edges f)) (edges f) ≡ true → (c d : ℕ) → d < length f.blocks → has d (list_at (edges f) c) ≡ true
      → (beside f d ≡ list_at (edges f) c) ⊎ ((beside f d ≡ []) × (list_at (edges f) c ≡ d ∷ []))
  sides all c d below there = step (list_at (before (edges f)) d) refl
    where
      count : length (list_at (before (edges f)) d) ≡ predecessors (edges f) d
      count = before_count (edges f) d (within_edges d below)

      few : predecessors (edges f) d < 2 ⊎ (list_at (edges f) c ≡ d ∷ [])
      few = elim (or_splits (nat_lt (length (list_at (edges f) c)) 2) (every (has_one_before (edges f)) (list_at (edges f) c)) (every_list (is_uncritical (edges f)) (edges f) c all refl)) [
        | inl one ↦ inr (lone_of (list_at (edges f) c) d (grind (arith, nat_tests, one)) there)
        | inr each ↦
            let is : nat_lt (predecessors (edges f) d) 2 ≡ true = (and_both (nat_lt d (length (edges f))) (nat_lt (predecessors (edges f) d) 2) (every_has (has_one_before (edges f)) (list_at (edges f) c) d each there)).1 in
            inl (grind (arith, nat_tests, is))
      ]

      step : (xs : List ℕ) → list_at (before (edges f)) d ≡ xs → (beside f d ≡ list_at (edges f) c) ⊎ ((beside f d ≡ []) × (list_at (edges f) c ≡ d ∷ []))
      step [] is = (let h : has c (list_at (before (edges f)) d) ≡ true = before_is c d below there in let e : has c (list_at (before (edges f)) d) ≡ false = ap (λ (xs : List ℕ). has c xs) is in cc)
      step (p ∷ []) is =
          let same : c ≡ p = in_lone c p (sym (ap (λ (xs : List ℕ). has c xs) is) ∙ before_is c d below there) in
          inl (ap (λ xs. beside_of (edges f) xs) is ∙ ap (λ n. list_at (edges f) n) (sym same))
      step (p ∷ q ∷ xs) is = elim few [
        | inl one ↦
            let long : length (list_at (before (edges f)) d) ≡ suc (suc (length xs)) = ap (λ (ys : List ℕ). length ys) is in
            absurd (omega (arith, one, count, long))
        | inr lone ↦ inr (ap (λ xs. beside_of (edges f) xs) is, lone)
      ]

-- where one alone stands before a block, the blocks beside it are those to which its edges lead; else there are none
pub beside_cases : (f : LowFunc) (c : ℕ) → (beside f c ≡ []) ⊎ ((p : ℕ) × ((list_at (before (edges f)) c ≡ p ∷ []) × (beside f c ≡ list_at (edges f) p)))
beside_cases f c = step (list_at (before (edges f)) c) refl
  where
    step : (xs : List ℕ) → list_at (before (edges f)) c ≡ xs → (beside f c ≡ []) ⊎ ((p : ℕ) × ((list_at (before (edges f)) c ≡ p ∷ []) × (beside f c ≡ list_at (edges f) p)))
    step [] is = inl (ap (λ xs. beside_of (edges f) xs) is)
    step (p ∷ []) is = inr (p, (is, ap (λ xs. beside_of (edges f) xs) is))
    step (p ∷ q ∷ xs) is = inl (ap (λ xs. beside_of (edges f) xs) is)
