-- The blocks before a block, and how many edges there are.
use Rattle.std.proofs.Common.{◌≡◌, ◌⊎◌, inl, inr, ℕ, zero, suc, ◌+◌, ◌*◌, ◌<◌, ◌≤◌, ◌==◌, if◌then◌else◌, Bool, true, false, List, [], ◌∷◌, ◌++◌, length, replicate, refl, sym, ap, ◌∙◌, arith, subst, length-append}
use Rattle.std.specs.Prelude.{slice_set, nat_lt}
use Rattle.std.proofs.lemmas.Bool.Decides.{eqb_tells, nat_tests}
use Rattle.std.proofs.lemmas.List.{length-replicate}
use Rattle.std.proofs.Math.ListN.{length-set}
use Rattle.std.proofs.Math.Nat.{mul-le-mul_right, add-mul}
use Rattle.low_flow.specs.Lists.{has, list_at}
use Rattle.low_forms.specs.declared.code.LowFunc.{LowFunc}
use Rattle.low_forms.specs.Edges.{edges}
use Rattle.liveness.specs.Flow.{with_edge, with_edges, with_all, before, countdown}
use Rattle.liveness.specs.State.{AreBefore, absent, weight, to_do}
use Rattle.liveness.specs.Visits.{total, most_of}
use Rattle.liveness.proofs.ListLemmas.{or_splits, or_left, or_right, has_append, has_here}
use Rattle.liveness.proofs.LiveLemmas.{length_edges}
use Rattle.liveness.proofs.StateLemmas.{countdown_long}

list_here : (lists : List (List ℕ)) (k : ℕ) (xs : List ℕ) → k < length lists → list_at (slice_set lists k xs) k ≡ xs
list_here [] k xs inside = absurd (omega arith)
list_here (ys ∷ lists) zero xs inside = refl
list_here (ys ∷ lists) (suc k) xs inside = list_here lists k xs (omega arith)

list_other : (lists : List (List ℕ)) (k j : ℕ) (xs : List ℕ) → (k ≡ j → ⊥) → list_at (slice_set lists k xs) j ≡ list_at lists j
list_other [] k j xs other = refl
list_other (ys ∷ lists) zero zero xs other = absurd (other refl)
list_other (ys ∷ lists) zero (suc j) xs other = refl
list_other (ys ∷ lists) (suc k) zero xs other = refl
list_other (ys ∷ lists) (suc k) (suc j) xs other = list_other lists k j xs (λ same. other (ap suc same))

-- one edge more
record Adds (from to : ℕ) (lists news : List (List ℕ)) : Type 0 where
  long : length news ≡ length lists
  keeps : (c p : ℕ) → has p (list_at lists c) ≡ true → has p (list_at news c) ≡ true
  adds : to < length lists → has from (list_at news to) ≡ true
  only : (c p : ℕ) → has p (list_at news c) ≡ true → (has p (list_at lists c) ≡ true) ⊎ (p ≡ from)

adds_one : (from to : ℕ) (lists : List (List ℕ)) → Adds from to lists (with_edge from to lists)
adds_one from to lists = step (nat_lt to (length lists)) refl
  where
    in_one : (p : ℕ) → has p (from ∷ []) ≡ true → p ≡ from
    in_one p is = elim (or_splits (p == from) false is) [ inl same ↦ grind (arith, nat_tests) | inr none ↦ cc ]

    step : (b : Bool) → nat_lt to (length lists) ≡ b → Adds from to lists (if b then slice_set lists to (list_at lists to ++ from ∷ []) else lists)
    step false is = record { long = refl; keeps = λ c p there. there; adds = λ below. (let e : nat_lt to (length lists) ≡ true = grind (arith, nat_tests) in cc); only = λ c p there. inl there }
    step true is =
        let below : to < length lists = grind (arith, nat_tests) in
        let here : list_at (slice_set lists to (list_at lists to ++ from ∷ [])) to ≡ list_at lists to ++ from ∷ [] = list_here lists to (list_at lists to ++ from ∷ []) below in
        record {
          long = length-set lists to (list_at lists to ++ from ∷ []);
          keeps = λ c p there. elim (eqb_tells to c) [
            | inl same ↦ subst (λ x. has p (list_at (slice_set lists to (list_at lists to ++ from ∷ [])) x) ≡ true) same.1
                (ap (λ (xs : List ℕ). has p xs) here ∙ has_append p (list_at lists to) (from ∷ [])
                ∙ or_left (has p (list_at lists to)) (has p (from ∷ [])) (subst (λ x. has p (list_at lists x) ≡ true) (sym same.1) there))
            | inr other ↦ ap (λ (xs : List ℕ). has p xs) (list_other lists to c (list_at lists to ++ from ∷ []) other.1) ∙ there
          ];
          adds = λ inside. ap (λ (xs : List ℕ). has from xs) here ∙ has_append from (list_at lists to) (from ∷ []) ∙ or_right (has from (list_at lists to)) (has from (from ∷ [])) (has_here from []);
          only = λ c p there. elim (eqb_tells to c) [
            | inl same ↦ elim (or_splits (has p (list_at lists to)) (has p (from ∷ []))
                (sym (ap (λ (xs : List ℕ). has p xs) here ∙ has_append p (list_at lists to) (from ∷ []))
                ∙ subst (λ x. has p (list_at (slice_set lists to (list_at lists to ++ from ∷ [])) x) ≡ true) (sym same.1) there)) [
                  | inl old ↦ inl (subst (λ x. has p (list_at lists x) ≡ true) same.1 old)
                  | inr new ↦ inr (in_one p new)
                ]
            | inr other ↦ inl (sym (ap (λ (xs : List ℕ). has p xs) (list_other lists to c (list_at lists to ++ from ∷ []) other.1)) ∙ there)
          ];
        }

edges_long : (from : ℕ) (targets : List ℕ) (lists : List (List ℕ)) → length (with_edges from targets lists) ≡ length lists
edges_long from [] lists = refl
edges_long from (to ∷ targets) lists = edges_long from targets (with_edge from to lists) ∙ (adds_one from to lists).long

edges_keep : (from : ℕ) (targets : List ℕ) (lists : List (List ℕ)) (c p : ℕ) → has p (list_at lists c) ≡ true → has p (list_at (with_edges from targets lists) c) ≡ true
edges_keep from [] lists c p there = there
edges_keep from (to ∷ targets) lists c p there = edges_keep from targets (with_edge from to lists) c p ((adds_one from to lists).keeps c p there)

edges_add : (from : ℕ) (targets : List ℕ) (lists : List (List ℕ)) (c : ℕ) → c < length lists → has c targets ≡ true → has from (list_at (with_edges from targets lists) c) ≡ true
edges_add from [] lists c below there = cc
edges_add from (to ∷ targets) lists c below there = elim (or_splits (c == to) (has c targets) there) [
  | inr later ↦ edges_add from targets (with_edge from to lists) c (omega (arith, below, (adds_one from to lists).long)) later
  | inl now ↦
      let same : c ≡ to = grind (arith, nat_tests) in
      edges_keep from targets (with_edge from to lists) c from
      (subst (λ x. has from (list_at (with_edge from to lists) x) ≡ true) (sym same) ((adds_one from to lists).adds (subst (λ x. x < length lists) same below)))
]

edges_only : (from : ℕ) (targets : List ℕ) (lists : List (List ℕ)) (c p : ℕ) → has p (list_at (with_edges from targets lists) c) ≡ true → (has p (list_at lists c) ≡ true) ⊎ (p ≡ from)
edges_only from [] lists c p there = inl there
edges_only from (to ∷ targets) lists c p there = elim (edges_only from targets (with_edge from to lists) c p there) [
  | inr new ↦ inr new
  | inl old ↦ (adds_one from to lists).only c p old
]

all_long : (from : ℕ) (es lists : List (List ℕ)) → length (with_all from es lists) ≡ length lists
all_long from [] lists = refl
all_long from (targets ∷ es) lists = all_long (from + 1) es (with_edges from targets lists) ∙ edges_long from targets lists

all_keep : (from : ℕ) (es lists : List (List ℕ)) (c p : ℕ) → has p (list_at lists c) ≡ true → has p (list_at (with_all from es lists) c) ≡ true
all_keep from [] lists c p there = there
all_keep from (targets ∷ es) lists c p there = all_keep (from + 1) es (with_edges from targets lists) c p (edges_keep from targets lists c p there)

all_add : (from : ℕ) (es lists : List (List ℕ)) (c k p : ℕ) → c < length lists → has c (list_at es k) ≡ true → p ≡ from + k → has p (list_at (with_all from es lists) c) ≡ true
all_add from [] lists c k p below there at = cc
all_add from (targets ∷ es) lists c zero p below there at =
    let same : from ≡ p = omega (arith, at) in
    subst (λ x. has x (list_at (with_all from (targets ∷ es) lists) c) ≡ true) same (all_keep (from + 1) es (with_edges from targets lists) c from (edges_add from targets lists c below there))
all_add from (targets ∷ es) lists c (suc k) p below there at = all_add (from + 1) es (with_edges from targets lists) c k p (omega (arith, below, edges_long from targets lists)) there (omega (arith, at))

all_only : (from : ℕ) (es lists : List (List ℕ)) (c p : ℕ) → has p (list_at (with_all from es lists) c) ≡ true → (has p (list_at lists c) ≡ true) ⊎ (p < from + length es)
all_only from [] lists c p there = inl there
all_only from (targets ∷ es) lists c p there = elim (all_only (from + 1) es (with_edges from targets lists) c p there) [
  | inr below ↦ inr (omega (arith, below))
  | inl old ↦ elim (edges_only from targets lists c p old) [ inl before ↦ inl before | inr same ↦ inr (omega (arith, same)) ]
]

empty_lists : (n c : ℕ) → list_at (replicate n []) c ≡ []
empty_lists zero c = refl
empty_lists (suc n) zero = refl
empty_lists (suc n) (suc c) = empty_lists n c

pub are_before : (f : LowFunc) → AreBefore f (before (edges f))
are_before f = record {
  all = λ c p below there. all_add 0 (edges f) (replicate (length (edges f)) []) c p p (omega (arith, below, length-replicate {A = List ℕ} (length (edges f)) [], length_edges true f.blocks)) there (omega arith);
  within = λ c p there. elim (all_only 0 (edges f) (replicate (length (edges f)) []) c p there) [
    | inl old ↦ (let none : has p (list_at (replicate (length (edges f)) []) c) ≡ false = ap (λ (xs : List ℕ). has p xs) (empty_lists (length (edges f)) c) in cc)
    | inr below ↦ omega (arith, below, length_edges true f.blocks)
  ];
}

-- ---- how many

total_one : (from to : ℕ) (lists : List (List ℕ)) → total (with_edge from to lists) ≤ total lists + 1
total_one from to lists = step (nat_lt to (length lists))
  where
    set : (ls : List (List ℕ)) (k : ℕ) → total (slice_set ls k (list_at ls k ++ from ∷ [])) ≤ total ls + 1
    set [] k = omega arith
    set (xs ∷ ls) zero = omega (arith, length-append xs (from ∷ []))
    set (xs ∷ ls) (suc k) = omega (arith, set ls k)

    step : (b : Bool) → total (if b then slice_set lists to (list_at lists to ++ from ∷ []) else lists) ≤ total lists + 1
    step true = set lists to
    step false = omega arith

total_edges : (from : ℕ) (targets : List ℕ) (lists : List (List ℕ)) → total (with_edges from targets lists) ≤ total lists + length targets
total_edges from [] lists = omega arith
total_edges from (to ∷ targets) lists = omega (arith, total_edges from targets (with_edge from to lists), total_one from to lists)

total_all : (from : ℕ) (es lists : List (List ℕ)) → total (with_all from es lists) ≤ total lists + total es
total_all from [] lists = omega arith
total_all from (targets ∷ es) lists = omega (arith, total_all (from + 1) es (with_edges from targets lists), total_edges from targets lists)

total_none : (n : ℕ) → total (replicate n []) ≡ 0
total_none zero = refl
total_none (suc n) = omega (arith, total_none n)

absent_none : (registers : ℕ) → absent (replicate registers false) ≡ registers
absent_none zero = refl
absent_none (suc registers) = omega (arith, absent_none registers)

-- with empty sets
weight_most : (lists : List (List ℕ)) (n registers : ℕ) → weight lists (replicate n (replicate registers false)) ≤ total lists * registers
weight_most [] n registers = omega arith
weight_most (bs ∷ lists) zero registers = omega arith
weight_most (bs ∷ lists) (suc n) registers =
    let one : length bs * absent (replicate registers false) ≡ length bs * registers = ap (λ a. length bs * a) (absent_none registers) in
    omega (arith, one, weight_most lists n registers, add-mul (length bs) (total lists) registers)

pub weight_begins : (f : LowFunc) → weight (before (edges f)) (replicate (length f.blocks) (replicate (length f.regs) false)) ≤ total (edges f) * length f.regs
weight_begins f =
    let few : total (before (edges f)) ≤ total (edges f) = omega (arith, total_all 0 (edges f) (replicate (length (edges f)) []), total_none (length (edges f))) in
    let most : total (before (edges f)) * length f.regs ≤ total (edges f) * length f.regs = times_less (total (before (edges f))) (total (edges f)) (length f.regs) few in
    omega (arith, weight_most (before (edges f)) (length f.blocks) (length f.regs), most)
  where
    times_less : (a b r : ℕ) → a ≤ b → a * r ≤ b * r
    times_less a b r less = mul-le-mul_right r less

pub are_before_by : (f : LowFunc) (read items targets : List (List ℕ)) → read ≡ items → items ≡ before targets → targets ≡ edges f → AreBefore f read
are_before_by f read items targets read_is is targets_is = subst (λ (bs : List (List ℕ)). AreBefore f bs) (sym (read_is ∙ is ∙ ap before targets_is)) (are_before f)

pub most_to_do : (f : LowFunc) (read items targets : List (List ℕ)) (sets : List (List Bool)) (waiting : List ℕ) → read ≡ items → items ≡ before targets → targets ≡ edges f
    → sets ≡ replicate (length f.blocks) (replicate (length f.regs) false) → waiting ≡ countdown (length f.blocks) → to_do read sets waiting ≤ most_of f
most_to_do f read items targets sets waiting read_is is targets_is sets_are waiting_is =
    let w : weight read sets ≡ weight (before (edges f)) (replicate (length f.blocks) (replicate (length f.regs) false)) =
    ap (λ (bs : List (List ℕ)). weight bs sets) (read_is ∙ is ∙ ap before targets_is) ∙ ap (λ (ss : List (List Bool)). weight (before (edges f)) ss) sets_are in
    let n : length waiting ≡ length f.blocks = ap (λ (ws : List ℕ). length ws) waiting_is ∙ countdown_long (length f.blocks) in
    omega (arith, w, n, weight_begins f)

pub visits_within : (steps now to most : ℕ) → now ≤ steps + to → to ≤ most → now ≤ steps + most
visits_within steps now to most is less = omega arith
