-- Printed names of values: each is found as the value that it was written for, and a new one is no name that is visible.
use Rattle.std.proofs.Common.{◌≡◌, ◌<◌, ◌≤◌, ℕ, zero, suc, ◌+◌, ◌-◌, ◌^◌, true, false, ◌==◌, List, [], ◌∷◌, ◌++◌, map, length, slice_index_or, Contains, decimal, refl, sym, ap, subst, ◌∙◌, arith, bytes_eq}
use Rattle.std.proofs.lemmas.Bool.Decides.{nat_tests}
use Rattle.std.proofs.lemmas.Slice.Eq.{bytes_eq-Decides}
use Rattle.std.proofs.lemmas.Fmt.{decimal_injective}
use Rattle.ir_forms.specs.declared.ops.ValueNo.{ValueNo}
use Rattle.ir_forms.specs.declared.types.Ty.{Ty}
use Rattle.module_grammar.specs.declared.state.Name.{Name}
use Rattle.module_grammar.specs.declared.state.Param.{Param}
use Rattle.module_grammar.specs.State.{resolved, is_named, value, number_up}
use Rattle.mlir_print.specs.Tokens.{value_name}
use Rattle.mlir_print.specs.Printable.{AreSeen}
use Rattle.round_trip.proofs.Core.{fresh_name}
use Rattle.module_grammar.proofs.Runs.{by_test}

-- ---- names

abbrev pub name_text : ValueNo → List ℕ
name_text v = 37 ∷ value_name v

abbrev pub named : ValueNo → Name
named v = fresh_name (name_text v) v.0

abbrev pub shown : ℕ → Name
shown n = named (value n)

abbrev pub param_of : ValueNo × Ty → Param
param_of p = record { name = named p.0; ty = p.1 }

value-decimal : (v : ValueNo) → v.0 < 2 ^ 32 - 1 → value_name v ≡ decimal v.0
unfolding value_name
value-decimal v h = let e : (v.0 == 4294967295) ≡ false = grind (arith, nat_tests) in rw e refl

text-value : (u v : ValueNo) → u.0 < 2 ^ 32 - 1 → v.0 < 2 ^ 32 - 1 → bytes_eq (name_text u) (name_text v) ≡ true → u.0 ≡ v.0
text-value u v h i e =
    let same : value_name u ≡ value_name v = let t : name_text u ≡ name_text v = (bytes_eq-Decides (name_text u) (name_text v)).0 e in cc in
    decimal_injective u.0 v.0 (omega arith) (omega arith) (sym (value-decimal u h) ∙ same ∙ value-decimal v i)

same-text : (u v : ValueNo) → u.0 ≡ v.0 → bytes_eq (name_text u) (name_text v) ≡ true
same-text u v e =
    let same : u ≡ v = ap value e in
    (bytes_eq-Decides (name_text u) (name_text v)).1 (ap name_text same)

-- ---- what is visible

abbrev pub AreSmall : List ℕ → Type 0
AreSmall [] = Unit {0}
AreSmall (n ∷ ns) = (n < 2 ^ 32 - 1) × AreSmall ns

small-at : (ns : List ℕ) (k n : ℕ) → AreSmall ns → k < length ns → slice_index_or ns k n ≡ n → n < 2 ^ 32 - 1
small-at [] k n small h e = absurd (omega arith)
small-at (x ∷ xs) zero n small h e = let a : x ≡ n = e in subst (λ y. y < 2 ^ 32 - 1) a small.0
small-at (x ∷ xs) (suc k) n small h e = small-at xs k n small.1 (omega arith) e

later : (x : ℕ) (xs : List ℕ) (v : ValueNo) (k : ℕ) → k < length (x ∷ xs) → slice_index_or (x ∷ xs) k v.0 ≡ v.0
    → bytes_eq (name_text (value x)) (name_text v) ≡ false
    → ((k : ℕ) → k < length xs → slice_index_or xs k v.0 ≡ v.0 → resolved (map shown xs) (name_text v) ≡ v)
    → resolved (map shown xs) (name_text v) ≡ v
later x xs v zero h e n more = let a : x ≡ v.0 = e in let b : true ≡ false = sym (same-text (value x) v a) ∙ n in absurd cc
later x xs v (suc k) h e n more = more k (omega arith) e

found-at : (ns : List ℕ) (v : ValueNo) → AreSmall ns → v.0 < 2 ^ 32 - 1 → (k : ℕ) → k < length ns → slice_index_or ns k v.0 ≡ v.0
    → resolved (map shown ns) (name_text v) ≡ v
found-at [] v small i k h e = absurd (omega arith)
found-at (x ∷ xs) v small i k h e =
    by_test (bytes_eq (name_text (value x)) (name_text v))
    (λ y. rw y (ap value (text-value (value x) v small.0 i y)))
    (λ n. rw n (later x xs v k h e n (found-at xs v small.1 i)))

pub found : (ns : List ℕ) (v : ValueNo) → AreSmall ns → Contains ns v.0 → resolved (map shown ns) (name_text v) ≡ v
found ns v small h = found-at ns v small (small-at ns h.0 v.0 small h.1 h.2) h.0 h.1 h.2

-- the uses of these values mean them
abbrev pub Finds : List Name → List ValueNo → Type 0
Finds names [] = Unit {0}
Finds names (v ∷ vs) = (resolved names (name_text v) ≡ v) × Finds names vs

pub all-found : (ns : List ℕ) (vs : List ValueNo) → AreSmall ns → AreSeen ns vs → Finds (map shown ns) vs
all-found ns [] small h = tt
all-found ns (v ∷ vs) small h = (found ns v small h.0, all-found ns vs small h.1)

-- ---- what is new

-- these are names of values below n
abbrev pub AreBelow : ℕ → List Name → Type 0
AreBelow n [] = Unit {0}
AreBelow n (x ∷ xs) = ((v : ValueNo) × (x ≡ named v) × (v.0 < n)) × AreBelow n xs

pub below-more : (n k : ℕ) (xs : List Name) → n ≤ k → AreBelow n xs → AreBelow k xs
below-more n k [] h b = tt
below-more n k (x ∷ xs) h b = let c = b.0 in ((c.0, c.1, omega arith), below-more n k xs h b.1)

pub below-append : (n : ℕ) (xs ys : List Name) → AreBelow n xs → AreBelow n ys → AreBelow n (xs ++ ys)
below-append n [] ys a b = b
below-append n (x ∷ xs) ys a b = (a.0, below-append n xs ys a.1 b)

pub new-name : (n : ℕ) (xs : List Name) (v : ValueNo) → AreBelow n xs → n ≤ v.0 → v.0 < 2 ^ 32 - 1 → is_named xs (name_text v) ≡ false
new-name n [] v b h i = refl
new-name n (x ∷ xs) v b h i =
    let c = b.0 in
    let other : bytes_eq x.text (name_text v) ≡ false =
    rw c.1 (by_test (bytes_eq (name_text c.0) (name_text v)) (λ y. let e : c.0.0 ≡ v.0 = text-value c.0 v (let d = c.2 in omega arith) i y in absurd (let d = c.2 in omega arith)) (λ f. f)) in
    rw (other, new-name n xs v b.1 h i) refl

pub next-up : (n : ℕ) → n < 2 ^ 32 - 1 → number_up n 1 ≡ n + 1
next-up n h = omega arith

pub other-text : (u v : ValueNo) → u.0 < 2 ^ 32 - 1 → v.0 < 2 ^ 32 - 1 → (u.0 ≡ v.0 → ⊥) → bytes_eq (name_text u) (name_text v) ≡ false
other-text u v h i other = by_test (bytes_eq (name_text u) (name_text v)) (λ y. absurd (other (text-value u v h i y))) (λ f. f)

pub below-left : (n : ℕ) (xs ys : List Name) → AreBelow n (xs ++ ys) → AreBelow n xs
below-left n [] ys b = tt
below-left n (x ∷ xs) ys b = (b.0, below-left n xs ys b.1)

pub below-right : (n : ℕ) (xs ys : List Name) → AreBelow n (xs ++ ys) → AreBelow n ys
below-right n [] ys b = b
below-right n (x ∷ xs) ys b = below-right n xs ys b.1

pub below-one : (n : ℕ) (xs : List Name) (v : ValueNo) → AreBelow n xs → v.0 ≡ n → AreBelow (n + 1) (xs ++ named v ∷ [])
below-one n xs v b e = below-append (n + 1) xs (named v ∷ []) (below-more n (n + 1) xs (omega arith) b) ((v, refl, omega arith), tt)
