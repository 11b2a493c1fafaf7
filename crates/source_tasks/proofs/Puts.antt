-- Values as a list that grows when it is written.
use Rattle.std.proofs.Common.{◌≡◌, ℕ, zero, suc, ◌+◌, ◌<◌, ◌≤◌, List, [], ◌∷◌, ◌++◌, length, set, Option, take, drop, map, reverse, slice_get, refl, ap, add-one, arith}
use Rattle.std.proofs.lemmas.List.{reverse-append, reverse-reverse, map-append}
use Rattle.ir_forms.specs.declared.ops.ValueNo.{ValueNo}
use Rattle.ir_forms.specs.declared.types.Ty.{Ty}
use Rattle.source_meaning.specs.Values.{maybe, or_else, named, values_at, element_in, number_in}
use Rattle.source_meaning.specs.Tasks.{Pending, Awaits, Failing}
use Rattle.ir_forms.specs.declared.names.ElementName.{ElementName}
use Rattle.source_meaning.specs.Steps.{value, number, numbers, awaiting, awaits_each, awaits_for}
use Rattle.source_meaning.specs.Parts.{grouped}
use Rattle.source_meaning.specs.declared.values.Val.{Val}
use Rattle.source_meaning.specs.Values.{put, nothing}

pub put_within : (vs : List Val) (k : ℕ) (v : Val) → k < length vs → put vs k v ≡ set vs k v
put_within [] k v h = absurd (omega arith)
put_within (x ∷ vs) zero v h = refl
put_within (x ∷ vs) (suc k) v h = ap (λ ys. x ∷ ys) (put_within vs k v (omega arith))

pub put_past : (vs : List Val) (k : ℕ) (v : Val) → length vs ≤ k → put (vs ++ nothing ∷ []) k v ≡ put vs k v
put_past [] zero v h = refl
put_past [] (suc k) v h = refl
put_past (x ∷ vs) zero v h = absurd (omega arith)
put_past (x ∷ vs) (suc k) v h = ap (λ ys. x ∷ ys) (put_past vs k v (omega arith))

pub put_last : (vs : List Val) (k : ℕ) (v : Val) → length vs ≡ k → put vs k v ≡ vs ++ v ∷ []
put_last [] zero v h = refl
put_last [] (suc k) v h = absurd (omega (arith, h))
put_last (x ∷ vs) zero v h = absurd (omega (arith, h))
put_last (x ∷ vs) (suc k) v h = ap (λ ys. x ∷ ys) (put_last vs k v (omega (arith, h)))

pub put_grown : (first vs last : List Val) (k : ℕ) (v : Val) → put vs k v ≡ put first k v → length vs ≤ k → last ≡ vs ++ nothing ∷ [] → put last k v ≡ put first k v
put_grown first vs last k v same at is = rw is (rw (put_past vs k v at) same)

pub reverse_snoc : {X : Type 0} (xs : List X) (x : X) → reverse (xs ++ x ∷ []) ≡ x ∷ reverse xs
reverse_snoc xs x = reverse-append xs (x ∷ [])

pub reverse_twice : {X : Type 0} (xs : List X) → reverse (reverse xs) ≡ xs
reverse_twice xs = reverse-reverse xs

each_suc : (at : ℕ) (env : List Val) (names : List ValueNo) (i : ℕ) → i < length names →
    awaits_each at (values_at env (take (suc i) names)) ≡ awaits_each at (values_at env (take i names)) ++ awaiting at [] (value (values_at env names) i) ∷ []
each_suc at env [] i h = absurd (omega arith)
each_suc at env (x ∷ names) zero h = refl
each_suc at env (x ∷ names) (suc i) h = ap (λ ys. awaiting at [] (named env x.0) ∷ ys) (each_suc at env names i (omega arith))

for_suc : (at : ℕ) (env : List Val) (params : List (ValueNo × Ty)) (names : List ValueNo) (i : ℕ) → i < length names →
    awaits_for at (map (λ x. x.0) params) (values_at env (take (suc i) names)) ≡ awaits_for at (map (λ x. x.0) params) (values_at env (take i names)) ++ awaiting at (maybe [] (λ x. x.0 ∷ []) (slice_get params i)) (value (values_at env names) i) ∷ []
for_suc at env params [] i h = absurd (omega arith)
for_suc at env [] (x ∷ names) zero h = refl
for_suc at env (q ∷ params) (x ∷ names) zero h = refl
for_suc at env [] (x ∷ names) (suc i) h = ap (λ ys. awaiting at [] (named env x.0) ∷ ys) (for_suc at env [] names i (omega arith))
for_suc at env (q ∷ params) (x ∷ names) (suc i) h = ap (λ ys. awaiting at (q.0 ∷ []) (named env x.0) ∷ ys) (for_suc at env params names i (omega arith))

-- one more await behind those that there are
pub each_pushed : (at : ℕ) (env : List Val) (names : List ValueNo) (i : ℕ) (before after : List Pending) (x : Option ElementName) (xs : List ValueNo) →
    i < length names → before ≡ awaits_each at (values_at env (take i names)) → x ≡ element_in (value (values_at env names) i) →
    xs ≡ [] → after ≡ before ++ maybe (Failing at) (λ y. Awaits at y xs) x ∷ [] → after ≡ awaits_each at (values_at env (take (i + 1) names))
each_pushed at env names i before after x xs h b e n a = rw (add-one, each_suc at env names i h) (rw (a, b, e, n) refl)

pub for_pushed : (at : ℕ) (env : List Val) (params : List (ValueNo × Ty)) (names : List ValueNo) (i : ℕ) (before after : List Pending) (x : Option ElementName) (xs : List ValueNo) →
    i < length names → before ≡ awaits_for at (map (λ x. x.0) params) (values_at env (take i names)) → x ≡ element_in (value (values_at env names) i) →
    xs ≡ maybe [] (λ x. x.0 ∷ []) (slice_get params i) → after ≡ before ++ maybe (Failing at) (λ y. Awaits at y xs) x ∷ [] →
    after ≡ awaits_for at (map (λ x. x.0) params) (values_at env (take (i + 1) names))
for_pushed at env params names i before after x xs h b e n a = rw (add-one, for_suc at env params names i h) (rw (a, b, e, n) refl)

pub value_of : (env : List Val) (names : List ValueNo) (i : ℕ) → value (values_at env names) i ≡ maybe nothing (λ x. named env x.0) (slice_get names i)
value_of env [] i = refl
value_of env (x ∷ names) zero = refl
value_of env (x ∷ names) (suc i) = value_of env names i

values-take : (env : List Val) (n : ℕ) (names : List ValueNo) → take n (values_at env names) ≡ values_at env (take n names)
values-take env zero names = refl
values-take env (suc n) [] = refl
values-take env (suc n) (x ∷ names) = ap (λ vs. named env x.0 ∷ vs) (values-take env n names)

pub values_drop : (env : List Val) (n : ℕ) (names : List ValueNo) → drop n (values_at env names) ≡ values_at env (drop n names)
values_drop env zero names = refl
values_drop env (suc n) [] = refl
values_drop env (suc n) (x ∷ names) = values_drop env n names

pub group_values : (env : List Val) (ns : List ℕ) (names : List ValueNo) (k : ℕ) → or_else [] (slice_get (grouped ns (values_at env names)) k) ≡ values_at env (or_else [] (slice_get (grouped ns names) k))
group_values env [] names k = refl
group_values env (n ∷ ns) names zero = values-take env n names
group_values env (n ∷ ns) names (suc k) = rw (values_drop env n names) (group_values env ns (drop n names) k)

-- one value more
pub values_suc : (env : List Val) (names : List ValueNo) (i : ℕ) → i < length names → values_at env (take (i + 1) names) ≡ values_at env (take i names) ++ value (values_at env names) i ∷ []
values_suc env names i h = rw add-one (go names i h) where
  go : (names : List ValueNo) (i : ℕ) → i < length names → values_at env (take (suc i) names) ≡ values_at env (take i names) ++ value (values_at env names) i ∷ []
  go [] i h = absurd (omega arith)
  go (x ∷ names) zero h = refl
  go (x ∷ names) (suc i) h = ap (λ ys. named env x.0 ∷ ys) (go names i (omega arith))

pub numbers_suc : (env : List Val) (names : List ValueNo) (i : ℕ) → i < length names → numbers (values_at env (take (i + 1) names)) ≡ numbers (values_at env (take i names)) ++ number (values_at env names) i ∷ []
numbers_suc env names i h = rw (values_suc env names i h) (map-append number_in (values_at env (take i names)) (value (values_at env names) i ∷ []))
