-- The values of names: what a use means, and how values are numbered.
use Rattle.std.proofs.Common.{◌≡◌, ◌≤◌, ◌<◌, ◌⊎◌, inl, inr, ℕ, zero, suc, ◌+◌, Bool, true, false, cond, List, [], ◌∷◌, ◌++◌, length, nat_lt, Option, Some, None, refl, sym, ap, ◌∙◌, subst, arith, append_assoc, lt-ltb, ltb-true}
use Rattle.std.specs.Prelude.{⊤}
use Rattle.std.specs.List.{Contains}
use Rattle.std.specs.Str.{bytes_eq}
use Rattle.std.proofs.lemmas.List.{map-append, length-append, append-nil}
use Rattle.std.proofs.lemmas.List.Elements.{Contains-append_left, Contains-append_right}
use Rattle.ir_forms.specs.declared.ops.ValueNo.{ValueNo}
use Rattle.module_grammar.specs.declared.state.Name.{Name}
use Rattle.module_grammar.specs.declared.state.TextToken.{TextToken}
use Rattle.module_grammar.specs.State.{unknown, value, number_up, first_of, part_of, resolved, resolved_at, counted_from, values_of_name, values_of, count_of, up, with_names, name_at}
use Rattle.module_grammar.proofs.Runs.{by_test}
use Rattle.mlir_print.specs.Printable.{numbers, NumberOn, AreSeen}
use Rattle.read_forms.specs.Known.{is_known, all_known}
use Rattle.module_grammar.proofs.Ends.{and-left, and-right}
use Rattle.module_grammar.proofs.Grows.{names-grew}

-- ---- uses

-- the numbers of the values of these names
abbrev pub seen_of : List Name → List ℕ
seen_of names = numbers (values_of names)

-- no value, or a visible one
abbrev pub IsSeenOrNot : List ℕ → ValueNo → Type 0
IsSeenOrNot seen v = (v ≡ unknown) ⊎ Contains seen v.0

abbrev pub AreSeenOrNot : List ℕ → List ValueNo → Type 0
AreSeenOrNot seen [] = ⊤
AreSeenOrNot seen (v ∷ vs) = IsSeenOrNot seen v × AreSeenOrNot seen vs

pub both-seen : (seen : List ℕ) (vs ws : List ValueNo) → AreSeenOrNot seen vs → AreSeenOrNot seen ws → AreSeenOrNot seen (vs ++ ws)
both-seen seen [] ws a b = b
both-seen seen (v ∷ vs) ws a b = (a.0, both-seen seen vs ws a.1 b)

is-seen : (seen : List ℕ) (v : ValueNo) → IsSeenOrNot seen v → is_known v ≡ true → Contains seen v.0
is-seen seen v (inl e) k = let a : true ≡ false = sym k ∙ ap is_known e in absurd cc
is-seen seen v (inr c) k = c

-- known operands are visible
pub are-seen : (seen : List ℕ) (vs : List ValueNo) → AreSeenOrNot seen vs → all_known vs ≡ true → AreSeen seen vs
are-seen seen [] a k = tt
are-seen seen (v ∷ vs) a k = (is-seen seen v a.0 (and-left (is_known v) (all_known vs) k), are-seen seen vs a.1 (and-right (is_known v) (all_known vs) k))

pub seen-append : (xs ys : List Name) → seen_of (xs ++ ys) ≡ seen_of xs ++ seen_of ys
seen-append [] ys = refl
seen-append (x ∷ xs) ys =
    map-append (λ (v : ValueNo). v.0) (values_of_name x x.count) (values_of (xs ++ ys))
    ∙ ap (λ (l : List ℕ). numbers (values_of_name x x.count) ++ l) (seen-append xs ys)
    ∙ sym (append_assoc (numbers (values_of_name x x.count)) (seen_of xs) (seen_of ys))
    ∙ ap (λ (l : List ℕ). l ++ seen_of ys) (sym (map-append (λ (v : ValueNo). v.0) (values_of_name x x.count) (values_of xs)))

here : (x : ℕ) (xs : List ℕ) → Contains (x ∷ xs) x
here x xs = (0, omega arith, refl)

there : (x y : ℕ) (xs : List ℕ) → Contains xs x → Contains (y ∷ xs) x
there x y xs c = (suc c.0, omega (arith, c.1), c.2)

seen-first : (n : Name) (c : Option ℕ) → IsSeenOrNot (numbers (values_of_name n c)) (first_of n c)
seen-first n None = inr (here n.first [])
seen-first n (Some zero) = inl refl
seen-first n (Some (suc c)) = rw (lt-ltb 0 (suc c) (omega arith)) (inr (here n.first _))

number-up-more : (f k : ℕ) → number_up (number_up f 1) k ≡ number_up f (k + 1)
number-up-more f k = omega arith

seen-part-at : (f c k : ℕ) → k < c → Contains (numbers (counted_from f c)) (number_up f k)
seen-part-at f zero k h = absurd (omega (arith, h))
seen-part-at f (suc c) zero h = let e : f ≡ number_up f 0 = omega arith in subst (λ (x : ℕ). Contains (numbers (counted_from f (suc c))) x) e (here f _)
seen-part-at f (suc c) (suc k) h =
    let e : number_up (number_up f 1) k ≡ number_up f (suc k) = omega arith in
    there (number_up f (suc k)) f _ (subst (λ (x : ℕ). Contains (numbers (counted_from (number_up f 1) c)) x) e (seen-part-at (number_up f 1) c k (omega (arith, h))))

seen-part : (n : Name) (c at : Option ℕ) → IsSeenOrNot (numbers (values_of_name n c)) (part_of n c at)
seen-part n None at = inl refl
seen-part n (Some c) None = inl refl
seen-part n (Some c) (Some k) =
    by_test (nat_lt k c)
    (λ y. rw y (inr (seen-part-at n.first c k (ltb-true k c y))))
    (λ z. rw z (inl refl))

in-more : (xs ys : List ℕ) (v : ValueNo) → IsSeenOrNot xs v → IsSeenOrNot (xs ++ ys) v
in-more xs ys v (inl e) = inl e
in-more xs ys v (inr c) = inr (Contains-append_left xs ys v.0 c)

in-rest : (xs ys : List ℕ) (v : ValueNo) → IsSeenOrNot ys v → IsSeenOrNot (xs ++ ys) v
in-rest xs ys v (inl e) = inl e
in-rest xs ys v (inr c) = inr (Contains-append_right xs ys v.0 c)

either : (xs ys : List ℕ) (v w : ValueNo) (b : Bool) → IsSeenOrNot xs v → IsSeenOrNot ys w → IsSeenOrNot (xs ++ ys) (cond b v w)
either xs ys v w true h i = in-more xs ys v h
either xs ys v w false h i = in-rest xs ys w i

pub resolved-seen : (names : List Name) (text : List ℕ) → IsSeenOrNot (seen_of names) (resolved names text)
resolved-seen [] text = inl refl
resolved-seen (n ∷ ns) text =
    rw (map-append (λ (v : ValueNo). v.0) (values_of_name n n.count) (values_of ns))
    (either (numbers (values_of_name n n.count)) (seen_of ns) (first_of n n.count) (resolved ns text) (bytes_eq n.text text)
    (seen-first n n.count) (resolved-seen ns text))

pub resolved-at-seen : (names : List Name) (text : List ℕ) (at : Option ℕ) → IsSeenOrNot (seen_of names) (resolved_at names text at)
resolved-at-seen [] text at = inl refl
resolved-at-seen (n ∷ ns) text at =
    rw (map-append (λ (v : ValueNo). v.0) (values_of_name n n.count) (values_of ns))
    (either (numbers (values_of_name n n.count)) (seen_of ns) (part_of n n.count at) (resolved_at ns text at) (bytes_eq n.text text)
    (seen-part n n.count at) (resolved-at-seen ns text at))

-- ---- numbers

pub number-both : (n : ℕ) (vs ws : List ValueNo) → NumberOn n vs → NumberOn (n + length vs) ws → NumberOn n (vs ++ ws)
number-both n [] ws a b = subst (λ (x : ℕ). NumberOn x ws) (omega arith) b
number-both n (v ∷ vs) ws a b = (a.0, a.1, number-both (n + 1) vs ws a.2 (subst (λ (x : ℕ). NumberOn x ws) (omega arith) b))

pub number-one : (n : ℕ) → n < 4294967295 → NumberOn n (value n ∷ [])
number-one n h = (refl, h, tt)

-- how many values these names have
abbrev pub weight : List Name → ℕ
weight [] = 0
weight (x ∷ xs) = count_of x.count + weight xs

counted-length : (n c : ℕ) → length (counted_from n c) ≡ c
counted-length n zero = refl
counted-length n (suc c) = ap suc (counted-length (number_up n 1) c)

name-length : (n : Name) (c : Option ℕ) → length (values_of_name n c) ≡ count_of c
name-length n None = refl
name-length n (Some c) = counted-length n.first c

pub weight-is : (xs : List Name) → length (values_of xs) ≡ weight xs
weight-is [] = refl
weight-is (x ∷ xs) = omega (arith, length-append (values_of_name x x.count) (values_of xs), name-length x x.count, weight-is xs)

weight-append : (xs ys : List Name) → weight (xs ++ ys) ≡ weight xs + weight ys
weight-append [] ys = omega arith
weight-append (x ∷ xs) ys = omega (arith, weight-append xs ys)

values-append : (xs ys : List Name) → values_of (xs ++ ys) ≡ values_of xs ++ values_of ys
values-append [] ys = refl
values-append (x ∷ xs) ys = ap (λ (l : List ValueNo). values_of_name x x.count ++ l) (values-append xs ys) ∙ sym (append_assoc (values_of_name x x.count) (values_of xs) (values_of ys))

pub counted-number : (n c : ℕ) → n + c < 4294967296 → NumberOn n (counted_from n c)
counted-number n zero h = tt
counted-number n (suc c) h =
    (refl, omega (arith, h), subst (λ (x : ℕ). NumberOn x (counted_from (number_up n 1) c)) (omega (arith, h)) (counted-number (number_up n 1) c (omega (arith, h))))

-- these names number on from n to m, if there are so many numbers
abbrev pub IsNamed : ℕ → List Name → ℕ → Type 0
IsNamed n xs m = n + weight xs < 4294967295 → NumberOn n (values_of xs) × (m ≡ n + weight xs)

pub named-none : (n : ℕ) → IsNamed n [] n
named-none n h = (tt, omega arith)

pub named-more : (n m : ℕ) (xs : List Name) (x : Name) (c : Option ℕ) (m' : ℕ) → IsNamed n xs m → x.first ≡ m → x.count ≡ c
    → (m + count_of c < 4294967295 → m' ≡ m + count_of c) → (m + count_of c < 4294967295 → NumberOn m (values_of_name x c)) → IsNamed n (xs ++ x ∷ []) m'
named-more n m xs x c m' a e f g u h =
    let w : weight (xs ++ x ∷ []) ≡ weight xs + count_of c = omega (arith, weight-append xs (x ∷ []), ap count_of f) in
    let b = a (omega (arith, w, h)) in
    let small : m + count_of c < 4294967295 = omega (arith, w, h, b.1) in (
      subst (λ (l : List ValueNo). NumberOn n l) (sym (values-append xs (x ∷ [])))
          (number-both n (values_of xs) (values_of (x ∷ [])) b.0
          (subst (λ (l : List ValueNo). NumberOn (n + length (values_of xs)) l) (sym (append-nil (values_of_name x x.count)))
          (subst (λ (o : Option ℕ). NumberOn (n + length (values_of xs)) (values_of_name x o)) (sym f)
          (subst (λ (y : ℕ). NumberOn y (values_of_name x c)) (omega (arith, b.1, weight-is xs)) (u small))))),
      omega (arith, g small, b.1, w),
    )

with-names-is : (xs : List Name) (c : ℕ) → with_names c xs < 4294967295 → with_names c xs ≡ c + weight xs
with-names-is [] c h = omega arith
with-names-is (x ∷ xs) c h = omega (arith, with-names-is xs (up c (count_of x.count)) h, names-grew xs (up c (count_of x.count)))

-- where so many values are named, the names number on
pub named-all : (n m c : ℕ) (xs : List Name) → IsNamed n xs m → n ≤ c → with_names c xs < 4294967295
    → NumberOn n (values_of xs) × (m ≡ n + length (values_of xs)) × (m ≤ with_names c xs)
named-all n m c xs a h i =
    let w = with-names-is xs c i in
    let b = a (omega (arith, w, h, i)) in
    (b.0, omega (arith, b.1, weight-is xs), omega (arith, b.1, w, h))

-- one name more, of one value
pub named-one : (n m : ℕ) (xs : List Name) (t : TextToken) → IsNamed n xs m → IsNamed n (xs ++ name_at t m ∷ []) (number_up m 1)
named-one n m xs t a = named-more n m xs (name_at t m) None (number_up m 1) a refl refl (λ h. omega (arith, h)) (λ h. number-one m (omega (arith, h)))
