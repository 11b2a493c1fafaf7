-- What a region captures.
use Rattle.std.proofs.Common.{◌≡◌, ◌⊎◌, inl, inr, ◌<◌, ℕ, ◌==◌, cond, Bool, true, false, List, [], ◌∷◌, refl, sym, ◌∙◌, subst, arith}
use Rattle.std.specs.Prelude.{nat_lt}
use Rattle.std.specs.declared.cmp.Ordering.{Ordering}
use Rattle.std.specs.declared.cmp.Ordering.TheVariants.{Less, Equal, Greater}
use Rattle.std.specs.Ordering.{nat_cmp, is_eq, match_ordering}
use Rattle.std.specs.BTreeMap.{is_at}
use Rattle.std.specs.BTreeSet.{insert_key}
use Rattle.std.specs.Set.{remove_key}
use Rattle.std.proofs.lemmas.Bool.Decides.{eqb_tells, nat_tests}
use Rattle.made_funcs.specs.Captures.{with_all, without_all, captures, uses_inside}
use Rattle.made_laws.specs.Laws.{Among, defined_inside, CapturesAre}

-- ---- comparing numbers

lt_of : (a b : ℕ) → nat_lt a b ≡ true → a < b
lt_of a b is = grind (arith, nat_tests)

-- what the comparison of two numbers says
abbrev Says : Ordering → ℕ → ℕ → Type 0
Says Less a b = a < b
Says Equal a b = a ≡ b
Says Greater a b = b < a

says : (a b : ℕ) → Says (nat_cmp a b) a b
says a b = by (nat_lt a b) (a == b) refl refl
  where
    by : (l e : Bool) → nat_lt a b ≡ l → (a == b) ≡ e → Says (cond l Less (cond e Equal Greater)) a b
    by true e is same = lt_of a b is
    by false true is same = elim (eqb_tells a b) [
      | inl h ↦ h.1
      | inr h ↦ (let no : (a == b) ≡ false = h.0 in cc)
    ]
    by false false is same = grind (arith, nat_tests)

-- ---- lists that ascend

abbrev Above : ℕ → List ℕ → Type 0
Above a [] = Unit {0}
Above a (x ∷ xs) = (a < x) × Above a xs

abbrev Ascends : List ℕ → Type 0
Ascends [] = Unit {0}
Ascends (x ∷ xs) = Above x xs × Ascends xs

above_more : (a b : ℕ) (xs : List ℕ) → a < b → Above b xs → Above a xs
above_more a b [] lt is = tt
above_more a b (x ∷ xs) lt is = ((let l = is.0 in omega (arith, lt, l)), above_more a b xs lt is.1)

above_in : (a : ℕ) (xs : List ℕ) (m : ℕ) → Above a xs → Among xs m → a < m
above_in a [] m is among = absurd among
above_in a (x ∷ xs) m is (inl here) = subst (λ y. a < y) here is.0
above_in a (x ∷ xs) m is (inr more) = above_in a xs m is.1 more

-- ---- one number more

module _ (k : ℕ) where
  above_insert : (a : ℕ) (xs : List ℕ) → Above a xs → a < k → Above a (insert_key nat_cmp xs k)
  above_insert a [] is lt = (lt, tt)
  above_insert a (x ∷ xs) is lt = by (nat_cmp k x) (above_insert a xs is.1 lt)
    where
      by : (o : Ordering) → Above a (insert_key nat_cmp xs k) → Above a (match_ordering o (k ∷ x ∷ xs) (x ∷ xs) (x ∷ insert_key nat_cmp xs k))
      by Less more = (lt, is)
      by Equal more = is
      by Greater more = (is.0, more)

  ascends_insert : (xs : List ℕ) → Ascends xs → Ascends (insert_key nat_cmp xs k)
  ascends_insert [] is = (tt, tt)
  ascends_insert (x ∷ xs) is = by (nat_cmp k x) (says k x) (ascends_insert xs is.1)
    where
      by : (o : Ordering) → Says o k x → Ascends (insert_key nat_cmp xs k) → Ascends (match_ordering o (k ∷ x ∷ xs) (x ∷ xs) (x ∷ insert_key nat_cmp xs k))
      by Less lt more = ((lt, above_more k x xs lt is.0), is)
      by Equal same more = is
      by Greater lt more = (above_insert x xs is.0 lt, more)

  insert_from : (xs : List ℕ) (m : ℕ) → Among (insert_key nat_cmp xs k) m → (k ≡ m) ⊎ Among xs m
  insert_from [] m (inl here) = inl here
  insert_from [] m (inr more) = absurd more
  insert_from (x ∷ xs) m among = by (nat_cmp k x) (insert_from xs m) among
    where
      by : (o : Ordering) → (Among (insert_key nat_cmp xs k) m → (k ≡ m) ⊎ Among xs m) → Among (match_ordering o (k ∷ x ∷ xs) (x ∷ xs) (x ∷ insert_key nat_cmp xs k)) m → (k ≡ m) ⊎ Among (x ∷ xs) m
      by Less again (inl here) = inl here
      by Less again (inr more) = inr more
      by Equal again there = inr there
      by Greater again (inl here) = inr (inl here)
      by Greater again (inr more) = elim (again more) [
        | inl same ↦ inl same
        | inr old ↦ inr (inr old)
      ]

  insert_old : (xs : List ℕ) (m : ℕ) → Among xs m → Among (insert_key nat_cmp xs k) m
  insert_old [] m among = absurd among
  insert_old (x ∷ xs) m among = by (nat_cmp k x) (insert_old xs m) among
    where
      by : (o : Ordering) → (Among xs m → Among (insert_key nat_cmp xs k) m) → Among (x ∷ xs) m → Among (match_ordering o (k ∷ x ∷ xs) (x ∷ xs) (x ∷ insert_key nat_cmp xs k)) m
      by Less again there = inr there
      by Equal again there = there
      by Greater again (inl here) = inl here
      by Greater again (inr more) = inr (again more)

  insert_new : (xs : List ℕ) → Among (insert_key nat_cmp xs k) k
  insert_new [] = inl refl
  insert_new (x ∷ xs) = by (nat_cmp k x) (says k x) (insert_new xs)
    where
      by : (o : Ordering) → Says o k x → Among (insert_key nat_cmp xs k) k → Among (match_ordering o (k ∷ x ∷ xs) (x ∷ xs) (x ∷ insert_key nat_cmp xs k)) k
      by Less lt more = inl refl
      by Equal same more = inl (sym same)
      by Greater lt more = inr more

  -- ---- one number less

  abbrev is_it : ℕ → Bool
  is_it = is_at (nat_cmp k)

  equal_if : (x : ℕ) → is_it x ≡ true → k ≡ x
  equal_if x is = by (nat_cmp k x) (says k x) is
    where
      by : (o : Ordering) → Says o k x → is_eq o ≡ true → k ≡ x
      by Less lt h = cc
      by Equal same h = same
      by Greater lt h = cc

  other_if : (x : ℕ) → is_it x ≡ false → k ≡ x → ⊥
  other_if x is same = by (nat_cmp k x) (says k x) is
    where
      by : (o : Ordering) → Says o k x → is_eq o ≡ false → ⊥
      by Less lt h = omega (arith, lt, same)
      by Equal e h = not_so h
        where
          not_so : is_eq Equal ≡ false → ⊥
          not_so h = cc
      by Greater lt h = omega (arith, lt, same)

  above_remove : (a : ℕ) (xs : List ℕ) → Above a xs → Above a (remove_key is_it xs)
  above_remove a [] is = tt
  above_remove a (x ∷ xs) is = by (is_it x) (above_remove a xs is.1)
    where
      by : (b : Bool) → Above a (remove_key is_it xs) → Above a (cond b xs (x ∷ remove_key is_it xs))
      by true more = is.1
      by false more = (is.0, more)

  ascends_remove : (xs : List ℕ) → Ascends xs → Ascends (remove_key is_it xs)
  ascends_remove [] is = tt
  ascends_remove (x ∷ xs) is = by (is_it x) (ascends_remove xs is.1)
    where
      by : (b : Bool) → Ascends (remove_key is_it xs) → Ascends (cond b xs (x ∷ remove_key is_it xs))
      by true more = is.1
      by false more = (above_remove x xs is.0, more)

  remove_from : (xs : List ℕ) (m : ℕ) → Ascends xs → Among (remove_key is_it xs) m → Among xs m × (k ≡ m → ⊥)
  remove_from [] m is among = absurd among
  remove_from (x ∷ xs) m is among = by (is_it x) refl (remove_from xs m is.1) among
    where
      by : (b : Bool) → is_it x ≡ b → (Among (remove_key is_it xs) m → Among xs m × (k ≡ m → ⊥)) → Among (cond b xs (x ∷ remove_key is_it xs)) m → Among (x ∷ xs) m × (k ≡ m → ⊥)
      by true same again there = (inr there, λ e. (let lt : x < m = above_in x xs m is.0 there in let s : k ≡ x = equal_if x same in omega (arith, lt, s, e)))
      by false same again (inl here) = (inl here, λ e. other_if x same (e ∙ sym here))
      by false same again (inr more) = (let r = again more in (inr r.0, r.1))

  remove_other : (xs : List ℕ) (m : ℕ) → Among xs m → (k ≡ m → ⊥) → Among (remove_key is_it xs) m
  remove_other [] m among differs = absurd among
  remove_other (x ∷ xs) m among differs = by (is_it x) refl (λ more. remove_other xs m more differs) among
    where
      by : (b : Bool) → is_it x ≡ b → (Among xs m → Among (remove_key is_it xs) m) → Among (x ∷ xs) m → Among (cond b xs (x ∷ remove_key is_it xs)) m
      by true same again (inl here) = absurd (differs (equal_if x same ∙ here))
      by true same again (inr more) = more
      by false same again (inl here) = inl here
      by false same again (inr more) = inr (again more)

-- ---- many

with_ascends : (ks ns : List ℕ) → Ascends ks → Ascends (with_all ks ns)
with_ascends ks [] is = is
with_ascends ks (n ∷ ns) is = with_ascends (insert_key nat_cmp ks n) ns (ascends_insert n ks is)

with_from : (ks ns : List ℕ) (m : ℕ) → Among (with_all ks ns) m → Among ks m ⊎ Among ns m
with_from ks [] m among = inl among
with_from ks (n ∷ ns) m among = elim (with_from (insert_key nat_cmp ks n) ns m among) [
  | inl before ↦ elim (insert_from n ks m before) [
    | inl same ↦ inr (inl same)
    | inr old ↦ inl old
  ]
  | inr later ↦ inr (inr later)
]

with_old : (ks ns : List ℕ) (m : ℕ) → Among ks m → Among (with_all ks ns) m
with_old ks [] m among = among
with_old ks (n ∷ ns) m among = with_old (insert_key nat_cmp ks n) ns m (insert_old n ks m among)

with_new : (ks ns : List ℕ) (m : ℕ) → Among ns m → Among (with_all ks ns) m
with_new ks [] m among = absurd among
with_new ks (n ∷ ns) m (inl here) = with_old (insert_key nat_cmp ks n) ns m (subst (λ x. Among (insert_key nat_cmp ks n) x) here (insert_new n ks))
with_new ks (n ∷ ns) m (inr more) = with_new (insert_key nat_cmp ks n) ns m more

without_from : (ks ns : List ℕ) (m : ℕ) → Ascends ks → Among (without_all ks ns) m → Among ks m × (Among ns m → ⊥)
without_from ks [] m is among = (among, λ none. none)
without_from ks (n ∷ ns) m is among =
    let r = without_from (remove_key (is_at (nat_cmp n)) ks) ns m (ascends_remove n ks is) among in
    let q = remove_from n ks m is r.0 in
    (q.0, none r.1 q.1)
  where
    none : (Among ns m → ⊥) → (n ≡ m → ⊥) → Among (n ∷ ns) m → ⊥
    none later differs (inl here) = differs here
    none later differs (inr more) = later more

without_other : (ks ns : List ℕ) (m : ℕ) → Among ks m → (Among ns m → ⊥) → Among (without_all ks ns) m
without_other ks [] m among differs = among
without_other ks (n ∷ ns) m among differs =
    without_other (remove_key (is_at (nat_cmp n)) ks) ns m (remove_other n ks m among (λ same. differs (inl same))) (λ more. differs (inr more))

pub captures_are : CapturesAre
captures_are r m = (captured, held)
  where
    captured : Among (captures r) m → Among (uses_inside r) m × (Among (defined_inside r) m → ⊥)
    captured among =
        let w = without_from (with_all [] (uses_inside r)) (defined_inside r) m (with_ascends [] (uses_inside r) tt) among in
        (used (with_from [] (uses_inside r) m w.0), w.1)
      where
        used : Among [] m ⊎ Among (uses_inside r) m → Among (uses_inside r) m
        used (inl none) = absurd none
        used (inr is) = is

    held : Among (uses_inside r) m → (Among (defined_inside r) m → ⊥) → Among (captures r) m
    held used none = without_other (with_all [] (uses_inside r)) (defined_inside r) m (with_new [] (uses_inside r) m used) none
