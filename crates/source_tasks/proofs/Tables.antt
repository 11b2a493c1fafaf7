-- Values in leaves, number by number.
use Rattle.std.proofs.Common.{◌≡◌, inl, inr, ℕ, zero, suc, ◌+◌, ◌/◌, ◌%◌, ◌<◌, ◌≤◌, List, [], ◌∷◌, ◌++◌, length, map, get_or, slice_get, refl, sym, ap, ◌∙◌, add-one, arith, subst}
use Rattle.std.specs.Prelude.{slice_set}
use Rattle.std.proofs.lemmas.Bool.Decides.{eqb_tells}
use Rattle.source_meaning.specs.declared.values.Val.{Val}
use Rattle.source_meaning.specs.Values.{maybe, nothing, named, put}
use Rattle.source_tasks.specs.Table.{leaf_at, kept, listed_from, listed}

-- ---- a list

pub named_put : (vs : List Val) (k : ℕ) (v : Val) → named (put vs k v) k ≡ v
named_put [] zero v = refl
named_put [] (suc k) v = named_put [] k v
named_put (x ∷ vs) zero v = refl
named_put (x ∷ vs) (suc k) v = named_put vs k v

pub named_put_other : (vs : List Val) (k n : ℕ) (v : Val) → (n ≡ k → ⊥) → named (put vs k v) n ≡ named vs n
named_put_other [] zero zero v other = absurd (other refl)
named_put_other [] zero (suc n) v other = refl
named_put_other [] (suc k) zero v other = refl
named_put_other [] (suc k) (suc n) v other = named_put_other [] k n v (λ same. other (ap suc same))
named_put_other (x ∷ vs) zero zero v other = absurd (other refl)
named_put_other (x ∷ vs) zero (suc n) v other = refl
named_put_other (x ∷ vs) (suc k) zero v other = refl
named_put_other (x ∷ vs) (suc k) (suc n) v other = named_put_other vs k n v (λ same. other (ap suc same))

-- ---- leaves

module _ {X : Type 0} (f : X → List Val) where
  pub leaf_shared : (xs : List X) (k : ℕ) → leaf_at (map f xs) k ≡ maybe [] f (slice_get xs k)
  leaf_shared [] k = refl
  leaf_shared (x ∷ xs) zero = refl
  leaf_shared (x ∷ xs) (suc k) = leaf_shared xs k

  leaf_is : (xs : List X) (k : ℕ) (x : X) → k < length xs → x ≡ get_or xs k x → leaf_at (map f xs) k ≡ f x
  leaf_is [] k x inside is = absurd (omega arith)
  leaf_is (y ∷ xs) zero x inside is = ap f (sym is)
  leaf_is (y ∷ xs) (suc k) x inside is = leaf_is xs k x (omega arith) is

  leaf_set : (xs : List X) (k : ℕ) (x : X) → k < length xs → leaf_at (map f (slice_set xs k x)) k ≡ f x
  leaf_set [] k x inside = absurd (omega arith)
  leaf_set (y ∷ xs) zero x inside = refl
  leaf_set (y ∷ xs) (suc k) x inside = leaf_set xs k x (omega arith)

  leaf_set_other : (xs : List X) (k j : ℕ) (x : X) → (k ≡ j → ⊥) → leaf_at (map f (slice_set xs k x)) j ≡ leaf_at (map f xs) j
  leaf_set_other [] k j x other = refl
  leaf_set_other (y ∷ xs) zero zero x other = absurd (other refl)
  leaf_set_other (y ∷ xs) zero (suc j) x other = refl
  leaf_set_other (y ∷ xs) (suc k) zero x other = refl
  leaf_set_other (y ∷ xs) (suc k) (suc j) x other = leaf_set_other xs k j x (λ same. other (ap suc same))

  leaf_past : (xs : List X) (x : X) (k : ℕ) → f x ≡ [] → leaf_at (map f (xs ++ x ∷ [])) k ≡ leaf_at (map f xs) k
  leaf_past [] x zero none = none
  leaf_past [] x (suc k) none = refl
  leaf_past (y ∷ xs) x zero none = refl
  leaf_past (y ∷ xs) x (suc k) none = leaf_past xs x k none

  -- one more empty leaf behind those that there are
  pub leaf_grown : (first xs last : List X) (x : X) (k : ℕ) → f x ≡ [] → last ≡ xs ++ x ∷ [] → leaf_at (map f xs) k ≡ leaf_at (map f first) k → leaf_at (map f last) k ≡ leaf_at (map f first) k
  leaf_grown first xs last x k none is same = ap (λ (ys : List X). leaf_at (map f ys) k) is ∙ leaf_past xs x k none ∙ same

  -- the number has its new value
  pub kept_here : (xs : List X) (number : ℕ) (x y : X) (v : Val) → number / 64 < length xs → x ≡ get_or xs (number / 64) x → f y ≡ put (f x) (number % 64) v
      → kept (map f (slice_set xs (number / 64) y)) number ≡ v
  kept_here xs number x y v inside is new =
      ap (λ (vs : List Val). named vs (number % 64)) (leaf_set xs (number / 64) y inside ∙ new) ∙ named_put (f x) (number % 64) v

  same_digits : (n m : ℕ) → n / 64 ≡ m / 64 → n % 64 ≡ m % 64 → n ≡ m
  same_digits n m high low = omega (arith, high, low)

  -- another number has what it had
  pub kept_others : (first xs : List X) (number : ℕ) (x y : X) (v : Val) (n : ℕ) → number / 64 < length xs → x ≡ get_or xs (number / 64) x
      → f y ≡ put (f x) (number % 64) v → ((k : ℕ) → leaf_at (map f xs) k ≡ leaf_at (map f first) k) → (n ≡ number → ⊥)
      → kept (map f (slice_set xs (number / 64) y)) n ≡ kept (map f first) n
  kept_others first xs number x y v n inside is new same other = elim (eqb_tells (number / 64) (n / 64)) [
    | inl at ↦
        subst (λ (k : ℕ). named (leaf_at (map f (slice_set xs (number / 64) y)) k) (n % 64) ≡ named (leaf_at (map f first) k) (n % 64)) at.1 (
        ap (λ (vs : List Val). named vs (n % 64)) (leaf_set xs (number / 64) y inside ∙ new)
        ∙ named_put_other (f x) (number % 64) (n % 64) v (λ low. other (same_digits n number (sym at.1) low))
        ∙ ap (λ (vs : List Val). named vs (n % 64)) (sym (leaf_is xs (number / 64) x inside is) ∙ same (number / 64)))
    | inr apart ↦ ap (λ (vs : List Val). named vs (n % 64)) (leaf_set_other xs (number / 64) (n / 64) y apart.1 ∙ same (n / 64))
  ]

-- ---- values as a list

named_from : (f : ℕ → Val) (s many n m : ℕ) → m ≡ s + n → ((k : ℕ) → s + many ≤ k → f k ≡ nothing) → named (listed_from f s many) n ≡ f m
named_from f s zero n m is beyond = sym (beyond m (omega (arith, is)))
named_from f s (suc many) zero m is beyond = ap f (omega (arith, is))
named_from f s (suc many) (suc n) m is beyond = named_from f (suc s) many n m (omega (arith, is)) (λ k past. beyond k (omega (arith, past)))

pub named_listed : (f : ℕ → Val) (many n : ℕ) → ((k : ℕ) → many ≤ k → f k ≡ nothing) → named (listed_from f 0 many) n ≡ f n
named_listed f many n beyond = named_from f 0 many n n (omega arith) (λ k past. beyond k (omega (arith, past)))

listed_same : (f g : ℕ → Val) (s many : ℕ) → ((n : ℕ) → s ≤ n → g n ≡ f n) → listed_from g s many ≡ listed_from f s many
listed_same f g s zero same = refl
listed_same f g s (suc many) same =
    ap (λ (v : Val). v ∷ listed_from g (suc s) many) (same s (omega arith)) ∙ ap (λ (vs : List Val). f s ∷ vs) (listed_same f g (suc s) many (λ n past. same n (omega (arith, past))))

within_from : (f g : ℕ → Val) (s many k m : ℕ) (v : Val) → m ≡ s + k → k < many → g m ≡ v → ((n : ℕ) → (n ≡ m → ⊥) → g n ≡ f n)
    → listed_from g s many ≡ put (listed_from f s many) k v
within_from f g s zero k m v is inside here others = absurd (omega arith)
within_from f g s (suc many) zero m v is inside here others =
    ap (λ (x : Val). x ∷ listed_from g (suc s) many) (ap g (omega (arith, is)) ∙ here)
    ∙ ap (λ (vs : List Val). v ∷ vs) (listed_same f g (suc s) many (λ n past. others n (λ same. omega (arith, past, same, is))))
within_from f g s (suc many) (suc k) m v is inside here others =
    ap (λ (x : Val). x ∷ listed_from g (suc s) many) (others s (λ same. omega (arith, same, is)))
    ∙ ap (λ (vs : List Val). f s ∷ vs) (within_from f g (suc s) many k m v (omega (arith, is)) (omega arith) here others)

beyond_from : (f g : ℕ → Val) (s many k m : ℕ) (v : Val) → m ≡ s + k → many ≤ k → g m ≡ v → ((n : ℕ) → (n ≡ m → ⊥) → g n ≡ f n)
    → ((n : ℕ) → s + many ≤ n → f n ≡ nothing) → listed_from g s (suc k) ≡ put (listed_from f s many) k v
beyond_from f g s zero zero m v is past here others none = ap (λ (x : Val). x ∷ []) (ap g (omega (arith, is)) ∙ here)
beyond_from f g s zero (suc k) m v is past here others none =
    ap (λ (x : Val). x ∷ listed_from g (suc s) (suc k)) (others s (λ same. omega (arith, same, is)) ∙ none s (omega arith))
    ∙ ap (λ (vs : List Val). nothing ∷ vs) (beyond_from f g (suc s) zero k m v (omega (arith, is)) (omega arith) here others (λ n more. none n (omega (arith, more))))
beyond_from f g s (suc many) zero m v is past here others none = absurd (omega arith)
beyond_from f g s (suc many) (suc k) m v is past here others none =
    ap (λ (x : Val). x ∷ listed_from g (suc s) (suc k)) (others s (λ same. omega (arith, same, is)))
    ∙ ap (λ (vs : List Val). f s ∷ vs) (beyond_from f g (suc s) many k m v (omega (arith, is)) (omega arith) here others (λ n more. none n (omega (arith, more))))

-- a value that there is changes
pub listed_within : (f g : ℕ → Val) (many k : ℕ) (v : Val) → k < many → g k ≡ v → ((n : ℕ) → (n ≡ k → ⊥) → g n ≡ f n)
    → listed_from g 0 many ≡ put (listed_from f 0 many) k v
listed_within f g many k v inside here others = within_from f g 0 many k k v (omega arith) inside here others

-- one that isn't there comes behind them
pub listed_beyond : (f g : ℕ → Val) (many k : ℕ) (v : Val) → many ≤ k → g k ≡ v → ((n : ℕ) → (n ≡ k → ⊥) → g n ≡ f n)
    → ((n : ℕ) → many ≤ n → f n ≡ nothing) → listed_from g 0 (suc k) ≡ put (listed_from f 0 many) k v
listed_beyond f g many k v past here others none = beyond_from f g 0 many k k v (omega arith) past here others (λ n more. none n (omega (arith, more)))

-- ---- the values of an activation

pub kept_view : (leaves : List (List Val)) (many n : ℕ) (view : List Val) → listed many leaves ≡ view → ((k : ℕ) → many ≤ k → kept leaves k ≡ nothing) → kept leaves n ≡ named view n
kept_view leaves many n view is none = sym (named_listed (kept leaves) many n none) ∙ ap (λ (vs : List Val). named vs n) is

pub within_view : (old new : List (List Val)) (many n : ℕ) (v : Val) (view : List Val) → listed many old ≡ view → n < many → kept new n ≡ v
    → ((k : ℕ) → (k ≡ n → ⊥) → kept new k ≡ kept old k) → listed many new ≡ put view n v
within_view old new many n v view is inside here others = listed_within (kept old) (kept new) many n v inside here others ∙ ap (λ (vs : List Val). put vs n v) is

pub beyond_view : (old new : List (List Val)) (many n : ℕ) (v : Val) (view : List Val) → listed many old ≡ view → many ≤ n → kept new n ≡ v
    → ((k : ℕ) → (k ≡ n → ⊥) → kept new k ≡ kept old k) → ((k : ℕ) → many ≤ k → kept old k ≡ nothing) → listed (n + 1) new ≡ put view n v
beyond_view old new many n v view is past here others none =
    rw add-one (listed_beyond (kept old) (kept new) many n v past here others none ∙ ap (λ (vs : List Val). put vs n v) is)

pub none_within : (old new : List (List Val)) (many n : ℕ) → n < many → ((k : ℕ) → (k ≡ n → ⊥) → kept new k ≡ kept old k) → ((k : ℕ) → many ≤ k → kept old k ≡ nothing)
    → (k : ℕ) → many ≤ k → kept new k ≡ nothing
none_within old new many n inside others none k past = others k (λ same. omega (arith, inside, past, same)) ∙ none k past

pub none_beyond : (old new : List (List Val)) (many n : ℕ) → many ≤ n → ((k : ℕ) → (k ≡ n → ⊥) → kept new k ≡ kept old k) → ((k : ℕ) → many ≤ k → kept old k ≡ nothing)
    → (k : ℕ) → n + 1 ≤ k → kept new k ≡ nothing
none_beyond old new many n inside others none k past = others k (λ same. omega (arith, past, same)) ∙ none k (omega (arith, inside, past))
