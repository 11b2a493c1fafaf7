-- Lists by number: what they read after a change at one number.
use Rattle.std.proofs.Common.{◌≡◌, ℕ, zero, suc, ◌+◌, ◌<◌, ◌==◌, Bool, true, false, cond, List, [], ◌∷◌, ◌++◌, length, Option, Some, None, Result, Ok, Err, OnErr, slice_get, slice_set, refl, sym, ap, subst, ◌∙◌, arith, add-one, length-append, ⊎_elim}
use Rattle.std.proofs.lemmas.Bool.Decides.{eqb_tells}
use Rattle.async_objects.specs.Slots.{listed}

pub by_eq : (x y : ℕ) (P : Bool → Type 0) → (x ≡ y → P true) → ((x ≡ y → ⊥) → P false) → P (x == y)
by_eq x y P same other = ⊎_elim (λ t. subst P (sym t.0) (same t.1)) (λ f. subst P (sym f.0) (other f.1)) (eqb_tells x y)

pub some_is : {X : Type 0} (x y : X) → Some x ≡ Some y → x ≡ y
some_is {X} x y e = ap (or x) e where
  or : X → Option X → X
  or d None = d
  or d (Some z) = z

pub set_none : {X : Type 0} (i : ℕ) (x : X) → slice_set [] i x ≡ []
set_none zero x = refl
set_none (suc i) x = refl

pub set_front : {X : Type 0} (xs ys : List X) (i : ℕ) (x : X) → i < length xs → slice_set (xs ++ ys) i x ≡ slice_set xs i x ++ ys
set_front [] ys i x h = absurd (omega (arith, h))
set_front (y ∷ xs) ys zero x h = refl
set_front (y ∷ xs) ys (suc i) x h = ap (λ zs. y ∷ zs) (set_front xs ys i x (omega (arith, h)))

pub set_end : {X : Type 0} (xs : List X) (x y : X) → slice_set (xs ++ x ∷ []) (length xs) y ≡ xs ++ y ∷ []
set_end [] x y = refl
set_end (z ∷ xs) x y = ap (λ zs. z ∷ zs) (set_end xs x y)

pub get_front : {X : Type 0} (xs ys : List X) (i : ℕ) → i < length xs → slice_get (xs ++ ys) i ≡ slice_get xs i
get_front [] ys i h = absurd (omega (arith, h))
get_front (x ∷ xs) ys zero h = refl
get_front (x ∷ xs) ys (suc i) h = get_front xs ys i (omega (arith, h))

pub get_end : {X : Type 0} (xs : List X) (x : X) → slice_get (xs ++ x ∷ []) (length xs) ≡ Some x
get_end [] x = refl
get_end (z ∷ xs) x = get_end xs x

-- ---- the first values of a function

pub listed_length : {X : Type 0} (n : ℕ) (f : ℕ → X) → length (listed n f) ≡ n
listed_length zero f = refl
listed_length (suc n) f = length-append (listed n f) (f n ∷ []) ∙ (ap (λ k. k + 1) (listed_length n f) ∙ add-one n)

pub listed_same : {X : Type 0} (n : ℕ) (f g : ℕ → X) → ((i : ℕ) → i < n → f i ≡ g i) → listed n f ≡ listed n g
listed_same zero f g h = refl
listed_same (suc n) f g h = λ i. listed_same n f g (λ j l. h j (omega (arith, l))) i ++ h n (omega arith) i ∷ []

pub listed_get : {X : Type 0} (n : ℕ) (f : ℕ → X) (i : ℕ) → i < n → slice_get (listed n f) i ≡ Some (f i)
listed_get zero f i h = absurd (omega (arith, h))
listed_get (suc n) f i h = by_eq i n (λ b. slice_get (listed n f ++ f n ∷ []) i ≡ Some (f i))
    (λ e. subst (λ k. slice_get (listed n f ++ f n ∷ []) k ≡ Some (f k)) (sym e) (subst (λ k. slice_get (listed n f ++ f n ∷ []) k ≡ Some (f n)) (listed_length n f) (get_end (listed n f) (f n))))
    (λ d. let l : i < n = grind (arith, d, h) in get_front (listed n f) (f n ∷ []) i (rw (listed_length n f) l) ∙ listed_get n f i l)

-- a value is put at a number
pub listed_set : {X : Type 0} (n i : ℕ) (f : ℕ → X) (x : X) → i < n → slice_set (listed n f) i x ≡ listed n (λ j. cond (i == j) x (f j))
listed_set zero i f x h = absurd (omega (arith, h))
listed_set (suc n) i f x h = by_eq i n (λ b. slice_set (listed n f ++ f n ∷ []) i x ≡ listed n (λ j. cond (i == j) x (f j)) ++ cond b x (f n) ∷ [])
    (λ e. subst (λ k. slice_set (listed n f ++ f n ∷ []) k x ≡ listed n (λ j. cond (k == j) x (f j)) ++ x ∷ []) (sym e)
    (subst (λ k. slice_set (listed n f ++ f n ∷ []) k x ≡ listed n f ++ x ∷ []) (listed_length n f) (set_end (listed n f) (f n) x)
    ∙ ap (λ zs. zs ++ x ∷ []) (listed_same n f (λ j. cond (n == j) x (f j)) (λ j l. by_eq n j (λ b. f j ≡ cond b x (f j)) (λ s. absurd (omega (arith, l, s))) (λ _. refl)))))
    (λ d. let l : i < n = grind (arith, d, h) in set_front (listed n f) (f n ∷ []) i x (rw (listed_length n f) l) ∙ ap (λ zs. zs ++ f n ∷ []) (listed_set n i f x l))

-- one more value
pub listed_more : {X : Type 0} (n : ℕ) (f g : ℕ → X) (x : X) → ((i : ℕ) → i < n → f i ≡ g i) → f n ≡ x → listed (n + 1) f ≡ listed n g ++ x ∷ []
listed_more n f g x same e = rw add-one (λ i. listed_same n f g same i ++ e i ∷ [])

pub err_always : {T E P : Type 0} (r : Result T E) → P → OnErr r P
err_always (Ok x) p = tt
err_always (Err e) p = p
