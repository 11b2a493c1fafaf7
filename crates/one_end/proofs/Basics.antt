-- Paths, options, and lists that end as others do.
use Rattle.std.specs.Prelude.{◌⊎◌}
use mathlib.Core.Logic.{inl, inr}
use Rattle.std.proofs.Common.{◌≡◌, ◌≤◌, ℕ, Bool, true, false, cond, List, [], ◌∷◌, ◌++◌, length, Option, Some, None, refl, sym, ap, subst, ◌∙◌, arith}
use Rattle.std.proofs.lemmas.Slice.Eq.{bytes_eq-Decides}
use Rattle.std.proofs.lemmas.List.{length-append}
use Rattle.std.proofs.lemmas.Bool.{true≢false}
use Rattle.ir_forms.specs.Names.{Path, same_path}

-- ---- options

pub none≢some : {X : Type 0} (x : X) → None ≡ Some x → ⊥
none≢some {X} x e = subst IsNothing e tt where
  IsNothing : Option X → Type 0
  IsNothing None = Unit {0}
  IsNothing (Some y) = ⊥

pub some_inj : {X : Type 0} (x y : X) → Some x ≡ Some y → x ≡ y
some_inj x y e = cc

pub option_cases : {X : Type 0} (o : Option X) → (o ≡ None) ⊎ ((x : X) × (o ≡ Some x))
option_cases None = inl refl
option_cases (Some x) = inr (x, refl)

pub bool_cases : (b : Bool) → (b ≡ true) ⊎ (b ≡ false)
bool_cases true = inl refl
bool_cases false = inr refl

-- ---- paths

pub path_same : (a : Path) → same_path a a ≡ true
path_same a = (bytes_eq-Decides a a).1 refl

pub path_yes : (a b : Path) → same_path a b ≡ true → a ≡ b
path_yes a b e = (bytes_eq-Decides a b).0 e

pub path_no : (a b : Path) → (a ≡ b → ⊥) → same_path a b ≡ false
path_no a b h = split (same_path a b) refl where
  split : (t : Bool) → same_path a b ≡ t → t ≡ false
  split true e = absurd (h (path_yes a b e))
  split false e = refl

pub path_cases : (a b : Path) → (a ≡ b) ⊎ (a ≡ b → ⊥)
path_cases a b = split (same_path a b) refl where
  split : (t : Bool) → same_path a b ≡ t → (a ≡ b) ⊎ (a ≡ b → ⊥)
  split true e = inl (path_yes a b e)
  split false e = inr (λ s. true≢false (sym (subst (λ x. same_path a x ≡ true) s (path_same a)) ∙ e))

pub here : {X : Type 0} (a b : Path) (x y : X) → a ≡ b → cond (same_path a b) x y ≡ x
here {X} a b x y e = rw (← e) (ap (λ t. cond t x y) (path_same a))

pub there : {X : Type 0} (a b : Path) (x y : X) → (a ≡ b → ⊥) → cond (same_path a b) x y ≡ y
there {X} a b x y n = ap (λ t. cond t x y) (path_no a b n)

pub snoc_inj : (p q : Path) (a b : ℕ) → p ++ a ∷ [] ≡ q ++ b ∷ [] → (p ≡ q) × (a ≡ b)
snoc_inj [] [] a b e = (refl, cc)
snoc_inj [] (y ∷ []) a b e = cc
snoc_inj [] (y ∷ z ∷ q) a b e = cc
snoc_inj (x ∷ []) [] a b e = cc
snoc_inj (x ∷ z ∷ p) [] a b e = cc
snoc_inj (x ∷ p) (y ∷ q) a b e =
    let rest = snoc_inj p q a b (tails e) in (cc, rest.1)
  where
    tails : x ∷ (p ++ a ∷ []) ≡ y ∷ (q ++ b ∷ []) → p ++ a ∷ [] ≡ q ++ b ∷ []
    tails h = cc

pub snoc_not_nil : (p : Path) (a : ℕ) (b : Path) → [] ≡ p ++ a ∷ b → ⊥
snoc_not_nil [] a b e = cc
snoc_not_nil (x ∷ p) a b e = cc

pub two_snoc : (p : Path) (k i : ℕ) → p ++ k ∷ i ∷ [] ≡ (p ++ k ∷ []) ++ i ∷ []
two_snoc [] k i = refl
two_snoc (x ∷ p) k i = ap (λ t. x ∷ t) (two_snoc p k i)

-- ---- lists that end as others do

-- the second list ends as the first
abbrev pub Older : {X : Type 0} → List X → List X → Type 0
Older {X} xs ys = (more : List X) × (ys ≡ more ++ xs)

pub older_same_list : {X : Type 0} (xs : List X) → Older xs xs
older_same_list xs = ([], refl)

pub older_cons : {X : Type 0} (x : X) (xs ys : List X) → Older xs ys → Older xs (x ∷ ys)
older_cons x xs ys o = (x ∷ o.0, ap (λ t. x ∷ t) o.1)

pub append_assoc_lem : {X : Type 0} (xs ys zs : List X) → (xs ++ ys) ++ zs ≡ xs ++ (ys ++ zs)
append_assoc_lem [] ys zs = refl
append_assoc_lem (x ∷ xs) ys zs = ap (λ t. x ∷ t) (append_assoc_lem xs ys zs)

pub older_trans : {X : Type 0} (xs ys zs : List X) → Older xs ys → Older ys zs → Older xs zs
older_trans xs ys zs o p = (p.0 ++ o.0, p.1 ∙ (ap (λ t. p.0 ++ t) o.1 ∙ sym (append_assoc_lem p.0 o.0 xs)))

pub older_tail : {X : Type 0} (x : X) (xs ys : List X) → Older (x ∷ xs) ys → Older xs ys
older_tail x xs ys o = older_trans xs (x ∷ xs) ys (x ∷ [], refl) o

pub older_length : {X : Type 0} (xs ys : List X) → Older xs ys → length xs ≤ length ys
older_length xs ys o = omega (arith, ap length o.1, length-append o.0 xs)

within : {X : Type 0} (m n xs ys : List X) → m ++ xs ≡ n ++ ys → length xs ≤ length ys → Older xs ys
within m [] xs ys e l = (m, sym e)
within [] (z ∷ n) xs ys e l = absurd (omega (arith, ap length e, length-append (z ∷ n) ys))
within (y ∷ m) (z ∷ n) xs ys e l = within m n xs ys (cc) l

pub older_within : {X : Type 0} (xs ys zs : List X) → Older xs zs → Older ys zs → length xs ≤ length ys → Older xs ys
older_within xs ys zs o p l = within o.0 p.0 xs ys (sym o.1 ∙ p.1) l

pub older_equal : {X : Type 0} (xs ys : List X) → Older xs ys → length ys ≤ length xs → xs ≡ ys
older_equal {X} xs ys o l = split o.0 o.1 where
  split : (m : List X) → ys ≡ m ++ xs → xs ≡ ys
  split [] e = sym e
  split (z ∷ m) e = absurd (omega (arith, l, ap length e, length-append (z ∷ m) xs))

pub older_same : {X : Type 0} (xs ys zs : List X) → Older xs zs → Older ys zs → length xs ≡ length ys → xs ≡ ys
older_same xs ys zs o p e = older_equal xs ys (older_within xs ys zs o p (omega (arith, e))) (omega (arith, e))

pub next_after : {X : Type 0} (y : X) (m xs : List X) → (w : X) × Older (w ∷ xs) (y ∷ m ++ xs)
next_after y [] xs = (y, older_same_list (y ∷ xs))
next_after y (z ∷ m) xs =
    let rest = next_after z m xs in (rest.0, older_cons y (rest.0 ∷ xs) (z ∷ m ++ xs) rest.1)

pub head_inj : {X : Type 0} (x y : X) (xs ys : List X) → x ∷ xs ≡ y ∷ ys → x ≡ y
head_inj x y xs ys e = cc

pub tail_inj : {X : Type 0} (x y : X) (xs ys : List X) → x ∷ xs ≡ y ∷ ys → xs ≡ ys
tail_inj x y xs ys e = cc
