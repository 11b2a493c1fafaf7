-- Paths that begin with another, and the tasks that an action makes.
use Rattle.std.proofs.Common.{◌≡◌, ◌<◌, ℕ, ◌+◌, Bool, true, false, cond, List, [], ◌∷◌, ◌++◌, length, Some, None, refl, sym, ap, ◌∙◌, subst, arith}
use Rattle.std.proofs.lemmas.List.{length-append}
use Rattle.ir_forms.specs.declared.types.Ty.{Ty}
use Rattle.ir_forms.specs.Names.{Path, same_path}
use Rattle.carry_laws.proofs.Basics.{none≢some, path_same, path_yes}
use Rattle.typed_laws.specs.Typed.{Typing}
use Rattle.typed_laws.proofs.Types.{Later}

-- where two paths go on from one
pub data Fork (a b : Path) (i k : ℕ) : Type 0 where
  same : a ≡ b → i ≡ k → Fork a b i k
  above : (z : Path) → a ≡ b ++ k ∷ z → Fork a b i k
  below : (z : Path) → b ≡ a ++ i ∷ z → Fork a b i k

heads : (x y : ℕ) (xs ys : Path) → x ∷ xs ≡ y ∷ ys → x ≡ y
heads x y xs ys e = cc

tails : (x y : ℕ) (xs ys : Path) → x ∷ xs ≡ y ∷ ys → xs ≡ ys
tails x y xs ys e = cc

pub fork : (a b : Path) (i k : ℕ) (x y : Path) → a ++ i ∷ x ≡ b ++ k ∷ y → Fork a b i k
fork [] [] i k x y e = same refl (heads i k x y e)
fork [] (b ∷ bs) i k x y e = below bs (ap (λ h. h ∷ bs) (sym (heads i b x (bs ++ k ∷ y) e)))
fork (a ∷ as') [] i k x y e = above as' (ap (λ h. h ∷ as') (heads a k (as' ++ i ∷ x) y e))
fork (a ∷ as') (b ∷ bs) i k x y e = grown (heads a b (as' ++ i ∷ x) (bs ++ k ∷ y) e) (fork as' bs i k x y (tails a b (as' ++ i ∷ x) (bs ++ k ∷ y) e)) where
  grown : a ≡ b → Fork as' bs i k → Fork (a ∷ as') (b ∷ bs) i k
  grown f (same g j) = same (ap (λ h. h ∷ as') f ∙ ap (λ t. b ∷ t) g) j
  grown f (above z g) = above z (ap (λ h. h ∷ as') f ∙ ap (λ t. b ∷ t) g)
  grown f (below z g) = below z (ap (λ h. h ∷ bs) (sym f) ∙ ap (λ t. a ∷ t) g)

-- ---- what is said of new tasks

-- nothing is known of what a task makes by its later actions
unfoldable pub NoneBelow : Typing → Path → ℕ → Type 0
NoneBelow typing q taken = (i : ℕ) (more : Path) → taken < i → typing (q ++ i ∷ more) ≡ None

pub none_below : (typing : Typing) (q : Path) (taken : ℕ) → NoneBelow typing q taken → (i : ℕ) (more : Path) → taken < i → typing (q ++ i ∷ more) ≡ None
unfolding NoneBelow
none_below typing q taken h = h

pub none_since : (typing : Typing) (q : Path) (taken : ℕ) → NoneBelow typing q taken → NoneBelow typing q (taken + 1)
unfolding NoneBelow
none_since typing q taken h i more less = h i more (omega (arith, less))

-- paths of this length behind action k of the task
pub record Made (q : Path) (k size : ℕ) (r : Path) : Type 0 where
  pub tail : Path
  pub is : r ≡ q ++ k ∷ tail
  pub long : length tail ≡ size

module _ (typing : Typing) (q : Path) (taken size : ℕ) (is_new : Path → Bool) (types : List Ty) (own : List Ty) (known : typing q ≡ Some own) (none : NoneBelow typing q taken) (made : (r : Path) → is_new r ≡ true → Made q (taken + 1) size r) where
  -- with these types for the new tasks
  abbrev pub told : Typing
  told r = cond (is_new r) (Some types) (typing r)

  new_none : (r : Path) → is_new r ≡ true → typing r ≡ None
  unfolding NoneBelow
  new_none r e = let m = made r e in ap typing m.is ∙ none (taken + 1) m.tail (omega arith)

  pub told_later : Later typing told
  unfolding Later
  told_later r ts e = split (is_new r) refl where
    split : (b : Bool) → is_new r ≡ b → cond b (Some types) (typing r) ≡ Some ts
    split true is = absurd (none≢some ts (sym (new_none r is) ∙ e))
    split false is = e

  pub told_new : (r : Path) → is_new r ≡ true → told r ≡ Some types
  told_new r e = ap (λ b. cond b (Some types) (typing r)) e

  told_none : (r : Path) → is_new r ≡ false → typing r ≡ None → told r ≡ None
  told_none r e f = ap (λ b. cond b (Some types) (typing r)) e ∙ f

  not_new : (r : Path) → (is_new r ≡ true → ⊥) → is_new r ≡ false
  not_new r n = split (is_new r) refl where
    split : (b : Bool) → is_new r ≡ b → b ≡ false
    split true is = absurd (n is)
    split false is = refl

  -- nothing is known below another task
  pub others_none : (m : Path) (count : ℕ) (ts : List Ty) → (m ≡ q → ⊥) → typing m ≡ Some ts → NoneBelow typing m count → NoneBelow told m count
  unfolding NoneBelow
  others_none m count ts other is h i more less =
      told_none (m ++ i ∷ more) (not_new (m ++ i ∷ more) (λ e. (let n = made (m ++ i ∷ more) e in clash (fork m q i (taken + 1) more n.tail n.is)))) (h i more less)
    where
      clash : Fork m q i (taken + 1) → ⊥
      clash (same e f) = other e
      clash (above z e) = none≢some ts (sym (ap typing e ∙ none (taken + 1) z (omega arith)) ∙ is)
      clash (below z e) = none≢some own (sym (ap typing e ∙ h i z less) ∙ known)

  -- nor below the one that acted
  pub actor_none : NoneBelow told q (taken + 1)
  unfolding NoneBelow
  actor_none i more less =
      told_none (q ++ i ∷ more) (not_new (q ++ i ∷ more) (λ e. (let n = made (q ++ i ∷ more) e in clash (fork q q i (taken + 1) more n.tail n.is)))) (none i more (omega (arith, less)))
    where
      longer : (z : Path) (j : ℕ) → q ≡ q ++ j ∷ z → ⊥
      longer z j e = absurd (omega (arith, ap length e, length-append q (j ∷ z)))

      clash : Fork q q i (taken + 1) → ⊥
      clash (same e f) = absurd (omega (arith, f, less))
      clash (above z e) = longer z (taken + 1) e
      clash (below z e) = longer z i e

  -- nor below a new one
  pub new_below : (r : Path) → Made q (taken + 1) size r → NoneBelow told r 0
  unfolding NoneBelow
  new_below r m i more less =
      let at : r ++ i ∷ more ≡ q ++ (taken + 1) ∷ (m.tail ++ i ∷ more) = ap (λ x. x ++ i ∷ more) m.is ∙ append_assoc_path q (taken + 1) m.tail (i ∷ more) in
      told_none (r ++ i ∷ more) (not_new (r ++ i ∷ more) (λ e. (let n = made (r ++ i ∷ more) e in
      (let a = ap length (sym n.is) in
      let b = length-append r (i ∷ more) in
      let c = length-append q ((taken + 1) ∷ n.tail) in
      let d = ap length m.is in
      let f = length-append q ((taken + 1) ∷ m.tail) in
      absurd (omega (arith, a, b, c, d, f, n.long, m.long))))))
      (ap typing at ∙ none (taken + 1) (m.tail ++ i ∷ more) (omega arith))
    where
      append_assoc_path : (a : Path) (j : ℕ) (b c : Path) → (a ++ j ∷ b) ++ c ≡ a ++ j ∷ (b ++ c)
      append_assoc_path [] j b c = refl
      append_assoc_path (x ∷ a) j b c = ap (λ t. x ∷ t) (append_assoc_path a j b c)

-- ---- iterations

-- the last number
pub last_of : Path → ℕ
last_of [] = 0
last_of (x ∷ []) = x
last_of (x ∷ y ∷ r) = last_of (y ∷ r)

last_behind : (q : Path) (x i : ℕ) → last_of (q ++ x ∷ i ∷ []) ≡ i
unfolding last_of
last_behind [] x i = refl
last_behind (a ∷ []) x i = refl
last_behind (a ∷ b ∷ q) x i = last_behind (b ∷ q) x i

abbrev pub is_iteration : Path → ℕ → Path → Bool
is_iteration q k r = same_path (q ++ k ∷ last_of r ∷ []) r

pub iteration_made : (q : Path) (k : ℕ) (r : Path) → is_iteration q k r ≡ true → Made q k 1 r
iteration_made q k r e = record { tail = last_of r ∷ []; is = sym (path_yes (q ++ k ∷ last_of r ∷ []) r e); long = refl }

pub iteration_is : (q : Path) (k i : ℕ) → is_iteration q k (q ++ k ∷ i ∷ []) ≡ true
iteration_is q k i = subst (λ j. same_path (q ++ k ∷ j ∷ []) (q ++ k ∷ i ∷ []) ≡ true) (sym (last_behind q k i)) (path_same (q ++ k ∷ i ∷ []))

pub launch_made : (q : Path) (k : ℕ) (r : Path) → same_path (q ++ k ∷ []) r ≡ true → Made q k 0 r
launch_made q k r e = record { tail = []; is = sym (path_yes (q ++ k ∷ []) r e); long = refl }
