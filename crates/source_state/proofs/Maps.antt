-- A map whose keys stand for names, read by a name.
use Rattle.std.proofs.Common.{◌≡◌, Bool, true, false, cond, List, [], ◌∷◌, Some, refl, sym, ap, subst, ◌∙◌}
use Rattle.std.specs.declared.cmp.Ordering.{Ordering}
use Rattle.std.specs.Ordering.{is_eq}
use Rattle.std.specs.Map.{lookup, KeepsOthers}
use Rattle.std.specs.BTreeMap.{BTreeMap, is_at, UpdatesBy}

-- the test of a key for a name
abbrev pub at_name : {K N : Type 0} → (K → N) → (N → N → Bool) → N → K → Bool
at_name name same b k = same (name k) b

-- what a test and a name that are one find
pub looked : {K X : Type 0} (s t : K → Bool) (es : List (K × X)) → ((k : K) → s k ≡ t k) → lookup s es ≡ lookup t es
looked s t [] e = refl
looked s t (x ∷ es) e = ap (λ b. cond b (Some x.1) (lookup s es)) (e x.0) ∙ ap (λ o. cond (t x.0) (Some x.1) o) (looked s t es e)

module _ {K N : Type 0} (name : K → N) (same : N → N → Bool) (cmp : K → K → Ordering) (itself : (x : N) → same x x ≡ true) (exact : (x y : N) → same x y ≡ true → x ≡ y) (tie : (k q : K) → is_eq (cmp k q) ≡ same (name k) (name q)) where
  -- equality both ways round
  turned : (x y : N) → same x y ≡ same y x
  turned x y = split (same x y) refl (same y x) refl where
    split : (s : Bool) → same x y ≡ s → (t : Bool) → same y x ≡ t → same x y ≡ same y x
    split true e true f = e ∙ sym f
    split false e false f = e ∙ sym f
    split true e false f = subst (λ z. same x z ≡ same z x) (exact x y e) refl
    split false e true f = subst (λ z. same z y ≡ same y z) (exact y x f) refl

  pub query : (k : K) (b : N) → name k ≡ b → (q : K) → is_at (cmp k) q ≡ at_name name same b q
  query k b e q = tie k q ∙ (turned (name k) (name q) ∙ ap (λ c. same (name q) c) e)

  -- what is read after an update
  pub updated : {X : Type 0} (m n : BTreeMap K X) (k : K) (v : X) → UpdatesBy cmp (cmp k) m n (Some v) → (b : N) →
      lookup (at_name name same b) n.entries ≡ cond (same (name k) b) (Some v) (lookup (at_name name same b) m.entries)
  unfolding KeepsOthers
  updated {X} m n k v u b = split (same (name k) b) refl where
    split : (t : Bool) → same (name k) b ≡ t → lookup (at_name name same b) n.entries ≡ cond t (Some v) (lookup (at_name name same b) m.entries)
    split true e = looked (at_name name same b) (is_at (cmp k)) n.entries (λ q. sym (query k b (exact (name k) b e) q)) ∙ u.1
    split false e = u.3 (at_name name same b)
        (λ x y h. ap (λ c. same (name y) c) (sym (exact (name x) b h)) ∙ (turned (name y) (name x) ∙ sym (tie x y)))
        (λ q h. ap (λ c. same c b) (sym (exact (name k) (name q) (sym (tie k q) ∙ h))) ∙ e)
