-- A table is its numbers by lists.
use Rattle.std.proofs.Common.{◌≡◌, ℕ, Bool, true, false, cond, List, [], ◌∷◌, Option, Some, None, Vec, Ordering, Less, Equal, Greater, refl, sym, ap, ◌∙◌}
use Rattle.std.proofs.lemmas.Bool.{true≢false}
use Rattle.std.specs.Option.{unwrap_or}
use Rattle.std.specs.Ordering.{is_eq, nat_cmp, match_ordering}
use Rattle.std.specs.Cmp.Lexicographic.{slice_cmp}
use Rattle.std.specs.Map.{lookup}
use Rattle.std.specs.BTreeMap.{insert_entry}
use Rattle.std.specs.Str.{bytes_eq}
use Rattle.std.proofs.lemmas.Map.Text.{is_eq-slice_cmp}
use Rattle.std.proofs.lemmas.Cmp.{nat_list_eq_equiv}
use Rattle.race_order.specs.Table.{number_at}

-- a look-up by another form of the same test
same_lookup : {K X : Type 0} (f g : K → Bool) → ((k : K) → f k ≡ g k) → (es : List (K × X)) → lookup f es ≡ lookup g es
same_lookup f g h [] = refl
same_lookup f g h (e ∷ es) = both (f e.0) (g e.0) (h e.0) (same_lookup f g h es) where
  both : (a b : Bool) → a ≡ b → lookup f es ≡ lookup g es → cond a (Some e.1) (lookup f es) ≡ cond b (Some e.1) (lookup g es)
  both a b s r = ap (λ t. cond t (Some e.1) (lookup f es)) s ∙ ap (λ o. cond b (Some e.1) o) r

pub looks_up : {A : Type 0} (es : List (Vec ℕ A × ℕ)) (key : List ℕ) → unwrap_or (lookup (λ (k : Vec ℕ A). is_eq (slice_cmp nat_cmp key k.items)) es) 0 ≡ number_at es key
looks_up {A} es key = ap (λ o. unwrap_or o 0) (same_lookup (λ (k : Vec ℕ A). is_eq (slice_cmp nat_cmp key k.items)) (λ (k : Vec ℕ A). bytes_eq key k.items) (λ k. is_eq-slice_cmp key k.items) es)

-- which lists are the same decides what the look-up of another finds
apart : (key e other : List ℕ) → bytes_eq key e ≡ false → bytes_eq other e ≡ true → bytes_eq key other ≡ false
apart key e other n y = nat_list_eq_equiv.symm key other ∙ (nat_list_eq_equiv.congr other e key y ∙ (nat_list_eq_equiv.symm e key ∙ n))

pick : (t : Bool) (n : ℕ) (o : Option ℕ) → unwrap_or (cond t (Some n) o) 0 ≡ cond t n (unwrap_or o 0)
pick true n o = refl
pick false n o = refl

hidden : (t : Bool) (n m : ℕ) (o : Option ℕ) → cond t n (unwrap_or (cond t (Some m) o) 0) ≡ cond t n (unwrap_or o 0)
hidden true n m o = refl
hidden false n m o = refl

exchange : (a b : Bool) (x y z : ℕ) → (a ≡ true → b ≡ false) → cond a x (cond b y z) ≡ cond b y (cond a x z)
exchange true true x y z h = absurd (true≢false (h refl))
exchange true false x y z h = refl
exchange false b x y z h = refl

insert_step : {A : Type 0} (o : Ordering) (e : Vec ℕ A × ℕ) (es more : List (Vec ℕ A × ℕ)) (key : Vec ℕ A) (number : ℕ) (other : List ℕ) → bytes_eq key.items e.0.items ≡ is_eq o → number_at more other ≡ cond (bytes_eq key.items other) number (number_at es other) → number_at (match_ordering o ((key, number) ∷ e ∷ es) ((e.0, number) ∷ es) (e ∷ more)) other ≡ cond (bytes_eq key.items other) number (number_at (e ∷ es) other)
insert_step {A} Less e es more key number other same rest =
    ap (λ t. unwrap_or (cond t (Some number) (lookup (λ (k : Vec ℕ A). bytes_eq other k.items) (e ∷ es))) 0) (nat_list_eq_equiv.symm other key.items)
    ∙ pick (bytes_eq key.items other) number (lookup (λ (k : Vec ℕ A). bytes_eq other k.items) (e ∷ es))
insert_step {A} Equal e es more key number other same rest =
    ap (λ t. unwrap_or (cond t (Some number) (lookup (λ (k : Vec ℕ A). bytes_eq other k.items) es)) 0) q
    ∙ (pick (bytes_eq key.items other) number (lookup (λ (k : Vec ℕ A). bytes_eq other k.items) es)
    ∙ (sym (hidden (bytes_eq key.items other) number e.1 (lookup (λ (k : Vec ℕ A). bytes_eq other k.items) es))
    ∙ ap (λ t. cond (bytes_eq key.items other) number (unwrap_or (cond t (Some e.1) (lookup (λ (k : Vec ℕ A). bytes_eq other k.items) es)) 0)) (sym q))) where
      q : bytes_eq other e.0.items ≡ bytes_eq key.items other
      q = nat_list_eq_equiv.symm other e.0.items ∙ sym (nat_list_eq_equiv.congr key.items e.0.items other same)
insert_step {A} Greater e es more key number other same rest =
    pick (bytes_eq other e.0.items) e.1 (lookup (λ (k : Vec ℕ A). bytes_eq other k.items) more)
    ∙ (ap (λ n. cond (bytes_eq other e.0.items) e.1 n) rest
    ∙ (exchange (bytes_eq other e.0.items) (bytes_eq key.items other) e.1 number (number_at es other) (apart key.items e.0.items other same)
    ∙ ap (λ n. cond (bytes_eq key.items other) number n) (sym (pick (bytes_eq other e.0.items) e.1 (lookup (λ (k : Vec ℕ A). bytes_eq other k.items) es)))))

pub inserts : {A : Type 0} (es : List (Vec ℕ A × ℕ)) (key : Vec ℕ A) (number : ℕ) (other : List ℕ) → number_at (insert_entry (λ (x y : Vec ℕ A). slice_cmp nat_cmp x.items y.items) es key number) other ≡ cond (bytes_eq key.items other) number (number_at es other)
inserts {A} [] key number other = ap (λ t. unwrap_or (cond t (Some number) None) 0) (nat_list_eq_equiv.symm other key.items) ∙ pick (bytes_eq key.items other) number None
inserts {A} (e ∷ es) key number other =
    insert_step (slice_cmp nat_cmp key.items e.0.items) e es (insert_entry (λ (x y : Vec ℕ A). slice_cmp nat_cmp x.items y.items) es key number) key number other
    (sym (is_eq-slice_cmp key.items e.0.items)) (inserts es key number other)
