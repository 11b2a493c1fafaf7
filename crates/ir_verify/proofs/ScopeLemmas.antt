-- Look-ups in a list of values by the place of the first definition.
use Rattle.std.proofs.Common.{◌≡◌, ◌⊎◌, inl, inr, ℕ, zero, suc, ◌<◌, ◌==◌, cond, Bool, true, false, List, [], ◌∷◌, ◌++◌, map, length, take, Option, Some, None, refl, sym, ap, ◌∙◌, arith}
use Rattle.std.specs.Prelude.{slice_get, slice_set}
use Rattle.std.proofs.lemmas.Bool.Decides.{nat_tests}
use Rattle.std.specs.Option.{option_map, is_some}
use Rattle.ir_forms.specs.declared.ops.ValueNo.{ValueNo}
use Rattle.ir_verify.specs.Scopes.{lookup, first_at, Indexes}

-- the number at the place of a first definition is looked up as what stands there
pub lookup_first : {X : Type 0} → (es : List (ValueNo × X)) (v q : ℕ) (x : ValueNo × X) → first_at es v ≡ Some q → slice_get es q ≡ Some x → lookup es v ≡ Some x.1
lookup_first [] v q x is at = cc
lookup_first {X} (e ∷ es) v q x is at = step (e.0.0 == v) q is at (λ n was found. lookup_first es v n x was found)
  where
    Again : Type 0
    Again = (n : ℕ) → first_at es v ≡ Some n → slice_get es n ≡ Some x → lookup es v ≡ Some x.1

    deeper : (r : Option ℕ) (n : ℕ) → first_at es v ≡ r → option_map suc r ≡ Some n → slice_get (e ∷ es) n ≡ Some x → Again → lookup es v ≡ Some x.1
    deeper None n was is at again = cc
    deeper (Some r) zero was is at again = cc
    deeper (Some r) (suc n) was is at again = let same : r ≡ n = cc in again n (was ∙ ap (λ k. Some k) same) at

    step : (b : Bool) (n : ℕ) → cond b (Some 0) (option_map suc (first_at es v)) ≡ Some n → slice_get (e ∷ es) n ≡ Some x → Again → cond b (Some e.1) (lookup es v) ≡ Some x.1
    step true zero is at again = cc
    step true (suc n) is at again = cc
    step false n is at again = deeper (first_at es v) n refl is at again

-- a number that stands somewhere has a first definition
pub first_of : {X : Type 0} → (es : List (ValueNo × X)) (v p : ℕ) (x : ValueNo × X) → slice_get es p ≡ Some x → (x.0.0 == v) ≡ true → (q : ℕ) × (first_at es v ≡ Some q)
first_of [] v p x at same = cc
first_of {X} (e ∷ es) v p x at same = step (e.0.0 == v) p refl at (λ n found. first_of es v n x found same)
  where
    step : (b : Bool) (n : ℕ) → (e.0.0 == v) ≡ b → slice_get (e ∷ es) n ≡ Some x → ((n : ℕ) → slice_get es n ≡ Some x → (q : ℕ) × (first_at es v ≡ Some q)) → (q : ℕ) × (cond b (Some 0) (option_map suc (first_at es v)) ≡ Some q)
    step true n is at again = (0, refl)
    step false zero is at again = let one : e ≡ x = cc in cc
    step false (suc n) is at again = let found : (q : ℕ) × (first_at es v ≡ Some q) = again n at in (suc found.0, ap (option_map suc) found.1)

-- what stands at a number's slot, if it has that number
pub looked_up : {X : Type 0} → (es : List (ValueNo × X)) (slots : List ℕ) (v p : ℕ) (x : ValueNo × X) →
    Indexes es slots → slice_get slots v ≡ Some p → slice_get es p ≡ Some x → (x.0.0 == v) ≡ true → lookup es v ≡ Some x.1
looked_up es slots v p x indexed slot at same =
    let found : (q : ℕ) × (first_at es v ≡ Some q) = first_of es v p x at same in
    let is : slice_get slots v ≡ Some found.0 = indexed v found.0 found.1 in
    let equal : found.0 ≡ p = cc in
    lookup_first es v p x (found.1 ∙ ap (λ k. Some k) equal) at

-- where the first definition stands, something stands
pub first_within : {X : Type 0} → (es : List (ValueNo × X)) (v q : ℕ) → first_at es v ≡ Some q → (x : ValueNo × X) × (slice_get es q ≡ Some x) × ((x.0.0 == v) ≡ true)
first_within [] v q is = cc
first_within {X} (e ∷ es) v q is = step (e.0.0 == v) q refl is (λ n was. first_within es v n was)
  where
    Again : Type 0
    Again = (n : ℕ) → first_at es v ≡ Some n → (x : ValueNo × X) × (slice_get es n ≡ Some x) × ((x.0.0 == v) ≡ true)

    deeper : (r : Option ℕ) (n : ℕ) → first_at es v ≡ r → option_map suc r ≡ Some n → Again → (x : ValueNo × X) × (slice_get (e ∷ es) n ≡ Some x) × ((x.0.0 == v) ≡ true)
    deeper None n was is again = cc
    deeper (Some r) zero was is again = cc
    deeper (Some r) (suc n) was is again = let same : r ≡ n = cc in again n (was ∙ ap (λ k. Some k) same)

    step : (b : Bool) (n : ℕ) → (e.0.0 == v) ≡ b → cond b (Some 0) (option_map suc (first_at es v)) ≡ Some n → Again → (x : ValueNo × X) × (slice_get (e ∷ es) n ≡ Some x) × ((x.0.0 == v) ≡ true)
    step true zero b is again = (e, refl, b)
    step true (suc n) b is again = cc
    step false n b is again = deeper (first_at es v) n refl is again

pub lookup_none : {X : Type 0} → (es : List (ValueNo × X)) (v : ℕ) → first_at es v ≡ None → lookup es v ≡ None
lookup_none [] v is = refl
lookup_none {X} (e ∷ es) v is = step (e.0.0 == v) is (lookup_none es v)
  where
    deeper : (r : Option ℕ) → first_at es v ≡ r → option_map suc r ≡ None → (first_at es v ≡ None → lookup es v ≡ None) → lookup es v ≡ None
    deeper None was is again = again was
    deeper (Some r) was is again = cc

    step : (b : Bool) → cond b (Some 0) (option_map suc (first_at es v)) ≡ None → (first_at es v ≡ None → lookup es v ≡ None) → cond b (Some e.1) (lookup es v) ≡ None
    step true is again = cc
    step false is again = deeper (first_at es v) refl is again

-- a number is not looked up where its slot is missing, leads nowhere, or leads to another number
pub missing_slot : {X : Type 0} → (es : List (ValueNo × X)) (slots : List ℕ) (v : ℕ) → Indexes es slots → slice_get slots v ≡ None → lookup es v ≡ None
missing_slot {X} es slots v indexed slot = step (first_at es v) refl
  where
    step : (r : Option ℕ) → first_at es v ≡ r → lookup es v ≡ None
    step None is = lookup_none es v is
    step (Some q) is = let at : slice_get slots v ≡ Some q = indexed v q is in cc

pub missing_entry : {X : Type 0} → (es : List (ValueNo × X)) (slots : List ℕ) (v p : ℕ) → Indexes es slots → slice_get slots v ≡ Some p → slice_get es p ≡ None → lookup es v ≡ None
missing_entry {X} es slots v p indexed slot none = step (first_at es v) refl
  where
    step : (r : Option ℕ) → first_at es v ≡ r → lookup es v ≡ None
    step None is = lookup_none es v is
    step (Some q) is =
        let at : slice_get slots v ≡ Some q = indexed v q is in
        let there : (x : ValueNo × X) × (slice_get es q ≡ Some x) × ((x.0.0 == v) ≡ true) = first_within es v q is in
        let same : p ≡ q = cc in
        let e : slice_get es q ≡ Some there.0 = there.1 in
        cc

pub other_entry : {X : Type 0} → (es : List (ValueNo × X)) (slots : List ℕ) (v p : ℕ) (x : ValueNo × X) →
    Indexes es slots → slice_get slots v ≡ Some p → slice_get es p ≡ Some x → (x.0.0 == v) ≡ false → lookup es v ≡ None
other_entry {X} es slots v p x indexed slot at differs = step (first_at es v) refl
  where
    step : (r : Option ℕ) → first_at es v ≡ r → lookup es v ≡ None
    step None is = lookup_none es v is
    step (Some q) is =
        let found : slice_get slots v ≡ Some q = indexed v q is in
        let there : (x : ValueNo × X) × (slice_get es q ≡ Some x) × ((x.0.0 == v) ≡ true) = first_within es v q is in
        let same : p ≡ q = cc in
        let e : slice_get es q ≡ Some there.0 = there.1 in
        let true_is : (there.0.0.0 == v) ≡ true = there.2 in
        let one : there.0 ≡ x = cc in
        cc

pub lookup-map : {X Y : Type 0} → (f : X → Y) (es : List (ValueNo × X)) (v : ℕ) → lookup (map (λ e. (e.0, f e.1)) es) v ≡ option_map f (lookup es v)
lookup-map f [] v = refl
lookup-map {X} {Y} f (e ∷ es) v = step (e.0.0 == v) (lookup-map f es v)
  where
    step : (b : Bool) → lookup (map (λ e. (e.0, f e.1)) es) v ≡ option_map f (lookup es v) → cond b (Some (f e.1)) (lookup (map (λ e. (e.0, f e.1)) es) v) ≡ option_map f (cond b (Some e.1) (lookup es v))
    step true again = refl
    step false again = again

-- a shorter list has no first definition that the longer one has not
pub first_taken : {X : Type 0} → (n : ℕ) (es : List (ValueNo × X)) (v q : ℕ) → first_at (take n es) v ≡ Some q → first_at es v ≡ Some q
first_taken zero es v q is = cc
first_taken (suc n) [] v q is = cc
first_taken {X} (suc n) (e ∷ es) v q is = step (e.0.0 == v) q is (λ r was. first_taken n es v r was)
  where
    Again : Type 0
    Again = (r : ℕ) → first_at (take n es) v ≡ Some r → first_at es v ≡ Some r

    deeper : (r : Option ℕ) (m : ℕ) → first_at (take n es) v ≡ r → option_map suc r ≡ Some m → Again → option_map suc (first_at es v) ≡ Some m
    deeper None m was is again = cc
    deeper (Some r) m was is again = ap (option_map suc) (again r was) ∙ is

    step : (b : Bool) (m : ℕ) → cond b (Some 0) (option_map suc (first_at (take n es) v)) ≡ Some m → Again → cond b (Some 0) (option_map suc (first_at es v)) ≡ Some m
    step true m is again = is
    step false m is again = deeper (first_at (take n es) v) m refl is again

pub shortened : {X : Type 0} → (n : ℕ) (es : List (ValueNo × X)) (slots : List ℕ) → Indexes es slots → Indexes (take n es) slots
shortened n es slots indexed = λ v p is. indexed v p (first_taken n es v p is)

-- the same of a list of references, read as the types that they lead to
module _ {X Y : Type 0} (f : X → Y) where
  pub seen_found : (es : List (ValueNo × X)) (slots : List ℕ) (v p : ℕ) (x : ValueNo × X) →
      Indexes es slots → slice_get slots v ≡ Some p → slice_get es p ≡ Some x → (x.0.0 == v) ≡ true → lookup (map (λ e. (e.0, f e.1)) es) v ≡ Some (f x.1)
  seen_found es slots v p x indexed slot at same = lookup-map f es v ∙ ap (option_map f) (looked_up es slots v p x indexed slot at same)

  pub seen_none : (es : List (ValueNo × X)) (v : ℕ) → lookup es v ≡ None → lookup (map (λ e. (e.0, f e.1)) es) v ≡ None
  seen_none es v none = lookup-map f es v ∙ ap (option_map f) none

pub differs : (a b : ℕ) → (a ≡ b → ⊥) → (a == b) ≡ false
differs a b apart = grind (arith, nat_tests)

pub numbered : (a b : ℕ) → (a == b) ≡ true → a ≡ b
numbered a b same = grind (arith, nat_tests)

-- ---- one more value

-- a definition at the end is found where no earlier one is
pub first_added : {X : Type 0} → (es : List (ValueNo × X)) (e : ValueNo × X) (v q : ℕ) → first_at (es ++ e ∷ []) v ≡ Some q →
    (first_at es v ≡ Some q) ⊎ ((first_at es v ≡ None) × (q ≡ length es) × ((e.0.0 == v) ≡ true))
first_added [] e v q is = step (e.0.0 == v) refl is
  where
    nothing : Option ℕ
    nothing = None

    step : (b : Bool) → (e.0.0 == v) ≡ b → cond b (Some 0) nothing ≡ Some q → (nothing ≡ Some q) ⊎ ((nothing ≡ None) × (q ≡ 0) × ((e.0.0 == v) ≡ true))
    step true b is = inr (refl, cc, b)
    step false b is = cc
first_added {X} (d ∷ es) e v q is = step (d.0.0 == v) q is (λ r was. first_added es e v r was)
  where
    Result : Option ℕ → ℕ → ℕ → Type 0
    Result found n len = (found ≡ Some n) ⊎ ((found ≡ None) × (n ≡ len) × ((e.0.0 == v) ≡ true))

    Again : Type 0
    Again = (r : ℕ) → first_at (es ++ e ∷ []) v ≡ Some r → Result (first_at es v) r (length es)

    lift : (r n : ℕ) → suc r ≡ n → Result (first_at es v) r (length es) → Result (option_map suc (first_at es v)) n (suc (length es))
    lift r n more (inl found) = inl (ap (option_map suc) found ∙ ap (λ k. Some k) more)
    lift r n more (inr last) = inr (ap (option_map suc) last.0, sym more ∙ ap suc last.1, last.2)

    deeper : (r : Option ℕ) (m : ℕ) → first_at (es ++ e ∷ []) v ≡ r → option_map suc r ≡ Some m → Again → Result (option_map suc (first_at es v)) m (suc (length es))
    deeper None m was is again = cc
    deeper (Some r) m was is again = let more : suc r ≡ m = cc in lift r m more (again r was)

    step : (b : Bool) (m : ℕ) → cond b (Some 0) (option_map suc (first_at (es ++ e ∷ []) v)) ≡ Some m → Again → Result (cond b (Some 0) (option_map suc (first_at es v))) m (suc (length es))
    step true m is again = inl is
    step false m is again = deeper (first_at (es ++ e ∷ []) v) m refl is again

-- the list stays indexed where the new value was there before
pub indexed_old : {X : Type 0} → (es : List (ValueNo × X)) (e : ValueNo × X) (slots : List ℕ) (q : ℕ) → Indexes es slots → first_at es e.0.0 ≡ Some q → Indexes (es ++ e ∷ []) slots
indexed_old {X} es e slots q indexed there = λ v p is. step v p (first_added es e v p is)
  where
    step : (v p : ℕ) → (first_at es v ≡ Some p) ⊎ ((first_at es v ≡ None) × (p ≡ length es) × ((e.0.0 == v) ≡ true)) → slice_get slots v ≡ Some p
    step v p (inl found) = indexed v p found
    step v p (inr last) = let same : e.0.0 ≡ v = numbered e.0.0 v last.2 in let at : first_at es v ≡ Some q = rw (sym same) there in let none : first_at es v ≡ None = last.0 in cc

-- and where it was not, if its slot holds the new place
pub indexed_new : {X : Type 0} → (es : List (ValueNo × X)) (e : ValueNo × X) (slots now : List ℕ) → Indexes es slots →
    ((k p : ℕ) → slice_get slots k ≡ Some p → (e.0.0 ≡ k → ⊥) → slice_get now k ≡ Some p) → slice_get now e.0.0 ≡ Some (length es) → first_at es e.0.0 ≡ None → Indexes (es ++ e ∷ []) now
indexed_new {X} es e slots now indexed kept set fresh = λ v p is. step v p (first_added es e v p is)
  where
    step : (v p : ℕ) → (first_at es v ≡ Some p) ⊎ ((first_at es v ≡ None) × (p ≡ length es) × ((e.0.0 == v) ≡ true)) → slice_get now v ≡ Some p
    step v p (inl found) = kept v p (indexed v p found) (λ same. let none : first_at es v ≡ None = rw (sym same) fresh in let f : first_at es v ≡ Some p = found in cc)
    step v p (inr last) = let same : e.0.0 ≡ v = numbered e.0.0 v last.2 in let at : slice_get now v ≡ Some (length es) = rw (sym same) set in let is : p ≡ length es = last.1 in cc

-- a look-up that finds nothing finds no definition
pub fresh_of : {X : Type 0} → (es : List (ValueNo × X)) (v : ℕ) → lookup es v ≡ None → first_at es v ≡ None
fresh_of {X} es v none = step (first_at es v) refl
  where
    step : (r : Option ℕ) → first_at es v ≡ r → r ≡ None
    step None is = refl
    step (Some q) is =
        let there : (x : ValueNo × X) × (slice_get es q ≡ Some x) × ((x.0.0 == v) ≡ true) = first_within es v q is in
        let found : lookup es v ≡ Some there.0.1 = lookup_first es v q there.0 is there.1 in
        cc

pub place_of : {X : Type 0} → (es : List (ValueNo × X)) (v : ℕ) (x : X) → lookup es v ≡ Some x → (q : ℕ) × (first_at es v ≡ Some q)
place_of {X} es v x some = step (first_at es v) refl
  where
    step : (r : Option ℕ) → first_at es v ≡ r → (q : ℕ) × (first_at es v ≡ Some q)
    step None is = let none : lookup es v ≡ None = lookup_none es v is in cc
    step (Some q) is = (q, is)

-- ---- slots

pub get_front : {X : Type 0} → (xs ys : List X) (k : ℕ) (x : X) → slice_get xs k ≡ Some x → slice_get (xs ++ ys) k ≡ Some x
get_front [] ys k x at = cc
get_front (y ∷ xs) ys zero x at = at
get_front (y ∷ xs) ys (suc k) x at = get_front xs ys k x at

pub get_set : {X : Type 0} → (xs : List X) (i : ℕ) (x : X) → i < length xs → slice_get (slice_set xs i x) i ≡ Some x
get_set [] i x within = absurd (omega arith)
get_set (y ∷ xs) zero x within = refl
get_set (y ∷ xs) (suc i) x within = get_set xs i x (omega arith)

pub get_set_other : {X : Type 0} → (xs : List X) (i k : ℕ) (x : X) → (i ≡ k → ⊥) → slice_get (slice_set xs i x) k ≡ slice_get xs k
get_set_other [] i k x apart = refl
get_set_other (y ∷ xs) zero zero x apart = absurd (apart refl)
get_set_other (y ∷ xs) zero (suc k) x apart = refl
get_set_other (y ∷ xs) (suc i) zero x apart = refl
get_set_other (y ∷ xs) (suc i) (suc k) x apart = get_set_other xs i k x (λ same. apart (ap suc same))

abbrev pub Keeps : List ℕ → List ℕ → Type 0
Keeps old now = (k p : ℕ) → slice_get old k ≡ Some p → slice_get now k ≡ Some p

pub kept_indexed : {X : Type 0} → (es : List (ValueNo × X)) (old now : List ℕ) → Indexes es old → Keeps old now → Indexes es now
kept_indexed es old now indexed kept = λ v p is. kept v p (indexed v p is)

-- the slot of the new value is written
pub set_indexed : {X : Type 0} → (es : List (ValueNo × X)) (e : ValueNo × X) (old now : List ℕ) → Indexes es old → Keeps old now → e.0.0 < length now → lookup es e.0.0 ≡ None →
    Indexes (es ++ e ∷ []) (slice_set now e.0.0 (length es))
set_indexed es e old now indexed kept within none =
    indexed_new es e old (slice_set now e.0.0 (length es)) indexed
    (λ k p at apart. get_set_other now e.0.0 k (length es) apart ∙ kept k p at)
    (get_set now e.0.0 (length es) within) (fresh_of es e.0.0 none)

-- or it stays, where the value was defined before
pub stays_indexed : {X : Type 0} → (es : List (ValueNo × X)) (e : ValueNo × X) (old now : List ℕ) (x : X) → Indexes es old → Keeps old now → lookup es e.0.0 ≡ Some x → Indexes (es ++ e ∷ []) now
stays_indexed es e old now x indexed kept some =
    let at : (q : ℕ) × (first_at es e.0.0 ≡ Some q) = place_of es e.0.0 x some in
    indexed_old es e now at.0 (kept_indexed es old now indexed kept) at.1

-- a reading of the types finds a number exactly where the list does
pub seen_fresh : {X Y : Type 0} → (f : X → Y) (es : List (ValueNo × X)) (v : ℕ) → lookup (map (λ e. (e.0, f e.1)) es) v ≡ None → lookup es v ≡ None
seen_fresh {X} {Y} f es v none = step (lookup es v) refl
  where
    step : (r : Option X) → lookup es v ≡ r → lookup es v ≡ None
    step None is = is
    step (Some x) is = let mapped : lookup (map (λ e. (e.0, f e.1)) es) v ≡ Some (f x) = lookup-map f es v ∙ ap (option_map f) is in cc

pub seen_old : {X Y : Type 0} → (f : X → Y) (es : List (ValueNo × X)) (v : ℕ) (y : Y) → lookup (map (λ e. (e.0, f e.1)) es) v ≡ Some y → (x : X) × (lookup es v ≡ Some x)
seen_old {X} {Y} f es v y some = step (lookup es v) refl
  where
    step : (r : Option X) → lookup es v ≡ r → (x : X) × (lookup es v ≡ Some x)
    step None is = let mapped : lookup (map (λ e. (e.0, f e.1)) es) v ≡ None = lookup-map f es v ∙ ap (option_map f) is in cc
    step (Some x) is = (x, is)

is_none : {X : Type 0} → (o : Option X) → is_some o ≡ false → o ≡ None
is_none None not = refl
is_none (Some x) not = cc

is_there : {X : Type 0} → (o : Option X) → is_some o ≡ true → (x : X) × (o ≡ Some x)
is_there None not = cc
is_there (Some x) not = (x, refl)

pub new_indexed : {X Y : Type 0} → (f : X → Y) (es after : List (ValueNo × X)) (seen : List (ValueNo × Y)) (e : ValueNo × X) (old now : List ℕ) (place : ℕ) →
    Indexes es old → Keeps old now → map (λ e. (e.0, f e.1)) es ≡ seen → e.0.0 < length now → after ≡ es ++ e ∷ [] → place ≡ length es → is_some (lookup seen e.0.0) ≡ false →
    Indexes after (slice_set now e.0.0 place)
new_indexed f es after seen e old now place indexed kept view within items at fresh =
    let none : lookup (map (λ e. (e.0, f e.1)) es) e.0.0 ≡ None = rw view (is_none (lookup seen e.0.0) fresh) in
    rw (items, at) (set_indexed es e old now indexed kept within (seen_fresh f es e.0.0 none))

pub old_indexed : {X Y : Type 0} → (f : X → Y) (es after : List (ValueNo × X)) (seen : List (ValueNo × Y)) (e : ValueNo × X) (old now : List ℕ) →
    Indexes es old → Keeps old now → map (λ e. (e.0, f e.1)) es ≡ seen → after ≡ es ++ e ∷ [] → is_some (lookup seen e.0.0) ≡ true →
    Indexes after now
old_indexed {X} {Y} f es after seen e old now indexed kept view items there =
    let some : (y : Y) × (lookup seen e.0.0 ≡ Some y) = is_there (lookup seen e.0.0) there in
    let at : (x : X) × (lookup es e.0.0 ≡ Some x) = seen_old f es e.0.0 some.0 (rw view some.1) in
    rw items (stays_indexed es e old now at.0 indexed kept at.1)
