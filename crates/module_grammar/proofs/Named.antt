-- A name among two lists of names, and the first thing of a name.
use Rattle.std.proofs.Common.{◌≡◌, ℕ, zero, suc, Bool, true, false, cond, ◌||◌, List, [], ◌∷◌, ◌++◌, Option, Some, None, refl, sym, ap, ◌∙◌}
use Rattle.std.specs.Prelude.{slice_get}
use Rattle.std.specs.List.{find}
use Rattle.std.specs.Option.{option_map, is_some}
use Rattle.std.specs.Str.{bytes_eq}
use Rattle.name_lists.specs.Names.{first_named}
use Rattle.module_grammar.specs.declared.state.Name.{Name}
use Rattle.module_grammar.specs.declared.state.Param.{Param}
use Rattle.module_grammar.specs.State.{is_named, param_names, resolved, resolved_at, first_of, part_of, unknown}

or_assoc : (a b c : Bool) → a || (b || c) ≡ (a || b) || c
or_assoc true b c = refl
or_assoc false b c = refl

pub named_either : (xs ys : List Name) (text : List ℕ) → is_named (xs ++ ys) text ≡ is_named xs text || is_named ys text
named_either [] ys text = refl
named_either (x ∷ xs) ys text =
    ap (λ b. bytes_eq x.text text || b) (named_either xs ys text) ∙ or_assoc (bytes_eq x.text text) (is_named xs text) (is_named ys text)

-- ---- the first thing of a name in a list

-- the name at a place is the one that is found
pub found_at : (names : List Name) (text : List ℕ) (place : ℕ) → first_named (λ (n : Name). n.text) names text ≡ Some place → find (λ n. bytes_eq n.text text) names ≡ slice_get names place
found_at [] text place is = cc
found_at (n ∷ names) text place is = step (bytes_eq n.text text) place is (λ k was. found_at names text k was)
  where
    Again : Type 0
    Again = (k : ℕ) → first_named (λ (m : Name). m.text) names text ≡ Some k → find (λ m. bytes_eq m.text text) names ≡ slice_get names k

    deeper : (o : Option ℕ) (k : ℕ) → first_named (λ (m : Name). m.text) names text ≡ o → option_map suc o ≡ Some k → Again → find (λ m. bytes_eq m.text text) names ≡ slice_get (n ∷ names) k
    deeper None k was is again = cc
    deeper (Some m) zero was is again = cc
    deeper (Some m) (suc k) was is again = let same : m ≡ k = cc in again k (was ∙ ap (λ j. Some j) same)

    step : (b : Bool) (k : ℕ) → cond b (Some 0) (option_map suc (first_named (λ (m : Name). m.text) names text)) ≡ Some k → Again → cond b (Some n) (find (λ m. bytes_eq m.text text) names) ≡ slice_get (n ∷ names) k
    step true zero is again = refl
    step true (suc k) is again = cc
    step false k is again = deeper (first_named (λ (m : Name). m.text) names text) k refl is again

pub found_none : (names : List Name) (text : List ℕ) → first_named (λ (n : Name). n.text) names text ≡ None → find (λ n. bytes_eq n.text text) names ≡ None
found_none [] text is = refl
found_none (n ∷ names) text is = step (bytes_eq n.text text) is (found_none names text)
  where
    deeper : (o : Option ℕ) → first_named (λ (m : Name). m.text) names text ≡ o → option_map suc o ≡ None → (first_named (λ (m : Name). m.text) names text ≡ None → find (λ m. bytes_eq m.text text) names ≡ None) → find (λ m. bytes_eq m.text text) names ≡ None
    deeper None was is again = again was
    deeper (Some m) was is again = cc

    step : (b : Bool) → cond b (Some 0) (option_map suc (first_named (λ (m : Name). m.text) names text)) ≡ None → (first_named (λ (m : Name). m.text) names text ≡ None → find (λ m. bytes_eq m.text text) names ≡ None) → cond b (Some n) (find (λ m. bytes_eq m.text text) names) ≡ None
    step true is again = cc
    step false is again = deeper (first_named (λ (m : Name). m.text) names text) refl is again

-- what a name that is found means
pub resolved_found : (names : List Name) (text : List ℕ) (name : Name) → find (λ n. bytes_eq n.text text) names ≡ Some name → resolved names text ≡ first_of name name.count
resolved_found [] text name is = cc
resolved_found (n ∷ names) text name is = step (bytes_eq n.text text) is (resolved_found names text name)
  where
    step : (b : Bool) → cond b (Some n) (find (λ m. bytes_eq m.text text) names) ≡ Some name → (find (λ m. bytes_eq m.text text) names ≡ Some name → resolved names text ≡ first_of name name.count) → cond b (first_of n n.count) (resolved names text) ≡ first_of name name.count
    step true is again = let same : n ≡ name = cc in ap (λ (m : Name). first_of m m.count) same
    step false is again = again is

pub resolved_none : (names : List Name) (text : List ℕ) → find (λ n. bytes_eq n.text text) names ≡ None → resolved names text ≡ unknown
resolved_none [] text is = refl
resolved_none (n ∷ names) text is = step (bytes_eq n.text text) is (resolved_none names text)
  where
    step : (b : Bool) → cond b (Some n) (find (λ m. bytes_eq m.text text) names) ≡ None → (find (λ m. bytes_eq m.text text) names ≡ None → resolved names text ≡ unknown) → cond b (first_of n n.count) (resolved names text) ≡ unknown
    step true is again = cc
    step false is again = again is

pub resolved_at_found : (names : List Name) (text : List ℕ) (at : Option ℕ) (name : Name) → find (λ n. bytes_eq n.text text) names ≡ Some name → resolved_at names text at ≡ part_of name name.count at
resolved_at_found [] text at name is = cc
resolved_at_found (n ∷ names) text at name is = step (bytes_eq n.text text) is (resolved_at_found names text at name)
  where
    step : (b : Bool) → cond b (Some n) (find (λ m. bytes_eq m.text text) names) ≡ Some name → (find (λ m. bytes_eq m.text text) names ≡ Some name → resolved_at names text at ≡ part_of name name.count at) → cond b (part_of n n.count at) (resolved_at names text at) ≡ part_of name name.count at
    step true is again = let same : n ≡ name = cc in ap (λ (m : Name). part_of m m.count at) same
    step false is again = again is

pub resolved_at_none : (names : List Name) (text : List ℕ) (at : Option ℕ) → find (λ n. bytes_eq n.text text) names ≡ None → resolved_at names text at ≡ unknown
resolved_at_none [] text at is = refl
resolved_at_none (n ∷ names) text at is = step (bytes_eq n.text text) is (resolved_at_none names text at)
  where
    step : (b : Bool) → cond b (Some n) (find (λ m. bytes_eq m.text text) names) ≡ None → (find (λ m. bytes_eq m.text text) names ≡ None → resolved_at names text at ≡ unknown) → cond b (part_of n n.count at) (resolved_at names text at) ≡ unknown
    step true is again = cc
    step false is again = again is

is_some-suc : (o : Option ℕ) → is_some (option_map suc o) ≡ is_some o
is_some-suc None = refl
is_some-suc (Some n) = refl

later : (b : Bool) (o : Option ℕ) (there : Bool) → there ≡ is_some o → b || there ≡ is_some (cond b (Some 0) (option_map suc o))
later true o there is = refl
later false o there is = is ∙ sym (is_some-suc o)

pub named_first : (names : List Name) (text : List ℕ) → is_named names text ≡ is_some (first_named (λ (n : Name). n.text) names text)
named_first [] text = refl
named_first (n ∷ names) text = later (bytes_eq n.text text) (first_named (λ (m : Name). m.text) names text) (is_named names text) (named_first names text)

pub param_first : (params : List Param) (text : List ℕ) → is_named (param_names params) text ≡ is_some (first_named (λ (p : Param). p.name.text) params text)
param_first [] text = refl
param_first (p ∷ params) text = later (bytes_eq p.name.text text) (first_named (λ (q : Param). q.name.text) params text) (is_named (param_names params) text) (param_first params text)
