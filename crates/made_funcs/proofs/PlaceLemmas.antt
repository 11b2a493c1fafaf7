-- The first places of values, as values are added, and their types.
use Rattle.std.proofs.Common.{◌≡◌, ℕ, zero, suc, ◌+◌, ◌<◌, cond, Bool, true, false, [], ◌∷◌, ◌++◌, take, length, get_or, nat_eq, Option, Some, None, refl, sym, ap, ◌∙◌, arith}
use Rattle.std.specs.Prelude.{slice_get}
use Rattle.std.proofs.lemmas.Bool.{eqb-true}
use Rattle.std.proofs.lemmas.List.{take_more, length-take-le}
use Rattle.std.specs.Option.{option_map, is_some}
use Rattle.ir_forms.specs.declared.ops.ValueNo.{ValueNo}
use Rattle.ir_forms.specs.declared.types.Ty.{Ty}
use Rattle.ir_forms.specs.declared.types.Ty.TheVariants.{Untyped}
use Rattle.made_funcs.specs.Values.{Typed, type_in}
use Rattle.made_funcs.specs.Places.{first_place}

-- the earlier place, where there is one
abbrev or_else : Option ℕ → Option ℕ → Option ℕ
or_else None o = o
or_else (Some n) o = Some n

-- ---- one value more

added : (vs : Typed) (v : ValueNo × Ty) (n : ℕ) → first_place (vs ++ v ∷ []) n ≡ or_else (first_place vs n) (cond (nat_eq v.0.0 n) (Some (length vs)) None)
added [] v n = step (nat_eq v.0.0 n)
  where
    step : (b : Bool) → cond b (Some 0) (option_map suc (let none : Option ℕ = None in none)) ≡ cond b (Some 0) None
    step true = refl
    step false = refl
added (w ∷ vs) v n = step (nat_eq w.0.0 n) (added vs v n)
  where
    later : (o : Option ℕ) (b : Bool) (k : ℕ) → option_map suc (or_else o (cond b (Some k) None)) ≡ or_else (option_map suc o) (cond b (Some (suc k)) None)
    later None true k = refl
    later None false k = refl
    later (Some m) b k = refl

    step : (b : Bool) → first_place (vs ++ v ∷ []) n ≡ or_else (first_place vs n) (cond (nat_eq v.0.0 n) (Some (length vs)) None) →
        cond b (Some 0) (option_map suc (first_place (vs ++ v ∷ []) n)) ≡ or_else (cond b (Some 0) (option_map suc (first_place vs n))) (cond (nat_eq v.0.0 n) (Some (suc (length vs))) None)
    step true again = refl
    step false again = ap (option_map suc) again ∙ later (first_place vs n) (nat_eq v.0.0 n) (length vs)

missing : (o : Option ℕ) → is_some o ≡ false → o ≡ None
missing None not = refl
missing (Some n) not = cc

keeps : (o : Option ℕ) → is_some o ≡ true → (other : Option ℕ) → or_else o other ≡ o
keeps None some other = cc
keeps (Some n) some other = refl

or_none : (o : Option ℕ) → or_else o None ≡ o
or_none None = refl
or_none (Some n) = refl

-- a number that had no place gets this one
added_new : (vs : Typed) (v : ValueNo × Ty) (n : ℕ) → is_some (first_place vs v.0.0) ≡ false → cond (nat_eq v.0.0 n) (Some (length vs)) (first_place vs n) ≡ first_place (vs ++ v ∷ []) n
added_new vs v n fresh = step (nat_eq v.0.0 n) refl ∙ sym (added vs v n)
  where
    step : (b : Bool) → nat_eq v.0.0 n ≡ b → cond b (Some (length vs)) (first_place vs n) ≡ or_else (first_place vs n) (cond b (Some (length vs)) None)
    step true equal =
        let same : v.0.0 ≡ n = eqb-true v.0.0 n equal in
        let none : first_place vs n ≡ None = missing (first_place vs n) (rw (← same) fresh) in
        rw none refl
    step false equal = sym (or_none (first_place vs n))

-- and one that had a place keeps it
added_old : (vs : Typed) (v : ValueNo × Ty) (n : ℕ) → is_some (first_place vs v.0.0) ≡ true → first_place vs n ≡ first_place (vs ++ v ∷ []) n
added_old vs v n there = sym (added vs v n ∙ step (nat_eq v.0.0 n) refl)
  where
    step : (b : Bool) → nat_eq v.0.0 n ≡ b → or_else (first_place vs n) (cond b (Some (length vs)) None) ≡ first_place vs n
    step true equal =
        let same : v.0.0 ≡ n = eqb-true v.0.0 n equal in
        keeps (first_place vs n) (rw (← same) there) (Some (length vs))
    step false equal = or_none (first_place vs n)

module _ (vs : Typed) (i : ℕ) (v : ValueNo × Ty) (less : i < length vs) (is : v ≡ get_or vs i v) where
  longer : take (i + 1) vs ≡ take i vs ++ v ∷ []
  longer = take_more vs i v less ∙ ap (λ w. take i vs ++ w ∷ []) (sym is)

  counted : length (take i vs) ≡ i
  counted = length-take-le i vs (omega (arith, less))

  pub value_new : (n : ℕ) → is_some (first_place (take i vs) v.0.0) ≡ false → cond (nat_eq v.0.0 n) (Some i) (first_place (take i vs) n) ≡ first_place (take (i + 1) vs) n
  value_new n fresh =
      ap (λ k. cond (nat_eq v.0.0 n) (Some k) (first_place (take i vs) n)) (sym counted)
      ∙ added_new (take i vs) v n fresh
      ∙ ap (λ ws. first_place ws n) (sym longer)

  pub value_old : (n : ℕ) → is_some (first_place (take i vs) v.0.0) ≡ true → first_place (take i vs) n ≡ first_place (take (i + 1) vs) n
  value_old n there = added_old (take i vs) v n there ∙ ap (λ ws. first_place ws n) (sym longer)

-- ---- the type of a value stands at its place

abbrev type_at : Option (ValueNo × Ty) → Ty
type_at None = Untyped
type_at (Some p) = p.1

pub type_found : (values : Typed) (n k : ℕ) → first_place values n ≡ Some k → type_at (slice_get values k) ≡ type_in values n
type_found [] n k is = cc
type_found (v ∷ values) n k is = step (nat_eq v.0.0 n) k is (λ m was. type_found values n m was)
  where
    Again : Type 0
    Again = (m : ℕ) → first_place values n ≡ Some m → type_at (slice_get values m) ≡ type_in values n

    deeper : (o : Option ℕ) (m : ℕ) → first_place values n ≡ o → option_map suc o ≡ Some m → Again → type_at (slice_get (v ∷ values) m) ≡ type_in values n
    deeper None m was is again = cc
    deeper (Some j) zero was is again = cc
    deeper (Some j) (suc m) was is again = let same : j ≡ m = cc in again m (was ∙ ap (λ k. Some k) same)

    step : (b : Bool) (m : ℕ) → cond b (Some 0) (option_map suc (first_place values n)) ≡ Some m → Again → type_at (slice_get (v ∷ values) m) ≡ cond b v.1 (type_in values n)
    step true zero is again = refl
    step true (suc m) is again = cc
    step false m is again = deeper (first_place values n) m refl is again

pub type_missing : (values : Typed) (n : ℕ) → first_place values n ≡ None → Untyped ≡ type_in values n
type_missing [] n is = refl
type_missing (v ∷ values) n is = step (nat_eq v.0.0 n) is (type_missing values n)
  where
    deeper : (o : Option ℕ) → first_place values n ≡ o → option_map suc o ≡ None → (first_place values n ≡ None → Untyped ≡ type_in values n) → Untyped ≡ type_in values n
    deeper None was is again = again was
    deeper (Some m) was is again = cc

    step : (b : Bool) → cond b (Some 0) (option_map suc (first_place values n)) ≡ None → (first_place values n ≡ None → Untyped ≡ type_in values n) → Untyped ≡ cond b v.1 (type_in values n)
    step true is again = cc
    step false is again = deeper (first_place values n) refl is again

-- by what a look-up gives
pub type_by_place : (values : Typed) (n k : ℕ) (p : ValueNo × Ty) → first_place values n ≡ Some k → slice_get values k ≡ Some p → p.1 ≡ type_in values n
type_by_place values n k p is at = ap type_at (sym at) ∙ type_found values n k is

pub type_without_place : (values : Typed) (n k : ℕ) → first_place values n ≡ Some k → slice_get values k ≡ None → Untyped ≡ type_in values n
type_without_place values n k is at = ap type_at (sym at) ∙ type_found values n k is
