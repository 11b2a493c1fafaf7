-- The first function of a name, as functions are added.
use Rattle.std.proofs.Common.{◌≡◌, ℕ, zero, suc, cond, Bool, true, false, List, [], ◌∷◌, ◌++◌, length, Option, Some, None, refl, sym, ap, ◌∙◌}
use Rattle.std.specs.Option.{option_map, is_some}
use Rattle.std.proofs.lemmas.Slice.Eq.{bytes_eq-Decides}
use Rattle.std.specs.Str.{bytes_eq}
use Rattle.ir_forms.specs.declared.ops.Func.{Func}
use Rattle.std.specs.Prelude.{slice_get}
use Rattle.ir_verify.specs.Names.{first_named}
use Rattle.ir_verify.specs.Places.{named}

-- the earlier place, where there is one
abbrev pub or_else : Option ℕ → Option ℕ → Option ℕ
or_else None o = o
or_else (Some n) o = Some n

pub first_added : (funcs : List Func) (f : Func) (name : List ℕ) →
    first_named (funcs ++ f ∷ []) name ≡ or_else (first_named funcs name) (cond (bytes_eq f.name name) (Some (length funcs)) None)
first_added [] f name = step (bytes_eq f.name name)
  where
    step : (b : Bool) → cond b (Some 0) (option_map suc (let none : Option ℕ = None in none)) ≡ cond b (Some 0) None
    step true = refl
    step false = refl
first_added (g ∷ funcs) f name = step (bytes_eq g.name name) (first_added funcs f name)
  where
    later : (o : Option ℕ) (b : Bool) (n : ℕ) → option_map suc (or_else o (cond b (Some n) None)) ≡ or_else (option_map suc o) (cond b (Some (suc n)) None)
    later None true n = refl
    later None false n = refl
    later (Some m) b n = refl

    step : (b : Bool) → first_named (funcs ++ f ∷ []) name ≡ or_else (first_named funcs name) (cond (bytes_eq f.name name) (Some (length funcs)) None) →
        cond b (Some 0) (option_map suc (first_named (funcs ++ f ∷ []) name)) ≡ or_else (cond b (Some 0) (option_map suc (first_named funcs name))) (cond (bytes_eq f.name name) (Some (suc (length funcs))) None)
    step true again = refl
    step false again = ap (option_map suc) again ∙ later (first_named funcs name) (bytes_eq f.name name) (length funcs)

-- ---- the map holds one more name

missing : (o : Option ℕ) → is_some o ≡ false → o ≡ None
missing None not = refl
missing (Some n) not = cc

keeps : (o : Option ℕ) → is_some o ≡ true → (other : Option ℕ) → or_else o other ≡ o
keeps None some other = cc
keeps (Some n) some other = refl

or_none : (o : Option ℕ) → or_else o None ≡ o
or_none None = refl
or_none (Some n) = refl

-- a name that had no place gets this one
pub added_new : (funcs : List Func) (f : Func) (key name : List ℕ) (place : ℕ) → key ≡ f.name → place ≡ length funcs → is_some (first_named funcs key) ≡ false →
    cond (bytes_eq key name) (Some place) (first_named funcs name) ≡ first_named (funcs ++ f ∷ []) name
added_new funcs f key name place is at fresh = rw (is, at) (step (bytes_eq f.name name) refl) ∙ sym (first_added funcs f name)
  where
    step : (b : Bool) → bytes_eq f.name name ≡ b → cond b (Some (length funcs)) (first_named funcs name) ≡ or_else (first_named funcs name) (cond b (Some (length funcs)) None)
    step true equal =
        let same : f.name ≡ name = (bytes_eq-Decides f.name name).0 equal in
        let none : first_named funcs name ≡ None = missing (first_named funcs name) (rw (← same, ← is) fresh) in
        rw none refl
    step false equal = sym (or_none (first_named funcs name))

-- and one that had a place keeps it
pub added_old : (funcs : List Func) (f : Func) (key name : List ℕ) → key ≡ f.name → is_some (first_named funcs key) ≡ true →
    first_named funcs name ≡ first_named (funcs ++ f ∷ []) name
added_old funcs f key name is there = sym (first_added funcs f name ∙ step (bytes_eq f.name name) refl)
  where
    step : (b : Bool) → bytes_eq f.name name ≡ b → or_else (first_named funcs name) (cond b (Some (length funcs)) None) ≡ first_named funcs name
    step true equal =
        let same : f.name ≡ name = (bytes_eq-Decides f.name name).0 equal in
        keeps (first_named funcs name) (rw (← same, ← is) there) (Some (length funcs))
    step false equal = or_none (first_named funcs name)

-- ---- the function of a name stands at its place

pub named_at : (funcs : List Func) (name : List ℕ) (place : ℕ) → first_named funcs name ≡ Some place → named funcs name ≡ slice_get funcs place
named_at [] name place is = cc
named_at (f ∷ funcs) name place is = step (bytes_eq f.name name) place is (λ n was. named_at funcs name n was)
  where
    Again : Type 0
    Again = (n : ℕ) → first_named funcs name ≡ Some n → named funcs name ≡ slice_get funcs n

    deeper : (o : Option ℕ) (n : ℕ) → first_named funcs name ≡ o → option_map suc o ≡ Some n → Again → named funcs name ≡ slice_get (f ∷ funcs) n
    deeper None n was is again = cc
    deeper (Some m) zero was is again = cc
    deeper (Some m) (suc n) was is again = let same : m ≡ n = cc in again n (was ∙ ap (λ k. Some k) same)

    step : (b : Bool) (n : ℕ) → cond b (Some 0) (option_map suc (first_named funcs name)) ≡ Some n → Again → cond b (Some f) (named funcs name) ≡ slice_get (f ∷ funcs) n
    step true zero is again = refl
    step true (suc n) is again = cc
    step false n is again = deeper (first_named funcs name) n refl is again

pub named_none : (funcs : List Func) (name : List ℕ) → first_named funcs name ≡ None → named funcs name ≡ None
named_none [] name is = refl
named_none (f ∷ funcs) name is = step (bytes_eq f.name name) is (named_none funcs name)
  where
    deeper : (o : Option ℕ) → first_named funcs name ≡ o → option_map suc o ≡ None → (first_named funcs name ≡ None → named funcs name ≡ None) → named funcs name ≡ None
    deeper None was is again = again was
    deeper (Some m) was is again = cc

    step : (b : Bool) → cond b (Some 0) (option_map suc (first_named funcs name)) ≡ None → (first_named funcs name ≡ None → named funcs name ≡ None) → cond b (Some f) (named funcs name) ≡ None
    step true is again = cc
    step false is again = deeper (first_named funcs name) refl is again
