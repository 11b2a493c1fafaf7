-- Values under their names, and lists of values with lists of types.
use Rattle.std.proofs.Common.{◌≡◌, ℕ, zero, suc, ◌==◌, cond, Bool, true, false, List, [], ◌∷◌, ◌++◌, map, length, Option, Some, None, slice_get, refl, sym, ap, ◌∙◌, subst, arith}
use Rattle.std.proofs.lemmas.Bool.Decides.{nat_tests}
use Rattle.ir_forms.specs.declared.ops.ValueNo.{ValueNo}
use Rattle.ir_forms.specs.declared.types.Ty.{Ty}
use Rattle.ir_verify.specs.Places.{Seen, defined}
use Rattle.ir_verify.specs.Rules.{is_asked}
use Rattle.ir_verify.specs.Scopes.{lookup}
use Rattle.source_meaning.specs.declared.values.Val.{Val}
use Rattle.source_meaning.specs.Values.{Env, named, put, bind, values_at}
use Rattle.source_meaning.specs.Parts.{names_of}
use Rattle.typed_laws.specs.Typed.{Typing, HasType, Fresh}
use Rattle.typed_laws.proofs.Types.{Later, later_type, type_same}

pub equal : (a b : ℕ) → (a == b) ≡ true → a ≡ b
equal a b h = grind (arith, nat_tests)

unequal : (a b : ℕ) → (a == b) ≡ false → a ≡ b → ⊥
unequal a b h e = grind (arith, nat_tests)

-- ---- environments

named_put_same : (env : Env) (k : ℕ) (v : Val) → named (put env k v) k ≡ v
named_put_same [] zero v = refl
named_put_same [] (suc k) v = named_put_same [] k v
named_put_same (x ∷ env) zero v = refl
named_put_same (x ∷ env) (suc k) v = named_put_same env k v

named_put_other : (env : Env) (k j : ℕ) (v : Val) → (k ≡ j → ⊥) → named (put env k v) j ≡ named env j
named_put_other [] zero zero v n = absurd (n refl)
named_put_other [] zero (suc j) v n = refl
named_put_other [] (suc k) zero v n = refl
named_put_other [] (suc k) (suc j) v n = named_put_other [] k j v (λ e. n (ap suc e))
named_put_other (x ∷ env) zero zero v n = absurd (n refl)
named_put_other (x ∷ env) zero (suc j) v n = refl
named_put_other (x ∷ env) (suc k) zero v n = refl
named_put_other (x ∷ env) (suc k) (suc j) v n = named_put_other env k j v (λ e. n (ap suc e))

-- ---- what is visible

-- the first of two answers, where there is one
abbrev first_of : {X : Type 0} → Option X → Option X → Option X
first_of None o = o
first_of (Some x) o = Some x

lookup_append : (xs ys : Seen) (v : ℕ) → lookup (xs ++ ys) v ≡ first_of (lookup xs v) (lookup ys v)
lookup_append [] ys v = refl
lookup_append (x ∷ xs) ys v = step (x.0.0 == v) (lookup_append xs ys v)
  where
    step : (b : Bool) → lookup (xs ++ ys) v ≡ first_of (lookup xs v) (lookup ys v) → cond b (Some x.1) (lookup (xs ++ ys) v) ≡ first_of (cond b (Some x.1) (lookup xs v)) (lookup ys v)
    step true again = refl
    step false again = again

-- what is visible stays so
abbrev pub Within : Seen → Seen → Type 0
Within seen more = (v : ℕ) (t : Ty) → lookup seen v ≡ Some t → lookup more v ≡ Some t

pub within_more : (seen xs : Seen) → Within seen (seen ++ xs)
within_more seen xs v t e = lookup_append seen xs v ∙ ap (λ o. first_of o (lookup xs v)) e

pub within_self : (seen : Seen) → Within seen seen
within_self seen v t e = e

pub within_on : (a b c : Seen) → Within a b → Within b c → Within a c
within_on a b c h k v t e = k v t (h v t e)

-- each visible value has its type
pub EnvTyped : Typing → Seen → Env → Type 0
EnvTyped typing seen env = (v : ℕ) (t : Ty) → lookup seen v ≡ Some t → HasType typing t (named env v)

pub env_of : (typing : Typing) (seen : Seen) (env : Env) → EnvTyped typing seen env → (v : ℕ) (t : Ty) → lookup seen v ≡ Some t → HasType typing t (named env v)
unfolding EnvTyped
env_of typing seen env h = h

pub to_env : (typing : Typing) (seen : Seen) (env : Env) → ((v : ℕ) (t : Ty) → lookup seen v ≡ Some t → HasType typing t (named env v)) → EnvTyped typing seen env
unfolding EnvTyped
to_env typing seen env h = h

pub env_none : (typing : Typing) (env : Env) → EnvTyped typing [] env
unfolding EnvTyped
env_none typing env v t e = cc

pub env_within : (typing : Typing) (seen more : Seen) (env : Env) → Within seen more → EnvTyped typing more env → EnvTyped typing seen env
unfolding EnvTyped
env_within typing seen more env w h v t e = h v t (w v t e)

pub env_later : (typing later : Typing) (seen : Seen) (env : Env) → Later typing later → EnvTyped typing seen env → EnvTyped later seen env
unfolding EnvTyped
env_later typing later seen env l h v t e = later_type typing later l t (named env v) (h v t e)

put_typed : (typing : Typing) (seen : Seen) (env : Env) (x : ValueNo × Ty) (v : Val) → EnvTyped typing seen env → lookup seen x.0.0 ≡ None → HasType typing x.1 v → EnvTyped typing (seen ++ x ∷ []) (put env x.0.0 v)
unfolding EnvTyped
put_typed typing seen env x v h new k w t e = split (lookup seen w) refl (sym (lookup_append seen (x ∷ []) w) ∙ e) where
  here : (b : Bool) → (x.0.0 == w) ≡ b → cond b (Some x.1) None ≡ Some t → HasType typing t (named (put env x.0.0 v) w)
  here true i f =
      let same : x.1 ≡ t = cc in
      subst (λ u. HasType typing u (named (put env x.0.0 v) w)) same (subst (λ n. HasType typing x.1 (named (put env x.0.0 v) n)) (equal x.0.0 w i) (subst (HasType typing x.1) (sym (named_put_same env x.0.0 v)) k))
  here false i f = cc

  split : (o : Option Ty) → lookup seen w ≡ o → first_of o (cond (x.0.0 == w) (Some x.1) None) ≡ Some t → HasType typing t (named (put env x.0.0 v) w)
  split (Some u) i f =
      let same : u ≡ t = cc in
      let other : x.0.0 ≡ w → ⊥ = λ e. (let hidden : None ≡ Some u = sym new ∙ ap (lookup seen) e ∙ i in cc) in
      subst (HasType typing t) (sym (named_put_other env x.0.0 w v other)) (h w t (i ∙ ap Some same))
  split None i f = here (x.0.0 == w) refl f

-- ---- lists

-- as many values as types, each of its own
abbrev pub AreTyped : Typing → List Ty → List Val → Type 0
AreTyped typing [] [] = Unit {0}
AreTyped typing (t ∷ ts) (v ∷ vs) = HasType typing t v × AreTyped typing ts vs
AreTyped typing _ _ = ⊥

abbrev pub types_in : Seen → List Ty
types_in xs = map (λ (x : ValueNo × Ty). x.1) xs

append_none : {X : Type 0} (xs : List X) → xs ++ [] ≡ xs
append_none [] = refl
append_none (x ∷ xs) = ap (λ l. x ∷ l) (append_none xs)

append_one : {X : Type 0} (xs : List X) (y : X) (ys : List X) → (xs ++ y ∷ []) ++ ys ≡ xs ++ y ∷ ys
append_one [] y ys = refl
append_one (x ∷ xs) y ys = ap (λ l. x ∷ l) (append_one xs y ys)

pub bind_typed : (typing : Typing) (xs : Seen) (vs : List Val) (seen : Seen) (env : Env) → EnvTyped typing seen env → Fresh seen xs → AreTyped typing (types_in xs) vs → EnvTyped typing (seen ++ xs) (bind (names_of xs) vs env)
bind_typed typing [] [] seen env h new k = subst (λ s. EnvTyped typing s env) (sym (append_none seen)) h
bind_typed typing [] (v ∷ vs) seen env h new k = elim k [ ]
bind_typed typing (x ∷ xs) [] seen env h new k = elim k [ ]
bind_typed typing (x ∷ xs) (v ∷ vs) seen env h new k =
    subst (λ s. EnvTyped typing s (bind (names_of xs) vs (put env x.0.0 v))) (append_one seen x xs)
    (bind_typed typing xs vs (seen ++ x ∷ []) (put env x.0.0 v) (put_typed typing seen env x v h new.0 k.0) new.1 k.1)

pub defined_names : (vs : List ValueNo) (ts : List Ty) → names_of (defined vs ts) ≡ vs
defined_names [] ts = refl
defined_names (v ∷ vs) [] = ap (λ l. v ∷ l) (defined_names vs [])
defined_names (v ∷ vs) (t ∷ ts) = ap (λ l. v ∷ l) (defined_names vs ts)

pub defined_types : (vs : List ValueNo) (ts : List Ty) → length vs ≡ length ts → types_in (defined vs ts) ≡ ts
defined_types [] [] e = refl
defined_types [] (t ∷ ts) e = absurd (omega (arith, e))
defined_types (v ∷ vs) [] e = absurd (omega (arith, e))
defined_types (v ∷ vs) (t ∷ ts) e = ap (λ l. t ∷ l) (defined_types vs ts (omega (arith, e)))

-- results under their names
pub results_typed : (typing : Typing) (rs : List ValueNo) (ts : List Ty) (vs : List Val) (seen : Seen) (env : Env) → length rs ≡ length ts → EnvTyped typing seen env → Fresh seen (defined rs ts) → AreTyped typing ts vs → EnvTyped typing (seen ++ defined rs ts) (bind rs vs env)
results_typed typing rs ts vs seen env n h new k =
    subst (λ xs. EnvTyped typing (seen ++ defined rs ts) (bind xs vs env)) (defined_names rs ts)
    (bind_typed typing (defined rs ts) vs seen env h new (subst (λ us. AreTyped typing us vs) (sym (defined_types rs ts n)) k))

-- the type at the same place
pub type_there : {X : Type 0} (xs : List X) (ts : List Ty) (i : ℕ) (x : X) → length xs ≡ length ts → slice_get xs i ≡ Some x → (t : Ty) × (slice_get ts i ≡ Some t)
type_there [] ts i x n e = cc
type_there (y ∷ xs) [] i x n e = absurd (omega (arith, n))
type_there (y ∷ xs) (t ∷ ts) zero x n e = (t, refl)
type_there (y ∷ xs) (t ∷ ts) (suc i) x n e = type_there xs ts i x (omega (arith, n)) e

pub asked_same : (ts : List Ty) (i : ℕ) (t u : Ty) → slice_get ts i ≡ Some t → is_asked (slice_get ts i) u ≡ true → t ≡ u
asked_same ts i t u e h = type_same t u (subst (λ o. is_asked o u ≡ true) e h)

-- values of names, one for each type
pub values_typed : (typing : Typing) (ts : List Ty) (xs : List ValueNo) (env : Env) → length xs ≡ length ts → ((i : ℕ) (x : ValueNo) (t : Ty) → slice_get xs i ≡ Some x → slice_get ts i ≡ Some t → HasType typing t (named env x.0)) → AreTyped typing ts (values_at env xs)
values_typed typing [] [] env n h = tt
values_typed typing [] (x ∷ xs) env n h = absurd (omega (arith, n))
values_typed typing (t ∷ ts) [] env n h = absurd (omega (arith, n))
values_typed typing (t ∷ ts) (x ∷ xs) env n h = (h zero x t refl refl, values_typed typing ts xs env (omega (arith, n)) (λ i. h (suc i)))

-- two lists of types are one
pub types_same : (ts us : List Ty) → length ts ≡ length us → ((i : ℕ) (t : Ty) → slice_get ts i ≡ Some t → is_asked (slice_get us i) t ≡ true) → ts ≡ us
types_same [] [] n h = refl
types_same [] (u ∷ us) n h = absurd (omega (arith, n))
types_same (t ∷ ts) [] n h = absurd (omega (arith, n))
types_same (t ∷ ts) (u ∷ us) n h = ap (λ x. x ∷ ts) (sym (type_same u t (h zero t refl))) ∙ ap (λ xs. u ∷ xs) (types_same ts us (omega (arith, n)) (λ i. h (suc i)))

pub are_later : (typing later : Typing) → Later typing later → (ts : List Ty) (vs : List Val) → AreTyped typing ts vs → AreTyped later ts vs
are_later typing later l [] [] h = tt
are_later typing later l [] (v ∷ vs) h = elim h [ ]
are_later typing later l (t ∷ ts) [] h = elim h [ ]
are_later typing later l (t ∷ ts) (v ∷ vs) h = (later_type typing later l t v h.0, are_later typing later l ts vs h.1)
