-- What is visible by the verifier, and by what is laid out.
use Rattle.std.proofs.Common.{◌≡◌, ℕ, suc, nat_eq, cond, Bool, true, false, List, [], ◌∷◌, ◌++◌, Option, Some, None, IsSome, slice_get, refl, sym, ap, ◌∙◌, subst, arith, append_assoc}
use Rattle.std.proofs.lemmas.Bool.Decides.{nat_tests}
use Rattle.ir_forms.specs.declared.ops.ValueNo.{ValueNo}
use Rattle.ir_forms.specs.declared.types.Ty.{Ty}
use Rattle.ir_forms.specs.declared.types.Ty.TheVariants.{Untyped}
use Rattle.ir_verify.specs.Places.{Seen, defined}
use Rattle.ir_verify.specs.Scopes.{lookup}
use Rattle.source_meaning.specs.TaskOrder.{Each}
use Rattle.scf_blocks.specs.Tree.{Var, typed}
use Rattle.sound_laws.proofs.Sight.{lookup_append, or_else, or_none}
use Rattle.typed_laws.specs.Typed.{Fresh}
use Rattle.laid_ops.specs.Suited.{type_in, with_known, AreSeen, AreFresh}

-- both say the same of each value
abbrev pub Agrees : Seen → List Var → Type 0
Agrees seen vars = (x : ℕ) → type_in vars x ≡ lookup seen x

pub defined_typed : (vs : List ValueNo) (ts : List Ty) → defined vs ts ≡ typed vs ts
defined_typed [] ts = refl
defined_typed (v ∷ vs) [] = ap (λ rest. (v, Untyped) ∷ rest) (defined_typed vs [])
defined_typed (v ∷ vs) (t ∷ ts) = ap (λ rest. (v, t) ∷ rest) (defined_typed vs ts)

none_left : (xs : Seen) → xs ++ [] ≡ xs
none_left [] = refl
none_left (x ∷ xs) = ap (λ rest. x ∷ rest) (none_left xs)

agrees_one : (seen : Seen) (vars : List Var) (x : Var) → Agrees seen vars → lookup seen x.0.0 ≡ None → Agrees (seen ++ x ∷ []) (x ∷ vars)
agrees_one seen vars x h new y = by (nat_eq x.0.0 y) refl ∙ sym (lookup_append seen (x ∷ []) y)
  where
    same_no : (a b : ℕ) → nat_eq a b ≡ true → a ≡ b
    same_no a b e = grind (arith, nat_tests)

    by : (b : Bool) → nat_eq x.0.0 y ≡ b → cond b (Some x.1) (type_in vars y) ≡ or_else (lookup seen y) (cond b (Some x.1) None)
    by true e = ap (λ (o : Option Ty). or_else o (Some x.1)) (sym new ∙ ap (lookup seen) (same_no x.0.0 y e))
    by false e = h y ∙ sym (or_none (lookup seen y))

pub agrees_more : (seen : Seen) (vars xs : List Var) → Agrees seen vars → Fresh seen xs → Agrees (seen ++ xs) (with_known xs vars)
agrees_more seen vars [] h new = subst (λ l. Agrees l vars) (sym (none_left seen)) h
agrees_more seen vars (x ∷ xs) h new =
    subst (λ l. Agrees l (with_known xs (x ∷ vars))) (append_assoc seen (x ∷ []) xs) (agrees_more (seen ++ x ∷ []) (x ∷ vars) xs (agrees_one seen vars x h new.0) new.1)

pub fresh_vars : (seen : Seen) (vars xs : List Var) → Agrees seen vars → Fresh seen xs → AreFresh vars xs
fresh_vars seen vars [] h new = tt
fresh_vars seen vars (x ∷ xs) h new = (h x.0.0 ∙ new.0, fresh_vars (seen ++ x ∷ []) (x ∷ vars) xs (agrees_one seen vars x h new.0) new.1)

pub seen_all : (vars : List Var) (xs : List ValueNo) → ((i : ℕ) (x : ValueNo) → slice_get xs i ≡ Some x → IsSome (type_in vars x.0)) → AreSeen vars xs
seen_all vars [] each = tt
seen_all vars (x ∷ xs) each = (each 0 x refl, seen_all vars xs (λ i y at. each (suc i) y at))

pub each_front : {X : Type 0} (Q : X → Type 0) (xs ys : List X) → Each Q (xs ++ ys) → Each Q xs
each_front Q [] ys h = tt
each_front Q (x ∷ xs) ys h = (h.0, each_front Q xs ys h.1)

pub each_back : {X : Type 0} (Q : X → Type 0) (xs ys : List X) → Each Q (xs ++ ys) → Each Q ys
each_back Q [] ys h = h
each_back Q (x ∷ xs) ys h = each_back Q xs ys h.1

pub each_both : {X : Type 0} (Q R : X → Type 0) (xs : List X) → Each Q xs → Each R xs → Each (λ x. Q x × R x) xs
each_both Q R [] h g = tt
each_both Q R (x ∷ xs) h g = ((h.0, g.0), each_both Q R xs h.1 g.1)
