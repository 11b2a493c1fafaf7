-- What is seen under the other names.
use Rattle.std.proofs.Common.{◌≡◌, ℕ, ◌+◌, ◌==◌, cond, not, ◌||◌, Bool, true, false, List, [], ◌∷◌, ◌++◌, Option, Some, None, refl, sym, ap, ◌∙◌, subst, arith}
use Rattle.std.specs.Option.{is_some}
use Rattle.std.proofs.lemmas.Bool.Decides.{nat_tests}
use Rattle.ir_forms.specs.declared.ops.ValueNo.{ValueNo}
use Rattle.ir_forms.specs.declared.types.Ty.{Ty}
use Rattle.ir_forms.specs.declared.types.Ty.TheVariants.{Untyped}
use Rattle.ir_verify.specs.declared.fault.VerifyKind.{VerifyKind}
use Rattle.ir_verify.specs.declared.fault.VerifyKind.TheVariants.{Undefined}
use Rattle.ir_verify.specs.Breaks.{some_from, operand_breaks}
use Rattle.ir_verify.specs.Places.{Place, Seen, defined}
use Rattle.ir_verify.specs.Scopes.{lookup}
use Rattle.source_meaning.specs.Renaming.{renamed_value, renamed_values, renamed_params}
use Rattle.sound_laws.specs.Extended.{Names, IsDistinct, AreOwn, AreOwnParams, AreNew}
use Rattle.sound_laws.proofs.Alike.{LikePlace, operand_breaks_like}

pub equal : (a b : ℕ) → (a == b) ≡ true → a ≡ b
equal a b h = grind (arith, nat_tests)

pub unequal : (a b : ℕ) → (a == b) ≡ false → a ≡ b → ⊥
unequal a b h e = grind (arith, nat_tests)

pub is_equal : (a b : ℕ) → a ≡ b → (a == b) ≡ true
is_equal a b e = grind (arith, nat_tests)

pub not_equal : (a b : ℕ) → (a ≡ b → ⊥) → (a == b) ≡ false
not_equal a b n = step (a == b) refl
  where
    step : (t : Bool) → (a == b) ≡ t → t ≡ false
    step true is = absurd (n (equal a b is))
    step false is = refl

-- the first of two answers, where there is one
abbrev pub or_else : {X : Type 0} → Option X → Option X → Option X
or_else None o = o
or_else (Some x) o = Some x

pub lookup_append : (xs ys : Seen) (v : ℕ) → lookup (xs ++ ys) v ≡ or_else (lookup xs v) (lookup ys v)
lookup_append [] ys v = refl
lookup_append (x ∷ xs) ys v = step (x.0.0 == v) (lookup_append xs ys v)
  where
    step : (b : Bool) → lookup (xs ++ ys) v ≡ or_else (lookup xs v) (lookup ys v) → cond b (Some x.1) (lookup (xs ++ ys) v) ≡ or_else (cond b (Some x.1) (lookup xs v)) (lookup ys v)
    step true again = refl
    step false again = again

pub or_none : {X : Type 0} → (o : Option X) → or_else o None ≡ o
or_none None = refl
or_none (Some x) = refl

-- what the second list of values says of each own value under its other name is what the first one says of it, and the first
-- one holds own values alone
pub record Sees (names : Names) (seen more : Seen) : Type 0 where
  pub same : (v : ℕ) → names.is_own v ≡ true → lookup more (names.renamed v) ≡ lookup seen v
  pub own : (v : ℕ) (t : Ty) → lookup seen v ≡ Some t → names.is_own v ≡ true

pub sees_none : (names : Names) → Sees names [] []
sees_none names = record { same = λ v own. refl; own = λ v t is. cc }

-- ---- own definitions

module _ (names : Names) (distinct : IsDistinct names) where
  pub own_found : (d : Seen) (v : ℕ) (t : Ty) → AreOwnParams names d → lookup d v ≡ Some t → names.is_own v ≡ true
  own_found [] v t own is = cc
  own_found (x ∷ d) v t own is = step (x.0.0 == v) refl is (own_found d v t own.1)
    where
      step : (b : Bool) → (x.0.0 == v) ≡ b → cond b (Some x.1) (lookup d v) ≡ Some t → (lookup d v ≡ Some t → names.is_own v ≡ true) → names.is_own v ≡ true
      step true e found again = subst (λ w. names.is_own w ≡ true) (equal x.0.0 v e) own.0
      step false e found again = again found

  same_found : (d : Seen) (v : ℕ) → AreOwnParams names d → names.is_own v ≡ true → lookup (renamed_params names.renamed d) (names.renamed v) ≡ lookup d v
  same_found [] v own is = refl
  same_found (x ∷ d) v own is = step (x.0.0 == v) refl (same_found d v own.1 is)
    where
      step : (b : Bool) → (x.0.0 == v) ≡ b → lookup (renamed_params names.renamed d) (names.renamed v) ≡ lookup d v →
          cond (names.renamed x.0.0 == names.renamed v) (Some x.1) (lookup (renamed_params names.renamed d) (names.renamed v)) ≡ cond b (Some x.1) (lookup d v)
      step true e again = ap (λ b. cond b (Some x.1) (lookup (renamed_params names.renamed d) (names.renamed v))) (is_equal _ _ (ap names.renamed (equal x.0.0 v e)))
      step false e again =
          ap (λ b. cond b (Some x.1) (lookup (renamed_params names.renamed d) (names.renamed v)))
          (not_equal _ _ (λ one. unequal x.0.0 v e (distinct x.0.0 v own.0 is one)))
          ∙ again

  pub sees_own : (seen more d : Seen) → Sees names seen more → AreOwnParams names d → Sees names (seen ++ d) (more ++ renamed_params names.renamed d)
  sees_own seen more d h own = record {
    same = λ v is.
        lookup_append more (renamed_params names.renamed d) (names.renamed v)
        ∙ ap (λ o. or_else o (lookup (renamed_params names.renamed d) (names.renamed v))) (h.same v is)
        ∙ ap (λ o. or_else (lookup seen v) o) (same_found d v own is)
        ∙ sym (lookup_append seen d v);
    own = λ v t is. step v t (lookup seen v) refl (sym (lookup_append seen d v) ∙ is);
  }
    where
      step : (v : ℕ) (t : Ty) (o : Option Ty) → lookup seen v ≡ o → or_else o (lookup d v) ≡ Some t → names.is_own v ≡ true
      step v t None is found = own_found d v t own found
      step v t (Some u) is found = h.own v u is

  -- ---- new definitions

  new_found : (ws : List ValueNo) (ts : List Ty) (v : ℕ) → AreNew names ws → names.is_own v ≡ true → lookup (defined ws ts) (names.renamed v) ≡ None
  new_found [] ts v new is = refl
  new_found (w ∷ ws) [] v new is =
      ap (λ b. cond b (Some Untyped) (lookup (defined ws []) (names.renamed v))) (not_equal w.0 (names.renamed v) (λ e. new.0 v is (sym e))) ∙ new_found ws [] v new.1 is
  new_found (w ∷ ws) (t ∷ ts) v new is =
      ap (λ b. cond b (Some t) (lookup (defined ws ts) (names.renamed v))) (not_equal w.0 (names.renamed v) (λ e. new.0 v is (sym e))) ∙ new_found ws ts v new.1 is

  pub sees_new : (seen more : Seen) (ws : List ValueNo) (ts : List Ty) → Sees names seen more → AreNew names ws → Sees names seen (more ++ defined ws ts)
  sees_new seen more ws ts h new = record {
    same = λ v is.
        lookup_append more (defined ws ts) (names.renamed v)
        ∙ ap (λ o. or_else (lookup more (names.renamed v)) o) (new_found ws ts v new is)
        ∙ or_none (lookup more (names.renamed v))
        ∙ h.same v is;
    own = h.own;
  }

pub defined_renamed : (σ : ℕ → ℕ) (vs : List ValueNo) (ts : List Ty) → defined (renamed_values σ vs) ts ≡ renamed_params σ (defined vs ts)
defined_renamed σ [] ts = refl
defined_renamed σ (v ∷ vs) [] = ap (λ rest. (renamed_value σ v, Untyped) ∷ rest) (defined_renamed σ vs [])
defined_renamed σ (v ∷ vs) (t ∷ ts) = ap (λ rest. (renamed_value σ v, t) ∷ rest) (defined_renamed σ vs ts)

pub own_defined : (names : Names) (vs : List ValueNo) (ts : List Ty) → AreOwn names vs → AreOwnParams names (defined vs ts)
own_defined names [] ts own = tt
own_defined names (v ∷ vs) [] own = (own.0, own_defined names vs [] own.1)
own_defined names (v ∷ vs) (t ∷ ts) own = (own.0, own_defined names vs ts own.1)

-- ---- operands

pub or_left : (a b : Bool) → (a || b) ≡ false → a ≡ false
or_left true b h = cc
or_left false b h = refl

pub or_right : (a b : Bool) → (a || b) ≡ false → b ≡ false
or_right true b h = cc
or_right false b h = h

module _ (names : Names) (p q : Place) (l : LikePlace p q) (seen more : Seen) (h : Sees names seen more) (kind : VerifyKind) where
  operand_fine : (i : ℕ) (v : ValueNo) → operand_breaks Undefined seen p i v ≡ false → operand_breaks kind seen p i v ≡ false → operand_breaks kind more q i (renamed_value names.renamed v) ≡ false
  operand_fine i v seen_there fine = step (lookup seen v.0) refl
    where
      step : (o : Option Ty) → lookup seen v.0 ≡ o → operand_breaks kind more q i (renamed_value names.renamed v) ≡ false
      step None is = let hidden : not (is_some (lookup seen v.0)) ≡ true = ap (λ (o : Option Ty). not (is_some o)) is in let visible : not (is_some (lookup seen v.0)) ≡ false = seen_there in cc
      step (Some t) is = operand_breaks_like p q l kind seen more i v (renamed_value names.renamed v) (h.same v.0 (h.own v.0 t is)) ∙ fine

  pub operands_fine : (k : ℕ) (vs : List ValueNo) → some_from (operand_breaks Undefined seen p) k vs ≡ false → some_from (operand_breaks kind seen p) k vs ≡ false →
      some_from (operand_breaks kind more q) k (renamed_values names.renamed vs) ≡ false
  operands_fine k [] seen_there fine = refl
  operands_fine k (v ∷ vs) seen_there fine =
      ap (λ b. b || some_from (operand_breaks kind more q) (k + 1) (renamed_values names.renamed vs))
      (operand_fine k v (or_left _ _ seen_there) (or_left _ _ fine))
      ∙ operands_fine (k + 1) vs (or_right _ _ seen_there) (or_right _ _ fine)
