-- Values and registers that are alike.
use Rattle.std.proofs.Common.{◌≡◌, ◌≢◌, ◌<◌, ◌≤◌, ℕ, zero, suc, List, [], ◌∷◌, map, drop, Option, Some, None, refl, sym, ap, ◌∙◌, subst, arith}
use Rattle.std.specs.Prelude.{slice_get}
use Rattle.std.proofs.Math.Logic.{⊎_elim}
use Rattle.std.proofs.lemmas.Bool.{cases_eq}
use Rattle.low_forms.specs.declared.code.Reg.{Reg}
use Rattle.async_objects.specs.declared.kinds.Val.{Val}
use Rattle.async_objects.specs.declared.kinds.Val.TheVariants.{Number, Buffer, Object}
use Rattle.task_stack.specs.Registers.{nothing, held, put, bind, values_at, value, number, number_in, dims_in}
use Rattle.step_core.specs.Shared.{numbers}
use Rattle.step_core.specs.High.{Ref}
use Rattle.code_machines.specs.Objects.{Stands}
use Rattle.plain_carry.specs.Alike.{AlikeVal, AllAlike, AlikeRegs, AllBelow}
use Rattle.plain_carry.specs.Laws.{OperandsAlike, BoundAlike}

-- ---- registers

pub put_same : (regs : List Val) (k : ℕ) (v : Val) → held (put regs k v) k ≡ v
put_same [] zero v = refl
put_same [] (suc k) v = put_same [] k v
put_same (x ∷ regs) zero v = refl
put_same (x ∷ regs) (suc k) v = put_same regs k v

pub put_other : (regs : List Val) (k r : ℕ) (v : Val) → r ≢ k → held (put regs k v) r ≡ held regs r
put_other [] zero zero v n = absurd (n refl)
put_other [] zero (suc r) v n = refl
put_other [] (suc k) zero v n = refl
put_other [] (suc k) (suc r) v n = put_other [] k r v (λ e. n (ap suc e))
put_other (x ∷ regs) zero zero v n = absurd (n refl)
put_other (x ∷ regs) zero (suc r) v n = refl
put_other (x ∷ regs) (suc k) zero v n = refl
put_other (x ∷ regs) (suc k) (suc r) v n = put_other regs k r v (λ e. n (ap suc e))

-- registers from n on stay where others are bound
pub bind_other : (n k : ℕ) (these : List Reg) (vs regs : List Val) → AllBelow n these → n ≤ k → held (bind these vs regs) k ≡ held regs k
bind_other n k [] vs regs below from = refl
bind_other n k (r ∷ these) [] regs below from = refl
bind_other n k (r ∷ these) (v ∷ vs) regs below from =
    let first : r.0 < n = below.0 in
    bind_other n k these vs (put regs r.0 v) below.1 from ∙ put_other regs r.0 k v (λ e. let is : k ≡ r.0 = e in absurd (omega (arith, first, from, is)))

module _ (ks : List Stands) (rs : List Ref) where
  pub number_alike : (v w : Val) → AlikeVal ks rs v w → number_in v ≡ number_in w
  number_alike (Number n) (Number m) a = a
  number_alike (Number n) (Buffer b rank dims) a = elim a [ ]
  number_alike (Number n) (Object o) a = elim a [ ]
  number_alike (Buffer b rank dims) (Number m) a = elim a [ ]
  number_alike (Buffer b rank dims) (Buffer c rank' dims') a = refl
  number_alike (Buffer b rank dims) (Object o) a = elim a [ ]
  number_alike (Object o) (Number m) a = elim a [ ]
  number_alike (Object o) (Buffer b rank dims) a = elim a [ ]
  number_alike (Object o) (Object p) a = refl

  pub dims_alike : (v w : Val) → AlikeVal ks rs v w → dims_in v ≡ dims_in w
  dims_alike (Number n) (Number m) a = refl
  dims_alike (Number n) (Buffer b rank dims) a = elim a [ ]
  dims_alike (Number n) (Object o) a = elim a [ ]
  dims_alike (Buffer b rank dims) (Number m) a = elim a [ ]
  dims_alike (Buffer b rank dims) (Buffer c rank' dims') a = rw (a.1, a.2) refl
  dims_alike (Buffer b rank dims) (Object o) a = elim a [ ]
  dims_alike (Object o) (Number m) a = elim a [ ]
  dims_alike (Object o) (Buffer b rank dims) a = elim a [ ]
  dims_alike (Object o) (Object p) a = refl

  pub value_alike : (vs ws : List Val) (i : ℕ) → AllAlike ks rs vs ws → AlikeVal ks rs (value vs i) (value ws i)
  value_alike [] [] i a = refl
  value_alike [] (w ∷ ws) i a = elim a [ ]
  value_alike (v ∷ vs) [] i a = elim a [ ]
  value_alike (v ∷ vs) (w ∷ ws) zero a = a.0
  value_alike (v ∷ vs) (w ∷ ws) (suc i) a = value_alike vs ws i a.1

  pub at_alike : (vs ws : List Val) (i : ℕ) → AllAlike ks rs vs ws → number vs i ≡ number ws i
  at_alike vs ws i a = number_alike (value vs i) (value ws i) (value_alike vs ws i a)

  pub numbers_alike : (vs ws : List Val) → AllAlike ks rs vs ws → numbers vs ≡ numbers ws
  numbers_alike [] [] a = refl
  numbers_alike [] (w ∷ ws) a = elim a [ ]
  numbers_alike (v ∷ vs) [] a = elim a [ ]
  numbers_alike (v ∷ vs) (w ∷ ws) a = rw (number_alike v w a.0, numbers_alike vs ws a.1) refl

  pub drop_alike : (n : ℕ) (vs ws : List Val) → AllAlike ks rs vs ws → AllAlike ks rs (drop n vs) (drop n ws)
  drop_alike zero vs ws a = a
  drop_alike (suc n) [] [] a = tt
  drop_alike (suc n) [] (w ∷ ws) a = elim a [ ]
  drop_alike (suc n) (v ∷ vs) [] a = elim a [ ]
  drop_alike (suc n) (v ∷ vs) (w ∷ ws) a = drop_alike n vs ws a.1

  -- ---- registers that are alike

  pub put_alike : (n k : ℕ) (v w : Val) (regs regs' : List Val) → AlikeVal ks rs v w → AlikeRegs ks rs n regs regs' → AlikeRegs ks rs n (put regs k v) (put regs' k w)
  put_alike n k v w regs regs' same alike r below = ⊎_elim
      (λ e. subst (λ (x : ℕ). AlikeVal ks rs (held (put regs k v) x) (held (put regs' k w) x)) (sym e)
      (subst (λ (x : Val). AlikeVal ks rs x (held (put regs' k w) k)) (sym (put_same regs k v)) (subst (λ (x : Val). AlikeVal ks rs v x) (sym (put_same regs' k w)) same)))
      (λ n. subst (λ (x : Val). AlikeVal ks rs x (held (put regs' k w) r)) (sym (put_other regs k r v n)) (subst (λ (x : Val). AlikeVal ks rs (held regs r) x) (sym (put_other regs' k r w n)) (alike r below)))
      (cases_eq r k)

  -- a register that the second code hasn't
  pub more_alike : (n k : ℕ) (v : Val) (regs regs' : List Val) → n ≤ k → AlikeRegs ks rs n regs regs' → AlikeRegs ks rs n (put regs k v) regs'
  more_alike n k v regs regs' from alike r below =
      subst (λ (x : Val). AlikeVal ks rs x (held regs' r)) (sym (put_other regs k r v (λ e. let is : r ≡ k = e in absurd (omega (arith, below, from, is))))) (alike r below)

  pub bind_alike : (n : ℕ) (these : List Reg) (vs ws regs regs' : List Val) → AllAlike ks rs vs ws → AlikeRegs ks rs n regs regs' → AlikeRegs ks rs n (bind these vs regs) (bind these ws regs')
  bind_alike n [] vs ws regs regs' a alike = alike
  bind_alike n (r ∷ these) [] [] regs regs' a alike = alike
  bind_alike n (r ∷ these) [] (w ∷ ws) regs regs' a alike = elim a [ ]
  bind_alike n (r ∷ these) (v ∷ vs) [] regs regs' a alike = elim a [ ]
  bind_alike n (r ∷ these) (v ∷ vs) (w ∷ ws) regs regs' a alike = bind_alike n these vs ws (put regs r.0 v) (put regs' r.0 w) a.1 (put_alike n r.0 v w regs regs' a.0 alike)

  pub values_alike : (n : ℕ) (regs regs' : List Val) (these : List Reg) → AlikeRegs ks rs n regs regs' → AllBelow n these → AllAlike ks rs (values_at regs these) (values_at regs' these)
  values_alike n regs regs' [] alike below = tt
  values_alike n regs regs' (r ∷ these) alike below = (alike r.0 below.0, values_alike n regs regs' these alike below.1)

pub operands_alike : OperandsAlike
operands_alike ks rs n regs regs' these alike below = values_alike ks rs n regs regs' these alike below

pub bound_alike : BoundAlike
bound_alike ks rs n these vs ws regs regs' a alike = bind_alike ks rs n these vs ws regs regs' a alike
