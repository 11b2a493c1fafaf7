-- Registers of visible values have the types of these.
use Rattle.std.proofs.Common.{◌≡◌, ◌⊎◌, inl, inr, ◌≤◌, ℕ, zero, suc, ◌+◌, ◌==◌, nat_eq, cond, Bool, true, false, List, [], ◌∷◌, ◌++◌, map, length, Option, Some, None, refl, sym, ap, ap₂, ◌∙◌, subst, arith}
use Rattle.std.specs.Prelude.{slice_get}
use Rattle.std.proofs.lemmas.Bool.Decides.{eqb_tells}
use Rattle.low_flow.specs.Lists.{has}
use Rattle.low_flow.proofs.Membership.{or_left, or_right, has_here}
use Rattle.ir_forms.specs.declared.ops.ValueNo.{ValueNo}
use Rattle.ir_forms.specs.declared.types.Ty.{Ty}
use Rattle.ir_verify.specs.Scopes.{lookup}
use Rattle.low_forms.specs.declared.code.Reg.{Reg}
use Rattle.low_forms.specs.declared.code.LowFunc.{LowFunc}
use Rattle.low_forms.specs.Registers.{reg_type}
use Rattle.scf_blocks.specs.Tree.{Var, values_of, types_in, typed}
use Rattle.scf_blocks.specs.Code.{Scope, known, or_first, reg, regs, operand, reg_no, regs_from, with_values, with_vars}
use Rattle.block_laws.specs.Closed.{Sees, SeesAll, SeesOne, with_names, with_named}
use Rattle.register_laws.proofs.Views.{types}
use Rattle.typed_rows.specs.Typed.{Env, with_typed, HasTypes, HasType}
use Rattle.typed_rows.proofs.Places.{Stand}

-- ---- what is visible

abbrev pub names_in : Env → List ℕ
names_in env = map (λ e. e.0.0) env

pub names_typed : (xs : List Var) (env : Env) → names_in (with_typed xs env) ≡ with_named xs (names_in env)
names_typed [] env = refl
names_typed (x ∷ xs) env = names_typed xs (x ∷ env)

pub names_given : (xs : List ValueNo) (ts : List Ty) (env : Env) → names_in (with_typed (typed xs ts) env) ≡ with_names xs (names_in env)
names_given [] ts env = refl
names_given (x ∷ xs) [] env = names_given xs [] _
names_given (x ∷ xs) (t ∷ ts) env = names_given xs ts _

seen_by : (b : Bool) (e : Var) (env : Env) (x : ValueNo) (t : Ty) → (e.0.0 == x.0) ≡ b → ((lookup env x.0 ≡ Some t) → Sees (names_in env) x) → cond b (Some e.1) (lookup env x.0) ≡ Some t → Sees (names_in (e ∷ env)) x
seen_by true e env x t same more at = or_left (x.0 == e.0.0) (has x.0 (names_in env)) (elim (eqb_tells x.0 e.0.0) [
  | inl h ↦ h.0
  | inr h ↦ elim (eqb_tells e.0.0 x.0) [
    | inl g ↦ absurd (h.1 (sym g.1))
    | inr g ↦ (let no : (e.0.0 == x.0) ≡ false = g.0 in cc)
  ]
])
seen_by false e env x t same more at = or_right (x.0 == e.0.0) (has x.0 (names_in env)) (more at)

pub type_seen : (env : Env) (x : ValueNo) (t : Ty) → lookup env x.0 ≡ Some t → Sees (names_in env) x
type_seen [] x t at = cc
type_seen (e ∷ env) x t at = seen_by (e.0.0 == x.0) e env x t refl (λ h. type_seen env x t h) at

pub types_seen : (env : Env) (xs : List ValueNo) (ts : List Ty) → HasTypes env xs ts → SeesAll (names_in env) xs
types_seen env [] [] is = tt
types_seen env [] (t ∷ ts) is = absurd is
types_seen env (x ∷ xs) [] is = absurd is
types_seen env (x ∷ xs) (t ∷ ts) is = (type_seen env x t is.0, types_seen env xs ts is.1)

pub one_seen : (env : Env) (o : Option ValueNo) (t : Ty) → HasType env o t → SeesOne (names_in env) o
one_seen env None t is = absurd is
one_seen env (Some x) t is = type_seen env x t is

-- ---- registers

-- as they are seen of registers
abbrev pub some_types : List Ty → List (Option Ty)
some_types ts = map (λ (t : Ty). Some t) ts

module _ (f : LowFunc) where
  -- the registers of the visible values have their types
  abbrev pub Agrees : Scope → Env → Type 0
  Agrees [] [] = Unit {0}
  Agrees [] (e ∷ env) = ⊥
  Agrees (y ∷ scope) [] = ⊥
  Agrees (y ∷ scope) (e ∷ env) = (y.0 ≡ e.0) × (slice_get f.regs y.1.0 ≡ Some e.1) × Agrees scope env

  pub agrees_vars : (xs : List Var) (n : ℕ) (scope : Scope) (env : Env) → Stand f.regs n (types_in xs) → Agrees scope env → Agrees (with_vars xs n scope) (with_typed xs env)
  agrees_vars [] n scope env s a = a
  agrees_vars (x ∷ xs) n scope env s a = agrees_vars xs (n + 1) ((x.0, reg_no n) ∷ scope) (x ∷ env) s.1 (refl, s.0, a)

  pub agrees_values : (xs : List ValueNo) (ts : List Ty) (n : ℕ) (scope : Scope) (env : Env) → length xs ≤ length ts → Stand f.regs n ts → Agrees scope env → Agrees (with_values xs n scope) (with_typed (typed xs ts) env)
  agrees_values [] ts n scope env few s a = a
  agrees_values (x ∷ xs) [] n scope env few s a = absurd (omega (arith, few))
  agrees_values (x ∷ xs) (t ∷ ts) n scope env few s a = agrees_values xs ts (n + 1) ((x, reg_no n) ∷ scope) ((x, t) ∷ env) (omega (arith, few)) s.1 (refl, s.0, a)

  reg_by : (b : Bool) (y : ValueNo × Reg) (e : Var) (scope : Scope) (env : Env) (x : ℕ) (t : Ty) → slice_get f.regs y.1.0 ≡ Some e.1
      → (lookup env x ≡ Some t → reg_type f (or_first (known scope x)) ≡ Some t) → cond b (Some e.1) (lookup env x) ≡ Some t → reg_type f (or_first (cond b (Some y.1) (known scope x))) ≡ Some t
  reg_by true y e scope env x t is more at = is ∙ at
  reg_by false y e scope env x t is more at = more at

  pub reg_typed : (scope : Scope) (env : Env) (x : ℕ) (t : Ty) → Agrees scope env → lookup env x ≡ Some t → reg_type f (or_first (known scope x)) ≡ Some t
  reg_typed [] [] x t a at = cc
  reg_typed [] (e ∷ env) x t a at = absurd a
  reg_typed (y ∷ scope) [] x t a at = absurd a
  reg_typed (y ∷ scope) (e ∷ env) x t a at =
      subst (λ (v : ValueNo). reg_type f (or_first (cond (nat_eq v.0 x) (Some y.1) (known scope x))) ≡ Some t) (sym a.0)
      (reg_by (nat_eq e.0.0 x) y e scope env x t a.1 (λ h. reg_typed scope env x t a.2 h) at)

  pub regs_typed : (scope : Scope) (env : Env) (xs : List ValueNo) (ts : List Ty) → Agrees scope env → HasTypes env xs ts → types f (regs scope xs) ≡ some_types ts
  regs_typed scope env [] [] a is = refl
  regs_typed scope env [] (t ∷ ts) a is = absurd is
  regs_typed scope env (x ∷ xs) [] a is = absurd is
  regs_typed scope env (x ∷ xs) (t ∷ ts) a is = ap₂ (λ (o : Option Ty) (os : List (Option Ty)). o ∷ os) (reg_typed scope env x.0 t a is.0) (regs_typed scope env xs ts a is.1)

  pub operand_typed : (scope : Scope) (env : Env) (o : Option ValueNo) (t : Ty) → Agrees scope env → HasType env o t → reg_type f (operand scope o) ≡ Some t
  operand_typed scope env None t a is = absurd is
  operand_typed scope env (Some x) t a is = reg_typed scope env x.0 t a is

  pub from_typed : (n : ℕ) (xs : List Var) → Stand f.regs n (types_in xs) → types f (regs_from n xs) ≡ some_types (types_in xs)
  from_typed n [] s = refl
  from_typed n (x ∷ xs) s = ap₂ (λ (o : Option Ty) (os : List (Option Ty)). o ∷ os) s.0 (from_typed (n + 1) xs s.1)

  pub lone_typed : (n : ℕ) (ts : List Ty) → Stand f.regs n ts → types f (regs_from n ts) ≡ some_types ts
  lone_typed n [] s = refl
  lone_typed n (t ∷ ts) s = ap₂ (λ (o : Option Ty) (os : List (Option Ty)). o ∷ os) s.0 (lone_typed (n + 1) ts s.1)
