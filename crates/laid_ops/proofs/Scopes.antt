-- Scopes beside the values that are visible.
use Rattle.std.proofs.Common.{◌≡◌, ℕ, suc, ◌+◌, nat_eq, cond, Bool, true, false, List, [], ◌∷◌, length, Option, Some, None, IsSome, slice_get, refl, sym, ap, ◌∙◌, subst, arith}
use Rattle.ir_forms.specs.declared.ops.ValueNo.{ValueNo}
use Rattle.ir_forms.specs.declared.types.Ty.{Ty}
use Rattle.low_forms.specs.declared.code.Reg.{Reg}
use Rattle.low_forms.specs.declared.code.LowFunc.{LowFunc}
use Rattle.low_forms.specs.Registers.{type_at}
use Rattle.scf_blocks.specs.Tree.{Var, values_of, types_in, typed}
use Rattle.scf_blocks.specs.Code.{Scope, reg_no, known, or_first, regs, regs_from, with_vars}
use Rattle.block_carry.specs.Rows.{AreVisible, AreNew}
use Rattle.laid_blocks.specs.Placed.{HaveTypes}
use Rattle.laid_ops.specs.Suited.{type_in, with_known, AreSeen, AreFresh, first_type}
use Rattle.laid_ops.specs.Laws.{AreTyped}

module _ (f : LowFunc) where
  -- a value is visible on both sides, with a register of its type, or on neither
  abbrev pub Same : Option Reg → Option Ty → Type 0
  Same None None = Unit {0}
  Same (Some r) (Some t) = slice_get f.regs r.0 ≡ Some t
  Same None (Some t) = ⊥
  Same (Some r) None = ⊥

  pub alike : (scope : Scope) (vars : List Var) → AreTyped f scope vars → (x : ℕ) → Same (known scope x) (type_in vars x)
  alike [] [] h x = tt
  alike [] (v ∷ vars) h x = absurd h
  alike (y ∷ scope) [] h x = absurd h
  alike (y ∷ scope) (v ∷ vars) h x =
      subst (λ (z : ValueNo). Same (cond (nat_eq y.0.0 x) (Some y.1) (known scope x)) (cond (nat_eq z.0 x) (Some v.1) (type_in vars x))) h.0 (by (nat_eq y.0.0 x) (alike scope vars h.2 x))
    where
      by : (b : Bool) → Same (known scope x) (type_in vars x) → Same (cond b (Some y.1) (known scope x)) (cond b (Some v.1) (type_in vars x))
      by true later = h.1
      by false later = later

  seen_one : (r : Option Reg) (t : Option Ty) → Same r t → IsSome t → IsSome r
  seen_one None None same seen = cc
  seen_one None (Some t) same seen = absurd same
  seen_one (Some r) t same seen = refl

  new_one : (r : Option Reg) (t : Option Ty) → Same r t → t ≡ None → r ≡ None
  new_one None t same new = refl
  new_one (Some r) None same new = absurd same
  new_one (Some r) (Some t) same new = cc

  typed_one : (r : Option Reg) (t : Option Ty) → Same r t → IsSome t → slice_get f.regs (or_first r).0 ≡ t
  typed_one None None same seen = cc
  typed_one None (Some t) same seen = absurd same
  typed_one (Some r) None same seen = cc
  typed_one (Some r) (Some t) same seen = same

  pub visible : (scope : Scope) (vars : List Var) (xs : List ValueNo) → AreTyped f scope vars → AreSeen vars xs → AreVisible scope xs
  visible scope vars [] h seen = tt
  visible scope vars (x ∷ xs) h seen = (seen_one (known scope x.0) (type_in vars x.0) (alike scope vars h x.0) seen.0, visible scope vars xs h seen.1)

  pub new : (scope : Scope) (vars xs : List Var) (n : ℕ) → AreTyped f scope vars → HaveTypes f n (types_in xs) → AreFresh vars xs → AreNew scope n (values_of xs)
  new scope vars [] n h types fresh = tt
  new scope vars (x ∷ xs) n h types fresh =
      (new_one (known scope x.0.0) (type_in vars x.0.0) (alike scope vars h x.0.0) fresh.0, new ((x.0, reg_no n) ∷ scope) (x ∷ vars) xs (n + 1) (refl, types.0, h) types.1 fresh.1)

  pub typed_more : (scope : Scope) (vars xs : List Var) (n : ℕ) → AreTyped f scope vars → HaveTypes f n (types_in xs) → AreTyped f (with_vars xs n scope) (with_known xs vars)
  typed_more scope vars [] n h types = h
  typed_more scope vars (x ∷ xs) n h types = typed_more ((x.0, reg_no n) ∷ scope) (x ∷ vars) xs (n + 1) (refl, types.0, h) types.1

  -- the type of the first operand's register
  pub operand_type : (scope : Scope) (vars : List Var) (xs : List ValueNo) → AreTyped f scope vars → AreSeen vars xs → type_at f (regs scope xs) 0 ≡ first_type vars xs
  operand_type scope vars [] h seen = refl
  operand_type scope vars (x ∷ xs) h seen = typed_one (known scope x.0) (type_in vars x.0) (alike scope vars h x.0) seen.0

  -- and of the first result's
  pub result_type : (xs : List ValueNo) (ts : List Ty) (n : ℕ) → length ts ≡ length xs → HaveTypes f n (types_in (typed xs ts)) → type_at f (regs_from n xs) 0 ≡ slice_get ts 0
  result_type [] [] n many types = refl
  result_type [] (t ∷ ts) n many types = (let e : suc (length ts) ≡ 0 = many in absurd (omega (arith, e)))
  result_type (x ∷ xs) [] n many types = (let e : 0 ≡ suc (length xs) = many in absurd (omega (arith, e)))
  result_type (x ∷ xs) (t ∷ ts) n many types = types.0

-- ---- results with their types

pub values_typed : (xs : List ValueNo) (ts : List Ty) → values_of (typed xs ts) ≡ xs
values_typed [] ts = refl
values_typed (x ∷ xs) [] = ap (λ l. x ∷ l) (values_typed xs [])
values_typed (x ∷ xs) (t ∷ ts) = ap (λ l. x ∷ l) (values_typed xs ts)

pub length_typed : (xs : List ValueNo) (ts : List Ty) → length (typed xs ts) ≡ length xs
length_typed [] ts = refl
length_typed (x ∷ xs) [] = ap suc (length_typed xs [])
length_typed (x ∷ xs) (t ∷ ts) = ap suc (length_typed xs ts)

pub from_typed : (xs : List ValueNo) (ts : List Ty) (n : ℕ) → regs_from n (typed xs ts) ≡ regs_from n xs
from_typed [] ts n = refl
from_typed (x ∷ xs) [] n = ap (λ l. reg_no n ∷ l) (from_typed xs [] (n + 1))
from_typed (x ∷ xs) (t ∷ ts) n = ap (λ l. reg_no n ∷ l) (from_typed xs ts (n + 1))

-- ---- values without their types

pub length_values : (xs : List Var) → length (values_of xs) ≡ length xs
length_values [] = refl
length_values (x ∷ xs) = ap suc (length_values xs)

pub from_values : (xs : List Var) (n : ℕ) → regs_from n xs ≡ regs_from n (values_of xs)
from_values [] n = refl
from_values (x ∷ xs) n = ap (λ l. reg_no n ∷ l) (from_values xs (n + 1))

pub same_length : (xs : List Var) (ys : List ValueNo) → values_of xs ≡ ys → length xs ≡ length ys
same_length xs ys e = sym (length_values xs) ∙ ap length e
