-- Registers of visible values.
use Rattle.std.proofs.Common.{◌≡◌, ◌⊎◌, inl, inr, ◌<◌, ◌≤◌, ℕ, suc, ◌+◌, ◌==◌, nat_eq, cond, Bool, true, false, List, [], ◌∷◌, map, length, Option, Some, None, refl, sym, ap, subst, arith}
use Rattle.std.proofs.lemmas.Bool.Decides.{eqb_tells}
use Rattle.low_flow.specs.Lists.{has}
use Rattle.low_flow.proofs.Membership.{or_splits}
use Rattle.ir_forms.specs.declared.ops.ValueNo.{ValueNo}
use Rattle.low_forms.specs.declared.code.Reg.{Reg}
use Rattle.scf_blocks.specs.Tree.{Var, values_of}
use Rattle.scf_blocks.specs.Code.{Scope, known, or_first, reg, regs, operand, reg_no, with_values, with_vars}
use Rattle.block_laws.specs.Closed.{Sees, SeesAll, SeesOne, with_names}

abbrev pub names_of : Scope → List ℕ
names_of scope = map (λ y. y.0.0) scope

-- what holds of the register of each value
abbrev pub OfRegs : (ℕ → Type 0) → Scope → Type 0
OfRegs P [] = Unit {0}
OfRegs P (y ∷ scope) = P y.1.0 × OfRegs P scope

abbrev pub Holds : (ℕ → Type 0) → List Reg → Type 0
Holds P [] = Unit {0}
Holds P (r ∷ rs) = P r.0 × Holds P rs

pub names_with : (xs : List ValueNo) (n : ℕ) (scope : Scope) → names_of (with_values xs n scope) ≡ with_names xs (names_of scope)
names_with [] n scope = refl
names_with (x ∷ xs) n scope = names_with xs (n + 1) ((x, reg_no n) ∷ scope)

pub values_length : (xs : List Var) → length (values_of xs) ≡ length xs
values_length [] = refl
values_length (x ∷ xs) = ap suc (values_length xs)

-- so many registers from n on
abbrev pub From : (ℕ → Type 0) → ℕ → ℕ → Type 0
From P n k = (i : ℕ) → n ≤ i → i < n + k → P i

pub of_values : (P : ℕ → Type 0) (xs : List ValueNo) (n : ℕ) (scope : Scope) → From P n (length xs) → OfRegs P scope → OfRegs P (with_values xs n scope)
of_values P [] n scope new old = old
of_values P (x ∷ xs) n scope new old =
    of_values P xs (n + 1) ((x, reg_no n) ∷ scope) (λ i low high. new i (omega arith) (omega arith)) (new n (omega arith) (omega arith), old)

pub of_vars : (P : ℕ → Type 0) (xs : List Var) (n : ℕ) (scope : Scope) → From P n (length xs) → OfRegs P scope → OfRegs P (with_vars xs n scope)
of_vars P xs n scope new old = of_values P (values_of xs) n scope (subst (λ k. From P n k) (sym (values_length xs)) new) old

pub of_more : (P Q : ℕ → Type 0) (scope : Scope) → ((r : ℕ) → P r → Q r) → OfRegs P scope → OfRegs Q scope
of_more P Q [] more of = tt
of_more P Q (y ∷ scope) more of = (more y.1.0 of.0, of_more P Q scope more of.1)

same_of : (a b : ℕ) → (a == b) ≡ true → a ≡ b
same_of a b is = elim (eqb_tells a b) [
  | inl same ↦ same.1
  | inr differs ↦ cc
]

pub of_reg : (P : ℕ → Type 0) (scope : Scope) (x : ValueNo) → OfRegs P scope → Sees (names_of scope) x → P (reg scope x).0
of_reg P [] x of sees = cc
of_reg P (y ∷ scope) x of sees = go (eqb_tells y.0.0 x.0) (or_splits (x.0 == y.0.0) (has x.0 (names_of scope)) sees) (λ later. of_reg P scope x of.1 later)
  where
    go : ((nat_eq y.0.0 x.0) ≡ true) × (y.0.0 ≡ x.0) ⊎ ((nat_eq y.0.0 x.0) ≡ false) × (y.0.0 ≡ x.0 → ⊥)
        → ((x.0 == y.0.0) ≡ true) ⊎ (has x.0 (names_of scope) ≡ true) → (has x.0 (names_of scope) ≡ true → P (reg scope x).0) → P (reg (y ∷ scope) x).0
    go (inl same) s more = subst (λ (b : Bool). P (or_first (cond b (Some y.1) (known scope x.0))).0) (sym same.0) of.0
    go (inr other) (inl here) more = absurd (other.1 (sym (same_of (x.0) (y.0.0) here)))
    go (inr other) (inr later) more = subst (λ (b : Bool). P (or_first (cond b (Some y.1) (known scope x.0))).0) (sym other.0) (more later)

pub of_regs : (P : ℕ → Type 0) (scope : Scope) (xs : List ValueNo) → OfRegs P scope → SeesAll (names_of scope) xs → Holds P (regs scope xs)
of_regs P scope [] of sees = tt
of_regs P scope (x ∷ xs) of sees = (of_reg P scope x of sees.0, of_regs P scope xs of sees.1)

pub of_operand : (P : ℕ → Type 0) (scope : Scope) (o : Option ValueNo) → OfRegs P scope → SeesOne (names_of scope) o → P (operand scope o).0
of_operand P scope None of sees = absurd sees
of_operand P scope (Some x) of sees = of_reg P scope x of sees
