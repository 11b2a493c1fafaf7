-- What comes to registers that are named once: each register of an object gets one reference of its value.
use Rattle.std.proofs.Common.{◌≡◌, ◌⊎◌, inl, inr, ℕ, zero, suc, ◌+◌, ◌≤◌, ◌==◌, ◌||◌, if◌then◌else◌, Bool, true, false, List, [], ◌∷◌, Option, Some, None, refl, ap, ◌∙◌, arith}
use Rattle.std.proofs.lemmas.Bool.Decides.{eqb_tells}
use Rattle.ir_forms.specs.declared.types.Ty.{Ty}
use Rattle.ir_forms.specs.declared.types.Ty.TheVariants as ty
use Rattle.ir_verify.specs.Types.{same_type}
use Rattle.low_flow.specs.Lists.{has}
use Rattle.low_forms.specs.declared.code.Reg.{Reg}
use Rattle.low_forms.specs.declared.code.LowFunc.{LowFunc}
use Rattle.low_forms.specs.Registers.{reg_type, on_type, on_types, like_types}
use Rattle.low_forms.specs.Assigned.{numbers}
use Rattle.low_forms.specs.Edges.{count_to}
use Rattle.low_forms.specs.Owns.{is_object, references}
use Rattle.async_objects.specs.declared.kinds.Val.{Val}
use Rattle.task_stack.specs.Registers.{held, put, bind, values_at}
use Rattle.own_tables.specs.Owns.{is_object_reg}
use Rattle.count_sums.specs.Sums.{total, point, share, owned}
use Rattle.count_sums.proofs.Sums.{decide, point_here, point_none, point_other, count_point, owned_write, owned_point, put_held, share_none}
use Rattle.count_equation.proofs.Places.{untrue, and_first, and_second}

-- one for a register of an object
abbrev pub one : LowFunc → Reg → ℕ
one f r = if on_type is_object (reg_type f r) then 1 else 0

abbrev pub with_one : LowFunc → (ℕ → ℕ) → Reg → ℕ → ℕ
with_one f w r q = w q + point r.0 (one f r) q

-- no register has a number before its value comes
abbrev pub AreFresh : LowFunc → (ℕ → ℕ) → List Reg → Type 0
AreFresh f w [] = Unit {0}
AreFresh f w (r ∷ rs) = (w r.0 ≡ 0) × AreFresh f (with_one f w r) rs

-- the numbers behind
abbrev pub gained : LowFunc → (ℕ → ℕ) → List Reg → ℕ → ℕ
gained f w [] = w
gained f w (r ∷ rs) = gained f (with_one f w r) rs

-- what comes
abbrev pub shares : LowFunc → ℕ → List Reg → List Val → ℕ
shares f o [] vs = 0
shares f o (r ∷ rs) [] = 0
shares f o (r ∷ rs) (v ∷ vs) = share o v (one f r) + shares f o rs vs

abbrev pub AsMany : {X Y : Type 0} → List X → List Y → Type 0
AsMany [] [] = Unit {0}
AsMany [] (y ∷ ys) = ⊥
AsMany (x ∷ xs) [] = ⊥
AsMany (x ∷ xs) (y ∷ ys) = AsMany xs ys

module _ (f : LowFunc) (o : ℕ) where
  pub comes : (w : ℕ → ℕ) (rs : List Reg) (vs regs : List Val) → AsMany rs vs → AreFresh f w rs → owned (gained f w rs) o (bind rs vs regs) ≡ owned w o regs + shares f o rs vs
  comes w [] [] regs many fresh = omega arith
  comes w [] (v ∷ vs) regs many fresh = elim many [ ]
  comes w (r ∷ rs) [] regs many fresh = elim many [ ]
  comes w (r ∷ rs) (v ∷ vs) regs many fresh =
      let a : owned (gained f (with_one f w r) rs) o (bind rs vs (put regs r.0 v)) ≡ owned (with_one f w r) o (put regs r.0 v) + shares f o rs vs = comes (with_one f w r) rs vs (put regs r.0 v) many fresh.1 in
      let b : owned (with_one f w r) o (put regs r.0 v) ≡ owned w o (put regs r.0 v) + share o (held (put regs r.0 v) r.0) (one f r) = owned_point w o (put regs r.0 v) r.0 (one f r) in
      let c : owned w o (put regs r.0 v) ≡ owned w o regs = owned_write w o regs r.0 v fresh.0 in
      let d : share o (held (put regs r.0 v) r.0) (one f r) ≡ share o v (one f r) = ap (λ x. share o x (one f r)) (put_held regs r.0 v) in
      omega (arith, a, b, c, d)

module _ (f : LowFunc) where
  one_reference : (q : ℕ) (r : Reg) (rs : List Reg) → count_to q (references f (r ∷ rs)) ≡ point r.0 (one f r) q + count_to q (references f rs)
  one_reference q r rs = step (on_type is_object (reg_type f r))
    where
      none : (p q : ℕ) → point p 0 q ≡ 0
      none zero zero = refl
      none zero (suc q) = refl
      none (suc p) zero = refl
      none (suc p) (suc q) = none p q

      step : (b : Bool) → count_to q (if b then r.0 ∷ references f rs else references f rs) ≡ point r.0 (if b then 1 else 0) q + count_to q (references f rs)
      step true = count_point q r.0 (references f rs)
      step false = let e : point r.0 0 q ≡ 0 = none r.0 q in omega (arith, e)

  pub gained_is : (w : ℕ → ℕ) (rs : List Reg) (q : ℕ) → gained f w rs q ≡ w q + count_to q (references f rs)
  gained_is w [] q = omega arith
  gained_is w (r ∷ rs) q =
      let a : gained f (with_one f w r) rs q ≡ (w q + point r.0 (one f r) q) + count_to q (references f rs) = gained_is (with_one f w r) rs q in
      let b : count_to q (references f (r ∷ rs)) ≡ point r.0 (one f r) q + count_to q (references f rs) = one_reference q r rs in
      omega (arith, a, b)

  -- no register of another type is counted
  pub not_counted : (q : ℕ) (rs : List Reg) → is_object_reg f q ≡ false → count_to q (references f rs) ≡ 0
  not_counted q [] is = refl
  not_counted q (r ∷ rs) is =
      let a : count_to q (references f (r ∷ rs)) ≡ point r.0 (one f r) q + count_to q (references f rs) = one_reference q r rs in
      let b : count_to q (references f rs) ≡ 0 = not_counted q rs is in
      let c : point r.0 (one f r) q ≡ 0 = apart (decide r.0 q) in
      omega (arith, a, b, c)
    where
      apart : (r.0 ≡ q) ⊎ (r.0 ≡ q → ⊥) → point r.0 (one f r) q ≡ 0
      apart (inl same) = ap (λ x. point r.0 x q) (ap (λ b. if b then 1 else 0) (ap (λ x. is_object_reg f x) same ∙ is)) ∙ point_none r.0 q
      apart (inr other) = point_other r.0 (one f r) q other

  -- registers that have no number, each of an object named once
  pub fresh : (w : ℕ → ℕ) (rs : List Reg) → ((q : ℕ) → is_object_reg f q ≡ true → has q (numbers rs) ≡ true → w q + count_to q (references f rs) ≤ 1)
      → ((q : ℕ) → is_object_reg f q ≡ false → w q ≡ 0) → AreFresh f w rs
  fresh w [] once others = tt
  fresh w (r ∷ rs) once others = (first (is_object_reg f r.0) refl, fresh (with_one f w r) rs later away)
    where
      self : has r.0 (numbers (r ∷ rs)) ≡ true
      self = here r.0 (has r.0 (numbers rs))
        where
          here : (n : ℕ) (b : Bool) → ((n == n) || b) ≡ true
          here n b = elim (eqb_tells n n) [ inl same ↦ ap (λ x. x || b) same.0 | inr other ↦ absurd (other.1 refl) ]

      first : (b : Bool) → is_object_reg f r.0 ≡ b → w r.0 ≡ 0
      first true is =
          let a : w r.0 + count_to r.0 (references f (r ∷ rs)) ≤ 1 = once r.0 is self in
          let b : count_to r.0 (references f (r ∷ rs)) ≡ point r.0 (one f r) r.0 + count_to r.0 (references f rs) = one_reference r.0 r rs in
          let c : point r.0 (one f r) r.0 ≡ 1 = point_here r.0 (one f r) ∙ ap (λ b. if b then 1 else 0) is in
          omega (arith, a, b, c)
      first false is = others r.0 is

      later : (q : ℕ) → is_object_reg f q ≡ true → has q (numbers rs) ≡ true → with_one f w r q + count_to q (references f rs) ≤ 1
      later q is there =
          let a : w q + count_to q (references f (r ∷ rs)) ≤ 1 = once q is (or_right (q == r.0) (has q (numbers rs)) there) in
          let b : count_to q (references f (r ∷ rs)) ≡ point r.0 (one f r) q + count_to q (references f rs) = one_reference q r rs in
          omega (arith, a, b)
        where
          or_right : (a b : Bool) → b ≡ true → (a || b) ≡ true
          or_right true b e = refl
          or_right false b e = e

      away : (q : ℕ) → is_object_reg f q ≡ false → with_one f w r q ≡ 0
      away q is =
          let a : w q ≡ 0 = others q is in
          let b : point r.0 (one f r) q ≡ 0 = none (decide r.0 q) in
          omega (arith, a, b)
        where
          none : (r.0 ≡ q) ⊎ (r.0 ≡ q → ⊥) → point r.0 (one f r) q ≡ 0
          none (inl same) = ap (λ x. point r.0 x q) (ap (λ b. if b then 1 else 0) (ap (λ x. is_object_reg f x) same ∙ is)) ∙ nothing r.0 q
            where
              nothing : (p q : ℕ) → point p 0 q ≡ 0
              nothing zero zero = refl
              nothing zero (suc q) = refl
              nothing (suc p) zero = refl
              nothing (suc p) (suc q) = nothing p q
          none (inr other) = point_other r.0 (one f r) q other

  -- ---- registers of like types

  same_object : (t u : Ty) → same_type t u ≡ true → is_object u ≡ is_object t
  same_object (ty.Int m) (ty.Int n) e = refl
  same_object (ty.Int m) ty.Index e = untrue e
  same_object (ty.Int m) (ty.Memref n) e = untrue e
  same_object (ty.Int m) ty.Token e = untrue e
  same_object (ty.Int m) (ty.Value n) e = untrue e
  same_object (ty.Int m) ty.Group e = untrue e
  same_object (ty.Int m) ty.CoroId e = untrue e
  same_object (ty.Int m) ty.CoroHandle e = untrue e
  same_object (ty.Int m) ty.CoroState e = untrue e
  same_object (ty.Int m) ty.Untyped e = untrue e
  same_object ty.Index (ty.Int n) e = untrue e
  same_object ty.Index ty.Index e = refl
  same_object ty.Index (ty.Memref n) e = untrue e
  same_object ty.Index ty.Token e = untrue e
  same_object ty.Index (ty.Value n) e = untrue e
  same_object ty.Index ty.Group e = untrue e
  same_object ty.Index ty.CoroId e = untrue e
  same_object ty.Index ty.CoroHandle e = untrue e
  same_object ty.Index ty.CoroState e = untrue e
  same_object ty.Index ty.Untyped e = untrue e
  same_object (ty.Memref m) (ty.Int n) e = untrue e
  same_object (ty.Memref m) ty.Index e = untrue e
  same_object (ty.Memref m) (ty.Memref n) e = refl
  same_object (ty.Memref m) ty.Token e = untrue e
  same_object (ty.Memref m) (ty.Value n) e = untrue e
  same_object (ty.Memref m) ty.Group e = untrue e
  same_object (ty.Memref m) ty.CoroId e = untrue e
  same_object (ty.Memref m) ty.CoroHandle e = untrue e
  same_object (ty.Memref m) ty.CoroState e = untrue e
  same_object (ty.Memref m) ty.Untyped e = untrue e
  same_object ty.Token (ty.Int n) e = untrue e
  same_object ty.Token ty.Index e = untrue e
  same_object ty.Token (ty.Memref n) e = untrue e
  same_object ty.Token ty.Token e = refl
  same_object ty.Token (ty.Value n) e = untrue e
  same_object ty.Token ty.Group e = untrue e
  same_object ty.Token ty.CoroId e = untrue e
  same_object ty.Token ty.CoroHandle e = untrue e
  same_object ty.Token ty.CoroState e = untrue e
  same_object ty.Token ty.Untyped e = untrue e
  same_object (ty.Value m) (ty.Int n) e = untrue e
  same_object (ty.Value m) ty.Index e = untrue e
  same_object (ty.Value m) (ty.Memref n) e = untrue e
  same_object (ty.Value m) ty.Token e = untrue e
  same_object (ty.Value m) (ty.Value n) e = refl
  same_object (ty.Value m) ty.Group e = untrue e
  same_object (ty.Value m) ty.CoroId e = untrue e
  same_object (ty.Value m) ty.CoroHandle e = untrue e
  same_object (ty.Value m) ty.CoroState e = untrue e
  same_object (ty.Value m) ty.Untyped e = untrue e
  same_object ty.Group (ty.Int n) e = untrue e
  same_object ty.Group ty.Index e = untrue e
  same_object ty.Group (ty.Memref n) e = untrue e
  same_object ty.Group ty.Token e = untrue e
  same_object ty.Group (ty.Value n) e = untrue e
  same_object ty.Group ty.Group e = refl
  same_object ty.Group ty.CoroId e = untrue e
  same_object ty.Group ty.CoroHandle e = untrue e
  same_object ty.Group ty.CoroState e = untrue e
  same_object ty.Group ty.Untyped e = untrue e
  same_object ty.CoroId (ty.Int n) e = untrue e
  same_object ty.CoroId ty.Index e = untrue e
  same_object ty.CoroId (ty.Memref n) e = untrue e
  same_object ty.CoroId ty.Token e = untrue e
  same_object ty.CoroId (ty.Value n) e = untrue e
  same_object ty.CoroId ty.Group e = untrue e
  same_object ty.CoroId ty.CoroId e = refl
  same_object ty.CoroId ty.CoroHandle e = untrue e
  same_object ty.CoroId ty.CoroState e = untrue e
  same_object ty.CoroId ty.Untyped e = untrue e
  same_object ty.CoroHandle (ty.Int n) e = untrue e
  same_object ty.CoroHandle ty.Index e = untrue e
  same_object ty.CoroHandle (ty.Memref n) e = untrue e
  same_object ty.CoroHandle ty.Token e = untrue e
  same_object ty.CoroHandle (ty.Value n) e = untrue e
  same_object ty.CoroHandle ty.Group e = untrue e
  same_object ty.CoroHandle ty.CoroId e = untrue e
  same_object ty.CoroHandle ty.CoroHandle e = refl
  same_object ty.CoroHandle ty.CoroState e = untrue e
  same_object ty.CoroHandle ty.Untyped e = untrue e
  same_object ty.CoroState (ty.Int n) e = untrue e
  same_object ty.CoroState ty.Index e = untrue e
  same_object ty.CoroState (ty.Memref n) e = untrue e
  same_object ty.CoroState ty.Token e = untrue e
  same_object ty.CoroState (ty.Value n) e = untrue e
  same_object ty.CoroState ty.Group e = untrue e
  same_object ty.CoroState ty.CoroId e = untrue e
  same_object ty.CoroState ty.CoroHandle e = untrue e
  same_object ty.CoroState ty.CoroState e = refl
  same_object ty.CoroState ty.Untyped e = untrue e
  same_object ty.Untyped (ty.Int n) e = untrue e
  same_object ty.Untyped ty.Index e = untrue e
  same_object ty.Untyped (ty.Memref n) e = untrue e
  same_object ty.Untyped ty.Token e = untrue e
  same_object ty.Untyped (ty.Value n) e = untrue e
  same_object ty.Untyped ty.Group e = untrue e
  same_object ty.Untyped ty.CoroId e = untrue e
  same_object ty.Untyped ty.CoroHandle e = untrue e
  same_object ty.Untyped ty.CoroState e = untrue e
  same_object ty.Untyped ty.Untyped e = untrue e

  like_one : (t u : Option Ty) → on_types same_type t u ≡ true → on_type is_object u ≡ on_type is_object t
  like_one None u e = untrue e
  like_one (Some t) None e = untrue e
  like_one (Some t) (Some u) e = same_object t u e

  pub like_many : (rs ss : List Reg) (regs : List Val) → like_types f rs f ss ≡ true → AsMany ss (values_at regs rs)
  like_many [] [] regs e = tt
  like_many [] (s ∷ ss) regs e = absurd (untrue e)
  like_many (r ∷ rs) [] regs e = absurd (untrue e)
  like_many (r ∷ rs) (s ∷ ss) regs e = like_many rs ss regs (and_second (on_types same_type (reg_type f s) (reg_type f r)) (like_types f rs f ss) e)

  -- what arguments take along is what comes to the parameters
  pub like_shares : (o : ℕ) (rs ss : List Reg) (regs : List Val) → like_types f rs f ss ≡ true → total (λ r. share o (held regs r) 1) (references f rs) ≡ shares f o ss (values_at regs rs)
  like_shares o [] [] regs e = refl
  like_shares o [] (s ∷ ss) regs e = absurd (untrue e)
  like_shares o (r ∷ rs) [] regs e = absurd (untrue e)
  like_shares o (r ∷ rs) (s ∷ ss) regs e =
      let later : total (λ r. share o (held regs r) 1) (references f rs) ≡ shares f o ss (values_at regs rs) = like_shares o rs ss regs (and_second (on_types same_type (reg_type f s) (reg_type f r)) (like_types f rs f ss) e) in
      let same : on_type is_object (reg_type f r) ≡ on_type is_object (reg_type f s) = like_one (reg_type f s) (reg_type f r) (and_first (on_types same_type (reg_type f s) (reg_type f r)) (like_types f rs f ss) e) in
      let now : total (λ r. share o (held regs r) 1) (references f (r ∷ rs)) ≡ share o (held regs r.0) (one f r) + total (λ r. share o (held regs r) 1) (references f rs) = split (on_type is_object (reg_type f r)) in
      let like : share o (held regs r.0) (one f r) ≡ share o (held regs r.0) (one f s) = ap (λ b. share o (held regs r.0) (if b then 1 else 0)) same in
      omega (arith, later, now, like)
    where
      split : (b : Bool) → total (λ r. share o (held regs r) 1) (if b then r.0 ∷ references f rs else references f rs) ≡ share o (held regs r.0) (if b then 1 else 0) + total (λ r. share o (held regs r) 1) (references f rs)
      split true = refl
      split false = let e : share o (held regs r.0) 0 ≡ 0 = share_none o (held regs r.0) in omega (arith, e)
