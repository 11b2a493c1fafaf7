-- Arguments that fit have no more cells than all buffers may have.
use Rattle.std.proofs.Common.{◌≡◌, ◌≤◌, ℕ, ◌+◌, Bool, true, false, List, [], ◌∷◌, Option, Some, None, if◌then◌else◌, refl, ap, subst, arith}
use Rattle.std.specs.Prelude.{nat_le}
use Rattle.std.proofs.lemmas.Bool.{leb-true}
use Rattle.ir_forms.specs.declared.args.Arg.{Arg}
use Rattle.ir_forms.specs.declared.args.ArgValue.{ArgValue}
use Rattle.ir_forms.specs.declared.args.ArgValue.TheVariants.{Number, Cells}
use Rattle.ir_forms.specs.declared.types.Ty.{Ty}
use Rattle.ir_forms.specs.Shapes.{most_cells}
use Rattle.arguments.specs.Fits.{Fitted, Fits, Wrong, fit, cells_of, before, fitted_from, fitted_args}
use Rattle.source_meaning.specs.Start.{stores_of, cells_in_all}

wrong≢fits : (at : ℕ) (vs : List ArgValue) → Wrong at ≡ Fits vs → ⊥
wrong≢fits at vs e = subst IsWrong e tt where
  IsWrong : Fitted → Type 0
  IsWrong (Wrong at) = Unit {0}
  IsWrong (Fits vs) = ⊥

-- the values that fit
abbrev values_in : Fitted → List ArgValue
values_in (Fits vs) = vs
values_in (Wrong at) = []

no_cells : (n : ℕ) → n ≡ 0 + n
no_cells n = omega arith

one_more : (j : ℕ) (v : ArgValue) (vs : List ArgValue) → cells_in_all (stores_of j (v ∷ vs)) ≡ cells_of v + cells_in_all (stores_of (j + 1) vs)
one_more j (Number n) vs = no_cells (cells_in_all (stores_of (j + 1) vs))
one_more j (Cells sizes cells) vs = refl

-- the cells before and those of these values are few enough
abbrev IsBound : ℕ → ℕ → List ArgValue → Type 0
IsBound used j vs = used + cells_in_all (stores_of j vs) ≤ most_cells

none_more : (n : ℕ) → n ≤ most_cells → n + 0 ≤ most_cells
none_more n h = omega (arith, h)

shifted : (u c r all : ℕ) → all ≡ c + r → (u + c) + r ≤ most_cells → u + all ≤ most_cells
shifted u c r all e h = omega (arith, e, h)

by_rest : (used j : ℕ) (v : ArgValue) (f : Fitted) (vs : List ArgValue) → ((ws : List ArgValue) → f ≡ Fits ws → IsBound (used + cells_of v) (j + 1) ws) → before v f ≡ Fits vs → IsBound used j vs
by_rest used j v (Fits ws) vs more e =
    subst (IsBound used j) (ap values_in e) (shifted used (cells_of v) (cells_in_all (stores_of (j + 1) ws)) (cells_in_all (stores_of j (v ∷ ws))) (one_more j v ws) (more ws refl))
by_rest used j v (Wrong i) vs more e = absurd (wrong≢fits i vs e)

by_test : (used j at : ℕ) (v : ArgValue) (f : Fitted) (vs : List ArgValue) (b : Bool) → nat_le (used + cells_of v) most_cells ≡ b → (used + cells_of v ≤ most_cells → (ws : List ArgValue) → f ≡ Fits ws → IsBound (used + cells_of v) (j + 1) ws) →
    (if b then before v f else Wrong at) ≡ Fits vs → IsBound used j vs
by_test used j at v f vs true is more e = by_rest used j v f vs (more (leb-true (used + cells_of v) most_cells is)) e
by_test used j at v f vs false is more e = absurd (wrong≢fits at vs e)

by_fit : (used j at : ℕ) (rest : ArgValue → Fitted) (vs : List ArgValue) (o : Option ArgValue) → ((v : ArgValue) → used + cells_of v ≤ most_cells → (ws : List ArgValue) → rest v ≡ Fits ws → IsBound (used + cells_of v) (j + 1) ws) →
    elim o [ None ↦ Wrong at | Some v ↦ if nat_le (used + cells_of v) most_cells then before v (rest v) else Wrong at ] ≡ Fits vs → IsBound used j vs
by_fit used j at rest vs None more e = absurd (wrong≢fits at vs e)
by_fit used j at rest vs (Some v) more e = by_test used j at v (rest v) vs (nat_le (used + cells_of v) most_cells) refl (more v) e

bound_from : (at used j : ℕ) (ts : List Ty) (args : List Arg) (vs : List ArgValue) → used ≤ most_cells → fitted_from at used ts args ≡ Fits vs → IsBound used j vs
bound_from at used j [] [] vs h e = subst (IsBound used j) (ap values_in e) (none_more used h)
bound_from at used j [] (a ∷ args) vs h e = absurd (wrong≢fits at vs e)
bound_from at used j (t ∷ ts) [] vs h e = absurd (wrong≢fits at vs e)
bound_from at used j (t ∷ ts) (a ∷ args) vs h e =
    by_fit used j at (λ v. fitted_from (at + 1) (used + cells_of v) ts args) vs (fit t a) (λ v few ws. bound_from (at + 1) (used + cells_of v) (j + 1) ts args ws few) e

from_none : (n : ℕ) → 0 + n ≤ most_cells → n ≤ most_cells
from_none n h = omega (arith, h)

pub fitted_bound : (ts : List Ty) (args : List Arg) (vs : List ArgValue) → fitted_args ts args ≡ Fits vs → cells_in_all (stores_of 0 vs) ≤ most_cells
fitted_bound ts args vs e = from_none (cells_in_all (stores_of 0 vs)) (bound_from 0 0 0 ts args vs (omega arith) e)
