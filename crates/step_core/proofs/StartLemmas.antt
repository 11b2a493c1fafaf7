-- What a run begins with, one argument after another.
use Rattle.std.proofs.Common.{◌≡◌, ℕ, zero, suc, ◌+◌, ◌<◌, ◌≤◌, List, [], ◌∷◌, ◌++◌, length, drop, get_or, min, ⊎_elim, refl, sym, ap, arith, add-one, drop-cons, append_assoc}
use Rattle.std.proofs.lemmas.Bool.Decides.{leb_tells}
use Rattle.ir_forms.specs.declared.args.ArgValue.{ArgValue}
use Rattle.ir_forms.specs.declared.args.ArgValue.TheVariants as arg
use Rattle.low_forms.specs.declared.code.Reg.{Reg}
use Rattle.low_forms.specs.declared.code.LowFunc.{LowFunc}
use Rattle.low_forms.specs.Registers.{reg_type}
use Rattle.async_objects.specs.declared.kinds.Val.{Val}
use Rattle.async_objects.specs.declared.kinds.Val.TheVariants.{Number}
use Rattle.step_core.specs.declared.cells.ArgBuffer.{ArgBuffer}
use Rattle.step_core.specs.State.{buffer_val, argument_vals, argument_cells, argument_buffers, cell_type}

pub dropped : {X : Type 0} (xs : List X) (i : ℕ) (x : X) → i < length xs → x ≡ get_or xs i x → drop i xs ≡ x ∷ drop (i + 1) xs
dropped xs i x h same = rw (add-one, drop-cons xs i x) (ap (λ z. z ∷ drop (suc i) xs) (sym same))

module _ (args : List ArgValue) (i : ℕ) (a : ArgValue) (h : i < length args) (same : a ≡ get_or args i a) where
  pub vals_number : (b n : ℕ) (vals : List Val) → a ≡ arg.Number n → (vals ++ Number n ∷ []) ++ argument_vals b (drop (i + 1) args) ≡ vals ++ argument_vals b (drop i args)
  vals_number b n vals is = rw (dropped args i a h same, is) (append_assoc vals (Number n ∷ []) (argument_vals b (drop (i + 1) args)))

  pub vals_cells : (b : ℕ) (dims cells : List ℕ) (vals : List Val) → a ≡ arg.Cells dims cells → (vals ++ buffer_val b dims ∷ []) ++ argument_vals (b + 1) (drop (i + 1) args) ≡ vals ++ argument_vals b (drop i args)
  vals_cells b dims cells vals is = rw (dropped args i a h same, is) (append_assoc vals (buffer_val b dims ∷ []) (argument_vals (b + 1) (drop (i + 1) args)))

  pub cells_number : (n : ℕ) → a ≡ arg.Number n → argument_cells (drop (i + 1) args) ≡ argument_cells (drop i args)
  cells_number n is = rw (dropped args i a h same, is) refl

  pub cells_more : (dims cells : List ℕ) (buffers : List (List ℕ)) → a ≡ arg.Cells dims cells → (buffers ++ cells ∷ []) ++ argument_cells (drop (i + 1) args) ≡ buffers ++ argument_cells (drop i args)
  cells_more dims cells buffers is = rw (dropped args i a h same, is) (append_assoc buffers (cells ∷ []) (argument_cells (drop (i + 1) args)))

  module _ (f : LowFunc) (params : List Reg) (r : Reg) (there : i < length params) (param : r ≡ get_or params i r) where
    pub buffers_number : (b n : ℕ) → a ≡ arg.Number n → argument_buffers f (i + 1) b (drop (i + 1) params) (drop (i + 1) args) ≡ argument_buffers f i b (drop i params) (drop i args)
    buffers_number b n is = rw (dropped args i a h same, dropped params i r there param, is) refl

    pub buffers_more : (b : ℕ) (dims cells : List ℕ) (list : List ArgBuffer) → a ≡ arg.Cells dims cells →
        (list ++ (record { argument = i; buffer = b; cell = cell_type (reg_type f r) }) ∷ []) ++ argument_buffers f (i + 1) (b + 1) (drop (i + 1) params) (drop (i + 1) args) ≡ list ++ argument_buffers f i b (drop i params) (drop i args)
    buffers_more b dims cells list is =
        rw (dropped args i a h same, dropped params i r there param, is) (append_assoc list ((record { argument = i; buffer = b; cell = cell_type (reg_type f r) }) ∷ []) (argument_buffers f (i + 1) (b + 1) (drop (i + 1) params) (drop (i + 1) args)))

pub no_params : (f : LowFunc) (j b : ℕ) (rs : List Reg) (args : List ArgValue) (i : ℕ) → length rs ≤ i → argument_buffers f j b (drop i rs) (drop i args) ≡ []
no_params f j b [] args zero h = refl
no_params f j b [] args (suc i) h = refl
no_params f j b (r ∷ rs) args zero h = absurd (omega (arith, h))
no_params f j b (r ∷ rs) [] (suc i) h = none_left (drop i rs)
  where
    none_left : (xs : List Reg) → argument_buffers f j b xs [] ≡ []
    none_left [] = refl
    none_left (x ∷ xs) = refl
no_params f j b (r ∷ rs) (a ∷ args) (suc i) h = no_params f j b rs args i (omega (arith, h))

pub no_args : (f : LowFunc) (j b : ℕ) (rs : List Reg) (args : List ArgValue) (i : ℕ) → length args ≤ i → argument_buffers f j b (drop i rs) (drop i args) ≡ []
no_args f j b rs [] i h = none_here (drop i rs) i
  where
    none_here : (xs : List Reg) (i : ℕ) → argument_buffers f j b xs (drop i []) ≡ []
    none_here [] zero = refl
    none_here [] (suc i) = refl
    none_here (x ∷ xs) zero = refl
    none_here (x ∷ xs) (suc i) = refl
no_args f j b rs (a ∷ args) zero h = absurd (omega (arith, h))
no_args f j b [] (a ∷ args) (suc i) h = refl
no_args f j b (r ∷ rs) (a ∷ args) (suc i) h = no_args f j b rs args i (omega (arith, h))

pub ended : (f : LowFunc) (j b : ℕ) (rs : List Reg) (args : List ArgValue) (i : ℕ) → min (length rs) (length args) ≤ i → argument_buffers f j b (drop i rs) (drop i args) ≡ []
ended f j b rs args i h = ⊎_elim (λ few. no_params f j b rs args i few.1) (λ many. no_args f j b rs args i (omega (arith, h, many.1))) (leb_tells (length rs) i)
