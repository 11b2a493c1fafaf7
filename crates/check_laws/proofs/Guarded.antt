-- The insertion before an operation passes exactly where the operation has a result.
use Rattle.std.proofs.Common.{◌≡◌, ◌<◌, ◌≤◌, ℕ, zero, suc, ◌+◌, ◌-◌, ◌^◌, nat_lt, nat_le, Bool, true, false, List, [], ◌∷◌, drop, take, length, Option, Some, None, slice_get, refl, sym, ap, ap₂, subst, ◌∙◌, arith, inl, inr}
use Rattle.std.specs.Prelude.{◌&&◌, ◌||◌}
use Rattle.std.specs.Option.{is_some, option_map}
use Rattle.std.proofs.lemmas.Nat.{pow_pos}
use Rattle.std.proofs.Math.Numerals.{add-one}
use Rattle.std.proofs.lemmas.Option.{slice_get-map}
use Rattle.std.proofs.lemmas.List.{take-map, drop-map}
use Rattle.std.proofs.lemmas.Bool.{cases_lt, lt-ltb, le-ltb}
use Rattle.std.proofs.Math.Logic.{⊎_elim}
use Rattle.int_ops.specs.Arithmetic.{IsWidth, bits_of, compares}
use Rattle.int_ops.specs.declared.Width.{Width}
use Rattle.int_ops.specs.declared.Width.TheVariants.{W1, W8, W16, W32, W64}
use Rattle.int_ops.specs.declared.BinOp.{BinOp}
use Rattle.int_ops.specs.declared.BinOp.TheVariants as bin
use Rattle.int_ops.specs.declared.Pred.TheVariants.{Ne, Ult}
use Rattle.op_table.specs.declared.kind.OpKind.{OpKind}
use Rattle.op_table.specs.declared.kind.OpKind.TheVariants as op
use Rattle.ir_forms.specs.declared.ops.ValueNo.{ValueNo}
use Rattle.ir_forms.specs.declared.types.Dim.{Dim}
use Rattle.ir_forms.specs.declared.types.Dim.TheVariants.{Fixed, Dynamic}
use Rattle.ir_forms.specs.declared.types.NumTy.{NumTy}
use Rattle.ir_forms.specs.declared.types.NumTy.TheVariants as num
use Rattle.ir_forms.specs.declared.types.Ty.{Ty}
use Rattle.ir_forms.specs.declared.types.Ty.TheVariants as ty
use Rattle.ir_forms.specs.Shapes.{most_cells}
use Rattle.made_ops.specs.declared.insertion.Insertion.{Insertion}
use Rattle.made_ops.specs.declared.insertion.Operand.{Operand}
use Rattle.made_ops.specs.declared.insertion.Operand.TheVariants as from
use Rattle.made_ops.specs.Made as made
use Rattle.check_insert.specs.declared.guard.Guard.TheVariants as guard
use Rattle.check_insert.specs.Shape as shape
use Rattle.source_meaning.specs.declared.values.Val.{Val}
use Rattle.source_meaning.specs.Values.{Env, nothing, or_else, named, values_at, number_in, dims_in}
use Rattle.source_meaning.specs.Parts.{Node, grouped, width_of, dims_of}
use Rattle.source_meaning.specs.Rows.{bit, at_width, sizes, result_at, cell_from, product_within, most_elements, are_bounds}
use Rattle.source_meaning.specs.Tasks.{Program}
use Rattle.source_meaning.specs.Steps.{value, number, numbers, group, result_width, asked_sizes}
use Rattle.source_meaning.specs.TaskOrder.{Each}
use Rattle.check_laws.specs.Rows.{answer, passes, IsNumber, WantsDivisor, Shifts, are_below, all_bounds, all_turns, can_enter}
use Rattle.check_laws.specs.Fits.{has_result, AreNumbers, IsBuffer, AreSmall, SmallTypes, Fits}
use Rattle.check_laws.proofs.Numbers.{division_is_tested, shift_is_tested, quotient_is_tested, or_bits, and_bits, cell_is_tested, product_is_tested, spans_are_tested, below_number}
use Rattle.check_laws.specs.Silent.{here}
use Rattle.check_laws.proofs.Running.{Stands, Passed, Checked, numeral, IsGiven}
use Rattle.check_laws.specs.Silent.{Decides, InsertionDecides}
use Rattle.check_laws.proofs.Guards as guards
use Rattle.check_laws.proofs.Guards.{told_by, Reads, AreRead, SizesFrom, check_made, quotient_made, most_made, bounds_made, sizes_made, indexes_made}
use Rattle.check_laws.proofs.Ranges.{RangesRead, ranges_made}

-- ---- widths

width_of_number : (types : List Ty) → made.width_of (shape.number_type types) ≡ width_of (slice_get types 0)
width_of_number [] = refl
width_of_number (ty.Int w ∷ ts) = refl
width_of_number (ty.Index ∷ ts) = refl
width_of_number (ty.Memref m ∷ ts) = refl
width_of_number (ty.Token ∷ ts) = refl
width_of_number (ty.Value v ∷ ts) = refl
width_of_number (ty.Group ∷ ts) = refl
width_of_number (ty.CoroId ∷ ts) = refl
width_of_number (ty.CoroHandle ∷ ts) = refl
width_of_number (ty.CoroState ∷ ts) = refl
width_of_number (ty.Untyped ∷ ts) = refl

five : (w : Width) → IsWidth (bits_of w)
five W1 = inl refl
five W8 = inr (inl refl)
five W16 = inr (inr (inl refl))
five W32 = inr (inr (inr (inl refl)))
five W64 = inr (inr (inr (inr refl)))

is_width : (t : NumTy) → IsWidth (made.width_of t)
is_width (num.Int w) = five w
is_width num.Index = inr (inr (inr (inr refl)))

fits_itself : (w : ℕ) → IsWidth w → w < 2 ^ w
fits_itself w (inl e) = subst (λ v. v < 2 ^ v) (sym e) (omega arith)
fits_itself w (inr (inl e)) = subst (λ v. v < 2 ^ v) (sym e) (omega arith)
fits_itself w (inr (inr (inl e))) = subst (λ v. v < 2 ^ v) (sym e) (omega arith)
fits_itself w (inr (inr (inr (inl e)))) = subst (λ v. v < 2 ^ v) (sym e) (omega arith)
fits_itself w (inr (inr (inr (inr e)))) = subst (λ v. v < 2 ^ v) (sym e) (omega arith)

least_fits : (w : ℕ) → IsWidth w → 2 ^ (w - 1) < 2 ^ w
least_fits w (inl e) = subst (λ v. 2 ^ (v - 1) < 2 ^ v) (sym e) (omega arith)
least_fits w (inr (inl e)) = subst (λ v. 2 ^ (v - 1) < 2 ^ v) (sym e) (omega arith)
least_fits w (inr (inr (inl e))) = subst (λ v. 2 ^ (v - 1) < 2 ^ v) (sym e) (omega arith)
least_fits w (inr (inr (inr (inl e)))) = subst (λ v. 2 ^ (v - 1) < 2 ^ v) (sym e) (omega arith)
least_fits w (inr (inr (inr (inr e)))) = subst (λ v. 2 ^ (v - 1) < 2 ^ v) (sym e) (omega arith)

-- ---- operands

first_of : List ℕ → Option ℕ
first_of [] = None
first_of (x ∷ xs) = Some x

rest_of : List ℕ → List ℕ
rest_of [] = []
rest_of (x ∷ xs) = xs

next_of : (xs : List ℕ) (j y : ℕ) (ys : List ℕ) → drop j xs ≡ y ∷ ys → (slice_get xs j ≡ Some y) × (drop (suc j) xs ≡ ys) × (j < length xs)
unfolding first_of rest_of
next_of [] zero y ys f = absurd (let e : zero ≡ suc (length ys) = ap length f in omega arith)
next_of [] (suc j) y ys f = absurd (let e : zero ≡ suc (length ys) = ap length f in omega arith)
next_of (x ∷ xs) zero y ys f = (ap first_of f, ap rest_of f, omega arith)
next_of (x ∷ xs) (suc j) y ys f = let r = next_of xs j y ys f in let l : j < length xs = r.2 in (r.0, r.1, omega arith)

there_below : (xs : List ℕ) (k : ℕ) → k < length xs → is_some (slice_get xs k) ≡ true
there_below [] k l = absurd (let m : k < 0 = l in omega arith)
there_below (x ∷ xs) zero l = refl
there_below (x ∷ xs) (suc k) l = there_below xs k (let m : suc k < suc (length xs) = l in omega arith)

there_above : (xs : List ℕ) (k : ℕ) → length xs ≤ k → is_some (slice_get xs k) ≡ false
there_above [] zero l = refl
there_above [] (suc k) l = refl
there_above (x ∷ xs) zero l = absurd (let m : suc (length xs) ≤ zero = l in omega arith)
there_above (x ∷ xs) (suc k) l = there_above xs k (let m : suc (length xs) ≤ suc k = l in omega arith)

is_there : (xs : List ℕ) (k : ℕ) → is_some (slice_get xs k) ≡ nat_lt k (length xs)
is_there xs k = ⊎_elim (λ l. there_below xs k l ∙ sym (lt-ltb k (length xs) l)) (λ l. there_above xs k l ∙ sym (le-ltb k (length xs) l)) (cases_lt k (length xs))

abbrev pub Below : ℕ → List ValueNo → Type 0
Below free vs = Each (λ v. v.0 < free) vs

module _ (q : Program) where
  given_in : (w free : ℕ) (vs : List ValueNo) (k : ℕ) → Below free vs → IsGiven q w free (shape.given (slice_get vs k))
  given_in w free [] k h = pow_pos w
  given_in w free (v ∷ vs) zero h = h.0
  given_in w free (v ∷ vs) (suc k) h = given_in w free vs k h.1

  numeral_of : (env : Env) (o : Option ValueNo) → numeral q env (shape.given o) ≡ number_in (or_else nothing (option_map (λ x. named env x.0) o))
  numeral_of env None = refl
  numeral_of env (Some v) = refl

  numeral_in : (env : Env) (vs : List ValueNo) (k : ℕ) → numeral q env (shape.operand_at vs k) ≡ number (values_at env vs) k
  numeral_in env vs k = numeral_of env (slice_get vs k) ∙ sym (ap (λ o. number_in (or_else nothing o)) (slice_get-map (λ x. named env x.0) vs k))

  number_in_range : (vs : List Val) (k : ℕ) → AreNumbers vs → IsNumber (number vs k)
  number_in_range [] k h = omega arith
  number_in_range (v ∷ vs) zero h = h.0
  number_in_range (v ∷ vs) (suc k) h = number_in_range vs k h.1

  begins : (env : Env) (at_ free : ℕ) → Stands q env (made.begun at_ free) env
  begins env at_ free = record { runs = λ k n fs r. here; known = tt }

  nothing_stands : (env : Env) (at_ free : ℕ) → Passed q env (made.begun at_ free) env (made.begun at_ free)
  nothing_stands env at_ free = record { other = env; stands = begins env at_ free; keeps = λ x l. refl; grows = omega arith }

  module _ (o : Node) (free : ℕ) (env : Env) (below : Below free o.operands) (small : SmallTypes (o.written, o.types)) where
    abbrev vs : List Val
    vs = values_at env o.operands

    abbrev i : Insertion
    i = made.begun o.at free

    abbrev st : Stands q env i env
    st = begins env o.at free

    abbrev t : NumTy
    t = shape.number_type o.types

    divisor_row : (b : BinOp) → WantsDivisor b → Checked q env i env (shape.check_divisor (shape.message guard.Divisor) t (shape.operand_at o.operands 1) i) (is_some (result_at (result_width o) b (number vs 0) (number vs 1)))
    divisor_row b wants =
        told_by (shape.message guard.Divisor) q env env i _ _ _
        (ap₂ (λ w x. passes (answer w Ne x 0)) (width_of_number o.types) (numeral_in env o.operands 1) ∙ sym (division_is_tested b (result_width o) (number vs 0) (number vs 1) wants))
        (check_made (shape.message guard.Divisor) q env env i Ne t (shape.operand_at o.operands 1) (from.Number 0) st (given_in (made.width_of t) free o.operands 1 below) (pow_pos (made.width_of t)))

    shift_row : (b : BinOp) → Shifts b → Checked q env i env (shape.guarded guard.Shift o i) (is_some (result_at (result_width o) b (number vs 0) (number vs 1)))
    shift_row b shifts =
        told_by (shape.message guard.Shift) q env env i _ _ _
        (ap₂ (λ w x. passes (answer w Ult x w)) (width_of_number o.types) (numeral_in env o.operands 1)
        ∙ sym (shift_is_tested b (result_width o) (number vs 0) (number vs 1) shifts (subst IsWidth (width_of_number o.types) (is_width t))))
        (check_made (shape.message guard.Shift) q env env i Ult t (shape.operand_at o.operands 1) (from.Number (made.width_of t)) st (given_in (made.width_of t) free o.operands 1 below) (fits_itself (made.width_of t) (is_width t)))

    quotient_row : Checked q env i env (shape.guarded guard.Quotient o i) (is_some (result_at (result_width o) bin.DivS (number vs 0) (number vs 1)))
    quotient_row =
        let a : Operand = shape.operand_at o.operands 0 in
        let b : Operand = shape.operand_at o.operands 1 in
        let x : ℕ = numeral q env a in
        let y : ℕ = numeral q env b in
        let v : ℕ = made.width_of t in
        let above : Bool = compares v Ne (at_width v x) (at_width v (2 ^ (v - 1))) in
        let keeps : Bool = compares v Ne (at_width v y) (at_width v (2 ^ v - 1)) in
        let divides : Bool = compares v Ne (at_width v y) (at_width v 0) in
        told_by (shape.message guard.Quotient) q env env i (shape.guarded guard.Quotient o i) (passes (bit (divides && (above || keeps)))) (is_some (result_at (result_width o) bin.DivS (number vs 0) (number vs 1)))
        (sym (quotient_is_tested v x y (bit (above || keeps)) (bit (divides && (above || keeps))) (is_width t) (or_bits above keeps) (and_bits divides (above || keeps)))
        ∙ (ap₂ (λ w z. is_some (result_at w bin.DivS z y)) (width_of_number o.types) (numeral_in env o.operands 0) ∙ ap (λ z. is_some (result_at (result_width o) bin.DivS (number vs 0) z)) (numeral_in env o.operands 1)))
        (quotient_made (shape.message guard.Quotient) q env env i t a b st (given_in v free o.operands 0 below) (given_in v free o.operands 1 below) (pow_pos v) (least_fits v (is_width t))
        (bit (above || keeps)) (bit (divides && (above || keeps))) (or_bits above keeps) (and_bits divides (above || keeps)))

    group_row : AreNumbers vs → Checked q env i env (shape.guarded guard.Group o i) (nat_le (number vs 0) most_elements)
    group_row h =
        most_made (shape.message guard.Group) q env env i most_elements (shape.operand_at o.operands 0) (number vs 0) st (given_in 64 free o.operands 0 below) (numeral_in env o.operands 0) (number_in_range vs 0 h) (omega arith)

    bounds_row : AreNumbers vs → Checked q env i env (shape.guarded guard.Bounds o i) (are_bounds (number vs 0) (number vs 1) (number vs 2))
    bounds_row h =
        bounds_made (shape.message guard.Bounds) q env env i (shape.operand_at o.operands 0) (shape.operand_at o.operands 1) (shape.operand_at o.operands 2) (number vs 0) (number vs 1) (number vs 2) st (
          (given_in 64 free o.operands 0 below, numeral_in env o.operands 0, number_in_range vs 0 h),
          (
            (given_in 64 free o.operands 1 below, numeral_in env o.operands 1, number_in_range vs 1 h),
            ((given_in 64 free o.operands 2 below, numeral_in env o.operands 2, number_in_range vs 2 h), tt),
          ),
        )

    -- ---- allocations

    sizes_read : (dims : List Dim) (xs : List ValueNo) → Below free xs → AreNumbers (values_at env xs) → AreSmall dims →
        Reads (shape.message guard.Alloc) q env free (shape.sizes dims xs) (sizes dims (numbers (values_at env xs))) × guards.AreSmall (shape.message guard.Alloc) q shape.most_cells (shape.sizes dims xs)
    sizes_read [] xs b h sm = (tt, tt)
    sizes_read (Fixed n ∷ dims) xs b h sm = let r = sizes_read dims xs b h sm.1 in let l : n ≤ most_cells = sm.0 in let m : n < 2 ^ 64 = omega arith in (((m, refl, m), r.0), (sm.0, r.1))
    sizes_read (Dynamic ∷ dims) [] b h sm = let r = sizes_read dims [] b h sm in let m : 0 < 2 ^ 64 = omega arith in (((m, refl, m), r.0), (zero_small, r.1)) where
      zero_small : 0 ≤ shape.most_cells
      zero_small = omega arith
    sizes_read (Dynamic ∷ dims) (x ∷ xs) b h sm = let r = sizes_read dims xs b.1 h.1 sm in (((b.0, refl, h.0), r.0), r.1)

    asked_read : (types : List Ty) → AreNumbers vs → AreSmall (dims_of (slice_get types 0)) →
        Reads (shape.message guard.Alloc) q env free (shape.asked_sizes types o.operands) (sizes (dims_of (slice_get types 0)) (numbers vs)) × guards.AreSmall (shape.message guard.Alloc) q shape.most_cells (shape.asked_sizes types o.operands)
    asked_read [] h sm = (tt, tt)
    asked_read (ty.Memref m ∷ ts) h sm = sizes_read m.dims o.operands below h sm
    asked_read (ty.Int w ∷ ts) h sm = (tt, tt)
    asked_read (ty.Index ∷ ts) h sm = (tt, tt)
    asked_read (ty.Token ∷ ts) h sm = (tt, tt)
    asked_read (ty.Value v ∷ ts) h sm = (tt, tt)
    asked_read (ty.Group ∷ ts) h sm = (tt, tt)
    asked_read (ty.CoroId ∷ ts) h sm = (tt, tt)
    asked_read (ty.CoroHandle ∷ ts) h sm = (tt, tt)
    asked_read (ty.CoroState ∷ ts) h sm = (tt, tt)
    asked_read (ty.Untyped ∷ ts) h sm = (tt, tt)

    alloc_row : AreNumbers vs → AreSmall (dims_of (slice_get o.types 0)) → Checked q env i env (shape.guarded guard.Alloc o i) (is_some (product_within most_cells (asked_sizes o vs)))
    alloc_row h sm =
        let r = asked_read o.types h sm in
        told_by (shape.message guard.Alloc) q env env i (shape.guarded guard.Alloc o i) _ (is_some (product_within most_cells (asked_sizes o vs))) (sym (product_is_tested most_cells (asked_sizes o vs)))
        (sizes_made (shape.message guard.Alloc) q env env i (shape.asked_sizes o.types o.operands) (asked_sizes o vs) st r.0 r.1)

    -- ---- accesses

    module _ (text : List ℕ) where
      indexes_read : (xs : List ValueNo) → Below free xs → AreNumbers (values_at env xs) → AreRead text q env free xs (numbers (values_at env xs))
      indexes_read [] b h = tt
      indexes_read (x ∷ xs) b h = ((b.0, refl, h.0), indexes_read xs b.1 h.1)

      size_at : (all_ : List ℕ) (k : ℕ) (ds : List ℕ) → drop k all_ ≡ ds → IsNumber (length all_) → Each IsNumber ds → (buffer : ValueNo) → dims_in (named env buffer.0) ≡ all_ → SizesFrom text q env buffer k ds
      size_at all_ k [] e c h buffer is = tt
      size_at all_ k (d ∷ ds) e c h buffer is =
          let n = next_of all_ k d ds e in let step_ : drop (k + 1) all_ ≡ ds = subst (λ z. drop z all_ ≡ ds) (sym (add-one k)) n.1 in
          ((let l : k < length all_ = n.2 in let m : length all_ < 2 ^ 64 = c in omega arith, ap (λ xs. slice_get xs k) is ∙ n.0, h.0), size_at all_ (k + 1) ds step_ c h.1 buffer is)

      access_row : (types : List Ty) (xs : List ValueNo) → IsNumber (shape.rank types) → Below free xs → AreNumbers (values_at env xs) → IsBuffer types (value (values_at env xs) 0) →
          Checked q env i env (shape.check_access text types xs i) (is_some (cell_from 0 (dims_in (value (values_at env xs) 0)) (numbers (drop 1 (values_at env xs)))))
      access_row types xs few b h buf = told_by text q env env i (shape.check_access text types xs i) _ _ (sym (cell_is_tested 0 (dims_in (value (values_at env xs) 0)) (numbers (drop 1 (values_at env xs))))) (go types xs few b h buf) where
        none : (ds : List ℕ) (ns : List ℕ) → length ds ≡ 0 → are_below ds ns ≡ true
        none [] ns e = refl
        none (d ∷ ds) ns e = absurd (let f : suc (length ds) ≡ zero = e in omega arith)

        stays : (ts : List Ty) (ys : List ValueNo) → shape.rank ts ≡ 0 → IsBuffer ts (value (values_at env ys) 0) → Checked q env i env i (are_below (dims_in (value (values_at env ys) 0)) (numbers (drop 1 (values_at env ys))))
        stays ts ys e bf = subst (Checked q env i env i) (sym (none (dims_in (value (values_at env ys) 0)) (numbers (drop 1 (values_at env ys))) (bf.dimensions ∙ e))) (nothing_stands env o.at free)

        go : (ts : List Ty) (ys : List ValueNo) → IsNumber (shape.rank ts) → Below free ys → AreNumbers (values_at env ys) → IsBuffer ts (value (values_at env ys) 0) →
            Checked q env i env (shape.check_access text ts ys i) (are_below (dims_in (value (values_at env ys) 0)) (numbers (drop 1 (values_at env ys))))
        go [] ys few c n bf = stays [] ys refl bf
        go (ty.Memref m ∷ ts) [] few c n bf = nothing_stands env o.at free
        go (ty.Memref m ∷ ts) (y ∷ ys) few c n bf =
            indexes_made text q env env i m y 0 m.dims (dims_in (named env y.0)) ys (numbers (values_at env ys)) st c.0 bf.dimensions (size_at (dims_in (named env y.0)) 0 (dims_in (named env y.0)) refl (subst IsNumber (sym bf.dimensions) few) bf.sizes y refl) (indexes_read ys c.1 n.1)
        go (ty.Int w ∷ ts) ys few c n bf = stays (ty.Int w ∷ ts) ys refl bf
        go (ty.Index ∷ ts) ys few c n bf = stays (ty.Index ∷ ts) ys refl bf
        go (ty.Token ∷ ts) ys few c n bf = stays (ty.Token ∷ ts) ys refl bf
        go (ty.Value v ∷ ts) ys few c n bf = stays (ty.Value v ∷ ts) ys refl bf
        go (ty.Group ∷ ts) ys few c n bf = stays (ty.Group ∷ ts) ys refl bf
        go (ty.CoroId ∷ ts) ys few c n bf = stays (ty.CoroId ∷ ts) ys refl bf
        go (ty.CoroHandle ∷ ts) ys few c n bf = stays (ty.CoroHandle ∷ ts) ys refl bf
        go (ty.CoroState ∷ ts) ys few c n bf = stays (ty.CoroState ∷ ts) ys refl bf
        go (ty.Untyped ∷ ts) ys few c n bf = stays (ty.Untyped ∷ ts) ys refl bf

    load_row : AreNumbers vs → IsBuffer o.written (value vs 0) → Checked q env i env (shape.guarded guard.Load o i) (is_some (cell_from 0 (dims_in (value vs 0)) (numbers (drop 1 vs))))
    load_row h b = access_row (shape.message guard.Load) o.written o.operands small.0 below h b

    store_row : AreNumbers vs → IsBuffer o.written (value vs 1) → Checked q env i env (shape.guarded guard.Store o i) (is_some (cell_from 0 (dims_in (value vs 1)) (numbers (drop 2 vs))))
    store_row h b = go o.operands below h b where
      go : (xs : List ValueNo) → Below free xs → AreNumbers (values_at env xs) → IsBuffer o.written (value (values_at env xs) 1) →
          Checked q env i env (shape.check_access (shape.message guard.Store) o.written (drop 1 xs) i) (is_some (cell_from 0 (dims_in (value (values_at env xs) 1)) (numbers (drop 2 (values_at env xs)))))
      go [] c n bf = access_row (shape.message guard.Store) o.written [] small.0 tt tt bf
      go (x ∷ xs) c n bf = access_row (shape.message guard.Store) o.written xs small.0 c.1 n.1 bf

    dimension_row : AreNumbers vs → IsBuffer o.written (value vs 0) → Checked q env i env (shape.guarded guard.Dimension o i) (is_some (slice_get (dims_in (value vs 0)) (number vs 1)))
    dimension_row h b =
        let ranked : IsNumber (shape.rank o.written) = small.0 in
        told_by (shape.message guard.Dimension) q env env i (shape.guarded guard.Dimension o i) _ _
        (ap (λ n. passes (answer 64 Ult n (shape.rank o.written))) (numeral_in env o.operands 1) ∙ (below_number (number vs 1) (shape.rank o.written) (number_in_range vs 1 h) ranked
        ∙ (ap (nat_lt (number vs 1)) (sym b.dimensions) ∙ sym (is_there (dims_in (value vs 0)) (number vs 1)))))
        (check_made (shape.message guard.Dimension) q env env i Ult num.Index (shape.operand_at o.operands 1) (from.Number (shape.rank o.written)) st (given_in 64 free o.operands 1 below) ranked)

    -- ---- parallel loops

    ranges_read : (ls us ss : List ValueNo) → Below free ls → Below free us → Below free ss → AreNumbers (values_at env ls) → AreNumbers (values_at env us) → AreNumbers (values_at env ss) →
        RangesRead q (shape.message guard.Parallel) env free (shape.ranges ls us ss) (numbers (values_at env ls)) (numbers (values_at env us)) (numbers (values_at env ss))
    ranges_read [] us ss a b c x y z = (refl, refl)
    ranges_read (l ∷ ls) [] ss a b c x y z = (refl, refl)
    ranges_read (l ∷ ls) (u ∷ us) [] a b c x y z = (refl, refl)
    ranges_read (l ∷ ls) (u ∷ us) (s ∷ ss) a b c x y z =
        (((a.0, refl, x.0), ((b.0, refl, y.0), ((c.0, refl, z.0), tt))), ranges_read ls us ss a.1 b.1 c.1 x.1 y.1 z.1)

    each_take : {X : Type 0} (Q : X → Type 0) (n : ℕ) (xs : List X) → Each Q xs → Each Q (take n xs)
    each_take Q zero [] h = tt
    each_take Q (suc n) [] h = tt
    each_take Q zero (x ∷ xs) h = tt
    each_take Q (suc n) (x ∷ xs) h = (h.0, each_take Q n xs h.1)

    each_drop : {X : Type 0} (Q : X → Type 0) (n : ℕ) (xs : List X) → Each Q xs → Each Q (drop n xs)
    each_drop Q zero [] h = tt
    each_drop Q (suc n) [] h = tt
    each_drop Q zero (x ∷ xs) h = h
    each_drop Q (suc n) (x ∷ xs) h = each_drop Q n xs h.1

    none_there : (ls us : List ℕ) → (all_bounds ls us [] ≡ true) × (all_turns ls us [] ≡ [])
    none_there [] us = (refl, refl)
    none_there (l ∷ ls) [] = (refl, refl)
    none_there (l ∷ ls) (u ∷ us) = (refl, refl)

    groups_read : (gs : List ℕ) → AreNumbers vs →
        RangesRead q (shape.message guard.Parallel) env free (shape.ranges_of gs o.operands) (numbers (or_else [] (slice_get (grouped gs vs) 0))) (numbers (or_else [] (slice_get (grouped gs vs) 1))) (numbers (or_else [] (slice_get (grouped gs vs) 2)))
    groups_read [] h = (refl, refl)
    groups_read (a ∷ []) h = none_there (numbers (take a vs)) []
    groups_read (a ∷ b ∷ []) h = none_there (numbers (take a vs)) (numbers (take b (drop a vs)))
    groups_read (a ∷ b ∷ c ∷ more) h =
        let f : ValueNo → Val = λ x. named env x.0 in
        let xs : List ValueNo = o.operands in
        let e1 : take a vs ≡ values_at env (take a xs) = take-map f a xs in
        let d1 : drop a vs ≡ values_at env (drop a xs) = drop-map f a xs in
        let e2 : take b (drop a vs) ≡ values_at env (take b (drop a xs)) = ap (take b) d1 ∙ take-map f b (drop a xs) in
        let d2 : drop b (drop a vs) ≡ values_at env (drop b (drop a xs)) = ap (drop b) d1 ∙ drop-map f b (drop a xs) in
        let e3 : take c (drop b (drop a vs)) ≡ values_at env (take c (drop b (drop a xs))) = ap (take c) d2 ∙ take-map f c (drop b (drop a xs)) in
        let n1 = subst AreNumbers e1 (each_take (λ v. IsNumber (number_in v)) a vs h) in
        let n2 = subst AreNumbers e2 (each_take (λ v. IsNumber (number_in v)) b (drop a vs) (each_drop (λ v. IsNumber (number_in v)) a vs h)) in
        let n3 = subst AreNumbers e3 (each_take (λ v. IsNumber (number_in v)) c (drop b (drop a vs)) (each_drop (λ v. IsNumber (number_in v)) b (drop a vs) (each_drop (λ v. IsNumber (number_in v)) a vs h))) in
        let b1 = each_take (λ v. v.0 < free) a xs below in
        let b2 = each_take (λ v. v.0 < free) b (drop a xs) (each_drop (λ v. v.0 < free) a xs below) in
        let b3 = each_take (λ v. v.0 < free) c (drop b (drop a xs)) (each_drop (λ v. v.0 < free) b (drop a xs) (each_drop (λ v. v.0 < free) a xs below)) in
        let r = ranges_read (take a xs) (take b (drop a xs)) (take c (drop b (drop a xs))) b1 b2 b3 n1 n2 n3 in
        subst (λ w. RangesRead q (shape.message guard.Parallel) env free (shape.ranges (take a xs) (take b (drop a xs)) (take c (drop b (drop a xs)))) w (numbers (take b (drop a vs))) (numbers (take c (drop b (drop a vs))))) (ap numbers (sym e1))
        (subst (λ w. RangesRead q (shape.message guard.Parallel) env free (shape.ranges (take a xs) (take b (drop a xs)) (take c (drop b (drop a xs)))) (numbers (values_at env (take a xs))) w (numbers (take c (drop b (drop a vs))))) (ap numbers (sym e2))
        (subst (λ w. RangesRead q (shape.message guard.Parallel) env free (shape.ranges (take a xs) (take b (drop a xs)) (take c (drop b (drop a xs)))) (numbers (values_at env (take a xs))) (numbers (values_at env (take b (drop a xs)))) w) (ap numbers (sym e3)) r))

    parallel_row : AreNumbers vs → Checked q env i env (shape.guarded guard.Parallel o i) (can_enter most_elements (numbers (group o vs 0)) (numbers (group o vs 1)) (numbers (group o vs 2)))
    parallel_row h =
        let ls : List ℕ = numbers (group o vs 0) in
        let us : List ℕ = numbers (group o vs 1) in
        let ss : List ℕ = numbers (group o vs 2) in
        told_by (shape.message guard.Parallel) q env env i (shape.guarded guard.Parallel o i) _ _ (sym (spans_are_tested most_elements ls us ss))
        (ranges_made q (shape.message guard.Parallel) env env i (shape.ranges_of o.groups o.operands) ls us ss st (groups_read o.groups h))

    -- all rows
    row_of_kind : (k : OpKind) → Fits (shape.guard_of k) o vs → Checked q env i env (shape.guarded (shape.guard_of k) o i) (has_result k o vs)
    row_of_kind op.ArithDivsi f = quotient_row
    row_of_kind op.ArithDivui f = divisor_row bin.DivU (inl refl)
    row_of_kind op.ArithRemui f = divisor_row bin.RemU (inr (inl refl))
    row_of_kind op.ArithRemsi f = divisor_row bin.RemS (inr (inr refl))
    row_of_kind op.ArithShli f = shift_row bin.Shl (inl refl)
    row_of_kind op.ArithShrsi f = shift_row bin.ShrS (inr (inl refl))
    row_of_kind op.ArithShrui f = shift_row bin.ShrU (inr (inr refl))
    row_of_kind op.AsyncCreateGroup f = group_row f
    row_of_kind op.MemrefAlloc f = alloc_row f small.1
    row_of_kind op.MemrefDim f = dimension_row f.0 f.1
    row_of_kind op.MemrefLoad f = load_row f.0 f.1
    row_of_kind op.MemrefStore f = store_row f.0 f.1
    row_of_kind op.ScfFor f = bounds_row f
    row_of_kind op.ScfParallel f = parallel_row f
    row_of_kind _ f = nothing_stands env o.at free

    -- the insertion before an operation passes exactly where it has a result
    pub guarded_row : Fits (shape.guard_of o.kind) o vs → Checked q env i env (shape.insertion o free) (has_result o.kind o vs)
    guarded_row f = row_of_kind o.kind f

decided : (q : Program) (at_ free : ℕ) (j : Insertion) (env : Env) (b : Bool) → Checked q env (made.begun at_ free) env j b → Decides q at_ free j.ops env b
decided q at_ free j env true p = record { other = p.other; runs = p.stands.runs; keeps = p.keeps }
decided q at_ free j env false f = f

pub insertion_decides : InsertionDecides
insertion_decides q o free env below small fits = decided q o.at free (shape.insertion o free) env (has_result o.kind o (values_at env o.operands)) (guarded_row q o free env below small fits)
