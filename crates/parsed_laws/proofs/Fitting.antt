-- What arguments that fit come to.
use Rattle.std.proofs.Common.{◌≡◌, ◌≤◌, ◌<◌, ℕ, zero, suc, ◌+◌, ◌-◌, ◌%◌, ◌^◌, Bool, true, false, cond, ◌&&◌, ◌==◌, List, [], ◌∷◌, length, map, replicate, nat_le, nat_lt, Option, Some, None, refl, ap, subst, arith}
use Rattle.std.specs.Option.{option_map}
use Rattle.std.proofs.lemmas.Bool.{and_parts, ltb-true}
use Rattle.std.proofs.Math.Nat.{mod-lt}
use Rattle.int_ops.specs.declared.Width.{Width}
use Rattle.int_ops.specs.declared.Width.TheVariants.{W1, W8, W16, W32, W64}
use Rattle.ir_forms.specs.declared.args.Arg.{Arg}
use Rattle.ir_forms.specs.declared.args.Arg.TheVariants as arg
use Rattle.ir_forms.specs.declared.args.ArgValue.{ArgValue}
use Rattle.ir_forms.specs.declared.args.ArgValue.TheVariants as fitted
use Rattle.ir_forms.specs.declared.args.Scalar.{Scalar}
use Rattle.ir_forms.specs.declared.args.Scalar.TheVariants as scalar
use Rattle.ir_forms.specs.declared.ops.ValueNo.{ValueNo}
use Rattle.ir_forms.specs.declared.types.Dim.{Dim}
use Rattle.ir_forms.specs.declared.types.MemTy.{MemTy}
use Rattle.ir_forms.specs.declared.types.Ty.{Ty}
use Rattle.ir_forms.specs.declared.types.Ty.TheVariants as ty
use Rattle.ir_forms.specs.Shapes.{product, most_cells}
use Rattle.source_meaning.specs.TaskOrder.{Each}
use Rattle.arguments.specs.Fits.{Fitted, Fits, Wrong, number_fits, value_fits, values_fit, is_size, shape_fits, cell_width, cells_fit, fill_fits, width_fits, cells_of, fit, before, fitted_from}
use Rattle.typed_laws.specs.Ranges.{IsNumber, ArgInRange}
use Rattle.typed_laws.specs.Typed.{ArgFits, ArgsFit}
use Rattle.parsed_laws.specs.Arguments.{FittedAreArguments, HasSizes}

-- ---- answers

kept : {A : Type 0} (b : Bool) (o : Option A) (y : A) → cond b o None ≡ Some y → (b ≡ true) × (o ≡ Some y)
kept true o y e = (refl, e)
kept false o y e = absurd cc

mapped : {A B : Type 0} (f : A → B) (o : Option A) (y : B) → option_map f o ≡ Some y → (x : A) × (o ≡ Some x) × (f x ≡ y)
mapped f None y e = absurd cc
mapped f (Some x) y e = (x, refl, cc)

-- ---- numbers

less : (x top : ℕ) → x < top → top ≤ 2 ^ 64 → IsNumber x
less x top h most = omega (arith, h, most)

within : (w m n : ℕ) (negative : Bool) → 0 < 2 ^ w → 2 ^ w ≤ 2 ^ 64 → number_fits w negative m ≡ Some n → IsNumber n
within w m n true some most e =
    let is : Some ((2 ^ w - m) % 2 ^ w) ≡ Some n = (kept (nat_le m (2 ^ (w - 1))) (Some ((2 ^ w - m) % 2 ^ w)) n e).1 in
    let same : (2 ^ w - m) % 2 ^ w ≡ n = cc in
    let below : (2 ^ w - m) % 2 ^ w < 2 ^ w = mod-lt (2 ^ w - m) some in
    subst IsNumber same (less ((2 ^ w - m) % 2 ^ w) (2 ^ w) below most)
within w m n false some most e =
    let h = kept (nat_lt m (2 ^ w)) (Some m) n e in
    let same : m ≡ n = let is : Some m ≡ Some n = h.1 in cc in
    subst IsNumber same (less m (2 ^ w) (ltb-true m (2 ^ w) h.0) most)

value-is-number : (w : Width) (s : Scalar) (n : ℕ) → value_fits w s ≡ Some n → IsNumber n
value-is-number W1 (scalar.Truth true) n e = let same : 1 ≡ n = cc in omega (arith, same)
value-is-number W1 (scalar.Truth false) n e = let same : 0 ≡ n = cc in omega (arith, same)
value-is-number W1 (scalar.Number negative m) n e = absurd cc
value-is-number W8 (scalar.Number negative m) n e = within 8 m n negative (omega arith) (omega arith) e
value-is-number W16 (scalar.Number negative m) n e = within 16 m n negative (omega arith) (omega arith) e
value-is-number W32 (scalar.Number negative m) n e = within 32 m n negative (omega arith) (omega arith) e
value-is-number W64 (scalar.Number negative m) n e = within 64 m n negative (omega arith) (omega arith) e
value-is-number _ (scalar.Truth b) n e = absurd cc

values-are-numbers : (w : Width) (vs : List Scalar) (ns : List ℕ) → values_fit w vs ≡ Some ns → Each IsNumber ns
values-are-numbers w [] ns e = let same : [] ≡ ns = cc in subst (Each IsNumber) same tt
values-are-numbers w (v ∷ vs) ns e = by (value_fits w v) (value-is-number w v) (values-are-numbers w vs) e
  where
    by : (o : Option ℕ) → ((n : ℕ) → o ≡ Some n → IsNumber n) → ((more : List ℕ) → values_fit w vs ≡ Some more → Each IsNumber more)
        → elim o [ None ↦ None | Some n ↦ option_map (λ ns. n ∷ ns) (values_fit w vs) ] ≡ Some ns → Each IsNumber ns
    by None f again e = absurd cc
    by (Some n) f again e =
        let h = mapped (λ (ns : List ℕ). n ∷ ns) (values_fit w vs) ns e in
        subst (Each IsNumber) h.2 (f n refl, again h.0 h.1)

as-many : (k n : ℕ) → IsNumber n → Each IsNumber (replicate k n)
as-many zero n h = tt
as-many (suc k) n h = (h, as-many k n h)

wide : (sizes : List ℕ) → Each (λ n. n < 2 ^ 32) sizes → Each IsNumber sizes
wide [] h = tt
wide (n ∷ sizes) h = (let short = h.0 in omega (arith, short), wide sizes h.1)

-- ---- one argument

-- the value is one for a parameter of this type, and its numbers have 64 bits
abbrev IsFit : Ty → ArgValue → Type 0
IsFit t v = ArgFits t v × ArgInRange v

same-length : (dims : List Dim) (sizes : List ℕ) → shape_fits dims sizes ≡ true → length sizes ≡ length dims
same-length [] [] e = refl
same-length [] (n ∷ sizes) e = absurd cc
same-length (d ∷ dims) [] e = absurd cc
same-length (d ∷ dims) (n ∷ sizes) e = ap suc (same-length dims sizes (and_parts (is_size d n) (shape_fits dims sizes) e).1)

cells-are-fit : (m : MemTy) (o : Option Width) (b : Bool) (sizes : List ℕ) (vs : List Scalar) (v : ArgValue) → (b ≡ true → length sizes ≡ length m.dims) → Each IsNumber sizes
    → cells_fit o b sizes vs ≡ Some v → IsFit (ty.Memref m) v
cells-are-fit m (Some w) true sizes vs v shape small e =
    let inner = kept (nat_le (product sizes) most_cells && length vs == product sizes) (option_map (fitted.Cells sizes) (values_fit w vs)) v e in
    let h = mapped (fitted.Cells sizes) (values_fit w vs) v inner.1 in
    subst (IsFit (ty.Memref m)) h.2 (shape refl, (small, values-are-numbers w vs h.0 h.1))
cells-are-fit m (Some w) false sizes vs v shape small e = absurd cc
cells-are-fit m None b sizes vs v shape small e = absurd cc

filled-is-fit : (m : MemTy) (o : Option Width) (b : Bool) (sizes : List ℕ) (s : Scalar) (v : ArgValue) → (b ≡ true → length sizes ≡ length m.dims) → Each IsNumber sizes
    → fill_fits o b sizes s ≡ Some v → IsFit (ty.Memref m) v
filled-is-fit m (Some w) true sizes s v shape small e =
    let inner = kept (nat_le (product sizes) most_cells) (option_map (λ n. fitted.Cells sizes (replicate (product sizes) n)) (value_fits w s)) v e in
    let h = mapped (λ n. fitted.Cells sizes (replicate (product sizes) n)) (value_fits w s) v inner.1 in
    subst (IsFit (ty.Memref m)) h.2 (shape refl, (small, as-many (product sizes) h.0 (value-is-number w s h.0 h.1)))
filled-is-fit m (Some w) false sizes s v shape small e = absurd cc
filled-is-fit m None b sizes s v shape small e = absurd cc

number-is-fit : (w : Width) (a : Arg) (v : ArgValue) → width_fits w a ≡ Some v → (n : ℕ) × IsNumber n × (fitted.Number n ≡ v)
number-is-fit w (arg.Number negative m) v e =
    let h = mapped fitted.Number (value_fits w (scalar.Number negative m)) v e in
    (h.0, value-is-number w (scalar.Number negative m) h.0 h.1, h.2)
number-is-fit w (arg.Truth b) v e =
    let h = mapped fitted.Number (value_fits w (scalar.Truth b)) v e in
    (h.0, value-is-number w (scalar.Truth b) h.0 h.1, h.2)
number-is-fit w _ v e = absurd cc

one-is-fit : (t : Ty) (a : Arg) (v : ArgValue) → HasSizes a → fit t a ≡ Some v → IsFit t v
one-is-fit (ty.Int w) a v small e = let h = number-is-fit w a v e in subst (IsFit (ty.Int w)) h.2 (tt, h.1)
one-is-fit ty.Index a v small e = let h = number-is-fit W64 a v e in subst (IsFit ty.Index) h.2 (tt, h.1)
one-is-fit (ty.Memref m) (arg.Cells sizes vs) v small e =
    cells-are-fit m (cell_width m.elem) (shape_fits m.dims sizes) sizes vs v (same-length m.dims sizes) (wide sizes small) e
one-is-fit (ty.Memref m) (arg.Fill sizes s) v small e =
    filled-is-fit m (cell_width m.elem) (shape_fits m.dims sizes) sizes s v (same-length m.dims sizes) (wide sizes small) e
one-is-fit _ a v small e = absurd cc

-- ---- all of them

-- values for all parameters
abbrev AreFit : List (ValueNo × Ty) → List ArgValue → Type 0
AreFit params values = ArgsFit params values × Each ArgInRange values

behind : (v : ArgValue) (f : Fitted) (values : List ArgValue) → before v f ≡ Fits values → (vs : List ArgValue) × (f ≡ Fits vs) × (v ∷ vs ≡ values)
behind v (Fits vs) values e = (vs, refl, cc)
behind v (Wrong at) values e = absurd cc

not-wrong : (b : Bool) (f : Fitted) (at : ℕ) (values : List ArgValue) → cond b f (Wrong at) ≡ Fits values → f ≡ Fits values
not-wrong true f at values e = e
not-wrong false f at values e = absurd cc

all-are-fit : (at used : ℕ) (params : List (ValueNo × Ty)) (args : List Arg) (values : List ArgValue) → Each HasSizes args
    → fitted_from at used (map (λ p. p.1) params) args ≡ Fits values → AreFit params values
all-are-fit at used [] [] values small e = let same : [] ≡ values = cc in subst (AreFit []) same (tt, tt)
all-are-fit at used [] (a ∷ args) values small e = absurd cc
all-are-fit at used (p ∷ params) [] values small e = absurd cc
all-are-fit at used (p ∷ params) (a ∷ args) values small e = by (fit p.1 a) (λ v is. one-is-fit p.1 a v small.0 is) (λ n vs. all-are-fit (at + 1) n params args vs small.1) e
  where
    by : (o : Option ArgValue) → ((v : ArgValue) → o ≡ Some v → IsFit p.1 v)
        → ((n : ℕ) (vs : List ArgValue) → fitted_from (at + 1) n (map (λ p. p.1) params) args ≡ Fits vs → AreFit params vs)
        → elim o [ None ↦ Wrong at | Some v ↦ cond (nat_le (used + cells_of v) most_cells) (before v (fitted_from (at + 1) (used + cells_of v) (map (λ p. p.1) params) args)) (Wrong at) ] ≡ Fits values
        → AreFit (p ∷ params) values
    by None f again e = absurd cc
    by (Some v) f again e =
        let all : Fitted = fitted_from (at + 1) (used + cells_of v) (map (λ p. p.1) params) args in
        let h = behind v all values (not-wrong (nat_le (used + cells_of v) most_cells) (before v all) at values e) in
        let more = again (used + cells_of v) h.0 h.1 in
        let one = f v refl in
        subst (AreFit (p ∷ params)) h.2 ((one.0, more.0), (one.1, more.1))

pub fitted_are_arguments : FittedAreArguments
fitted_are_arguments funcs entry args values sizes h =
    let fit = all-are-fit 0 0 h.func.params args values sizes h.fit in
    record { func = h.func; found = h.found; fit = fit.0; range = fit.1 }
