-- The types of the registers that the pass makes, and rows that fit by them.
use Rattle.std.proofs.Common.{◌≡◌, inl, inr, ℕ, zero, suc, ◌+◌, ◌*◌, ◌<◌, ◌≤◌, ◌==◌, ◌&&◌, nat_lt, cond, not, Bool, true, false, List, [], ◌∷◌, ◌++◌, map, length, Option, Some, None, refl, sym, ap, ◌∙◌, subst, arith}
use Rattle.std.specs.Prelude.{slice_get, if◌then◌else◌}
use Rattle.std.specs.Option.{option_map}
use Rattle.std.proofs.lemmas.Bool.{ltb-true, lt-ltb}
use Rattle.std.proofs.lemmas.Bool.Decides.{eqb_tells}
use Rattle.std.proofs.lemmas.List.{length-map, length-append}
use Rattle.std.proofs.lemmas.Option.{slice_get_within, slice_get-map}
use Rattle.int_ops.specs.Arithmetic.{bits_of}
use Rattle.int_ops.specs.declared.Width.TheVariants.{W1}
use Rattle.op_table.specs.declared.kind.OpKind.{OpKind}
use Rattle.op_table.specs.declared.kind.OpKind.TheVariants as op
use Rattle.ir_forms.specs.declared.types.Ty.{Ty}
use Rattle.ir_forms.specs.declared.types.Ty.TheVariants as ty
use Rattle.ir_forms.specs.declared.types.ValTy.TheVariants as val
use Rattle.ir_forms.specs.declared.types.NumTy.{NumTy}
use Rattle.ir_forms.specs.declared.types.NumTy.TheVariants as num
use Rattle.ir_forms.specs.declared.types.CellTy.{CellTy}
use Rattle.ir_forms.specs.declared.types.CellTy.TheVariants as cell
use Rattle.ir_forms.specs.declared.types.MemTy.{MemTy}
use Rattle.ir_forms.specs.declared.types.Dim.{Dim}
use Rattle.ir_forms.specs.declared.types.Dim.TheVariants.{Fixed, Dynamic}
use Rattle.ir_verify.specs.Types.{same_dim, same_dims, same_number, same_cell, same_memref, same_type, holds, is_token, is_value}
use Rattle.low_forms.specs.declared.code.LowAttr.{LowAttr}
use Rattle.low_forms.specs.declared.code.LowAttr.TheVariants as low
use Rattle.low_forms.specs.declared.code.LowKind.{LowKind}
use Rattle.low_forms.specs.declared.code.LowKind.TheVariants.{Row, Launch, Await}
use Rattle.low_forms.specs.declared.code.Reg.{Reg}
use Rattle.low_forms.specs.declared.code.LowFunc.{LowFunc}
use Rattle.low_forms.specs.declared.code.LowModule.{LowModule}
use Rattle.low_forms.specs.declared.row.LowRow.{LowRow}
use Rattle.low_forms.specs.declared.row.Slot.{Slot}
use Rattle.low_forms.specs.declared.row.Rest.{Rest}
use Rattle.low_forms.specs.declared.row.Rest.TheVariants as rest
use Rattle.low_forms.specs.declared.row.Results.{Results}
use Rattle.low_forms.specs.declared.row.Results.TheVariants as gave
use Rattle.low_forms.specs.declared.row.AttrSlot.{AttrSlot}
use Rattle.low_forms.specs.declared.row.AttrSlot.TheVariants as carries
use Rattle.low_forms.specs.declared.row.Targets.{Targets}
use Rattle.low_forms.specs.declared.row.Targets.TheVariants as to
use Rattle.low_forms.specs.Rows.{row_of, row_of_kind}
use Rattle.low_forms.specs.Registers.{reg_type, on_type, on_types, callee}
use Rattle.low_forms.specs.Numbers.{regs_within}
use Rattle.low_forms.specs.Fits as fits
use Rattle.low_forms.specs.WellFormed.{WellFormed}
use Rattle.low_forms.proofs.Words.{and_left, and_right, and_both}
use Rattle.coro_lower.specs.Registers.{flag, saved, made, token, identity, handle, first_saved, made_from, values, value_type, object_types, coroutine_types}
use Rattle.coro_lower.specs.Rows.{call_kind}
use Rattle.coro_lower.specs.Shape.{lowered}
use Rattle.register_laws.proofs.Views.{types, Seen, seen, see, Sight, haves, holdings, slotted, takes_these, gives_these, launches_these, rests, fills, own_fits, results_by, is_task, is_no_task, carries_fit, slots_of, fits_as, Aim, bare, with_params, codes, two_aims, targets_as}
use Rattle.coro_laws.specs.Half.{is_of_coroutines}
use Rattle.coro_laws.proofs.Lists.{at_left, at_right}

-- ---- a type is like another, both ways

flip_eq : (a b : ℕ) → (a == b) ≡ true → (b == a) ≡ true
flip_eq a b is = elim (eqb_tells a b) [
  | inl same ↦ elim (eqb_tells b a) [ inl s ↦ s.0 | inr o ↦ absurd (o.1 (sym same.1)) ]
  | inr other ↦ (let no : (a == b) ≡ false = other.0 in cc)
]

eq_self : (a : ℕ) → (a == a) ≡ true
eq_self a = elim (eqb_tells a a) [ inl s ↦ s.0 | inr o ↦ absurd (o.1 refl) ]

dim_flip : (d e : Dim) → same_dim d e ≡ true → same_dim e d ≡ true
dim_flip (Fixed m) (Fixed n) is = flip_eq m n is
dim_flip (Fixed m) Dynamic is = cc
dim_flip Dynamic (Fixed n) is = cc
dim_flip Dynamic Dynamic is = refl

dim_self : (d : Dim) → same_dim d d ≡ true
dim_self (Fixed n) = eq_self n
dim_self Dynamic = refl

dims_flip : (ds es : List Dim) → same_dims ds es ≡ true → same_dims es ds ≡ true
dims_flip [] [] is = refl
dims_flip [] (e ∷ es) is = cc
dims_flip (d ∷ ds) [] is = cc
dims_flip (d ∷ ds) (e ∷ es) is =
    and_both (same_dim e d) (same_dims es ds) (dim_flip d e (and_left (same_dim d e) (same_dims ds es) is)) (dims_flip ds es (and_right (same_dim d e) (same_dims ds es) is))

dims_self : (ds : List Dim) → same_dims ds ds ≡ true
dims_self [] = refl
dims_self (d ∷ ds) = and_both (same_dim d d) (same_dims ds ds) (dim_self d) (dims_self ds)

number_flip : (m n : NumTy) → same_number m n ≡ true → same_number n m ≡ true
number_flip (num.Int v) (num.Int w) is = flip_eq (bits_of v) (bits_of w) is
number_flip (num.Int v) num.Index is = cc
number_flip num.Index (num.Int w) is = cc
number_flip num.Index num.Index is = refl

number_self : (m : NumTy) → same_number m m ≡ true
number_self (num.Int v) = eq_self (bits_of v)
number_self num.Index = refl

cell_flip : (m n : CellTy) → same_cell m n ≡ true → same_cell n m ≡ true
cell_flip (cell.Int v) (cell.Int w) is = flip_eq (bits_of v) (bits_of w) is
cell_flip cell.Index cell.Index is = refl
cell_flip cell.Token cell.Token is = refl
cell_flip cell.Group cell.Group is = refl
cell_flip (cell.Value m) (cell.Value n) is = number_flip m n is
cell_flip (cell.Int v) n is = cc
cell_flip cell.Index n is = cc
cell_flip cell.Token n is = cc
cell_flip cell.Group n is = cc
cell_flip (cell.Value m) n is = cc

cell_self : (m : CellTy) → same_cell m m ≡ true
cell_self (cell.Int v) = eq_self (bits_of v)
cell_self cell.Index = refl
cell_self cell.Token = refl
cell_self cell.Group = refl
cell_self (cell.Value m) = number_self m

memref_flip : (m n : MemTy) → same_memref m n ≡ true → same_memref n m ≡ true
memref_flip m n is =
    and_both (same_cell n.elem m.elem) (same_dims n.dims m.dims) (cell_flip m.elem n.elem (and_left (same_cell m.elem n.elem) (same_dims m.dims n.dims) is))
    (dims_flip m.dims n.dims (and_right (same_cell m.elem n.elem) (same_dims m.dims n.dims) is))

memref_self : (m : MemTy) → same_memref m m ≡ true
memref_self m = and_both (same_cell m.elem m.elem) (same_dims m.dims m.dims) (cell_self m.elem) (dims_self m.dims)

-- what holds the type is of the type of a value that holds it
pub held_same : (u t : Ty) → holds u t ≡ true → same_type (value_type t) u ≡ true
held_same (ty.Value (val.Int v)) (ty.Int w) is = flip_eq (bits_of v) (bits_of w) is
held_same (ty.Value val.Index) ty.Index is = refl
held_same (ty.Value (val.Memref m)) (ty.Memref n) is = memref_flip m n is
held_same u t is = cc

-- a value of a type holds what is like it
pub held_by : (t u : Ty) → same_type t u ≡ true → (is_value (value_type t) ≡ true) → holds (value_type t) u ≡ true
held_by (ty.Int v) (ty.Int w) is held = is
held_by ty.Index ty.Index is held = refl
held_by (ty.Memref m) (ty.Memref n) is held = is
held_by t u is held = cc

-- a value's type is like itself
pub value_self : (t : Ty) → is_value (value_type t) ≡ true → same_type (value_type t) (value_type t) ≡ true
value_self (ty.Int w) is = eq_self (bits_of w)
value_self ty.Index is = refl
value_self (ty.Memref m) is = memref_self m
value_self t is = cc

token_same : (t : Ty) → is_token t ≡ true → same_type ty.Token t ≡ true
token_same ty.Token is = refl
token_same t is = cc

-- ---- what a changed callee leaves

abbrev pub changed : Seen → Seen
changed s = record { takes = s.takes; gives = cond s.task (object_types s.gives) s.gives; task = s.task }

held_all : (rs : List (Option Ty)) (ts : List Ty) → holdings rs ts ≡ true → haves rs (map value_type ts) ≡ true
held_all [] [] is = refl
held_all [] (t ∷ ts) is = cc
held_all (r ∷ rs) [] is = cc
held_all (r ∷ rs) (t ∷ ts) is =
    and_both (on_type (same_type (value_type t)) r) (haves rs (map value_type ts)) (one r (and_left (on_types holds r (Some t)) (holdings rs ts) is)) (held_all rs ts (and_right (on_types holds r (Some t)) (holdings rs ts) is))
  where
    one : (r : Option Ty) → on_types holds r (Some t) ≡ true → on_type (same_type (value_type t)) r ≡ true
    one None is = cc
    one (Some u) is = held_same u t is

on_token : (r : Option Ty) → on_type is_token r ≡ true → on_type (same_type ty.Token) r ≡ true
on_token None is = cc
on_token (Some t) is = token_same t is

launched_gives : (o : Option Seen) (rs : List (Option Ty)) → is_task o ≡ true → launches_these o rs ≡ true → gives_these (option_map changed o) rs ≡ true
launched_gives None rs task is = cc
launched_gives (Some s) [] task is = cc
launched_gives (Some s) (r ∷ rs) task is =
    ap (λ c. haves (r ∷ rs) (cond c (object_types s.gives) s.gives)) task
    ∙ and_both (on_type (same_type ty.Token) r) (haves rs (map value_type s.gives)) (on_token r (and_left (on_type is_token r) (holdings rs s.gives) is)) (held_all rs s.gives (and_right (on_type is_token r) (holdings rs s.gives) is))

plain_gives : (o : Option Seen) (rs : List (Option Ty)) → is_no_task o ≡ true → gives_these (option_map changed o) rs ≡ gives_these o rs
plain_gives None rs plain = refl
plain_gives (Some s) rs plain = ap (λ c. haves rs (cond c (object_types s.gives) s.gives)) (off s.task plain)
  where
    off : (b : Bool) → not b ≡ true → b ≡ false
    off true is = cc
    off false is = refl

abbrev pub is_returned : Rest → Bool
is_returned rest.Returned = true
is_returned _ = false

abbrev is_own : Results → Bool
is_own gave.Own = true
is_own _ = false

module _ (v : Sight) (g : List Ty) where
  -- the same instruction beside changed callees, in a function that gives this
  abbrev pub beside : Sight
  beside = record { attr = v.attr; called = option_map changed v.called; given = g; operands = v.operands; results = v.results }

  task_same : (o : Option Seen) → is_task (option_map changed o) ≡ is_task o
  task_same None = refl
  task_same (Some s) = refl

  no_task_same : (o : Option Seen) → is_no_task (option_map changed o) ≡ is_no_task o
  no_task_same None = refl
  no_task_same (Some s) = refl

  takes_same : (o : Option Seen) (rs : List (Option Ty)) → takes_these (option_map changed o) rs ≡ takes_these o rs
  takes_same None rs = refl
  takes_same (Some s) rs = refl

  carries_same : (c : AttrSlot) (a : LowAttr) → carries_fit c beside a ≡ carries_fit c v a
  carries_same carries.Coroutine a = task_same v.called
  carries_same carries.Plain a = no_task_same v.called
  carries_same carries.Nothing low.None = refl
  carries_same c a = refl

  rests_same : (r : Rest) (rs : List (Option Ty)) → (is_returned r ≡ true → g ≡ v.given) → rests r beside rs ≡ rests r v rs
  rests_same rest.Nothing rs so = refl
  rests_same rest.Sizes rs so = refl
  rests_same (rest.Indices k) rs so = refl
  rests_same rest.Params rs so = takes_same v.called rs
  rests_same rest.Returned rs so = ap (haves rs) (so refl)

  fills_same : (ss : List Slot) (r : Rest) (rs : List (Option Ty)) → (is_returned r ≡ true → g ≡ v.given) → fills ss r beside rs ≡ fills ss r v rs
  fills_same [] r rs so = rests_same r rs so
  fills_same (s ∷ ss) r [] so = ap (λ b. fits.is_absent s && b) (rests_same r [] so)
  fills_same (s ∷ ss) r (t ∷ ts) so = either (fits.is_absent s) (rests_same r (t ∷ ts) so) (ap (λ b. on_type (slotted s v.operands v.attr) t && b) (fills_same ss r ts so))
    where
      either : (c : Bool) → rests r beside (t ∷ ts) ≡ rests r v (t ∷ ts) → (on_type (slotted s v.operands v.attr) t && fills ss r beside ts) ≡ (on_type (slotted s v.operands v.attr) t && fills ss r v ts)
          → (if c then rests r beside (t ∷ ts) else (on_type (slotted s v.operands v.attr) t && fills ss r beside ts)) ≡ (if c then rests r v (t ∷ ts) else (on_type (slotted s v.operands v.attr) t && fills ss r v ts))
      either true one two = one
      either false one two = two

  own_same : (r : Results) (s : Slot) → is_own r ≡ true → results_by r s beside ≡ results_by r s v
  own_same gave.Own s own = by v.results
    where
      by : (rs : List (Option Ty)) → own_fits s beside rs ≡ own_fits s v rs
      by [] = refl
      by (r ∷ []) = refl
      by (r ∷ q ∷ rs) = refl
  own_same gave.Called s own = cc
  own_same gave.Launched s own = cc

  row_same : (row : LowRow) → is_own row.results ≡ true → (is_returned row.rest ≡ true → g ≡ v.given) → fits_as row beside ≡ fits_as row v
  row_same row own so =
      ap (λ b. ((row.stands && b) && fills (slots_of row) row.rest beside v.operands) && results_by row.results row.result beside) (carries_same row.attr v.attr)
      ∙ ap (λ b. ((row.stands && carries_fit row.attr v v.attr) && b) && results_by row.results row.result beside) (fills_same (slots_of row) row.rest v.operands so)
      ∙ ap (λ b. ((row.stands && carries_fit row.attr v v.attr) && fills (slots_of row) row.rest v v.operands) && b) (own_same row.results row.result own)

  rows_own : (kind : OpKind) → is_of_coroutines (Row kind) ≡ false → is_own (row_of_kind kind).results ≡ true
  rows_own op.FuncCall none = cc
  rows_own kind none = refl

  launch_fits : fits_as (row_of Launch) v ≡ true → fits_as (row_of_kind op.FuncCall) beside ≡ true
  launch_fits is =
      let row : LowRow = row_of Launch in
      let front : Bool = (true && is_task v.called) && fills (slots_of row) rest.Params v v.operands in
      let two : front ≡ true = and_left front (launches_these v.called v.results) is in
      let task : is_task v.called ≡ true = and_left (is_task v.called) (fills (slots_of row) rest.Params v v.operands) two in
      and_both (is_task (option_map changed v.called) && fills (slots_of row) rest.Params beside v.operands) (gives_these (option_map changed v.called) v.results)
      (and_both (is_task (option_map changed v.called)) (fills (slots_of row) rest.Params beside v.operands) (task_same v.called ∙ task)
      (fills_same (slots_of row) rest.Params v.operands (λ no. cc) ∙ and_right (is_task v.called) (fills (slots_of row) rest.Params v v.operands) two))
      (launched_gives v.called v.results task (and_right front (launches_these v.called v.results) is))

  pub called_fits : (kind : LowKind) → is_of_coroutines kind ≡ false → (is_returned (row_of kind).rest ≡ true → g ≡ v.given) → fits_as (row_of kind) v ≡ true → fits_as (row_of (call_kind kind)) beside ≡ true
  called_fits Launch none so is = launch_fits is
  called_fits Await none so is = row_same (row_of Await) refl so ∙ is
  called_fits (Row kind) none so is = row_same (row_of_kind kind) (rows_own kind none) so ∙ is

  -- ---- targets

  abbrev pub is_calling : Targets → Bool
  is_calling to.Call = true
  is_calling _ = false

  with_same : (p q : List (Option Ty) → Bool) → ((ts : List (Option Ty)) → p ts ≡ q ts) → (o : Option (List (Option Ty))) → with_params p o ≡ with_params q o
  with_same p q same None = refl
  with_same p q same (Some ts) = same ts

  two_same : (asked : Targets) (same : Bool) (t u : Aim) → (is_calling asked ≡ true → is_no_task v.called ≡ true) → two_aims asked same beside t u ≡ two_aims asked same v t u
  two_same to.Call same t u so =
      ap (λ b. ((bare t && bare u) && b) && with_params codes u.params) (with_same (gives_these (option_map changed v.called)) (gives_these v.called) (λ ts. plain_gives v.called ts (so refl)) t.params)
  two_same to.Either same t u so = refl
  two_same to.Await same t u so = refl
  two_same asked same t u so = refl

  pub targets_beside : (asked : Targets) (same : Bool) (ts : List Aim) → (is_calling asked ≡ true → is_no_task v.called ≡ true) → targets_as asked same beside ts ≡ targets_as asked same v ts
  targets_beside asked same [] so = refl
  targets_beside asked same (t ∷ []) so = refl
  targets_beside asked same (t ∷ u ∷ []) so = two_same asked same t u so
  targets_beside asked same (t ∷ u ∷ w ∷ []) so = refl
  targets_beside asked same (t ∷ u ∷ w ∷ x ∷ ts) so = refl

  -- a row that asks for where a call goes on names no coroutine
  pub calls_plain : (kind : LowKind) → fits_as (row_of kind) v ≡ true → is_calling (row_of kind).targets ≡ true → is_no_task v.called ≡ true
  calls_plain Launch is asks = cc
  calls_plain Await is asks = cc
  calls_plain (Row kind) is asks = by kind is asks
    where
      by : (kind : OpKind) → fits_as (row_of_kind kind) v ≡ true → is_calling (row_of_kind kind).targets ≡ true → is_no_task v.called ≡ true
      by op.AioCall is asks =
          let row : LowRow = row_of_kind op.AioCall in
          let last : Bool = results_by row.results row.result v in
          let fill : Bool = fills (slots_of row) row.rest v v.operands in
          and_left (is_no_task v.called) fill (and_left (is_no_task v.called && fill) last is)
      by kind is asks = cc

-- only a return has what its function gives
pub returned_is : (kind : LowKind) → is_returned (row_of kind).rest ≡ true → kind ≡ Row op.FuncReturn
returned_is Launch is = cc
returned_is Await is = cc
returned_is (Row kind) is = by kind is
  where
    by : (kind : OpKind) → is_returned (row_of_kind kind).rest ≡ true → Row kind ≡ Row op.FuncReturn
    by op.FuncReturn is = refl
    by kind is = cc

-- ---- the types of registers

left_same : {A : Type 0} → (xs ys : List A) (n : ℕ) → n < length xs → slice_get (xs ++ ys) n ≡ slice_get xs n
left_same [] ys n less = absurd (omega (arith, less))
left_same (x ∷ xs) ys zero less = refl
left_same (x ∷ xs) ys (suc n) less = left_same xs ys n (omega (arith, less))

each_at : {A B : Type 0} → (t : B) (xs : List A) (k : ℕ) → k < length xs → slice_get (map (λ x. t) xs) k ≡ Some t
each_at t [] k less = absurd (omega (arith, less))
each_at t (x ∷ xs) zero less = refl
each_at t (x ∷ xs) (suc k) less = each_at t xs k (omega (arith, less))

module _ (f : LowFunc) where
  abbrev new : LowFunc
  new = lowered f

  abbrev flags : List Ty
  flags = map (λ b. ty.Int W1) f.blocks

  abbrev states : List Ty
  states = map (λ b. ty.CoroState) f.blocks

  front_length : length (f.regs ++ flags) ≡ length f.regs + length f.blocks
  front_length = length-append f.regs flags ∙ ap (λ n. length f.regs + n) (length-map f.blocks (λ b. ty.Int W1))

  regs_longer : length f.regs ≤ length new.regs
  regs_longer =
      let a : length new.regs ≡ length (f.regs ++ flags) + length (cond f.coroutine (coroutine_types f) []) = length-append (f.regs ++ flags) (cond f.coroutine (coroutine_types f) []) in
      let b : length (f.regs ++ flags) ≡ length f.regs + length f.blocks = front_length in
      omega (arith, a, b)

  type_left : (r : Reg) → r.0 < length f.regs → reg_type new r ≡ reg_type f r
  type_left r less =
      let b : length (f.regs ++ flags) ≡ length f.regs + length f.blocks = front_length in
      left_same (f.regs ++ flags) (cond f.coroutine (coroutine_types f) []) r.0 (omega (arith, less, b)) ∙ left_same f.regs flags r.0 less

  pub types_left : (rs : List Reg) → regs_within f rs ≡ true → types new rs ≡ types f rs
  types_left [] within = refl
  types_left (r ∷ rs) within =
      ap (λ t. t ∷ types new rs) (type_left r (ltb-true r.0 (length f.regs) (and_left (nat_lt r.0 (length f.regs)) (regs_within f rs) within)))
      ∙ ap (λ ts. reg_type f r ∷ ts) (types_left rs (and_right (nat_lt r.0 (length f.regs)) (regs_within f rs) within))

  pub within_left : (rs : List Reg) → regs_within f rs ≡ true → regs_within new rs ≡ true
  within_left [] within = refl
  within_left (r ∷ rs) within =
      let less : r.0 < length f.regs = ltb-true r.0 (length f.regs) (and_left (nat_lt r.0 (length f.regs)) (regs_within f rs) within) in
      let more : length f.regs ≤ length new.regs = regs_longer in
      and_both (nat_lt r.0 (length new.regs)) (regs_within new rs) (lt-ltb r.0 (length new.regs) (omega (arith, less, more))) (within_left rs (and_right (nat_lt r.0 (length f.regs)) (regs_within f rs) within))

  -- registers that have these types
  abbrev pub Have : List Reg → List Ty → Type 0
  Have rs ts = types new rs ≡ map (λ (t : Ty). Some t) ts

  pub have_within : (rs : List Reg) (ts : List Ty) → Have rs ts → regs_within new rs ≡ true
  have_within [] ts is = refl
  have_within (r ∷ rs) [] is = cc
  have_within (r ∷ rs) (t ∷ ts) is =
      let here : reg_type new r ≡ Some t = cc in
      let later : Have rs ts = cc in
      and_both (nat_lt r.0 (length new.regs)) (regs_within new rs) (lt-ltb r.0 (length new.regs) (slice_get_within new.regs r.0 t here)) (have_within rs ts later)

  pub flag_type : (k : ℕ) → k < length f.blocks → reg_type new (flag f k) ≡ Some (ty.Int W1)
  flag_type k less =
      at_left (f.regs ++ flags) (cond f.coroutine (coroutine_types f) []) (length f.regs + k) (ty.Int W1)
      (at_right f.regs flags k (length f.regs + k) (ty.Int W1) (each_at (ty.Int W1) f.blocks k less) refl)

  module _ (task : f.coroutine ≡ true) where
    behind : (n m : ℕ) (t : Ty) → slice_get (coroutine_types f) n ≡ Some t → m ≡ length f.regs + length f.blocks + n → slice_get new.regs m ≡ Some t
    behind n m t at is =
        let so : slice_get (cond f.coroutine (coroutine_types f) []) n ≡ Some t = ap (λ c. slice_get (cond c (coroutine_types f) []) n) task ∙ at in
        let b : length (f.regs ++ flags) ≡ length f.regs + length f.blocks = front_length in
        at_right (f.regs ++ flags) (cond f.coroutine (coroutine_types f) []) n m t so (omega (arith, is, b))

    abbrev lasts : List Ty
    lasts = ty.CoroId ∷ ty.CoroHandle ∷ ty.CoroState ∷ []

    pub saved_type : (k : ℕ) → k < length f.blocks → reg_type new (saved f k) ≡ Some ty.CoroState
    saved_type k less =
        behind k (length f.regs + length f.blocks + k) ty.CoroState
        (at_left (states ++ object_types f.results) lasts k ty.CoroState (at_left states (object_types f.results) k ty.CoroState (each_at ty.CoroState f.blocks k less))) refl

    states_length : length states ≡ length f.blocks
    states_length = length-map f.blocks (λ b. ty.CoroState)

    pub object_type : (j : ℕ) (t : Ty) → slice_get (object_types f.results) j ≡ Some t → reg_type new (made f j) ≡ Some t
    object_type j t at =
        let n : length states ≡ length f.blocks = states_length in
        behind (length f.blocks + j) (length f.regs + 2 * length f.blocks + j) t
        (at_left (states ++ object_types f.results) lasts (length f.blocks + j) t (at_right states (object_types f.results) j (length f.blocks + j) t at (omega (arith, n)))) (omega arith)

    last_type : (j : ℕ) (t : Ty) → slice_get lasts j ≡ Some t → reg_type new (made f (length f.results + 1 + j)) ≡ Some t
    last_type j t at =
        let n : length states ≡ length f.blocks = states_length in
        let m : length (states ++ object_types f.results) ≡ length states + length (object_types f.results) = length-append states (object_types f.results) in
        let o : length (object_types f.results) ≡ suc (length f.results) = ap suc (length-map f.results value_type) in
        behind (length f.blocks + (length f.results + 1 + j)) (length f.regs + 2 * length f.blocks + (length f.results + 1 + j)) t
        (at_right (states ++ object_types f.results) lasts j (length f.blocks + (length f.results + 1 + j)) t at (omega (arith, n, m, o))) (omega arith)

    pub token_type : reg_type new (token f) ≡ Some ty.Token
    token_type = object_type 0 ty.Token refl

    pub identity_type : reg_type new (identity f) ≡ Some ty.CoroId
    identity_type = subst (λ n. reg_type new (made f n) ≡ Some ty.CoroId) (let e : length f.results + 1 + 0 ≡ length f.results + 1 = omega arith in e) (last_type 0 ty.CoroId refl)

    pub handle_type : reg_type new (handle f) ≡ Some ty.CoroHandle
    handle_type = subst (λ n. reg_type new (made f n) ≡ Some ty.CoroHandle) (let e : length f.results + 1 + 1 ≡ length f.results + 2 = omega arith in e) (last_type 1 ty.CoroHandle refl)

    pub first_type : reg_type new (first_saved f) ≡ Some ty.CoroState
    first_type = subst (λ n. reg_type new (made f n) ≡ Some ty.CoroState) (let e : length f.results + 1 + 2 ≡ length f.results + 3 = omega arith in e) (last_type 2 ty.CoroState refl)

    pub value_at : (i : ℕ) (t : Ty) → slice_get f.results i ≡ Some t → reg_type new (made f (1 + i)) ≡ Some (value_type t)
    value_at i t at = object_type (1 + i) (value_type t) (subst (λ n. slice_get (object_types f.results) n ≡ Some (value_type t)) (let e : suc i ≡ 1 + i = omega arith in e) (slice_get-map value_type f.results i ∙ ap (option_map value_type) at))

    from_types : (j : ℕ) (ts : List Ty) → ((i : ℕ) (t : Ty) → slice_get ts i ≡ Some t → reg_type new (made f (j + i)) ≡ Some (value_type t)) → Have (made_from f j ts) (map value_type ts)
    from_types j [] each = refl
    from_types j (t ∷ ts) each =
        let here : reg_type new (made f j) ≡ Some (value_type t) = subst (λ n. reg_type new (made f n) ≡ Some (value_type t)) (let e : j + 0 ≡ j = omega arith in e) (each 0 t refl) in
        let later : Have (made_from f (j + 1) ts) (map value_type ts) = from_types (j + 1) ts (λ i u at. subst (λ n. reg_type new (made f n) ≡ Some (value_type u)) (let e : j + suc i ≡ j + 1 + i = omega arith in e) (each (suc i) u at)) in
        ap (λ o. o ∷ types new (made_from f (j + 1) ts)) here ∙ ap (λ os. Some (value_type t) ∷ os) later

    pub values_types : Have (values f) (map value_type f.results)
    values_types = from_types 1 f.results value_at

-- ---- callees

abbrev pub lowered_code : LowModule → LowModule
lowered_code code = record { funcs = map lowered code.funcs }

abbrev gives_task : LowFunc → List (Option Ty) → Seen
gives_task g ts = record { takes = ts; gives = cond g.coroutine (object_types g.results) g.results; task = g.coroutine }

module _ (code : LowModule) (well : WellFormed code) where
  seen_changed : (g : LowFunc) → regs_within g g.params ≡ true → seen (lowered g) ≡ changed (seen g)
  seen_changed g within = ap (gives_task g) (types_left g g.params within)

  see_changed : (n : ℕ) (o : Option LowFunc) → slice_get code.funcs n ≡ o → see (option_map lowered o) ≡ option_map changed (see o)
  see_changed n None at = refl
  see_changed n (Some g) at = ap (λ (s : Seen). Some s) (seen_changed g (well n g at).params_within)

  pub callee_changed : (a : LowAttr) → see (callee (lowered_code code) a) ≡ option_map changed (see (callee code a))
  callee_changed (low.Callee g) = ap see (slice_get-map lowered code.funcs g.0) ∙ see_changed g.0 (slice_get code.funcs g.0) refl
  callee_changed a = refl
