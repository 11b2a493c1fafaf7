-- Each block that the pass makes has its numbers in range, and fits its rows.
use Rattle.std.proofs.Common.{◌≡◌, ℕ, zero, suc, ◌+◌, ◌<◌, ◌==◌, ◌&&◌, ◌||◌, nat_lt, cond, not, Bool, true, false, List, [], ◌∷◌, ◌++◌, map, length, Option, Some, None, refl, sym, ap, ◌∙◌, subst, arith}
use Rattle.std.specs.Prelude.{slice_get}
use Rattle.std.specs.Option.{option_map}
use Rattle.std.proofs.lemmas.Bool.{lt-ltb, eqb-true}
use Rattle.std.proofs.lemmas.List.{length-map, map-append}
use Rattle.std.proofs.lemmas.Option.{slice_get_within}
use Rattle.int_ops.specs.declared.Width.TheVariants.{W1}
use Rattle.op_table.specs.declared.kind.OpKind.{OpKind}
use Rattle.op_table.specs.declared.kind.OpKind.TheVariants as op
use Rattle.ir_forms.specs.declared.types.Ty.{Ty}
use Rattle.ir_forms.specs.declared.types.Ty.TheVariants as ty
use Rattle.ir_verify.specs.Types.{same_type, holds, is_value, is_group, is_awaitable}
use Rattle.low_forms.specs.declared.code.LowAttr.{LowAttr}
use Rattle.low_forms.specs.declared.code.LowAttr.TheVariants as low
use Rattle.low_forms.specs.declared.code.LowKind.{LowKind}
use Rattle.low_forms.specs.declared.code.LowKind.TheVariants.{Row, Launch, Await}
use Rattle.low_forms.specs.declared.code.Reg.{Reg}
use Rattle.low_forms.specs.declared.code.Instr.{Instr}
use Rattle.low_forms.specs.declared.code.Target.{Target}
use Rattle.low_forms.specs.declared.code.Term.{Term}
use Rattle.low_forms.specs.declared.code.Block.{Block}
use Rattle.low_forms.specs.declared.code.LowFunc.{LowFunc}
use Rattle.low_forms.specs.declared.code.LowModule.{LowModule}
use Rattle.low_forms.specs.declared.row.LowRow.{LowRow}
use Rattle.low_forms.specs.declared.row.Targets.{Targets}
use Rattle.low_forms.specs.Rows.{row_of, row_of_kind}
use Rattle.low_forms.specs.Registers.{every, reg_type, on_type, callee}
use Rattle.low_forms.specs.Numbers.{regs_within, callee_within, instr_within, target_within, block_within}
use Rattle.low_forms.specs.Fits as fits
use Rattle.low_forms.specs.WellFormed.{IsWellFormed, WellFormed}
use Rattle.low_forms.proofs.Words.{and_left, and_right, and_both}
use Rattle.coro_lower.specs.declared.label.Label.{Label}
use Rattle.coro_lower.specs.declared.label.Label.TheVariants.{Entry, Body, SetsError, Cleanup, Suspended}
use Rattle.coro_lower.specs.declared.label.End.TheVariants as end
use Rattle.coro_lower.specs.Layout.{target_at, layout, place}
use Rattle.coro_lower.specs.Registers.{flag, saved, made, token, identity, handle, first_saved, values, value_type, object_types}
use Rattle.coro_lower.specs.Rows.{row, ends, block, idle, call_kind, called}
use Rattle.coro_lower.specs.Rows as rows
use Rattle.coro_lower.specs.Shape.{jump, branch, suspend, is_error, gives, before_end, create, set_error, begins, coro_end, label_block, lowered}
use Rattle.register_laws.proofs.Lists.{every_at, every_append, mapped_there}
use Rattle.register_laws.proofs.Views.{types, see, Sight, sight, fits_is, fits_as, haves, Aim, aim, params_seen, targets_as, targets_is, same_args, slots_of, carries_fit, fills, results_by}
use Rattle.register_laws.proofs.Good.{Parts, block_parts, block_from, instr_parts}
use Rattle.coro_laws.specs.Half.{is_of_coroutines, can_be_held, IsHalfLowered, HalfLowered}
use Rattle.coro_laws.proofs.Lists.{Among}
use Rattle.coro_laws.proofs.Labels.{place_there}
use Rattle.coro_laws.proofs.Making.{not_false}
use Rattle.coro_laws.proofs.Typed.{changed, held_by, value_self, is_returned, returned_is, beside, called_fits, types_left, within_left, Have, have_within, flag_type, saved_type, token_type, identity_type, handle_type, first_type, values_types, lowered_code, callee_changed}

abbrev some : Ty → Option Ty
some t = Some t

-- what an object's type may be
abbrev is_object : Ty → Bool
is_object t = is_awaitable t || is_group t

module _ (given : List Ty) where
  -- an instruction that carries nothing, by the types of its registers
  abbrev pub bare_sight : List Ty → List Ty → Sight
  bare_sight ts us = record { attr = low.None; called = None; given = given; operands = map some ts; results = map some us }

  pub load_fits : (t u : Ty) → holds t u ≡ true → fits_as (row_of_kind op.AsyncRuntimeLoad) (bare_sight (t ∷ []) (u ∷ [])) ≡ true
  load_fits (ty.Value p) u is = is
  load_fits t u is = cc

  await_row : (t : Ty) → is_object t ≡ true → fits_as (row_of_kind op.AsyncRuntimeAwait) (bare_sight (t ∷ []) []) ≡ true
  await_row ty.Token is = refl
  await_row (ty.Value p) is = refl
  await_row ty.Group is = refl
  await_row t is = cc

  resume_row : (t : Ty) → is_object t ≡ true → fits_as (row_of_kind op.AsyncRuntimeAwaitAndResume) (bare_sight (t ∷ ty.CoroHandle ∷ []) []) ≡ true
  resume_row ty.Token is = refl
  resume_row (ty.Value p) is = refl
  resume_row ty.Group is = refl
  resume_row t is = cc

  error_row : (t : Ty) → is_object t ≡ true → fits_as (row_of_kind op.AsyncRuntimeIsError) (bare_sight (t ∷ []) (ty.Int W1 ∷ [])) ≡ true
  error_row ty.Token is = refl
  error_row (ty.Value p) is = refl
  error_row ty.Group is = refl
  error_row t is = cc

  create_row : (t : Ty) → is_awaitable t ≡ true → fits_as (row_of_kind op.AsyncRuntimeCreate) (bare_sight [] (t ∷ [])) ≡ true
  create_row ty.Token is = refl
  create_row (ty.Value p) is = refl
  create_row t is = cc

  set_row : (t : Ty) → is_awaitable t ≡ true → fits_as (row_of_kind op.AsyncRuntimeSetAvailable) (bare_sight (t ∷ []) []) ≡ true
  set_row ty.Token is = refl
  set_row (ty.Value p) is = refl
  set_row t is = cc

  set_error_row : (t : Ty) → is_awaitable t ≡ true → fits_as (row_of_kind op.AsyncRuntimeSetError) (bare_sight (t ∷ []) []) ≡ true
  set_error_row ty.Token is = refl
  set_error_row (ty.Value p) is = refl
  set_error_row t is = cc

  store_row : (v u : Ty) → is_value v ≡ true → holds v u ≡ true → fits_as (row_of_kind op.AsyncRuntimeStore) (bare_sight (u ∷ v ∷ []) []) ≡ true
  store_row (ty.Value p) u is held = ap (λ b. (b && true) && true) held
  store_row v u is held = cc

-- a value's type
value_of : (t : Ty) → can_be_held t ≡ true → is_value (value_type t) ≡ true
value_of (ty.Int w) is = refl
value_of ty.Index is = refl
value_of (ty.Memref m) is = refl
value_of t is = cc

awaitable_of : (t : Ty) → is_value t ≡ true → is_awaitable t ≡ true
awaitable_of (ty.Value p) is = refl
awaitable_of t is = cc

values_are : (ts : List Ty) → every can_be_held ts ≡ true → every is_awaitable (map value_type ts) ≡ true
values_are [] all = refl
values_are (t ∷ ts) all =
    and_both (is_awaitable (value_type t)) (every is_awaitable (map value_type ts)) (awaitable_of (value_type t) (value_of t (and_left (can_be_held t) (every can_be_held ts) all)))
    (values_are ts (and_right (can_be_held t) (every can_be_held ts) all))

haves_self : (ts : List Ty) → every can_be_held ts ≡ true → haves (map some (map value_type ts)) (map value_type ts) ≡ true
haves_self [] all = refl
haves_self (t ∷ ts) all =
    and_both (same_type (value_type t) (value_type t)) (haves (map some (map value_type ts)) (map value_type ts)) (value_self t (value_of t (and_left (can_be_held t) (every can_be_held ts) all)))
    (haves_self ts (and_right (can_be_held t) (every can_be_held ts) all))

-- an await has one operand, an object
pub record Object (v : Sight) : Type 0 where
  pub type : Ty
  pub operands : v.operands ≡ Some type ∷ []
  pub is : is_object type ≡ true

pub await_object : (v : Sight) → fits_as (row_of Await) v ≡ true → Object v
await_object v is =
    let row : LowRow = row_of Await in
    let last : Bool = results_by row.results row.result v in
    let first : Bool = row.stands && carries_fit row.attr v v.attr in
    let fill : Bool = fills (slots_of row) row.rest v v.operands in
    by v.operands refl (and_right first fill (and_left (first && fill) last is))
  where
    by : (ops : List (Option Ty)) → v.operands ≡ ops → fills (slots_of (row_of Await)) (row_of Await).rest v ops ≡ true → Object v
    by [] same is = cc
    by (None ∷ ops) same is = cc
    by (Some t ∷ []) same is = record { type = t; operands = same; is = and_left (is_object t) true is }
    by (Some t ∷ u ∷ ops) same is = (let more : (suc (length ops) == 0) ≡ true = and_right (is_object t) (suc (length ops) == 0) is in let none : suc (length ops) ≡ 0 = eqb-true (suc (length ops)) 0 more in absurd (omega (arith, none)))

module _ (code : LowModule) (well : WellFormed code) (halves : HalfLowered code) (k0 : ℕ) (f : LowFunc) (there : slice_get code.funcs k0 ≡ Some f) where
  abbrev is : IsWellFormed code f
  is = well k0 f there

  abbrev half : IsHalfLowered f
  half = halves k0 f there

  abbrev new : LowFunc
  new = lowered f

  abbrev all : LowModule
  all = lowered_code code

  abbrev W : Instr → Bool
  W i = instr_within all new i

  abbrev F : Instr → Bool
  F i = fits.inner_fits all new i

  abbrev pub AllOk : List Instr → Type 0
  AllOk xs = (every W xs ≡ true) × (every F xs ≡ true)

  pub ok_none : AllOk []
  ok_none = (refl, refl)

  pub ok_more : (i : Instr) (xs : List Instr) → (W i ≡ true) × (F i ≡ true) → AllOk xs → AllOk (i ∷ xs)
  ok_more i xs one more = (and_both (W i) (every W xs) one.0 more.0, and_both (F i) (every F xs) one.1 more.1)

  pub ok_append : (xs ys : List Instr) → AllOk xs → AllOk ys → AllOk (xs ++ ys)
  ok_append xs ys one two = (every_append W xs ys one.0 two.0, every_append F xs ys one.1 two.1)

  -- ---- rows that the pass makes

  made_fits : (kind : OpKind) (ops res : List Reg) (ts us : List Ty) → Have f ops ts → Have f res us → fits_as (row_of_kind kind) (bare_sight new.results ts us) ≡ true → fits.instr_fits all new (row kind ops res) ≡ true
  made_fits kind ops res ts us has gets fit =
      fits_is all new (row kind ops res) (row_of_kind kind)
      ∙ ap (λ os. fits_as (row_of_kind kind) (record { attr = low.None; called = None; given = new.results; operands = os; results = types new res })) has
      ∙ ap (λ rs. fits_as (row_of_kind kind) (record { attr = low.None; called = None; given = new.results; operands = map some ts; results = rs })) gets
      ∙ fit

  made_within : (kind : OpKind) (ops res : List Reg) (ts us : List Ty) → Have f ops ts → Have f res us → W (row kind ops res) ≡ true
  made_within kind ops res ts us has gets =
      and_both (regs_within new ops && regs_within new res) true (and_both (regs_within new ops) (regs_within new res) (have_within f ops ts has) (have_within f res us gets)) refl

  pub row_ok : (kind : OpKind) (ops res : List Reg) (ts us : List Ty) → Have f ops ts → Have f res us → fits.is_instruction (row_of_kind kind).targets ≡ true
      → fits_as (row_of_kind kind) (bare_sight new.results ts us) ≡ true → (W (row kind ops res) ≡ true) × (F (row kind ops res) ≡ true)
  row_ok kind ops res ts us has gets inner fit = (
    made_within kind ops res ts us has gets,
    and_both (fits.is_instruction (row_of_kind kind).targets) (fits.instr_fits all new (row kind ops res)) inner (made_fits kind ops res ts us has gets fit),
  )

  pub have_one : (r : Reg) (t : Ty) → reg_type new r ≡ Some t → Have f (r ∷ []) (t ∷ [])
  have_one r t is_so = ap (λ o. o ∷ []) is_so

  have_two : (r s : Reg) (t u : Ty) → reg_type new r ≡ Some t → reg_type new s ≡ Some u → Have f (r ∷ s ∷ []) (t ∷ u ∷ [])
  have_two r s t u one two = ap (λ o. o ∷ types new (s ∷ [])) one ∙ ap (λ o. Some t ∷ o ∷ []) two

  -- ---- instructions that are kept

  pub sight_new : (i : Instr) → instr_within code f i ≡ true → sight all new (called i) ≡ beside (sight code f i) new.results
  sight_new i within =
      let p = instr_parts code f i within in
      ap (λ c. record { attr = i.attr; called = c; given = new.results; operands = types new i.operands; results = types new i.results }) (callee_changed code well i.attr)
      ∙ ap (λ os. record { attr = i.attr; called = option_map changed (see (callee code i.attr)); given = new.results; operands = os; results = types new i.results }) (types_left f i.operands p.0)
      ∙ ap (λ rs. record { attr = i.attr; called = option_map changed (see (callee code i.attr)); given = new.results; operands = types f i.operands; results = rs }) (types_left f i.results p.1)

  callee_in : (a : LowAttr) → callee_within all a ≡ callee_within code a
  callee_in (low.Callee g) = ap (λ n. nat_lt g.0 n) (length-map code.funcs lowered)
  callee_in a = refl

  pub kept_within : (i : Instr) → instr_within code f i ≡ true → W i ≡ true
  kept_within i within =
      let p = instr_parts code f i within in
      and_both (regs_within new i.operands && regs_within new i.results) (callee_within all i.attr)
      (and_both (regs_within new i.operands) (regs_within new i.results) (within_left f i.operands p.0) (within_left f i.results p.1)) (callee_in i.attr ∙ p.2)

  pub kept_fits : (i : Instr) → instr_within code f i ≡ true → is_of_coroutines i.kind ≡ false → (is_returned (row_of i.kind).rest ≡ true → new.results ≡ f.results)
      → fits.instr_fits code f i ≡ true → fits.instr_fits all new (called i) ≡ true
  kept_fits i within none so fit =
      fits_is all new (called i) (row_of (call_kind i.kind))
      ∙ ap (fits_as (row_of (call_kind i.kind))) (sight_new i within)
      ∙ called_fits (sight code f i) new.results i.kind none so (sym (fits_is code f i (row_of i.kind)) ∙ fit)

  inner_same : (kind : LowKind) → fits.is_instruction (row_of (call_kind kind)).targets ≡ fits.is_instruction (row_of kind).targets
  inner_same Launch = refl
  inner_same Await = refl
  inner_same (Row kind) = refl

  not_returned : (kind : LowKind) → fits.is_instruction (row_of kind).targets ≡ true → is_returned (row_of kind).rest ≡ true → ⊥
  not_returned kind inner returned = (let no : fits.is_instruction (row_of (Row op.FuncReturn)).targets ≡ true = subst (λ k. fits.is_instruction (row_of k).targets ≡ true) (returned_is kind returned) inner in cc)

  pub called_ok : (instrs : List Instr) → every (λ i. not (is_of_coroutines i.kind)) instrs ≡ true → every (instr_within code f) instrs ≡ true → every (fits.inner_fits code f) instrs ≡ true → AllOk (map called instrs)
  called_ok [] none within fit = ok_none
  called_ok (i ∷ instrs) none within fit =
      let here : instr_within code f i ≡ true = and_left (instr_within code f i) (every (instr_within code f) instrs) within in
      let one : fits.inner_fits code f i ≡ true = and_left (fits.inner_fits code f i) (every (fits.inner_fits code f) instrs) fit in
      let inner : fits.is_instruction (row_of i.kind).targets ≡ true = and_left (fits.is_instruction (row_of i.kind).targets) (fits.instr_fits code f i) one in
      let kind : is_of_coroutines i.kind ≡ false = not_false (is_of_coroutines i.kind) (and_left (not (is_of_coroutines i.kind)) (every (λ j. not (is_of_coroutines j.kind)) instrs) none) in
      ok_more (called i) (map called instrs) (
        kept_within i here,
        and_both (fits.is_instruction (row_of (call_kind i.kind)).targets) (fits.instr_fits all new (called i)) (inner_same i.kind ∙ inner)
            (kept_fits i here kind (λ r. absurd (not_returned i.kind inner r)) (and_right (fits.is_instruction (row_of i.kind).targets) (fits.instr_fits code f i) one)),
      )
      (called_ok instrs (and_right (not (is_of_coroutines i.kind)) (every (λ j. not (is_of_coroutines j.kind)) instrs) none)
      (and_right (instr_within code f i) (every (instr_within code f) instrs) within) (and_right (fits.inner_fits code f i) (every (fits.inner_fits code f) instrs) fit))

  -- ---- what stands before an end

  pub awaited : (k : ℕ) (w : Block) → slice_get f.blocks k ≡ Some w → w.term.instr.kind ≡ Await → (t : Ty) × (Have f w.term.instr.operands (t ∷ [])) × (is_object t ≡ true) × (types f w.term.instr.operands ≡ Some t ∷ [])
  awaited k w at kind =
      let p : Parts code f w = block_parts code f w (every_at (block_within code f) f.blocks k w is.within at) in
      let term : fits.term_fits code f w.term ≡ true = and_right (every (fits.inner_fits code f) w.instrs) (fits.term_fits code f w.term) (every_at (fits.block_fits code f) f.blocks k w is.fits at) in
      let first : fits.instr_fits code f w.term.instr ≡ true = and_left (fits.instr_fits code f w.term.instr) (fits.targets_fit (row_of w.term.instr.kind).targets code f w.term.instr w.term.targets) term in
      let seen_so : fits_as (row_of w.term.instr.kind) (sight code f w.term.instr) ≡ true = sym (fits_is code f w.term.instr (row_of w.term.instr.kind)) ∙ first in
      let o : Object (sight code f w.term.instr) = await_object (sight code f w.term.instr) (subst (λ x. fits_as (row_of x) (sight code f w.term.instr) ≡ true) kind seen_so) in
      (o.type, types_left f w.term.instr.operands (instr_parts code f w.term.instr p.last).0 ∙ o.operands, o.is, o.operands)

  pub waits_ok : (k : ℕ) (rs : List Reg) (t : Ty) → k < length f.blocks → Have f rs (t ∷ []) → is_object t ≡ true → AllOk (before_end end.Waits f k rs)
  waits_ok k rs t less has object =
      ok_more (row op.AsyncRuntimeAwait rs []) (is_error f k rs ∷ []) (row_ok op.AsyncRuntimeAwait rs [] (t ∷ []) [] has refl refl (await_row new.results t object))
      (ok_more (is_error f k rs) [] (row_ok op.AsyncRuntimeIsError rs (flag f k ∷ []) (t ∷ []) (ty.Int W1 ∷ []) has (have_one (flag f k) (ty.Int W1) (flag_type f k less)) refl (error_row new.results t object)) ok_none)

  have_append : (rs ss : List Reg) (ts us : List Ty) → Have f rs ts → Have f ss us → Have f (rs ++ ss) (ts ++ us)
  have_append rs ss ts us one two =
      map-append (reg_type new) rs ss ∙ ap (λ os. os ++ types new ss) one ∙ ap (λ os. map some ts ++ os) two ∙ sym (map-append some ts us)

  pub suspends_ok : f.coroutine ≡ true → (k : ℕ) (rs : List Reg) (t : Ty) → k < length f.blocks → Have f rs (t ∷ []) → is_object t ≡ true → AllOk (before_end end.Suspends f k rs)
  suspends_ok task k rs t less has object =
      ok_more (row op.AsyncCoroSave (handle f ∷ []) (saved f k ∷ [])) (row op.AsyncRuntimeAwaitAndResume (rs ++ handle f ∷ []) [] ∷ [])
      (row_ok op.AsyncCoroSave (handle f ∷ []) (saved f k ∷ []) (ty.CoroHandle ∷ []) (ty.CoroState ∷ []) (have_one (handle f) ty.CoroHandle (handle_type f task)) (have_one (saved f k) ty.CoroState (saved_type f task k less)) refl refl)
      (ok_more (row op.AsyncRuntimeAwaitAndResume (rs ++ handle f ∷ []) []) []
      (row_ok op.AsyncRuntimeAwaitAndResume (rs ++ handle f ∷ []) [] (t ∷ ty.CoroHandle ∷ []) [] (have_append rs (handle f ∷ []) (t ∷ []) (ty.CoroHandle ∷ []) has (have_one (handle f) ty.CoroHandle (handle_type f task))) refl refl (resume_row new.results t object)) ok_none)

  -- what a coroutine gives
  pub given_ok : f.coroutine ≡ true → (j : ℕ) (vs : List Reg) (ts : List Ty) → haves (types f vs) ts ≡ true → regs_within f vs ≡ true → every can_be_held ts ≡ true
      → ((i : ℕ) (t : Ty) → slice_get ts i ≡ Some t → reg_type new (made f (j + i)) ≡ Some (value_type t)) → AllOk (gives f j vs)
  given_ok task j [] ts has within held each =
      ok_more (row op.AsyncRuntimeSetAvailable (token f ∷ []) []) [] (row_ok op.AsyncRuntimeSetAvailable (token f ∷ []) [] (ty.Token ∷ []) [] (have_one (token f) ty.Token (token_type f task)) refl refl refl) ok_none
  given_ok task j (v ∷ vs) [] has within held each = cc
  given_ok task j (v ∷ vs) (t ∷ ts) has within held each =
      stored (reg_type f v) refl (and_left (on_type (same_type t) (reg_type f v)) (haves (types f vs) ts) has)
      (given_ok task (j + 1) vs ts (and_right (on_type (same_type t) (reg_type f v)) (haves (types f vs) ts) has) (and_right (nat_lt v.0 (length f.regs)) (regs_within f vs) within)
      (and_right (can_be_held t) (every can_be_held ts) held) (λ i u' at'. subst (λ n. reg_type new (made f n) ≡ Some (value_type u')) (let e : j + suc i ≡ j + 1 + i = omega arith in e) (each (suc i) u' at')))
    where
      object : reg_type new (made f j) ≡ Some (value_type t)
      object = subst (λ n. reg_type new (made f n) ≡ Some (value_type t)) (let e : j + 0 ≡ j = omega arith in e) (each 0 t refl)

      can : is_value (value_type t) ≡ true
      can = value_of t (and_left (can_be_held t) (every can_be_held ts) held)

      new_type : (u : Ty) → reg_type f v ≡ Some u → reg_type new v ≡ Some u
      new_type u at = (let one : types new (v ∷ []) ≡ types f (v ∷ []) = types_left f (v ∷ []) (and_both (nat_lt v.0 (length f.regs)) true (and_left (nat_lt v.0 (length f.regs)) (regs_within f vs) within) refl) in let same : reg_type new v ≡ reg_type f v = cc in same ∙ at)

      stored : (o : Option Ty) → reg_type f v ≡ o → on_type (same_type t) o ≡ true → AllOk (gives f (j + 1) vs) → AllOk (gives f j (v ∷ vs))
      stored None at is_so later = cc
      stored (Some u) at is_so later =
          ok_more (row op.AsyncRuntimeStore (v ∷ made f j ∷ []) []) (row op.AsyncRuntimeSetAvailable (made f j ∷ []) [] ∷ gives f (j + 1) vs)
          (row_ok op.AsyncRuntimeStore (v ∷ made f j ∷ []) [] (u ∷ value_type t ∷ []) [] (have_two v (made f j) u (value_type t) (new_type u at) object) refl refl (store_row new.results (value_type t) u can (held_by t u is_so can)))
          (ok_more (row op.AsyncRuntimeSetAvailable (made f j ∷ []) []) (gives f (j + 1) vs)
          (row_ok op.AsyncRuntimeSetAvailable (made f j ∷ []) [] (value_type t ∷ []) [] (have_one (made f j) (value_type t) object) refl refl (set_row new.results (value_type t) (awaitable_of (value_type t) can)))
          later)

  -- ---- terminators that the pass makes

  abbrev pub TermOk : Term → Type 0
  TermOk t = (W t.instr ≡ true) × (every (target_within new) t.targets ≡ true) × (fits.term_fits all new t ≡ true)

  abbrev to : ℕ → Target
  to n = rows.to n

  abbrev nothing : List (Option Ty)
  nothing = []

  abbrev open_aim : Aim
  open_aim = record { args = nothing; params = Some nothing }

  -- a block without parameters stands there
  abbrev pub Bare : ℕ → Type 0
  Bare n = (target_within new (to n) ≡ true) × (aim new (to n) ≡ open_aim)

  pub bare_at : (l : Label) → Among l (layout f) → (label_block f l).params ≡ [] → Bare (place f l)
  bare_at l a none =
      let at : slice_get new.blocks (place f l) ≡ Some (label_block f l) = mapped_there (label_block f) (layout f) (place f l) l (place_there f l a) in (
        and_both (nat_lt (place f l) (length new.blocks)) true (lt-ltb (place f l) (length new.blocks) (slice_get_within new.blocks (place f l) (label_block f l) at)) refl,
        ap (λ o. record { args = nothing; params = params_seen new o }) at ∙ ap (λ rs. record { args = nothing; params = Some (types new rs) }) none,
      )

  bare_targets : (ns : List ℕ) → ((a n : ℕ) → slice_get ns a ≡ Some n → Bare n) → (every (target_within new) (map to ns) ≡ true) × (map (aim new) (map to ns) ≡ map (λ n. open_aim) ns)
  bare_targets [] each = (refl, refl)
  bare_targets (n ∷ ns) each =
      let here : Bare n = each 0 n refl in
      let more = bare_targets ns (λ a m at. each (suc a) m at) in
      (and_both (target_within new (to n)) (every (target_within new) (map to ns)) here.0 more.0, ap (λ x. x ∷ map (aim new) (map to ns)) here.1 ∙ ap (λ xs. open_aim ∷ xs) more.1)

  same_bare : (ns : List ℕ) → same_args (map to ns) ≡ true
  same_bare [] = refl
  same_bare (n ∷ []) = refl
  same_bare (n ∷ m ∷ []) = refl
  same_bare (n ∷ m ∷ l ∷ ns) = refl

  made_term : (kind : OpKind) (ops : List Reg) (ts : List Ty) (ns : List ℕ) → Have f ops ts → ((a n : ℕ) → slice_get ns a ≡ Some n → Bare n)
      → fits_as (row_of_kind kind) (bare_sight new.results ts []) ≡ true → targets_as (row_of_kind kind).targets true (bare_sight new.results ts []) (map (λ n. open_aim) ns) ≡ true → TermOk (ends kind ops ns)
  made_term kind ops ts ns has each fit aimed =
      let t = bare_targets ns each in
      let i : Instr = row kind ops [] in
      let asked : Targets = (row_of_kind kind).targets in
      let seen_so : sight all new i ≡ bare_sight new.results ts [] = ap (λ os. record { attr = low.None; called = None; given = new.results; operands = os; results = nothing }) has in (
        made_within kind ops [] ts [] has refl,
        t.0,
        and_both (fits.instr_fits all new i) (fits.targets_fit asked all new i (map to ns)) (made_fits kind ops [] ts [] has refl fit)
            (targets_is all new i asked (map to ns)
            ∙ ap (λ b. targets_as asked b (sight all new i) (map (aim new) (map to ns))) (same_bare ns)
            ∙ ap (λ v. targets_as asked true v (map (aim new) (map to ns))) seen_so
            ∙ ap (λ as'. targets_as asked true (bare_sight new.results ts []) as') t.1
            ∙ aimed),
      )

  one_bare : (n : ℕ) → Bare n → (a m : ℕ) → slice_get (n ∷ []) a ≡ Some m → Bare m
  one_bare n b zero m at = (let same : n ≡ m = cc in subst Bare same b)
  one_bare n b (suc a) m at = cc

  two_bare : (n o : ℕ) → Bare n → Bare o → (a m : ℕ) → slice_get (n ∷ o ∷ []) a ≡ Some m → Bare m
  two_bare n o b c zero m at = (let same : n ≡ m = cc in subst Bare same b)
  two_bare n o b c (suc a) m at = one_bare o c a m at

  three_bare : (n o p : ℕ) → Bare n → Bare o → Bare p → (a m : ℕ) → slice_get (n ∷ o ∷ p ∷ []) a ≡ Some m → Bare m
  three_bare n o p b c d zero m at = (let same : n ≡ m = cc in subst Bare same b)
  three_bare n o p b c d (suc a) m at = two_bare o p c d a m at

  pub jump_ok : (l : Label) → Bare (place f l) → TermOk (jump f l)
  jump_ok l b = made_term op.CfBr [] [] (place f l ∷ []) refl (one_bare (place f l) b) refl refl

  pub suspend_ok : (state : Reg) (l : Label) → reg_type new state ≡ Some ty.CoroState → Bare (place f Suspended) → Bare (place f l) → Bare (place f Cleanup) → TermOk (suspend f state l)
  suspend_ok state l has b c d = made_term op.AsyncCoroSuspend (state ∷ []) (ty.CoroState ∷ []) (place f Suspended ∷ place f l ∷ place f Cleanup ∷ []) (have_one state ty.CoroState has) (three_bare (place f Suspended) (place f l) (place f Cleanup) b c d) refl refl

  pub branch_ok : (k : ℕ) (ts : List Target) → k < length f.blocks → Bare (place f (Body (target_at ts 1))) → Bare (place f (Body (target_at ts 0))) → TermOk (branch f k ts)
  branch_ok k ts less b c =
      made_term op.CfCondBr (flag f k ∷ []) (ty.Int W1 ∷ []) (place f (Body (target_at ts 1)) ∷ place f (Body (target_at ts 0)) ∷ []) (have_one (flag f k) (ty.Int W1) (flag_type f k less))
      (two_bare (place f (Body (target_at ts 1))) (place f (Body (target_at ts 0))) b c) refl refl

  -- ---- whole blocks

  abbrev pub BlockOk : Block → Type 0
  BlockOk b = (block_within all new b ≡ true) × (fits.block_fits all new b ≡ true)

  pub block_ok : (b : Block) → regs_within new b.params ≡ true → AllOk b.instrs → TermOk b.term → BlockOk b
  block_ok b params instrs term = (
    block_from all new b (record { params = params; instrs = instrs.0; last = term.0; targets = term.1 }),
    and_both (every F b.instrs) (fits.term_fits all new b.term) instrs.1 term.2,
  )

  -- ---- a coroutine's own blocks

  creates_ok : (rs : List Reg) (ts : List Ty) → Have f rs ts → every is_awaitable ts ≡ true → AllOk (map create rs)
  creates_ok [] ts has each = ok_none
  creates_ok (r ∷ rs) [] has each = cc
  creates_ok (r ∷ rs) (t ∷ ts) has each =
      let here : reg_type new r ≡ Some t = cc in
      let later : Have f rs ts = cc in
      ok_more (create r) (map create rs) (row_ok op.AsyncRuntimeCreate [] (r ∷ []) [] (t ∷ []) refl (have_one r t here) refl (create_row new.results t (and_left (is_awaitable t) (every is_awaitable ts) each)))
      (creates_ok rs ts later (and_right (is_awaitable t) (every is_awaitable ts) each))

  errors_ok : (rs : List Reg) (ts : List Ty) → Have f rs ts → every is_awaitable ts ≡ true → AllOk (map set_error rs)
  errors_ok [] ts has each = ok_none
  errors_ok (r ∷ rs) [] has each = cc
  errors_ok (r ∷ rs) (t ∷ ts) has each =
      let here : reg_type new r ≡ Some t = cc in
      let later : Have f rs ts = cc in
      ok_more (set_error r) (map set_error rs) (row_ok op.AsyncRuntimeSetError (r ∷ []) [] (t ∷ []) [] (have_one r t here) refl refl (set_error_row new.results t (and_left (is_awaitable t) (every is_awaitable ts) each)))
      (errors_ok rs ts later (and_right (is_awaitable t) (every is_awaitable ts) each))

  module _ (task : f.coroutine ≡ true) where
    abbrev object_list : List Ty
    object_list = ty.Token ∷ map value_type f.results

    objects_have : Have f (token f ∷ values f) object_list
    objects_have = ap (λ o. o ∷ types new (values f)) (token_type f task) ∙ ap (λ os. Some ty.Token ∷ os) (values_types f task)

    objects_awaitable : every is_awaitable (map value_type f.results) ≡ true
    objects_awaitable = values_are f.results (half.held task)

    handle_has : Have f (handle f ∷ []) (ty.CoroHandle ∷ [])
    handle_has = have_one (handle f) ty.CoroHandle (handle_type f task)

    begins_ok : AllOk (begins f)
    begins_ok =
        let id : Have f (identity f ∷ []) (ty.CoroId ∷ []) = have_one (identity f) ty.CoroId (identity_type f task) in
        let a : Instr = row op.AsyncCoroId [] (identity f ∷ []) in
        let b : Instr = row op.AsyncCoroBegin (identity f ∷ []) (handle f ∷ []) in
        let c : Instr = row op.AsyncCoroSave (handle f ∷ []) (first_saved f ∷ []) in
        let d : Instr = row op.AsyncRuntimeResume (handle f ∷ []) [] in
        ok_more a (b ∷ c ∷ d ∷ []) (row_ok op.AsyncCoroId [] (identity f ∷ []) [] (ty.CoroId ∷ []) refl id refl refl)
        (ok_more b (c ∷ d ∷ []) (row_ok op.AsyncCoroBegin (identity f ∷ []) (handle f ∷ []) (ty.CoroId ∷ []) (ty.CoroHandle ∷ []) id handle_has refl refl)
        (ok_more c (d ∷ []) (row_ok op.AsyncCoroSave (handle f ∷ []) (first_saved f ∷ []) (ty.CoroHandle ∷ []) (ty.CoroState ∷ []) handle_has (have_one (first_saved f) ty.CoroState (first_type f task)) refl refl)
        (ok_more d [] (row_ok op.AsyncRuntimeResume (handle f ∷ []) [] (ty.CoroHandle ∷ []) [] handle_has refl refl refl) ok_none)))

    pub entry_ok : Bare (place f Suspended) → Bare (place f (Body 0)) → Bare (place f Cleanup) → BlockOk (label_block f Entry)
    entry_ok b c d =
        block_ok (label_block f Entry) refl (ok_append (map create (token f ∷ values f)) (begins f) (creates_ok (token f ∷ values f) object_list objects_have objects_awaitable) begins_ok)
        (suspend_ok (first_saved f) (Body 0) (first_type f task) b c d)

    pub error_ok : Bare (place f Cleanup) → BlockOk (label_block f SetsError)
    error_ok b =
        block_ok (label_block f SetsError) refl
        (errors_ok (values f ++ token f ∷ []) (map value_type f.results ++ ty.Token ∷ []) (have_append (values f) (token f ∷ []) (map value_type f.results) (ty.Token ∷ []) (values_types f task) (have_one (token f) ty.Token (token_type f task)))
        (every_append is_awaitable (map value_type f.results) (ty.Token ∷ []) objects_awaitable refl)) (jump_ok Cleanup b)

    end_ok : AllOk (coro_end f ∷ [])
    end_ok = ok_more (coro_end f) [] (row_ok op.AsyncCoroEnd (handle f ∷ []) [] (ty.CoroHandle ∷ []) [] handle_has refl refl refl) ok_none

    no_bare : (a n : ℕ) → slice_get (let none : List ℕ = [] in none) a ≡ Some n → Bare n
    no_bare a n at = cc

    pub cleanup_ok : BlockOk (label_block f Cleanup)
    cleanup_ok =
        block_ok (label_block f Cleanup) refl
        (ok_more (row op.AsyncCoroFree (identity f ∷ handle f ∷ []) []) (coro_end f ∷ [])
        (row_ok op.AsyncCoroFree (identity f ∷ handle f ∷ []) [] (ty.CoroId ∷ ty.CoroHandle ∷ []) [] (have_two (identity f) (handle f) ty.CoroId ty.CoroHandle (identity_type f task) (handle_type f task)) refl refl refl) end_ok)
        (made_term op.AioFinish [] [] [] refl no_bare refl refl)

    new_results : new.results ≡ object_list
    new_results = ap (λ c. cond c (object_types f.results) f.results) task

    return_fits : fits_as (row_of_kind op.FuncReturn) (bare_sight new.results object_list []) ≡ true
    return_fits =
        ap (λ g. fits_as (row_of_kind op.FuncReturn) (bare_sight g object_list [])) new_results
        ∙ ap (λ b. b && true) (haves_self f.results (half.held task))

    pub suspended_ok : BlockOk (label_block f Suspended)
    suspended_ok = block_ok (label_block f Suspended) refl end_ok (made_term op.FuncReturn (token f ∷ values f) object_list [] objects_have no_bare return_fits refl)
