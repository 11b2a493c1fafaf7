-- What ends a region or a function's body with a number breaks nothing.
use Rattle.std.proofs.Common.{◌≡◌, ℕ, ◌&&◌, ◌||◌, not, Bool, true, false, if◌then◌else◌, List, [], ◌∷◌, ◌++◌, length, Option, Some, slice_get, refl, sym, ap, ◌∙◌, subst}
use Rattle.std.specs.Option.{is_some}
use Rattle.op_table.specs.declared.kind.OpKind.{OpKind}
use Rattle.op_table.specs.declared.kind.OpKind.TheVariants.{FuncReturn, ScfYield}
use Rattle.op_table.specs.declared.form.Form.{Form}
use Rattle.op_table.specs.declared.form.Form.TheVariants.{Return, Yield}
use Rattle.op_table.specs.declared.rows.Count.TheVariants.{Any, Exactly}
use Rattle.op_table.specs.Rows.{is_other, row_of}
use Rattle.ir_forms.specs.declared.ops.Attr.TheVariants as attr
use Rattle.ir_forms.specs.declared.ops.Op.{Op}
use Rattle.ir_forms.specs.declared.ops.Region.{Region}
use Rattle.ir_forms.specs.declared.ops.Func.{Func}
use Rattle.ir_forms.specs.declared.ops.ValueNo.{ValueNo}
use Rattle.ir_forms.specs.declared.types.NumTy.{NumTy}
use Rattle.ir_forms.specs.declared.types.Ty.{Ty}
use Rattle.ir_forms.specs.Ops.{written_of, results_of}
use Rattle.ir_verify.specs.declared.fault.VerifyKind.{VerifyKind}
use Rattle.ir_verify.specs.declared.fault.VerifyKind.TheVariants.{Undefined, TypeMismatch, Terminator, UnknownFunc, Arity, AsyncInMemref, BlockingAwait}
use Rattle.ir_verify.specs.Breaks.{is_await, is_call, last_form, miscounts, operand_breaks, own_breaks, region_breaks, result_breaks, some_at, tries_results, would_block, written_breaks}
use Rattle.ir_verify.specs.Forms.{ends, form, is_ending}
use Rattle.ir_verify.specs.Places.{Around, Place, Seen, defined, is_none_left, place_of, places_along, places_at, places_held, types_of}
use Rattle.ir_verify.specs.Rules.{counted, end_around, end_asks, end_length, end_type, groups_fit, is_asked, is_in_place, operand_fits, operands_given, written_asked, written_fits}
use Rattle.ir_verify.specs.Scopes.{lookup}
use Rattle.ir_verify.proofs.PlaceLemmas.{places_at-out}
use Rattle.made_ops.specs.Made.{type_of}
use Rattle.sound_laws.specs.Extended.{AreFine, IsFine}
use Rattle.sound_laws.specs.Made.{behind}
use Rattle.sound_laws.proofs.Sound.{fine_both, from_parts}
use Rattle.sound_laws.proofs.Plain.{Is, counts_are, operands_pass, plain_type, same_number_type, types_are, written_pass}
use Rattle.sound_loops.specs.Seen.{Front}

pub not_last : (os : List Op) (y : Op) → is_none_left (os ++ y ∷ []) ≡ false
not_last [] y = refl
not_last (o ∷ os) y = refl

pub last_is : (os : List Op) (y : Op) → last_form (os ++ y ∷ []) ≡ form y
last_is [] y = refl
last_is (o ∷ []) y = refl
last_is (o ∷ p ∷ os) y = last_is (p ∷ os) y

pub and_false : (a b : Bool) → b ≡ false → (a && b) ≡ false
and_false true b e = e
and_false false b e = refl

-- the table has this row for a kind that ends something with what it is given
pub record IsEnd (k : OpKind) (f : Form) : Type 0 where
  pub form : (row_of k).form ≡ f
  pub operands : (row_of k).operands ≡ Any
  pub results : (row_of k).results ≡ Exactly 0
  pub regions : (row_of k).regions ≡ 0
  pub given : (o : Op) → operands_given f o ≡ length (written_of o)
  pub fits : (p : Place) (i : ℕ) (t : Ty) → operand_fits f p i t ≡ is_asked (slice_get (written_of p.op) i) t
  pub writes : (p : Place) (i : ℕ) (t : Ty) → written_fits f p i t ≡ (not (is_in_place p) || is_asked (end_type p.around i) t)
  pub asks : (p : Place) → written_asked f p ≡ end_asks p
  pub groups : (o : Op) → groups_fit f o ≡ true
  pub closes : ends f f ≡ true
  pub other : is_other f ≡ false
  pub call : is_call f ≡ false
  pub await : is_await f ≡ false
  pub tries : (c : Option Func) → tries_results f c ≡ false

pub yield_is : IsEnd ScfYield Yield
yield_is = record {
  form = refl;
  operands = refl;
  results = refl;
  regions = refl;
  given = λ o. refl;
  fits = λ p i t. refl;
  writes = λ p i t. refl;
  asks = λ p. refl;
  groups = λ o. refl;
  closes = refl;
  other = refl;
  call = refl;
  await = refl;
  tries = λ c. refl;
}

pub return_is : IsEnd FuncReturn Return
return_is = record {
  form = refl;
  operands = refl;
  results = refl;
  regions = refl;
  given = λ o. refl;
  fits = λ p i t. refl;
  writes = λ p i t. refl;
  asks = λ p. refl;
  groups = λ o. refl;
  closes = refl;
  other = refl;
  call = refl;
  await = refl;
  tries = λ c. refl;
}

module _ (funcs : List Func) (k : OpKind) (f : Form) (e : IsEnd k f) (y : Op) (x : ValueNo) (t : NumTy) (is : Is y k (x ∷ []) (type_of t ∷ []) [] [] attr.None [])
    (a : Around) (now : Seen) (asked : end_around a.holder a.region ≡ f) (given : end_type a 0 ≡ Some (type_of t)) (count : end_length a ≡ 1) (has : lookup now x.0 ≡ Some (type_of t)) where
  abbrev p : Place
  p = place_of funcs a true y

  y_form : form y ≡ f
  y_form = ap (λ z. (row_of z).form) is.kind ∙ e.form

  in_place : is_in_place p ≡ true
  in_place = ap (λ g. true && ends g (form y)) asked ∙ ap (λ g. ends f g) y_form ∙ e.closes

  asks : end_asks p ≡ 1
  asks = ap (λ b. if b then end_length a else length (written_of y)) in_place ∙ count

  counts : miscounts p ≡ false
  counts = counts_are p k (x ∷ []) (type_of t ∷ []) [] [] attr.None [] is 1 1 0
      (ap (λ z. counted (row_of z).operands (operands_given (row_of z).form y)) is.kind ∙ ap (λ c. counted c (operands_given (row_of k).form y)) e.operands
      ∙ ap (λ g. operands_given g y) e.form ∙ e.given y ∙ ap (λ (ws : List Ty). length ws) is.written)
      (ap (λ g. written_asked g p) y_form ∙ e.asks p ∙ asks)
      (types_are p k (x ∷ []) (type_of t ∷ []) [] [] attr.None [] is 0 e.results)
      (ap (λ g. groups_fit g y) y_form ∙ e.groups y) refl refl refl refl (sym e.regions)

  own : (kind : VerifyKind) → own_breaks kind p ≡ false
  own Undefined = refl
  own TypeMismatch = ap is_other y_form ∙ e.other
  own Terminator = ap (λ b. is_ending (form y) && not b) in_place ∙ and_false (is_ending (form y)) false refl
  own UnknownFunc = ap (λ g. is_call g && not (is_some p.callee)) y_form ∙ ap (λ b. b && not (is_some p.callee)) e.call
  own Arity = ap (λ b. b || tries_results (form y) p.callee) counts ∙ ap (λ g. tries_results g p.callee) y_form ∙ e.tries p.callee
  own AsyncInMemref = refl
  own BlockingAwait = ap (λ g. is_await g && would_block a.nest a.is_called) y_form ∙ ap (λ b. b && would_block a.nest a.is_called) e.await

  end_fine : IsFine (record { seen = now; place = p })
  end_fine kind = from_parts (record { seen = now; place = p }) kind (record {
    own = own kind;
    operands =
        ap (λ (xs : List ValueNo). some_at (operand_breaks kind now p) xs) is.operands
        ∙ operands_pass p f now kind y_form 0 (x ∷ [])
        (record { type = type_of t; visible = has; fits = e.fits p 0 (type_of t) ∙ ap (λ (ws : List Ty). is_asked (slice_get ws 0) (type_of t)) is.written ∙ same_number_type t }, tt);
    written =
        ap (λ (xs : List Ty). some_at (written_breaks kind p) xs) is.written
        ∙ written_pass p f kind y_form 0 (type_of t ∷ [])
        (e.writes p 0 (type_of t) ∙ ap (λ b. not b || is_asked (end_type a 0) (type_of t)) in_place ∙ ap (λ (z : Option Ty). is_asked z (type_of t)) given ∙ same_number_type t, plain_type t, tt);
    results = ap (λ (xs : List Ty). some_at (result_breaks kind p) xs) is.types;
    regions = ap (λ (xs : List Region). some_at (region_breaks kind y) xs) is.regions;
  })

  pub end_places : AreFine (places_at funcs y a now true)
  end_places = subst AreFine (sym (places_at-out funcs y a now true)) (end_fine, subst (λ (rs : List Region). AreFine (places_held funcs rs a y 0 now)) (sym is.regions) tt)

-- ---- the operations before it

pub along_fine : (funcs : List Func) (os : List Op) (y : Op) (around : Around) (now : Seen) → Front funcs now os → AreFine (places_at funcs y around (behind now os) true) → AreFine (places_along funcs (os ++ y ∷ []) around now)
along_fine funcs [] y around now made end = fine_both (places_at funcs y around now true) [] end tt
along_fine funcs (o ∷ os) y around now made end =
    fine_both (places_at funcs o around now (is_none_left (os ++ y ∷ []))) (places_along funcs (os ++ y ∷ []) around (now ++ defined (results_of o) (types_of o)))
    (subst (λ l. AreFine (places_at funcs o around now l)) (sym (not_last os y)) (made.0 around))
    (along_fine funcs os y around (now ++ defined (results_of o) (types_of o)) made.1 end)
