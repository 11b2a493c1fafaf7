-- A made conditional, each of whose regions yields a value, breaks nothing.
use Rattle.std.proofs.Common.{◌≡◌, ℕ, ◌==◌, ◌&&◌, ◌||◌, not, Bool, true, false, IsTrue, if◌then◌else◌, List, [], ◌∷◌, ◌++◌, length, Option, Some, slice_get, refl, sym, ap, ◌∙◌, subst}
use Rattle.std.specs.Option.{is_some}
use Rattle.int_ops.specs.declared.Width.TheVariants.{W1}
use Rattle.op_table.specs.declared.kind.OpKind.TheVariants.{ScfIf, ScfYield}
use Rattle.op_table.specs.declared.form.Form.TheVariants.{If, Yield}
use Rattle.op_table.specs.declared.rows.Level.{Level}
use Rattle.op_table.specs.Rows.{row_of, stands_at, is_other}
use Rattle.ir_forms.specs.declared.ops.Attr.TheVariants as attr
use Rattle.ir_forms.specs.declared.ops.Op.{Op}
use Rattle.ir_forms.specs.declared.ops.Region.{Region}
use Rattle.ir_forms.specs.declared.ops.Func.{Func}
use Rattle.ir_forms.specs.declared.ops.ValueNo.{ValueNo}
use Rattle.ir_forms.specs.declared.types.NumTy.{NumTy}
use Rattle.ir_forms.specs.declared.types.Ty.{Ty}
use Rattle.ir_forms.specs.declared.types.Ty.TheVariants as ty
use Rattle.ir_forms.specs.Ops.{kind_of, written_of, results_of, attr_of, ops_of}
use Rattle.ir_verify.specs.declared.fault.VerifyKind.{VerifyKind}
use Rattle.ir_verify.specs.declared.fault.VerifyKind.TheVariants.{Undefined, TypeMismatch, Terminator, UnknownFunc, Arity, AsyncInMemref, BlockingAwait}
use Rattle.ir_verify.specs.declared.place.Nest.{Nest}
use Rattle.ir_verify.specs.Breaks.{some_at, operand_breaks, written_breaks, result_breaks, region_breaks, param_breaks, last_form, may_be_empty, is_call, is_await, would_block, miscounts, tries_results, own_breaks}
use Rattle.ir_verify.specs.Calls.{call_of, calls_at, calls_in, calls_along, calls_held}
use Rattle.ir_verify.specs.Forms.{form, end_asked, ends, is_ending}
use Rattle.ir_verify.specs.Levels.{kinds_at, kinds_in, kinds_along, kinds_held}
use Rattle.ir_verify.specs.Places.{Around, Place, Seen, place_of, types_of, params_of, defined, nest_in, within, is_none_left, places_at, places_in, places_along, places_held}
use Rattle.ir_verify.specs.Rules.{is_in_place, is_asked, end_type, end_length, end_type_in, end_length_in, end_asks, groups_fit, operands_given, counted, written_asked, types_given, params_fit}
use Rattle.ir_verify.specs.Scopes.{lookup}
use Rattle.ir_verify.proofs.PlaceLemmas.{places_at-out, places_in-out}
use Rattle.ir_verify.proofs.KindLemmas.{kinds_at-out, kinds_in-out}
use Rattle.made_ops.specs.Made.{type_of}
use Rattle.sound_laws.specs.Extended.{IsFine, AreFine, StandAt, IsMade}
use Rattle.sound_laws.specs.Made.{behind, AreMade}
use Rattle.sound_laws.proofs.Sound.{from_parts, fine_both, calls_out, calls_inside}
use Rattle.sound_laws.proofs.Levels.{stand_both}
use Rattle.sound_laws.proofs.Plain.{Is, form_is, counts_are, asked_are, types_are, plain_fine, operands_pass, written_pass, same_number_type, plain_type}
use Rattle.sound_laws.proofs.Making.{source_stands}

nothing_behind : (seen : Seen) → seen ++ [] ≡ seen
nothing_behind [] = refl
nothing_behind (x ∷ seen) = ap (λ rest. x ∷ rest) (nothing_behind seen)

not_last : (os : List Op) (y : Op) → is_none_left (os ++ y ∷ []) ≡ false
not_last [] y = refl
not_last (o ∷ os) y = refl

last_is : (os : List Op) (y : Op) → last_form (os ++ y ∷ []) ≡ form y
last_is [] y = refl
last_is (o ∷ []) y = refl
last_is (o ∷ p ∷ os) y = last_is (p ∷ os) y

or_both : (a b : Bool) → a ≡ false → b ≡ false → (a || b) ≡ false
or_both a b e f = rw e f

and_right : (a b : Bool) → b ≡ false → (a && b) ≡ false
and_right true b e = e
and_right false b e = refl

module _ (funcs : List Func) (level : Level) (first : ℕ) (t : NumTy) where
  -- a region whose operations are made, and which yields a number of the type
  pub record Yields (now : Seen) (r : Region) : Type 0 where
    pub ops : List Op
    pub last : Op
    pub value : ValueNo
    pub no_params : params_of r ≡ []
    pub are : ops_of r ≡ ops ++ last ∷ []
    pub made : AreMade funcs level first now ops
    pub is : Is last ScfYield (value ∷ []) (type_of t ∷ []) [] [] attr.None []
    pub has : lookup (behind now ops) value.0 ≡ Some (type_of t)

  -- ---- the yield

  module _ (o y : Op) (c v x : ValueNo) (held : List Region) (is : Is o ScfIf (c ∷ []) [] (v ∷ []) (type_of t ∷ []) attr.None held)
      (y_is : Is y ScfYield (x ∷ []) (type_of t ∷ []) [] [] attr.None []) (around : Around) (k : ℕ) (now : Seen) (has : lookup now x.0 ≡ Some (type_of t)) where
    abbrev p : Place
    p = place_of funcs (within around o k) true y

    if_form : form o ≡ If
    if_form = ap (λ x. (row_of x).form) is.kind

    y_form : form y ≡ Yield
    y_form = ap (λ x. (row_of x).form) y_is.kind

    in_place : is_in_place p ≡ true
    in_place = ap (λ f. true && ends (end_asked f k) (form y)) if_form ∙ ap (λ f. ends Yield f) y_form

    given : end_type (within around o k) 0 ≡ Some (type_of t)
    given = ap (λ f. end_type_in f o k 0) if_form ∙ ap (λ (ts : List Ty). slice_get ts 0) is.types

    given_count : end_length (within around o k) ≡ 1
    given_count = ap (λ f. end_length_in f o k) if_form ∙ ap (λ (ts : List Ty). length ts) is.types

    asks : end_asks p ≡ 1
    asks = ap (λ b. if b then end_length (within around o k) else length (written_of y)) in_place ∙ given_count

    counts : miscounts p ≡ false
    counts = counts_are p ScfYield (x ∷ []) (type_of t ∷ []) [] [] attr.None [] y_is 1 1 0
        (ap (λ z. counted (row_of z).operands (operands_given (row_of z).form y)) y_is.kind ∙ ap (λ (ws : List Ty). length ws) y_is.written)
        (ap (λ f. written_asked f p) y_form ∙ asks)
        (types_are p ScfYield (x ∷ []) (type_of t ∷ []) [] [] attr.None [] y_is 0 refl)
        (ap (λ f. groups_fit f y) y_form) refl refl refl refl refl

    own : (kind : VerifyKind) → own_breaks kind p ≡ false
    own Undefined = refl
    own TypeMismatch = ap is_other y_form
    own Terminator = ap (λ b. is_ending (form y) && not b) in_place ∙ and_right (is_ending (form y)) false refl
    own UnknownFunc = ap (λ f. is_call f && not (is_some p.callee)) y_form
    own Arity = ap (λ b. b || tries_results (form y) p.callee) counts ∙ ap (λ f. tries_results f p.callee) y_form
    own AsyncInMemref = refl
    own BlockingAwait = ap (λ f. is_await f && would_block p.around.nest p.around.is_called) y_form

    yield_fine : IsFine (record { seen = now; place = p })
    yield_fine kind = from_parts (record { seen = now; place = p }) kind (record {
      own = own kind;
      operands =
          ap (λ (xs : List ValueNo). some_at (operand_breaks kind now p) xs) y_is.operands
          ∙ operands_pass p Yield now kind y_form 0 (x ∷ []) (record { type = type_of t; visible = has; fits = ap (λ (ws : List Ty). is_asked (slice_get ws 0) (type_of t)) y_is.written ∙ same_number_type t }, tt);
      written =
          ap (λ (xs : List Ty). some_at (written_breaks kind p) xs) y_is.written
          ∙ written_pass p Yield kind y_form 0 (type_of t ∷ [])
          (ap (λ b. not b || is_asked (end_type (within around o k) 0) (type_of t)) in_place ∙ ap (λ (z : Option Ty). is_asked z (type_of t)) given ∙ same_number_type t, plain_type t, tt);
      results = ap (λ (xs : List Ty). some_at (result_breaks kind p) xs) y_is.types;
      regions = ap (λ (xs : List Region). some_at (region_breaks kind y) xs) y_is.regions;
    })

    yield_places : AreFine (places_at funcs y (within around o k) now true)
    yield_places = subst AreFine (sym (places_at-out funcs y (within around o k) now true))
        (yield_fine, subst (λ (rs : List Region). AreFine (places_held funcs rs (within around o k) y 0 now)) (sym y_is.regions) tt)

  -- ---- the operations before it

  along_fine : (os : List Op) (y : Op) (around : Around) (now : Seen) → AreMade funcs level first now os → AreFine (places_at funcs y around (behind now os) true) → AreFine (places_along funcs (os ++ y ∷ []) around now)
  along_fine [] y around now made end = fine_both (places_at funcs y around now true) [] end tt
  along_fine (o ∷ os) y around now made end =
      fine_both (places_at funcs o around now (is_none_left (os ++ y ∷ []))) (places_along funcs (os ++ y ∷ []) around (now ++ defined (results_of o) (types_of o)))
      (subst (λ l. AreFine (places_at funcs o around now l)) (sym (not_last os y)) (made.0.fine around))
      (along_fine os y around (now ++ defined (results_of o) (types_of o)) made.2 end)

  along_calls : (os : List Op) (y : Op) (nest : Nest) (now : Seen) → AreMade funcs level first now os → calls_at funcs y nest ≡ [] → calls_along funcs (os ++ y ∷ []) nest ≡ []
  along_calls [] y nest now made end = ap (λ cs. cs ++ []) end
  along_calls (o ∷ os) y nest now made end =
      ap (λ cs. cs ++ calls_along funcs (os ++ y ∷ []) nest) (made.0.calls_nothing nest) ∙ along_calls os y nest (now ++ defined (results_of o) (types_of o)) made.2 end

  along_stands : (os : List Op) (y : Op) (now : Seen) → AreMade funcs level first now os → StandAt level (kinds_at y) → StandAt level (kinds_along (os ++ y ∷ []))
  along_stands [] y now made end = stand_both level (kinds_at y) [] end tt
  along_stands (o ∷ os) y now made end = stand_both level (kinds_at o) (kinds_along (os ++ y ∷ [])) made.0.stands (along_stands os y (now ++ defined (results_of o) (types_of o)) made.2 end)

  yield_calls : (y : Op) (x : ValueNo) (nest : Nest) → Is y ScfYield (x ∷ []) (type_of t ∷ []) [] [] attr.None [] → calls_at funcs y nest ≡ []
  yield_calls y x nest is =
      calls_out funcs y nest
      ∙ ap (λ (held : List Region). call_of funcs (kind_of y) (attr_of y) nest ++ calls_held funcs held (nest_in (kind_of y) nest)) is.regions
      ∙ ap (λ k. call_of funcs k (attr_of y) nest ++ []) is.kind

  yield_stands : (y : Op) (x : ValueNo) → Is y ScfYield (x ∷ []) (type_of t ∷ []) [] [] attr.None [] → StandAt level (kinds_at y)
  yield_stands y x is = subst (StandAt level) (sym (kinds_at-out y))
      (subst (λ k. IsTrue (stands_at k level)) (sym is.kind) (source_stands ScfYield level refl), subst (λ (held : List Region). StandAt level (kinds_held held)) (sym is.regions) tt)

  -- ---- a region

  module _ (now : Seen) (r : Region) (h : Yields now r) where
    region_calls : (nest : Nest) → calls_in funcs r nest ≡ []
    region_calls nest = calls_inside funcs r nest ∙ ap (λ (os : List Op). calls_along funcs os nest) h.are ∙ along_calls h.ops h.last nest now h.made (yield_calls h.last h.value nest h.is)

    region_stands : StandAt level (kinds_in r)
    region_stands = subst (StandAt level) (sym (kinds_in-out r)) (subst (λ (os : List Op). StandAt level (kinds_along os)) (sym h.are) (along_stands h.ops h.last now h.made (yield_stands h.last h.value h.is)))

    module _ (o : Op) (c v : ValueNo) (held : List Region) (is : Is o ScfIf (c ∷ []) [] (v ∷ []) (type_of t ∷ []) attr.None held) where
      region_fine : (around : Around) (k : ℕ) → AreFine (places_in funcs r (within around o k) now)
      region_fine around k =
          let here : AreFine (places_along funcs (h.ops ++ h.last ∷ []) (within around o k) now) =
          along_fine h.ops h.last (within around o k) now h.made (yield_places o h.last c v h.value held is h.is around k (behind now h.ops) h.has) in
          subst AreFine (sym (places_in-out funcs r (within around o k) now))
          (subst (λ (os : List Op). AreFine (places_along funcs os (within around o k) (now ++ params_of r))) (sym h.are)
          (subst (λ (ps : Seen). AreFine (places_along funcs (h.ops ++ h.last ∷ []) (within around o k) (now ++ ps))) (sym h.no_params)
          (subst (λ (s : Seen). AreFine (places_along funcs (h.ops ++ h.last ∷ []) (within around o k) s)) (sym (nothing_behind now)) here)))

      region_passes : (kind : VerifyKind) (k : ℕ) → region_breaks kind o k r ≡ false
      region_passes Terminator k =
          let asked : end_asked (form o) k ≡ Yield = ap (λ f. end_asked (row_of f).form k) is.kind in
          let there : last_form (ops_of r) ≡ Yield = ap last_form h.are ∙ last_is h.ops h.last ∙ ap (λ x. (row_of x).form) h.is.kind in
          and_right (not (may_be_empty (form o) k (types_of o) (ops_of r))) _ (ap (λ f. is_ending f && not (ends f (last_form (ops_of r)))) asked ∙ ap (λ f. true && not (ends Yield f)) there)
      region_passes Arity k = ap (λ x. not (params_fit (row_of x).form o k (length (params_of r)))) is.kind ∙ ap (λ (ps : Seen). not (length ps == 0)) h.no_params
      region_passes TypeMismatch k = ap (λ (ps : Seen). some_at (param_breaks TypeMismatch o k) ps) h.no_params
      region_passes AsyncInMemref k = ap (λ (ps : Seen). some_at (param_breaks AsyncInMemref o k) ps) h.no_params
      region_passes kind k = refl

  -- ---- the conditional

  pub chosen_made : (now : Seen) (o : Op) (c v : ValueNo) (r s : Region) → Is o ScfIf (c ∷ []) [] (v ∷ []) (type_of t ∷ []) attr.None (r ∷ s ∷ []) → lookup now c.0 ≡ Some (ty.Int W1) → Yields now r → Yields now s → IsMade funcs level now o
  chosen_made now o c v r s is has hr hs = record {
    fine = λ around.
        let p : Place = place_of funcs around false o in
        let f : form o ≡ If = form_is p ScfIf (c ∷ []) [] (v ∷ []) (type_of t ∷ []) attr.None (r ∷ s ∷ []) is in
        let counts : miscounts p ≡ false =
        counts_are p ScfIf (c ∷ []) [] (v ∷ []) (type_of t ∷ []) attr.None (r ∷ s ∷ []) is 1 0 1 (asked_are p ScfIf (c ∷ []) [] (v ∷ []) (type_of t ∷ []) attr.None (r ∷ s ∷ []) is 1 refl)
        (ap (λ g. written_asked g p) f)
        (ap (λ x. counted (row_of x).results (types_given (row_of x).form p)) is.kind ∙ ap (λ (ts : List Ty). length ts) is.types)
        (ap (λ g. groups_fit g o) f) refl refl refl refl refl in
        let one : IsFine (record { seen = now; place = p }) =
        plain_fine now p ScfIf (c ∷ []) [] (v ∷ []) (type_of t ∷ []) attr.None (r ∷ s ∷ []) is If f refl counts refl (record { type = ty.Int W1; visible = has; fits = refl }, tt) tt (refl, plain_type t, tt)
        (λ kind. or_both _ _ (region_passes now r hr o c v (r ∷ s ∷ []) is kind 0) (or_both _ _ (region_passes now s hs o c v (r ∷ s ∷ []) is kind 1) refl)) in
        let inside : AreFine (places_held funcs (r ∷ s ∷ []) around o 0 now) =
        fine_both (places_in funcs r (within around o 0) now) (places_held funcs (s ∷ []) around o 1 now) (region_fine now r hr o c v (r ∷ s ∷ []) is around 0)
        (fine_both (places_in funcs s (within around o 1) now) [] (region_fine now s hs o c v (r ∷ s ∷ []) is around 1) tt) in
        subst AreFine (sym (places_at-out funcs o around now false)) (one, subst (λ (held : List Region). AreFine (places_held funcs held around o 0 now)) (sym is.regions) inside);
    calls_nothing = λ nest.
        calls_out funcs o nest
        ∙ ap (λ (held : List Region). call_of funcs (kind_of o) (attr_of o) nest ++ calls_held funcs held (nest_in (kind_of o) nest)) is.regions
        ∙ ap (λ k. call_of funcs k (attr_of o) nest ++ calls_held funcs (r ∷ s ∷ []) (nest_in k nest)) is.kind
        ∙ ap (λ cs. cs ++ (calls_in funcs s nest ++ [])) (region_calls now r hr nest)
        ∙ ap (λ cs. cs ++ []) (region_calls now s hs nest);
    stands = subst (StandAt level) (sym (kinds_at-out o)) (
      subst (λ k. IsTrue (stands_at k level)) (sym is.kind) (source_stands ScfIf level refl),
      subst (λ (held : List Region). StandAt level (kinds_held held)) (sym is.regions)
          (stand_both level (kinds_in r) (kinds_held (s ∷ [])) (region_stands now r hr) (stand_both level (kinds_in s) [] (region_stands now s hs) tt)),
    );
  }
