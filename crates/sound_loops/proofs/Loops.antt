-- A loop that carries a truth breaks nothing.
use Rattle.std.proofs.Common.{◌≡◌, ◌≤◌, ◌<◌, ℕ, ◌+◌, ◌==◌, ◌&&◌, ◌||◌, not, cond, Bool, true, false, List, [], ◌∷◌, ◌++◌, length, Option, Some, None, slice_get, refl, sym, ap, ◌∙◌, subst, arith}
use Rattle.op_table.specs.declared.kind.OpKind.TheVariants.{ScfFor, ScfYield}
use Rattle.op_table.specs.declared.form.Form.TheVariants.{For, Yield}
use Rattle.op_table.specs.Rows.{row_of}
use Rattle.ir_forms.specs.declared.ops.Attr.TheVariants as attr
use Rattle.ir_forms.specs.declared.ops.Op.{Op}
use Rattle.ir_forms.specs.declared.ops.Region.{Region, Region-F, out-Region, roll-Region, out-roll-Region}
use Rattle.ir_forms.specs.declared.ops.Func.{Func}
use Rattle.ir_forms.specs.declared.ops.ValueNo.{ValueNo}
use Rattle.ir_forms.specs.declared.types.Ty.{Ty}
use Rattle.ir_forms.specs.declared.types.Ty.TheVariants as ty
use Rattle.ir_forms.specs.Ops.{ops_of}
use Rattle.ir_verify.specs.declared.fault.VerifyKind.{VerifyKind}
use Rattle.ir_verify.specs.declared.fault.VerifyKind.TheVariants.{TypeMismatch, Terminator, Arity, AsyncInMemref}
use Rattle.ir_verify.specs.Breaks.{last_form, may_be_empty, miscounts, param_breaks, region_breaks, some_at}
use Rattle.ir_verify.specs.Forms.{end_asked, ends, form, is_ending}
use Rattle.ir_verify.specs.Places.{Around, Place, Seen, params_of, place_of, places_along, places_at, places_held, places_in, types_of, within}
use Rattle.ir_verify.specs.Rules.{counted, end_length_in, end_type_in, groups_fit, is_asked, operands_given, param_fits, params_fit, types_given, written_asked}
use Rattle.ir_verify.specs.Scopes.{lookup}
use Rattle.ir_verify.specs.Types.{is_index}
use Rattle.ir_verify.proofs.PlaceLemmas.{places_at-out, places_in-out}
use Rattle.made_ops.specs.declared.insertion.Insertion.{Insertion}
use Rattle.made_ops.specs.Made.{Makes, inside, made_op, next_value, placed, truth, type_of}
use Rattle.loop_blocks.specs.declared.making.Course.{Course}
use Rattle.loop_blocks.specs.Made.{carried, carries}
use Rattle.sound_laws.specs.Extended.{AreFine, IsFine}
use Rattle.sound_laws.specs.Made.{behind}
use Rattle.sound_laws.proofs.Sight.{equal, is_equal, lookup_append, not_equal, or_else}
use Rattle.sound_laws.proofs.Sound.{fine_both}
use Rattle.sound_laws.proofs.Plain.{Is, counts_are, plain_fine, rolled}
use Rattle.sound_laws.proofs.Making.{constants_visible, stays_visible}
use Rattle.sound_loops.specs.Seen.{FineAt, Front}
use Rattle.sound_loops.proofs.Ends.{along_fine, and_false, end_places, last_is, yield_is}
use Rattle.sound_loops.proofs.Grows.{Gives, IsGood, adds_so, frees, fresh, gives_later}

-- the variables of a loop's region
abbrev pub in_loop : Seen → ValueNo → ValueNo → Seen
in_loop seen variable ok = seen ++ (variable, ty.Index) ∷ (ok, type_of truth) ∷ []

module _ (funcs : List Func) (seen : Seen) (o : Op) (c : Course) (last variable ok x : ValueNo) (r : Region) (os : List Op) (y : Op)
    (is : Is o ScfFor (c.lower ∷ c.upper ∷ c.step ∷ c.first ∷ []) [] (last ∷ []) (type_of truth ∷ []) attr.None (r ∷ []))
    (params : params_of r ≡ (variable, ty.Index) ∷ (ok, type_of truth) ∷ []) (ops : ops_of r ≡ os ++ y ∷ [])
    (y_is : Is y ScfYield (x ∷ []) (type_of truth ∷ []) [] [] attr.None [])
    (lower : lookup seen c.lower.0 ≡ Some ty.Index) (upper : lookup seen c.upper.0 ≡ Some ty.Index) (step : lookup seen c.step.0 ≡ Some ty.Index) (first : lookup seen c.first.0 ≡ Some (type_of truth))
    (made : Front funcs (in_loop seen variable ok) os) (has : lookup (behind (in_loop seen variable ok) os) x.0 ≡ Some (type_of truth)) where
  o_form : form o ≡ For
  o_form = ap (λ z. (row_of z).form) is.kind

  region_fine : (around : Around) → AreFine (places_in funcs r (within around o 0) seen)
  region_fine around =
      let a : Around = within around o 0 in
      let end : AreFine (places_at funcs y a (behind (in_loop seen variable ok) os) true) =
      end_places funcs ScfYield Yield yield_is y x truth y_is a (behind (in_loop seen variable ok) os)
      (ap (λ f. end_asked f 0) o_form)
      (ap (λ f. end_type_in f o 0 0) o_form ∙ ap (λ (ts : List Ty). slice_get ts 0) is.types)
      (ap (λ f. end_length_in f o 0) o_form ∙ ap (λ (ts : List Ty). length ts) is.types) has in
      subst AreFine (sym (places_in-out funcs r a seen))
      (subst (λ (ps : List Op). AreFine (places_along funcs ps a (seen ++ params_of r))) (sym ops)
      (subst (λ (ps : Seen). AreFine (places_along funcs (os ++ y ∷ []) a (seen ++ ps))) (sym params)
      (along_fine funcs os y a (in_loop seen variable ok) made end)))

  region_passes : (kind : VerifyKind) → region_breaks kind o 0 r ≡ false
  region_passes Terminator =
      let asked : end_asked (form o) 0 ≡ Yield = ap (λ f. end_asked f 0) o_form in
      let there : last_form (ops_of r) ≡ Yield = ap last_form ops ∙ last_is os y ∙ ap (λ z. (row_of z).form) y_is.kind in
      and_false (not (may_be_empty (form o) 0 (types_of o) (ops_of r))) _ (ap (λ f. is_ending f && not (ends f (last_form (ops_of r)))) asked ∙ ap (λ f. true && not (ends Yield f)) there)
  region_passes Arity =
      ap (λ f. not (params_fit f o 0 (length (params_of r)))) o_form ∙ ap (λ (ps : Seen). not (length ps == length (types_of o) + 1)) params ∙ ap (λ (ts : List Ty). not (2 == length ts + 1)) is.types
  region_passes TypeMismatch =
      ap (λ (ps : Seen). some_at (param_breaks TypeMismatch o 0) ps) params
      ∙ ap (λ f. not (param_fits f o 0 0 ty.Index) || (not (param_fits f o 0 1 (type_of truth)) || false)) o_form
      ∙ ap (λ (ts : List Ty). not (is_index ty.Index) || (not (is_asked (slice_get ts 0) (type_of truth)) || false)) is.types
  region_passes AsyncInMemref = ap (λ (ps : Seen). some_at (param_breaks AsyncInMemref o 0) ps) params
  region_passes kind = refl

  or_no : (b : Bool) → b ≡ false → (b || false) ≡ false
  or_no b e = ap (λ z. z || false) e

  pub for_at : FineAt funcs seen o
  for_at around =
      let p : Place = place_of funcs around false o in
      let vs : List ValueNo = c.lower ∷ c.upper ∷ c.step ∷ c.first ∷ [] in
      let counts : miscounts p ≡ false =
      counts_are p ScfFor vs [] (last ∷ []) (type_of truth ∷ []) attr.None (r ∷ []) is 4 0 1
      (ap (λ z. counted (row_of z).operands (operands_given (row_of z).form o)) is.kind ∙ ap (λ (ts : List Ty). length ts + 3) is.types)
      (ap (λ g. written_asked g p) o_form)
      (ap (λ z. counted (row_of z).results (types_given (row_of z).form p)) is.kind ∙ ap (λ (ts : List Ty). length ts) is.types)
      (ap (λ g. groups_fit g o) o_form) refl refl refl refl refl in
      let one : IsFine (record { seen = seen; place = p }) =
      plain_fine seen p ScfFor vs [] (last ∷ []) (type_of truth ∷ []) attr.None (r ∷ []) is For o_form refl counts refl (
        record { type = ty.Index; visible = lower; fits = refl },
        (
          record { type = ty.Index; visible = upper; fits = refl },
          (
            record { type = ty.Index; visible = step; fits = refl },
            (record { type = type_of truth; visible = first; fits = ap (λ (ts : List Ty). is_asked (slice_get ts 0) (type_of truth)) is.types }, tt),
          ),
        ),
      )
      tt (refl, refl, tt) (λ kind. or_no (region_breaks kind o 0 r) (region_passes kind)) in
      subst AreFine (sym (places_at-out funcs o around seen false))
      (one, subst (λ (held : List Region). AreFine (places_held funcs held around o 0 seen)) (sym is.regions) (fine_both (places_in funcs r (within around o 0) seen) [] (region_fine around) tt))

module _ (funcs : List Func) (seen : Seen) where
  abbrev now : Insertion → Seen
  now i = behind seen i.ops

  -- what a turn makes where more is visible than before the loop
  abbrev pub Turns : Insertion → (ValueNo → ValueNo → Makes ValueNo) → Type 0
  Turns i turn =
      (v w : ValueNo) (s : Seen) (j : Insertion) → ((n : ℕ) (t : Ty) → lookup (now i) n ≡ Some t → lookup s n ≡ Some t) → IsGood funcs s (inside j) → lookup s v.0 ≡ Some ty.Index → lookup s w.0 ≡ Some (type_of truth)
      → Gives funcs s (type_of truth) (inside j) (turn v w (inside j))

  pub carries_good : (c : Course) (turn : ValueNo → ValueNo → Makes ValueNo) (i : Insertion) → IsGood funcs seen i → lookup (now i) c.lower.0 ≡ Some ty.Index → lookup (now i) c.upper.0 ≡ Some ty.Index → lookup (now i) c.step.0 ≡ Some ty.Index
      → lookup (now i) c.first.0 ≡ Some (type_of truth) → Turns i turn → Gives funcs seen (type_of truth) i (carries c turn i)
  unfolding carried
  carries_good c turn i good lower upper step first body =
      let last : ValueNo = next_value i in
      let variable : ValueNo = record { 0 = i.free + 1 } in
      let ok : ValueNo = record { 0 = i.free + 1 + 1 } in
      let j : Insertion = record i { free = i.free + 1 + 1 + 1 } in
      let s : Seen = in_loop (now i) variable ok in
      let none_before : (n : ℕ) → i.free ≤ n → lookup (now i) n ≡ None = λ n le. fresh funcs seen i n good le in
      let keeps : (n : ℕ) (t : Ty) → lookup (now i) n ≡ Some t → lookup s n ≡ Some t = λ n t is. stays_visible (now i) ((variable, ty.Index) ∷ (ok, type_of truth) ∷ []) n t is in
      let sees_variable : lookup s variable.0 ≡ Some ty.Index =
      lookup_append (now i) ((variable, ty.Index) ∷ (ok, type_of truth) ∷ []) variable.0
      ∙ ap (λ (z : Option Ty). or_else z (lookup ((variable, ty.Index) ∷ (ok, type_of truth) ∷ []) variable.0)) (none_before variable.0 (omega arith))
      ∙ ap (λ b. cond b (Some ty.Index) (cond (ok.0 == variable.0) (Some (type_of truth)) None)) (is_equal variable.0 variable.0 refl) in
      let sees_ok : lookup s ok.0 ≡ Some (type_of truth) =
      lookup_append (now i) ((variable, ty.Index) ∷ (ok, type_of truth) ∷ []) ok.0
      ∙ ap (λ (z : Option Ty). or_else z (lookup ((variable, ty.Index) ∷ (ok, type_of truth) ∷ []) ok.0)) (none_before ok.0 (omega arith))
      ∙ ap (λ b. cond b (Some ty.Index) (cond (ok.0 == ok.0) (Some (type_of truth)) None)) (not_equal variable.0 ok.0 (λ e. absurd (omega (arith, e))))
      ∙ ap (λ b. cond b (Some (type_of truth)) None) (is_equal ok.0 ok.0 refl) in
      let inner : IsGood funcs s (inside j) = record {
        made = tt;
        bounded = λ n t is. bounded n t (lookup (now i) n) refl (sym (lookup_append (now i) ((variable, ty.Index) ∷ (ok, type_of truth) ∷ []) n) ∙ is);
        known = constants_visible (now i) s i.known keeps good.known;
      } in
      let k : ValueNo × Insertion = turn variable ok (inside j) in
      let g : Gives funcs s (type_of truth) (inside j) k = body variable ok s j keeps inner sees_variable sees_ok in
      let y : Op = made_op ScfYield (k.0 ∷ []) (type_of truth ∷ []) [] [] attr.None [] k.1 in
      let layer : Region-F Op Region = record { params = (variable, ty.Index) ∷ (ok, type_of truth) ∷ []; ops = k.1.ops ++ y ∷ [] } in
      let r : Region = roll-Region layer in
      let opened : out-Region r ≡ layer = out-roll-Region layer in
      let m : Insertion = record j { free = k.1.free } in
      let later : i.free + 1 + 1 + 1 ≤ k.1.free = g.grows.free in
      let good_m : IsGood funcs seen m = frees funcs seen i k.1.free good (omega (arith, later)) in
      let o : Op = made_op ScfFor (c.lower ∷ c.upper ∷ c.step ∷ c.first ∷ []) [] (last ∷ []) (type_of truth ∷ []) attr.None (r ∷ []) m in
      let is : Is o ScfFor (c.lower ∷ c.upper ∷ c.step ∷ c.first ∷ []) [] (last ∷ []) (type_of truth ∷ []) attr.None (r ∷ []) = rolled ScfFor m.at (c.lower ∷ c.upper ∷ c.step ∷ c.first ∷ []) [] (last ∷ []) (type_of truth ∷ []) attr.None (r ∷ []) in
      let y_is : Is y ScfYield (k.0 ∷ []) (type_of truth ∷ []) [] [] attr.None [] = rolled ScfYield k.1.at (k.0 ∷ []) (type_of truth ∷ []) [] [] attr.None [] in
      let fine : FineAt funcs (now i) o =
      for_at funcs (now i) o c last variable ok k.0 r k.1.ops y is (ap (λ (l : Region-F Op Region). l.params) opened) (ap (λ (l : Region-F Op Region). l.ops) opened) y_is lower upper step first g.grows.good.made g.has in
      gives_later funcs seen (type_of truth) i m (last, record (placed o m) { free = m.free })
      (record { good = good_m; keeps = λ v t is. is; free = omega (arith, later) })
      (adds_so funcs seen m o last (type_of truth) m.free good_m fine is.results is.types (omega (arith, later)) (omega arith) (none_before i.free (omega arith)))
    where
      one : (n : ℕ) (t u : Ty) (v : ℕ) (rest : Option Ty) (b : Bool) → (v == n) ≡ b → cond b (Some u) rest ≡ Some t → v < i.free + 1 + 1 + 1 → (rest ≡ Some t → n < i.free + 1 + 1 + 1) → n < i.free + 1 + 1 + 1
      one n t u v rest true e found under more = let same : v ≡ n = equal v n e in omega (arith, same, under)
      one n t u v rest false e found under more = more found

      bounded : (n : ℕ) (t : Ty) (z : Option Ty) → lookup (behind seen i.ops) n ≡ z → or_else z (cond (i.free + 1 == n) (Some ty.Index) (cond (i.free + 1 + 1 == n) (Some (type_of truth)) None)) ≡ Some t → n < i.free + 1 + 1 + 1
      bounded n t (Some u) is found = let low : n < i.free = good.bounded n u is in omega (arith, low)
      bounded n t None is found =
          one n t ty.Index (i.free + 1) (cond (i.free + 1 + 1 == n) (Some (type_of truth)) None) (i.free + 1 == n) refl found (omega arith)
          (λ more. one n t (type_of truth) (i.free + 1 + 1) None (i.free + 1 + 1 == n) refl more (omega arith) (λ no. cc))
