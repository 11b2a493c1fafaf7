-- All operations of a function, region by region.
use Rattle.std.proofs.Common.{◌≡◌, inl, inr, ◌⊎◌, ℕ, suc, ◌+◌, ◌&&◌, not, Bool, true, false, List, [], ◌∷◌, ◌++◌, length, Some, slice_get, refl, sym, ap, ap₂, ◌∙◌, subst, arith}
use Rattle.op_table.specs.declared.form.Form.{Form}
use Rattle.op_table.specs.declared.form.Form.TheVariants as shape
use Rattle.op_table.specs.declared.kind.OpKind.TheVariants as op
use Rattle.op_table.specs.Rows.{row_of, is_other}
use Rattle.ir_forms.specs.declared.ops.Func.{Func}
use Rattle.ir_forms.specs.declared.ops.Op.{Op, Op-F, out-Op, roll-Op, out-roll-Op}
use Rattle.ir_forms.specs.declared.ops.Region.{Region, Region-F, roll-Region, out-roll-Region}
use Rattle.ir_forms.specs.declared.ops.ValueNo.{ValueNo}
use Rattle.ir_forms.specs.declared.types.Ty.{Ty}
use Rattle.ir_forms.specs.declared.types.Ty.TheVariants as ty
use Rattle.ir_forms.specs.Ops.{kind_of, operands_of, written_of, results_of, regions_of, ops_of}
use Rattle.ir_verify.specs.Breaks.{lacks_end, may_be_empty}
use Rattle.ir_verify.specs.Forms.{form, form_of, end_asked, ends, is_ending}
use Rattle.ir_verify.specs.Places.{Around, Seen, Spot, place_of, types_of, params_of, defined, in_body, is_none_left, within, places_at, places_in, places_along, places_held}
use Rattle.ir_verify.specs.Rules.{is_asked, end_around, end_length, end_length_in, param_fits, params_fit, result_length}
use Rattle.ir_verify.specs.Verdict.{body_places}
use Rattle.ir_verify.proofs.PlaceLemmas.{places_at-out, places_in-out}
use Rattle.source_meaning.specs.Parts.{region_of, ops_in, width_of}
use Rattle.source_meaning.specs.TaskOrder.{Each}
use Rattle.scf_blocks.specs.declared.role.Role.TheVariants as role
use Rattle.scf_blocks.specs.Tree.{Var, types_in, typed, role_of, params_at}
use Rattle.block_carry.specs.Laid.{Ends, func_return, scf_yield}
use Rattle.checked_values.specs.Laws.{DefinesOnce}
use Rattle.typed_laws.specs.Typed.{Fresh, AreFresh, IsGood}
use Rattle.typed_laws.proofs.Facts.{counts, not_other, ended, counted_params, typed_params, equal}
use Rattle.typed_laws.proofs.Types.{type_same, index_is}
use Rattle.check_laws.specs.Laws.{HasNoBodyParams}
use Rattle.check_laws.proofs.Defined.{each_at, func_good}
use Rattle.check_laws.proofs.Syntax.{tree}
use Rattle.laid_ops.specs.Suited as suited
use Rattle.laid_ops.specs.Suited.{with_known, AreFresh as AreFreshIn, Gives, IsSuited, results_in, region_params}
use Rattle.laid_ops.specs.Laws.{IsSuitedFunc}
use Rattle.laid_ops.proofs.Whole.{module_is_laid}
use Rattle.suited_ops.specs.Laws.{IsCovered, IsRead, KeepPlaces, SoundIsSuited, SoundIsLaid}
use Rattle.suited_ops.proofs.Known.{Agrees, agrees_more, fresh_vars, defined_typed, each_front, each_back, each_both}
use Rattle.suited_ops.proofs.KindLemmas as kinds
use Rattle.suited_ops.proofs.Ops as ops
use Rattle.suited_ops.proofs.Ops.{tests_in, given, ends_yield, ends_return, ends_condition, some_of, none_of, gives, operands_seen, seen_as, operands_for, results_for, one_result, asked_end, end_written, calls_of, gives_none}

abbrev Both : Spot → Type 0
Both s = IsGood s × IsRead s

-- the operations of a region end as is asked, or there are none where none are needed
abbrev EndsSo : Form → ℕ → List Op → Type 0
EndsSo f n os = ((os ≡ []) × (given f n ≡ 0) × (tests_in f ≡ false)) ⊎ ((is_ending f ≡ true) × (lacks_end f os ≡ false))

-- ---- ends

never_other : (f : Form) → ends f shape.Other ≡ true → ⊥
never_other shape.Return e = cc
never_other shape.Yield e = cc
never_other shape.Condition e = cc
never_other shape.Reduce e = cc
never_other shape.TaskYield e = cc
never_other _ e = cc

only_ending : (f g : Form) → ends f g ≡ true → is_ending g ≡ true
only_ending shape.Return shape.Return e = refl
only_ending shape.Return _ e = cc
only_ending shape.Yield shape.Yield e = refl
only_ending shape.Yield _ e = cc
only_ending shape.Condition shape.Condition e = refl
only_ending shape.Condition _ e = cc
only_ending shape.Reduce shape.Reduce e = refl
only_ending shape.Reduce _ e = cc
only_ending shape.TaskYield shape.TaskYield e = refl
only_ending shape.TaskYield _ e = cc
only_ending _ _ e = cc

lacks_so : (b c : Bool) → b ≡ true → (b && not c) ≡ false → c ≡ true
lacks_so true true is h = refl
lacks_so true false is h = cc
lacks_so false c is h = cc

-- what follows an operation that ends no region ends as is asked
ends_tail : (f : Form) (n : ℕ) (o : Op) (os : List Op) → is_ending (form o) ≡ false → EndsSo f n (o ∷ os) → EndsSo f n os
ends_tail f n o os going (inl h) = (let e : o ∷ os ≡ [] = h.0 in cc)
ends_tail f n o [] going (inr h) =
    let e : ends f (form o) ≡ true = lacks_so (is_ending f) (ends f (form o)) h.0 h.1 in
    let over : is_ending (form o) ≡ true = only_ending f (form o) e in cc
ends_tail f n o (p ∷ os) going (inr h) = inr h

-- ---- lists

three_of : (xs : List ValueNo) (n : ℕ) → length xs ≡ n + 3 → (a : ValueNo) × (b : ValueNo) × (c : ValueNo) × (more : List ValueNo) × (xs ≡ a ∷ b ∷ c ∷ more) × (length more ≡ n)
three_of [] n e = absurd (omega (arith, e))
three_of (a ∷ []) n e = absurd (omega (arith, e))
three_of (a ∷ b ∷ []) n e = absurd (omega (arith, e))
three_of (a ∷ b ∷ c ∷ more) n e = (a, b, c, more, refl, (let h : length more ≡ n = omega (arith, e) in h))

one_region : (rs : List Region) → length rs ≡ 1 → (r : Region) × (rs ≡ r ∷ [])
one_region [] e = absurd (omega (arith, e))
one_region (r ∷ []) e = (r, refl)
one_region (r ∷ q ∷ rs) e = absurd (omega (arith, e))

two_regions : (rs : List Region) → length rs ≡ 2 → (r : Region) × (q : Region) × (rs ≡ r ∷ q ∷ [])
two_regions [] e = absurd (omega (arith, e))
two_regions (r ∷ []) e = absurd (omega (arith, e))
two_regions (r ∷ q ∷ []) e = (r, q, refl)
two_regions (r ∷ q ∷ t ∷ rs) e = absurd (omega (arith, e))

same_types : (ps : List Var) (ts : List Ty) → length ps ≡ length ts → ((i : ℕ) (p : Var) → slice_get ps i ≡ Some p → is_asked (slice_get ts i) p.1 ≡ true) → types_in ps ≡ ts
same_types [] [] e each = refl
same_types [] (t ∷ ts) e each = absurd (omega (arith, e))
same_types (p ∷ ps) [] e each = absurd (omega (arith, e))
same_types (p ∷ ps) (t ∷ ts) e each =
    ap₂ (λ (x : Ty) (xs : List Ty). x ∷ xs) (sym (type_same t p.1 (each 0 p refl))) (same_types ps ts (let h : length ps ≡ length ts = omega (arith, e) in h) (λ i q at. each (suc i) q at))

typed_types : (xs : List ValueNo) (ts : List Ty) → length xs ≡ length ts → types_in (typed xs ts) ≡ ts
typed_types [] [] e = refl
typed_types [] (t ∷ ts) e = absurd (omega (arith, e))
typed_types (x ∷ xs) [] e = absurd (omega (arith, e))
typed_types (x ∷ xs) (t ∷ ts) e = ap (λ l. t ∷ l) (typed_types xs ts (let h : length xs ≡ length ts = omega (arith, e) in h))

module _ (from to : List Func) (keep : KeepPlaces from to) where
  -- a region is suited where it stands
  abbrev OfRegion : Region → Type 0
  OfRegion r =
      (a : Around) (seen : Seen) (vars : List Var) → Agrees seen vars → Fresh seen (params_of r) → EndsSo (end_around a.holder a.region) (end_length a) (ops_of r) → Each Both (places_in from r a seen) →
      IsSuited from to (tests_in (end_around a.holder a.region)) (given (end_around a.holder a.region) (end_length a)) (with_known (params_of r) vars) (ops_of r)

  abbrev OfOp : Op → Type 0
  OfOp o = Each OfRegion (regions_of o)

  -- ---- one operation

  module _ (a : Around) (last : Bool) (o : Op) (rest : List Op) (seen : Seen) (vars : List Var) (agrees : Agrees seen vars) where
    abbrev spot : Spot
    spot = record { seen = seen; place = place_of from a last o }

    module _ (good : IsGood spot) (read : IsRead spot) (laws : OfOp o) (held : Each Both (places_held from (regions_of o) a o 0 seen)) where
      abbrev d : Bool
      d = tests_in (end_around a.holder a.region)

      abbrev n : ℕ
      n = given (end_around a.holder a.region) (end_length a)

      abbrev Then : Type 0
      Then = IsSuited from to d n (with_known (results_in (out-Op o)) vars) rest

      abbrev Now : Type 0
      Now = IsSuited from to d n vars (o ∷ rest)

      -- ---- regions

      abbrev Inner : Form → ℕ → Region → Type 0
      Inner g k r = IsSuited from to (tests_in (end_asked g k)) (given (end_asked g k) (end_length_in g o k)) (with_known (params_of r) vars) (ops_of r)

      abbrev EndsAt : Form → ℕ → Region → Type 0
      EndsAt g k r = EndsSo (end_asked g k) (end_length_in g o k) (ops_of r)

      inner : (g : Form) → form o ≡ g → (k : ℕ) (r : Region) → OfRegion r → EndsAt g k r → Fresh seen (params_of r) → Each Both (places_in from r (within a o k) seen) → Inner g k r
      inner g f k r law end fresh each = subst (λ q. Inner q k r) f (law (within a o k) seen vars agrees fresh (subst (λ q. EndsAt q k r) (sym f) end) each)

      ends_region : (g : Form) → form o ≡ g → (k : ℕ) (r : Region) → slice_get (regions_of o) k ≡ Some r → is_ending (end_asked g k) ≡ true → may_be_empty g k (types_of o) (ops_of r) ≡ false → EndsAt g k r
      ends_region g f k r at is full =
          let h = subst (λ q. (not (may_be_empty q k (types_of o) (ops_of r)) && lacks_end (end_asked q k) (ops_of r)) ≡ false) f (ended spot good.fine k r at) in
          inr (is, subst (λ b. (not b && lacks_end (end_asked g k) (ops_of r)) ≡ false) full h)

      empty_or : (ts : List Ty) (os : List Op) → (not (may_be_empty shape.If 1 ts os) && lacks_end shape.Yield os) ≡ false → EndsSo shape.Yield (length ts) os
      empty_or [] [] h = inl (refl, refl, refl)
      empty_or [] (p ∷ os) h = inr (refl, h)
      empty_or (t ∷ ts) os h = inr (refl, h)

      params_count : (g : Form) → form o ≡ g → (k : ℕ) (r : Region) → slice_get (regions_of o) k ≡ Some r → params_fit g o k (length (params_of r)) ≡ true
      params_count g f k r at = subst (λ q. params_fit q o k (length (params_of r)) ≡ true) f (counted_params spot good.fine k r at)

      params_typed : (g : Form) → form o ≡ g → (k : ℕ) (r : Region) → slice_get (regions_of o) k ≡ Some r → (i : ℕ) (x : Var) → slice_get (params_of r) i ≡ Some x → param_fits g o k i x.1 ≡ true
      params_typed g f k r at i x is = subst (λ q. param_fits q o k i x.1 ≡ true) f (typed_params spot good.fine k r at i x is)

      types_many : length (types_of o) ≡ length (results_of o)
      types_many = let c = counts spot good.fine in sym c.results

      given_results : Gives vars (out-Op o)
      given_results = gives spot good read vars agrees

      branches : kind_of o ≡ op.ScfIf → Then → Now
      branches e more =
          let f : form o ≡ shape.If = ap form_of e in
          let c = counts spot good.fine in
          let rs = two_regions (regions_of o) (c.regions ∙ ap (λ k. (row_of k).regions) e) in
          let r : Region = rs.0 in
          let q : Region = rs.1 in
          let at0 : slice_get (regions_of o) 0 ≡ Some r = ap (λ (l : List Region). slice_get l 0) rs.2 in
          let at1 : slice_get (regions_of o) 1 ≡ Some q = ap (λ (l : List Region). slice_get l 1) rs.2 in
          let law : Each OfRegion (r ∷ q ∷ []) = subst (Each OfRegion) rs.2 laws in
          let fresh : AreFresh seen (r ∷ q ∷ []) = subst (AreFresh seen) rs.2 good.params in
          let all : Each Both (places_held from (r ∷ q ∷ []) a o 0 seen) = subst (λ (l : List Region). Each Both (places_held from l a o 0 seen)) rs.2 held in
          let here : Each Both (places_in from r (within a o 0) seen) = each_front Both (places_in from r (within a o 0) seen) (places_held from (q ∷ []) a o 1 seen) all in
          let there : Each Both (places_in from q (within a o 1) seen) = each_front Both (places_in from q (within a o 1) seen) [] (each_back Both (places_in from r (within a o 0) seen) (places_held from (q ∷ []) a o 1 seen) all) in
          let none0 : params_of r ≡ [] = none_of (params_of r) (equal (length (params_of r)) 0 (params_count shape.If f 0 r at0)) in
          let none1 : params_of q ≡ [] = none_of (params_of q) (equal (length (params_of q)) 0 (params_count shape.If f 1 q at1)) in
          let first = inner shape.If f 0 r law.0 (ends_region shape.If f 0 r at0 refl refl) fresh.0 here in
          let second = inner shape.If f 1 q law.1.0 (empty_or (types_of o) (ops_of q) (subst (λ g. (not (may_be_empty g 1 (types_of o) (ops_of q)) && lacks_end (end_asked g 1) (ops_of q)) ≡ false) f (ended spot good.fine 1 q at1))) fresh.1.0 there in
          let x = some_of (operands_of o) 0 (operands_for spot good read vars agrees op.ScfIf e) in
          suited.branches d n vars o rest x.0 x.1 e x.2 ((let h = seen_as spot good read vars agrees (x.0 ∷ x.1) x.2 in (h.0, tt))) given_results
          (moved r 0 at0 none0 first) (moved q 1 at1 none1 second) more
        where
          moved : (r : Region) (k : ℕ) → slice_get (regions_of o) k ≡ Some r → params_of r ≡ [] → IsSuited from to false (length (types_of o)) (with_known (params_of r) vars) (ops_of r) →
              IsSuited from to false (length (out-Op o).results) vars (ops_in (region_of (out-Op o) k))
          moved r k at none h =
              subst (λ x. IsSuited from to false (length (out-Op o).results) vars (ops_in x)) (sym at)
              (subst (λ m. IsSuited from to false m vars (ops_of r)) types_many
              (subst (λ (ps : List Var). IsSuited from to false (length (types_of o)) (with_known ps vars) (ops_of r)) none h))

      counts_loop : kind_of o ≡ op.ScfFor → Then → Now
      counts_loop e more =
          let f : form o ≡ shape.For = ap form_of e in
          let c = counts spot good.fine in
          let rs = one_region (regions_of o) (c.regions ∙ ap (λ k. (row_of k).regions) e) in
          let r : Region = rs.0 in
          let at : slice_get (regions_of o) 0 ≡ Some r = ap (λ (l : List Region). slice_get l 0) rs.1 in
          let law : Each OfRegion (r ∷ []) = subst (Each OfRegion) rs.1 laws in
          let fresh : AreFresh seen (r ∷ []) = subst (AreFresh seen) rs.1 good.params in
          let all : Each Both (places_held from (r ∷ []) a o 0 seen) = subst (λ (l : List Region). Each Both (places_held from l a o 0 seen)) rs.1 held in
          let here : Each Both (places_in from r (within a o 0) seen) = each_front Both (places_in from r (within a o 0) seen) [] all in
          let many : length (params_of r) ≡ length (types_of o) + 1 = equal (length (params_of r)) (length (types_of o) + 1) (params_count shape.For f 0 r at) in
          let ps = some_of (params_of r) (length (types_of o)) (let h : length (params_of r) ≡ 1 + length (types_of o) = omega (arith, many) in h) in
          let v : Var = ps.0 in
          let carried : List Var = ps.1 in
          let len : length carried ≡ length (types_of o) = carried_many v carried (params_of r) ps.2 many in
          let index : v.1 ≡ ty.Index = index_is v.1 (params_typed shape.For f 0 r at 0 v (ap (λ (l : List Var). slice_get l 0) ps.2)) in
          let same : types_in carried ≡ types_of o = same_types carried (types_of o) len (λ i x is. params_typed shape.For f 0 r at (suc i) x (ap (λ (l : List Var). slice_get l (suc i)) ps.2 ∙ is)) in
          let xs = three_of (operands_of o) (length (types_of o)) (operands_for spot good read vars agrees op.ScfFor e) in
          let loop : suited.Counts vars (out-Op o) xs.3 = record {
            variable = v;
            carried = carried;
            params = ap (λ (l : List Region). params_at l 0) rs.1 ∙ ps.2;
            wide = ap (λ t. width_of (Some t)) index;
            begins = xs.5 ∙ sym len;
            types = typed_types (results_of o) (types_of o) (sym types_many) ∙ sym same;
            fresh = fresh_vars seen vars (v ∷ carried) agrees (subst (Fresh seen) ps.2 fresh.0);
          } in
          let turn = inner shape.For f 0 r law.0 (ends_region shape.For f 0 r at refl refl) fresh.0 here in
          suited.counts d n vars o rest xs.0 xs.1 xs.2 xs.3 e xs.4 (seen_as spot good read vars agrees (xs.0 ∷ xs.1 ∷ xs.2 ∷ xs.3) xs.4) loop given_results
          (subst (λ x. IsSuited from to false (length carried) (with_known (v ∷ carried) vars) (ops_in x)) (sym at)
          (subst (λ m. IsSuited from to false m (with_known (v ∷ carried) vars) (ops_of r)) (sym len)
          (subst (λ (l : List Var). IsSuited from to false (length (types_of o)) (with_known l vars) (ops_of r)) ps.2 turn)))
          more
        where
          carried_many : (v : Var) (carried ps : List Var) → ps ≡ v ∷ carried → length ps ≡ length (types_of o) + 1 → length carried ≡ length (types_of o)
          carried_many v carried ps is many = (let h : length (v ∷ carried) ≡ length (types_of o) + 1 = sym (ap length is) ∙ many in omega (arith, h))

      cycles : kind_of o ≡ op.ScfWhile → Then → Now
      cycles e more =
          let f : form o ≡ shape.While = ap form_of e in
          let c = counts spot good.fine in
          let rs = two_regions (regions_of o) (c.regions ∙ ap (λ k. (row_of k).regions) e) in
          let r : Region = rs.0 in
          let q : Region = rs.1 in
          let at0 : slice_get (regions_of o) 0 ≡ Some r = ap (λ (l : List Region). slice_get l 0) rs.2 in
          let at1 : slice_get (regions_of o) 1 ≡ Some q = ap (λ (l : List Region). slice_get l 1) rs.2 in
          let law : Each OfRegion (r ∷ q ∷ []) = subst (Each OfRegion) rs.2 laws in
          let fresh : AreFresh seen (r ∷ q ∷ []) = subst (AreFresh seen) rs.2 good.params in
          let all : Each Both (places_held from (r ∷ q ∷ []) a o 0 seen) = subst (λ (l : List Region). Each Both (places_held from l a o 0 seen)) rs.2 held in
          let here : Each Both (places_in from r (within a o 0) seen) = each_front Both (places_in from r (within a o 0) seen) (places_held from (q ∷ []) a o 1 seen) all in
          let there : Each Both (places_in from q (within a o 1) seen) = each_front Both (places_in from q (within a o 1) seen) [] (each_back Both (places_in from r (within a o 0) seen) (places_held from (q ∷ []) a o 1 seen) all) in
          let many0 : length (params_of r) ≡ length (written_of o) = equal (length (params_of r)) (length (written_of o)) (params_count shape.While f 0 r at0) in
          let many1 : length (params_of q) ≡ length (types_of o) = equal (length (params_of q)) (length (types_of o)) (params_count shape.While f 1 q at1) in
          let is0 : params_at (regions_of o) 0 ≡ params_of r = ap (λ (l : List Region). params_at l 0) rs.2 in
          let is1 : params_at (regions_of o) 1 ≡ params_of q = ap (λ (l : List Region). params_at l 1) rs.2 in
          let len0 : length (written_of o) ≡ length (region_params (out-Op o) 0) = sym many0 ∙ ap length (sym is0) in
          let len1 : length (types_of o) ≡ length (region_params (out-Op o) 1) = sym many1 ∙ ap length (sym is1) in
          let first = inner shape.While f 0 r law.0 (ends_region shape.While f 0 r at0 refl refl) fresh.0 here in
          let second = inner shape.While f 1 q law.1.0 (ends_region shape.While f 1 q at1 refl refl) fresh.1.0 there in
          suited.cycles d n vars o rest e (operands_seen spot good read vars agrees)
          (record {
            begins = operands_for spot good read vars agrees op.ScfWhile e ∙ len0;
            ends = sym types_many ∙ len1;
            first = subst (AreFreshIn vars) (sym is0) (fresh_vars seen vars (params_of r) agrees fresh.0);
            second = subst (AreFreshIn vars) (sym is1) (fresh_vars seen vars (params_of q) agrees fresh.1.0);
          })
          given_results
          (subst (λ x. IsSuited from to true (1 + length (region_params (out-Op o) 1)) (with_known (region_params (out-Op o) 0) vars) (ops_in x)) (sym at0)
          (subst (λ m. IsSuited from to true (1 + m) (with_known (region_params (out-Op o) 0) vars) (ops_of r)) len1
          (subst (λ (l : List Var). IsSuited from to true (1 + length (types_of o)) (with_known l vars) (ops_of r)) (sym is0) first)))
          (subst (λ x. IsSuited from to false (length (region_params (out-Op o) 0)) (with_known (region_params (out-Op o) 1) vars) (ops_in x)) (sym at1)
          (subst (λ m. IsSuited from to false m (with_known (region_params (out-Op o) 1) vars) (ops_of q)) len0
          (subst (λ (l : List Var). IsSuited from to false (length (written_of o)) (with_known l vars) (ops_of q)) (sym is1) second)))
          more

      -- ---- calls

      calls : kind_of o ≡ op.FuncCall → Then → Now
      calls e more =
          let c = calls_of spot good read vars agrees from to op.FuncCall keep refl e refl refl refl in
          let many : length (results_of o) ≡ length c.callee.results = results_for spot good read vars agrees op.FuncCall e ∙ ap (λ q. result_length q (length (types_of o))) c.found in
          suited.calls d n vars o rest c.g c.callee e c.is many (operands_seen spot good read vars agrees) given_results more

      tries : kind_of o ≡ op.AioTryCall → Then → Now
      tries e more =
          let c = calls_of spot good read vars agrees from to op.AioTryCall keep refl e refl refl refl in
          suited.tries d n vars o rest c.g c.callee e c.is (gives_none spot good read vars agrees c.callee (ap form_of e) c.found) (one_result spot good read vars agrees op.AioTryCall e refl)
          (operands_seen spot good read vars agrees) given_results more

      -- ---- ends

      ended_so : (f : Form) → end_around a.holder a.region ≡ f → IsSuited from to (tests_in f) (given f (end_length a)) vars (o ∷ rest) → Now
      ended_so f is h = subst (λ q. IsSuited from to (tests_in q) (given q (end_length a)) vars (o ∷ rest)) (sym is) h

      returns : kind_of o ≡ op.FuncReturn → Now
      returns e =
          let f : form o ≡ shape.Return = ap form_of e in
          let is = ends_return (end_around a.holder a.region) (ap (ends (end_around a.holder a.region)) (sym f) ∙ asked_end spot good read vars agrees (ap is_ending f)) in
          let many : length (operands_of o) ≡ end_length a = operands_for spot good read vars agrees op.FuncReturn e ∙ end_written spot good read vars agrees shape.Return f refl refl in
          ended_so shape.Return is (suited.gives (end_length a) vars o rest (subst Ends (sym e) func_return) (ap role_of e) many (operands_seen spot good read vars agrees))

      yields : kind_of o ≡ op.ScfYield → Now
      yields e =
          let f : form o ≡ shape.Yield = ap form_of e in
          let is = ends_yield (end_around a.holder a.region) (ap (ends (end_around a.holder a.region)) (sym f) ∙ asked_end spot good read vars agrees (ap is_ending f)) in
          let many : length (operands_of o) ≡ end_length a = operands_for spot good read vars agrees op.ScfYield e ∙ end_written spot good read vars agrees shape.Yield f refl refl in
          ended_so shape.Yield is (suited.gives (end_length a) vars o rest (subst Ends (sym e) scf_yield) (ap role_of e) many (operands_seen spot good read vars agrees))

      decides : kind_of o ≡ op.ScfCondition → Now
      decides e =
          let f : form o ≡ shape.Condition = ap form_of e in
          let is = ends_condition (end_around a.holder a.region) (ap (ends (end_around a.holder a.region)) (sym f) ∙ asked_end spot good read vars agrees (ap is_ending f)) in
          let count : length (operands_of o) ≡ length (written_of o) + 1 = operands_for spot good read vars agrees op.ScfCondition e in
          let end : length (written_of o) ≡ end_length a = end_written spot good read vars agrees shape.Condition f refl refl in
          let many : length (operands_of o) ≡ 1 + end_length a = omega (arith, count, end) in
          let x = some_of (operands_of o) (end_length a) many in
          ended_so shape.Condition is (suited.decides (1 + end_length a) vars o rest x.0 x.1 e x.2 many (operands_seen spot good read vars agrees))

      -- ---- by the form

      continues : (g : Form) → form o ≡ g → is_ending g ≡ false → is_other g ≡ false → IsCovered g → Then → Now
      continues shape.Binary f going known covered = ops.quiet spot good read vars agrees from to d n rest (kind_of o) refl (kinds.binary_kind (kind_of o) f)
      continues shape.Compare f going known covered = ops.wide spot good read vars agrees from to d n rest shape.Compare f (λ t. refl) 1 refl (kinds.compare_kind (kind_of o) f)
      continues shape.Select f going known covered = ops.quiet spot good read vars agrees from to d n rest (kind_of o) refl (kinds.select_kind (kind_of o) f)
      continues shape.Extend f going known covered = ops.wide spot good read vars agrees from to d n rest shape.Extend f (λ t. refl) 0 refl (kinds.extend_kind (kind_of o) f)
      continues shape.Truncate f going known covered = ops.quiet spot good read vars agrees from to d n rest (kind_of o) refl (kinds.truncate_kind (kind_of o) f)
      continues shape.IndexCast f going known covered = ops.wide spot good read vars agrees from to d n rest shape.IndexCast f (λ t. refl) 0 refl (kinds.index_kind (kind_of o) f)
      continues shape.Constant f going known covered = ops.quiet spot good read vars agrees from to d n rest (kind_of o) refl (kinds.constant_kind (kind_of o) f)
      continues shape.Assert f going known covered = ops.asserts spot good read vars agrees from to d n rest (kinds.assert_kind (kind_of o) f)
      continues shape.Call f going known covered = calls (kinds.call_kind (kind_of o) f)
      continues shape.TryCall f going known covered = tries (kinds.try_kind (kind_of o) f)
      continues shape.Return f going known covered = cc
      continues shape.For f going known covered = counts_loop (kinds.for_kind (kind_of o) f)
      continues shape.If f going known covered = branches (kinds.if_kind (kind_of o) f)
      continues shape.While f going known covered = cycles (kinds.while_kind (kind_of o) f)
      continues shape.Condition f going known covered = cc
      continues shape.Parallel f going known covered = absurd covered
      continues shape.Reduce f going known covered = absurd covered
      continues shape.Yield f going known covered = cc
      continues shape.Alloc f going known covered = ops.allocates spot good read vars agrees from to d n rest (kinds.alloc_kind (kind_of o) f)
      continues shape.Dealloc f going known covered = ops.deallocates spot good read vars agrees from to d n rest (kinds.dealloc_kind (kind_of o) f)
      continues shape.Load f going known covered = ops.loads spot good read vars agrees from to d n rest (kinds.load_kind (kind_of o) f)
      continues shape.Store f going known covered = ops.stores spot good read vars agrees from to d n rest (kinds.store_kind (kind_of o) f)
      continues shape.Dim f going known covered = ops.quiet spot good read vars agrees from to d n rest (kind_of o) refl (kinds.dim_kind (kind_of o) f)
      continues shape.Execute f going known covered = absurd covered
      continues shape.TaskYield f going known covered = absurd covered
      continues shape.Await f going known covered = ops.awaits spot good read vars agrees from to d n rest (kinds.await_kind (kind_of o) f)
      continues shape.AwaitAll f going known covered = ops.awaits_all spot good read vars agrees from to d n rest (kinds.await_all_kind (kind_of o) f)
      continues shape.CreateGroup f going known covered = ops.creates spot good read vars agrees from to d n rest (kinds.create_kind (kind_of o) f)
      continues shape.AddToGroup f going known covered = absurd covered
      continues shape.Other f going known covered = cc

      finishes : (g : Form) → form o ≡ g → is_ending g ≡ true → IsCovered g → Now
      finishes shape.Return f over covered = returns (kinds.return_kind (kind_of o) f)
      finishes shape.Yield f over covered = yields (kinds.yield_kind (kind_of o) f)
      finishes shape.Condition f over covered = decides (kinds.condition_kind (kind_of o) f)
      finishes shape.Reduce f over covered = absurd covered
      finishes shape.TaskYield f over covered = absurd covered
      finishes _ f over covered = cc

      -- what follows is needed where the operation ends no region
      one : (is_ending (form o) ≡ false → Then) → Now
      one more = by (is_ending (form o)) refl
        where
          by : (b : Bool) → is_ending (form o) ≡ b → Now
          by true e = finishes (form o) refl e read.covered
          by false e = continues (form o) refl e (not_other spot good.fine) read.covered (more e)

  -- ---- all operations

  along : (os : List Op) → Each OfOp os → (a : Around) (seen : Seen) (vars : List Var) → Agrees seen vars → EndsSo (end_around a.holder a.region) (end_length a) os → Each Both (places_along from os a seen) →
      IsSuited from to (tests_in (end_around a.holder a.region)) (given (end_around a.holder a.region) (end_length a)) vars os
  along [] laws a seen vars agrees (inl h) each =
      subst (λ b. IsSuited from to b (given (end_around a.holder a.region) (end_length a)) vars []) (sym h.2) (suited.gives_nothing (given (end_around a.holder a.region) (end_length a)) vars (sym h.1))
  along [] laws a seen vars agrees (inr h) each =
      absurd (never_other (end_around a.holder a.region) (lacks_so (is_ending (end_around a.holder a.region)) (ends (end_around a.holder a.region) shape.Other) h.0 h.1))
  along (o ∷ os) laws a seen vars agrees end each =
      let here : List Spot = places_at from o a seen (is_none_left os) in
      let more : Seen = defined (results_of o) (types_of o) in
      let others : List Spot = places_along from os a (seen ++ more) in
      let all = subst (Each Both) (places_at-out from o a seen (is_none_left os)) (each_front Both here others each) in
      let new : Fresh seen (results_in (out-Op o)) = (let g = all.0.0 in subst (Fresh seen) (defined_typed (results_of o) (types_of o)) g.results) in
      let known : Agrees (seen ++ more) (with_known (results_in (out-Op o)) vars) =
      subst (λ (l : Seen). Agrees (seen ++ l) (with_known (results_in (out-Op o)) vars)) (sym (defined_typed (results_of o) (types_of o))) (agrees_more seen vars (results_in (out-Op o)) agrees new) in
      one a (is_none_left os) o os seen vars agrees all.0.0 all.0.1 laws.0 all.1
      (λ going. along os laws.1 a (seen ++ more) (with_known (results_in (out-Op o)) vars) known (ends_tail (end_around a.holder a.region) (end_length a) o os going end) (each_back Both here others each))

  in_region : (r : Region) → Each OfOp (ops_of r) → OfRegion r
  in_region r laws a seen vars agrees fresh end each =
      along (ops_of r) laws a (seen ++ params_of r) (with_known (params_of r) vars) (agrees_more seen vars (params_of r) agrees fresh) end (subst (Each Both) (places_in-out from r a seen) each)

  region_suited : (r : Region) → OfRegion r
  region_suited = tree OfOp OfRegion
      (λ x h. subst (λ (y : Op-F Op Region). Each OfRegion y.regions) (sym (out-roll-Op x)) h)
      (λ x h. in_region (roll-Region x) (subst (λ (y : Region-F Op Region). Each OfOp y.ops) (sym (out-roll-Region x)) h))

pub sound_is_suited : SoundIsSuited
sound_is_suited from to k f sound at once bare read keep =
    let good = func_good from sound k f at once bare in
    let a : Around = in_body f false in
    let known : Agrees f.params (with_known f.params []) = agrees_more [] [] f.params (λ x. refl) good.params in
    let none : Fresh f.params (params_of f.body) = subst (Fresh f.params) (sym bare) tt in
    let h = region_suited from to keep f.body a f.params (with_known f.params []) known none (inr (refl, good.ends)) (each_both IsGood IsRead (body_places from f false) good.places read) in
    subst (λ (ps : List Var). IsSuited from to false (length f.results) (with_known ps (with_known f.params [])) (ops_of f.body)) bare h

pub sound_is_laid : SoundIsLaid
sound_is_laid p program same sound once bare read =
    module_is_laid p program same (λ k g at.
    let there : slice_get program.funcs k ≡ Some g = subst (λ (fs : List Func). slice_get fs k ≡ Some g) same at in
    let one = each_at DefinesOnce program.funcs k g once there in
    let none = each_at HasNoBodyParams program.funcs k g bare there in
    let good = func_good program.funcs sound k g there one none in
    subst (λ (fs : List Func). IsSuitedFunc fs program.funcs g) (sym same) (record {
      params = fresh_vars [] [] g.params (λ x. refl) good.params;
      suited = sound_is_suited program.funcs program.funcs k g sound there one none (read k g there) (λ name n e. e);
    }))
