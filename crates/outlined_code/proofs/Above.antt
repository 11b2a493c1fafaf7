-- What outlined operations define is numbered from where they begin.
use Rattle.std.proofs.Common.{◌≡◌, inl, inr, ◌≤◌, ℕ, ◌+◌, cond, Bool, true, false, List, [], ◌∷◌, ◌++◌, length, map, None, slice_get, refl, sym, subst, arith}
use Rattle.op_table.specs.declared.rows.Level.{Level}
use Rattle.ir_forms.specs.declared.ops.Attr.TheVariants as attr
use Rattle.ir_forms.specs.declared.ops.Func.{Func}
use Rattle.ir_forms.specs.declared.ops.Op.{Op, Op-F, out-Op, roll-Op}
use Rattle.ir_forms.specs.declared.ops.Op.TheFolds.{fold-roll-Region}
use Rattle.ir_forms.specs.declared.ops.Region.{Region, Region-F, roll-Region}
use Rattle.ir_forms.specs.Numbers.{joined}
use Rattle.ir_forms.specs.Ops.{kind_of, ops_of, regions_of, results_of}
use Rattle.ir_verify.specs.Places.{params_of, types_of}
use Rattle.made_funcs.specs.Values.{op_values, region_values}
use Rattle.made_laws.specs.Laws.{Among}
use Rattle.mlir_print.specs.Printable.{Ops, Part, Prints, Regions, Scope, no_ops, no_regions, operation, region}
use Rattle.exec_outline.specs.Shape.{Typed, as_values, captures, is_execute, outlined_as, outlined_op, outlined_region, task_name, typed, values_in, values_inside}
use Rattle.outlined_types.specs.Ordered.{CountOn}
use Rattle.outlined_types.specs.Scoped.{numbers_of}
use Rattle.outlined_types.proofs.InOrder.{count_params, count_results, counts_on}
use Rattle.outlined_types.proofs.InScope.{among_either, layer, made_values, numbers_both, op_is, ops_out, region_is, regions_out}
use Rattle.outlined_code.proofs.Kept.{EachAbove}
use Rattle.outlined_code.proofs.Values.{count_up}

-- these have numbers from here on
abbrev AllAbove : ℕ → Typed → Type 0
AllAbove next ps = (n : ℕ) → Among (numbers_of ps) n → next ≤ n

above_both : (next : ℕ) (xs ys : Typed) → AllAbove next xs → AllAbove next ys → AllAbove next (xs ++ ys)
above_both next xs ys f g n among = elim (among_either (numbers_of xs) (numbers_of ys) n (subst (λ (ns : List ℕ). Among ns n) (numbers_both xs ys) among)) [ inl h ↦ f n h | inr h ↦ g n h ]

above_less : (a b : ℕ) (xs : Typed) → a ≤ b → AllAbove b xs → AllAbove a xs
above_less a b xs le is n among = (let low = is n among in omega (arith, le, low))

count_above : (a b : ℕ) (ps : Typed) → CountOn a b ps → AllAbove a ps
count_above a b [] is n among = absurd among
count_above a b (p ∷ ps) is n (inl e) = (let f = is.0 in omega (arith, e, f))
count_above a b (p ∷ ps) is n (inr more) = (let low = count_above (a + 1) b ps is.1 n more in omega (arith, low))

each_above : (next : ℕ) (rs : List Region) → EachAbove next rs → AllAbove next (joined (map values_inside rs))
each_above next [] each n among = absurd among
each_above next (r ∷ rs) each n among = above_both next (values_inside r) (joined (map values_inside rs)) each.0 (each_above next rs each.1) n among

each_less : (a b : ℕ) (rs : List Region) → a ≤ b → EachAbove b rs → EachAbove a rs
each_less a b [] le each = tt
each_less a b (r ∷ rs) le each = (λ n among. (let low = each.0 n among in omega (arith, le, low)), each_less a b rs le each.1)

module _ (level : Level) (funcs : List Func) (values : Typed) where
  module _ (o : Op) (a b : ℕ) (results : AllAbove a (typed (results_of o) (types_of o))) (le : a ≤ b) where
    made_above : (x : Op-F Op Region) → x.results ≡ results_of o → x.types ≡ types_of o → EachAbove b x.regions → AllAbove a (values_in (roll-Op x))
    made_above x rs ts each =
        let inside : Typed = joined (map values_inside x.regions) in
        let own : AllAbove a (typed x.results x.types) = subst (λ us. AllAbove a (typed x.results us)) (sym ts) (subst (λ vs. AllAbove a (typed vs (types_of o))) (sym rs) results) in
        subst (λ (ps : Typed). AllAbove a ps) (sym (made_values level funcs values x)) (above_both a (typed x.results x.types) inside own (above_less a b inside le (each_above b x.regions each)))

    by_region : (c : Bool) (rs : List Region) (k : ℕ) → EachAbove b (regions_out level funcs values (regions_of o) k).0
        → AllAbove a (values_in (outlined_as funcs values (layer level funcs values o) (cond c (slice_get (map (outlined_region funcs values) rs) 0) None) k).0)
    by_region false rs k each = made_above (record { kind = (out-Op o).kind; at = (out-Op o).at; operands = (out-Op o).operands; groups = (out-Op o).groups; written = (out-Op o).written; results = (out-Op o).results; types = (out-Op o).types; attr = (out-Op o).attr; regions = (regions_out level funcs values (regions_of o) k).0 }) refl refl each
    by_region true [] k each = made_above (record { kind = (out-Op o).kind; at = (out-Op o).at; operands = (out-Op o).operands; groups = (out-Op o).groups; written = (out-Op o).written; results = (out-Op o).results; types = (out-Op o).types; attr = (out-Op o).attr; regions = (regions_out level funcs values (regions_of o) k).0 }) refl refl each
    by_region true (r ∷ rs) k each =
        made_above (record { kind = (out-Op o).kind; at = (out-Op o).at; operands = (out-Op o).operands ++ as_values (captures (outlined_region funcs values r (k + 1)).0); groups = (out-Op o).groups; written = (out-Op o).written; results = (out-Op o).results; types = (out-Op o).types; attr = attr.Callee (task_name funcs k); regions = [] }) refl refl tt

    op_above : (k : ℕ) → EachAbove b (regions_out level funcs values (regions_of o) k).0 → AllAbove a (values_in (outlined_op funcs values o k).0)
    op_above k each = subst (λ (x : Op × List Func). AllAbove a (values_in x.0)) (sym (op_is level funcs values o k)) (by_region (is_execute (kind_of o)) (regions_of o) k each)

  abbrev Goal : Part → ℕ → Type 0
  Goal (Ops os) next = (k : ℕ) → AllAbove next (joined (map values_in (ops_out level funcs values os k).0))
  Goal (Regions o i rs) next = (k : ℕ) → EachAbove next (regions_out level funcs values rs k).0

  pub out_above : {x : Part} {from to : Scope} → Prints level x from to → Goal x from.next
  out_above (no_ops s) = λ k n among. absurd among
  out_above (operation o os s inner end stands form at new uses regions rest) = λ k.
      let next : ℕ = s.next + length (results_of o) in
      let own : CountOn s.next next (typed (results_of o) (types_of o)) = count_results s.next (results_of o) (types_of o) new in
      let up : s.next ≤ next = count_up s.next next (typed (results_of o) (types_of o)) own in
      let over : next ≤ inner.next = count_up next inner.next (joined (map values_inside (regions_of o))) (counts_on level regions) in
      let p : Op × List Func = outlined_op funcs values o k in
      above_both s.next (values_in p.0) (joined (map values_in (ops_out level funcs values os (k + length p.1)).0))
      (op_above o s.next next (count_above s.next next (typed (results_of o) (types_of o)) own) up k (out_above regions k))
      (above_less s.next inner.next (joined (map values_in (ops_out level funcs values os (k + length p.1)).0)) (omega (arith, up, over)) (out_above rest (k + length p.1)))
  out_above (no_regions o i s) = λ k. tt
  out_above (region o i r rs s inner end new ended ops rest) = λ k.
      let next : ℕ = s.next + length (map (λ p. p.0) (params_of r)) in
      let own : CountOn s.next next (params_of r) = count_params s.next (params_of r) new in
      let up : s.next ≤ next = count_up s.next next (params_of r) own in
      let over : next ≤ inner.next = count_up next inner.next (joined (map values_in (ops_of r))) (counts_on level ops) in
      let q : Region × List Func = outlined_region funcs values r k in
      let made : Region-F Op Region = record { params = params_of r; ops = (ops_out level funcs values (ops_of r) k).0 } in
      let inside : values_inside (roll-Region made) ≡ params_of r ++ joined (map values_in (ops_out level funcs values (ops_of r) k).0) = fold-roll-Region Typed Typed op_values region_values made in
      let all : AllAbove s.next (values_inside (roll-Region made)) =
      subst (λ (ps : Typed). AllAbove s.next ps) (sym inside)
      (above_both s.next (params_of r) (joined (map values_in (ops_out level funcs values (ops_of r) k).0)) (count_above s.next next (params_of r) own)
      (above_less s.next next (joined (map values_in (ops_out level funcs values (ops_of r) k).0)) up (out_above ops k))) in (
        subst (λ (x : Region × List Func). AllAbove s.next (values_inside x.0)) (sym (region_is level funcs values r k)) all,
        each_less s.next inner.next (regions_out level funcs values rs (k + length q.1)).0 (omega (arith, up, over)) (out_above rest (k + length q.1)),
      )
