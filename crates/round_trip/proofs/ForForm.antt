-- A loop that counts is read as what was printed.
use Rattle.std.proofs.Common.{◌≡◌, ℕ, ◌+◌, List, [], ◌∷◌, ◌++◌, map, drop, length, refl, sym, ap, ap₂, subst, ◌∙◌, arith}
use Rattle.std.proofs.lemmas.List.{length-map}
use Rattle.op_table.specs.declared.kind.OpKind.TheVariants as op
use Rattle.op_table.specs.declared.rows.Level.{Level}
use Rattle.ir_forms.specs.declared.types.Ty.{Ty}
use Rattle.ir_forms.specs.declared.types.Ty.TheVariants as ty
use Rattle.ir_forms.specs.declared.ops.Module.{Module}
use Rattle.ir_forms.specs.declared.ops.Op.{Op}
use Rattle.ir_forms.specs.declared.ops.Region.{Region}
use Rattle.ir_forms.specs.declared.ops.ValueNo.{ValueNo}
use Rattle.ir_forms.specs.declared.ops.Attr.TheVariants as attr
use Rattle.ir_forms.specs.Ops.{kind_of, operands_of, regions_of, ops_of}
use Rattle.module_grammar.specs.declared.state.Name.{Name}
use Rattle.module_grammar.specs.declared.state.Param.{Param}
use Rattle.module_grammar.specs.declared.state.OpenOp.{OpenOp}
use Rattle.module_grammar.specs.declared.symbols.Rule.TheVariants as rule
use Rattle.module_grammar.specs.declared.symbols.Symbol.{Symbol}
use Rattle.module_grammar.specs.declared.symbols.Symbol.TheVariants as symbol
use Rattle.module_grammar.specs.State.{as_number, typed_by as typed_params}
use Rattle.module_grammar.specs.Rules.{form, ends, region}
use Rattle.mlir_print.specs.Tokens.{value}
use Rattle.mlir_print.specs.Forms.{for_bounds, for_form, carried, carried_word}
use Rattle.mlir_print.specs.Printed.{printed_lines}
use Rattle.mlir_print.specs.Printable.{Scope, NumberOn, HaveTypes, AreWritten, Has, HasForm, typed_by, types_of, params_of, param_types, IsEnded}
use Rattle.round_trip.proofs.Core.{Word, Core}
use Rattle.round_trip.proofs.Machine.{Runs, Any, word, act, line, skip}
use Rattle.round_trip.proofs.Docs.{onto, Plain}
use Rattle.round_trip.proofs.Types.{a-type, more-types}
use Rattle.round_trip.proofs.Values.{shown as shown_name, param_of, Finds}
use Rattle.round_trip.proofs.Segments.{mark, a-use}
use Rattle.round_trip.proofs.Shapes.{blank, whole, whole-with, After}
use Rattle.round_trip.proofs.Scopes.{IsGood}
use Rattle.round_trip.proofs.Params.{untyped, firsts, seconds, an-index, more-inits, fresh-more, params-typed}
use Rattle.round_trip.proofs.Regions.{Around, during, value_params}
use Rattle.round_trip.proofs.RegionForms.{RegionGoes, Keeps, enter, keeps-for}
use Rattle.round_trip.proofs.OpenForms.{open_with, fresh-at, later, after-is, long-as, length-typed, Counting, counting, first-of-all}

-- the loop, with all that stands before its region
abbrev looped : ℕ → List Name → List ValueNo → List Ty → List (ValueNo × Ty) → OpenOp
looped at rs vs ts ps = open_with op.ScfFor at rs vs [] [] ts [] (map param_of ps)

plain-carried : (ws : List Word) (ps : List (ValueNo × Ty)) (vs : List ValueNo) (ts : List Ty) → Plain (onto (carried ts ps vs) (mark 123 ∷ ws))
plain-carried ws ps vs [] = refl
plain-carried ws ps vs (t ∷ ts) = refl

module _ {level : Level} {m : Module} {k : List Symbol} (a : Around) (s : Scope) (begun : ℕ) (at : ℕ) (rs : List Name) (ws : List Word) (good : IsGood s) where
  pub iter-args : (i u v w : ValueNo) (ps : List (ValueNo × Ty)) (vs : List ValueNo) (ts : List Ty) → length vs ≡ length ps → HaveTypes (length ps) ts → AreWritten ts
      → seconds ps ≡ typed_by (length ps) ts → NumberOn (s.next + 1) (firsts ps) → i.0 ≡ s.next → Finds (map shown_name s.seen) vs
      → Any level m (region ++ k) (during a (later s ((i, ty.Index) ∷ ps)) begun (looped at rs (u ∷ v ∷ w ∷ vs) ts ((i, ty.Index) ∷ ps))) (mark 123 ∷ ws)
      → Any level m (symbol.Rule rule.IterArgs ∷ region ++ k) (during a (later s ((i, ty.Index) ∷ [])) begun (looped at rs (u ∷ v ∷ w ∷ []) [] ((i, ty.Index) ∷ [])))
      (onto (carried ts ps vs) (mark 123 ∷ ws))
  unfolding carried_word
  iter-args i u v w [] [] [] n have written typed on first f runs p = skip _ refl refl (runs p)
  iter-args i u v w (q ∷ ps) (x ∷ vs) (t ∷ ts) n have written typed on first f runs p =
      let all : List (ValueNo × Ty) = (i, ty.Index) ∷ q ∷ ps in
      let next : s.next + 1 + length (untyped (q ∷ ps)) ≡ s.next + length all = omega (arith, length-map {B = ValueNo × Ty} (q ∷ ps) (λ y. (y.0, ty.Untyped))) in
      let params : param_of (i, ty.Index) ∷ typed_params (map param_of (untyped (q ∷ ps))) (t ∷ ts) ≡ map param_of all =
      ap (λ (l : List Param). param_of (i, ty.Index) ∷ l) (params-typed (q ∷ ps) (t ∷ ts) typed) in
      let fresh = fresh-more (during a s begun (blank op.ScfFor at rs)) i ty.Index (fresh-at a s begun (blank op.ScfFor at rs) good refl) first in
      let end : Core = during a (later s all) begun (looped at rs (u ∷ v ∷ w ∷ x ∷ vs) (t ∷ ts) all) in
      line _ refl (word refl (more-inits q ps x vs _ _ (omega arith) on fresh f refl (λ y1. word refl (word refl (word refl (a-type t written.0 (λ y2. more-types ts _ _ written.1 refl (λ y3. word refl (act refl (act refl
      (subst (λ (c : Core). Runs level m (region ++ k) c (mark 123 ∷ ws))
      (sym (ap₂ (λ (xs : List Param) (n : ℕ). record end { passing = record y3 { last = mark 41 }; op = record (end.op) { params = xs }; next = n }) params next)) (runs _))))))))))))
  iter-args i u v w [] [] (t ∷ ts) n have written typed on first f runs p = absurd have
  iter-args i u v w [] (x ∷ vs) ts n have written typed on first f runs p = absurd (omega arith)
  iter-args i u v w (q ∷ ps) [] ts n have written typed on first f runs p = absurd (omega arith)
  iter-args i u v w (q ∷ ps) (x ∷ vs) [] n have written typed on first f runs p = absurd have

  -- the parameter that counts, the bounds, and what the loop carries
  pub heads : (i : ValueNo) (ps : List (ValueNo × Ty)) (vs : List ValueNo) (ts : List Ty) → length vs ≡ 3 + length ps → HaveTypes (length ps) ts → AreWritten ts
      → seconds ps ≡ typed_by (length ps) ts → NumberOn s.next (i ∷ firsts ps) → Finds (map shown_name s.seen) vs
      → Any level m (region ++ k) (during a (later s ((i, ty.Index) ∷ ps)) begun (looped at rs vs ts ((i, ty.Index) ∷ ps))) (mark 123 ∷ ws)
      → Any level m (form op.ScfFor ++ k) (during a s begun (blank op.ScfFor at rs))
      (onto (value i) (mark 61 ∷ onto (for_bounds vs) (onto (carried ts ps (drop 3 vs)) (mark 123 ∷ ws))))
  heads i ps (u ∷ v ∷ w ∷ vs) ts n have written typed on f runs p =
      an-index _ _ i on.0 on.1 (fresh-at a s begun (blank op.ScfFor at rs) good refl) (λ q1. word refl (a-use u _ f.0 refl (λ q2. word refl (a-use v _ f.1.0 refl (λ q3. word refl
      (a-use w _ f.1.1.0 (plain-carried ws ps vs ts) (λ q4. iter-args i u v w ps vs ts (omega arith) have written typed on.2 on.0 f.1.1.1 runs q4)))))))
  heads i ps [] ts n have written typed on f runs p = absurd (omega arith)
  heads i ps (u ∷ []) ts n have written typed on f runs p = absurd (omega arith)
  heads i ps (u ∷ v ∷ []) ts n have written typed on f runs p = absurd (omega arith)

module _ {level : Level} {m : Module} {k : List Symbol} (a : Around) (s e : Scope) (begun last : ℕ) (indent : List ℕ) (at : ℕ) (rs : List Name) (ws : List Word)
    (o : Op) (r : Region) (is : kind_of o ≡ op.ScfFor) (one : regions_of o ≡ r ∷ []) (good : IsGood s) (counted : last ≡ as_number begun)
    (g : RegionGoes level m op.ScfFor 0 (types_of o) r s e) (f : Finds (map shown_name s.seen) (operands_of o))
    (runs : (after : ℕ) → (printed_lines (ops_of r) indent last).last ≡ as_number after → After level m k (during a (record { next = e.next; seen = s.seen }) after (whole o at rs)) ws) where
  pub for-with : (i : ValueNo) (ps : List (ValueNo × Ty)) (ts : List Ty) → params_of r ≡ (i, ty.Index) ∷ ps → HaveTypes (length ps) ts → seconds ps ≡ typed_by (length ps) ts
      → AreWritten ts → Has o (3 + length ps) attr.None [] [] ts ((ty.Index ∷ typed_by (length ps) ts) ∷ [])
      → Any level m (form op.ScfFor ++ (ends ++ k)) (during a s begun (blank op.ScfFor at rs))
      (onto (for_form o) (mark 123 ∷ onto (printed_lines (ops_of r) indent last).doc (mark 125 ∷ ws)))
  for-with i ps ts parts have typed written has p =
      let on : NumberOn s.next (i ∷ firsts ps) = subst (λ (l : List (ValueNo × Ty)). NumberOn s.next (value_params l)) parts g.on in
      let x : OpenOp = looped at rs (operands_of o) ts ((i, ty.Index) ∷ ps) in
      let long : length (value_params (params_of r)) ≡ length ((i, ty.Index) ∷ ps) = long-as (params_of r) ((i, ty.Index) ∷ ps) parts in
      let keeps : Keeps op.ScfFor ts (ops_of r) = keeps-for 0 ts (ops_of r) (subst (λ (us : List Ty). IsEnded op.ScfFor 0 us (ops_of r)) has.types_are g.ended) in
      rw (one, parts, has.types_are)
      (heads a s begun at rs (onto (printed_lines (ops_of r) indent last).doc (mark 125 ∷ ws)) good i ps (operands_of o) ts has.operand_count have written typed on f
      (λ q. enter a s e r begun last indent ws counted good x op.ScfFor 0 (types_of o) g keeps (ap (map param_of) (sym parts)) _
      (ap (λ (n : ℕ). record (during a (record { next = s.next + n; seen = s.seen }) begun x) { passing = q }) (sym long))
      (λ after is_last. (after-is a (record { next = e.next; seen = s.seen }) after _ _ (whole-with o op.ScfFor (r ∷ []) _ _ _ _ _ _ at rs is one has) (runs after is_last)).ended)) p)

  pub for-read : HasForm op.ScfFor o → Any level m (form op.ScfFor ++ (ends ++ k)) (during a s begun (blank op.ScfFor at rs))
      (onto (for_form o) (mark 123 ∷ onto (printed_lines (ops_of r) indent last).doc (mark 125 ∷ ws)))
  for-read h =
      let params : param_types r ≡ ty.Index ∷ typed_by h.0 h.1 = first-of-all (param_types r) _ (ap (map param_types) (sym one) ∙ h.4.params_are) in
      with-parts (counting (params_of r) (typed_by h.0 h.1) params) h.0 h.1 refl h.2 h.3 h.4
    where
      with-parts : {others : List Ty} → Counting (params_of r) others → (n : ℕ) (ts : List Ty) → others ≡ typed_by n ts → AreWritten ts → HaveTypes n ts
          → Has o (3 + n) attr.None [] [] ts ((ty.Index ∷ typed_by n ts) ∷ [])
          → Any level m (form op.ScfFor ++ (ends ++ k)) (during a s begun (blank op.ScfFor at rs))
          (onto (for_form o) (mark 123 ∷ onto (printed_lines (ops_of r) indent last).doc (mark 125 ∷ ws)))
      with-parts c n ts others written have has =
          let typed : seconds c.rest ≡ typed_by n ts = c.types ∙ others in
          let long : n ≡ length c.rest = sym (length-typed n ts) ∙ ap length (sym typed) ∙ length-map {B = Ty} c.rest (λ q. q.1) in
          for-with c.index c.rest ts c.parts (subst (λ x. HaveTypes x ts) long have) (subst (λ x. seconds c.rest ≡ typed_by x ts) long typed) written
          (subst (λ x. Has o (3 + x) attr.None [] [] ts ((ty.Index ∷ typed_by x ts) ∷ [])) long has)
