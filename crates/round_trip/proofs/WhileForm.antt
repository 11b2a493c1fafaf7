-- A loop with a condition is read as what was printed.
use Rattle.std.proofs.Common.{◌≡◌, ℕ, ◌+◌, Bool, true, false, ◌&&◌, List, [], ◌∷◌, ◌++◌, map, length, refl, sym, ap, ap₂, subst, ◌∙◌, append-nil, arith, codes}
use Rattle.std.proofs.lemmas.List.{length-map}
use Rattle.mlir_lex.specs.declared.kinds.TokenKind.TheVariants as kind
use Rattle.op_table.specs.declared.kind.OpKind.{OpKind}
use Rattle.op_table.specs.declared.kind.OpKind.TheVariants as op
use Rattle.op_table.specs.declared.rows.Level.{Level}
use Rattle.ir_forms.specs.declared.types.Ty.{Ty}
use Rattle.ir_forms.specs.declared.types.Ty.TheVariants as ty
use Rattle.ir_forms.specs.declared.ops.Module.{Module}
use Rattle.ir_forms.specs.declared.ops.Op.{Op}
use Rattle.ir_forms.specs.declared.ops.Region.{Region}
use Rattle.ir_forms.specs.declared.ops.ValueNo.{ValueNo}
use Rattle.ir_forms.specs.Ops.{kind_of, operands_of, regions_of, ops_of}
use Rattle.module_grammar.specs.declared.state.Name.{Name}
use Rattle.module_grammar.specs.declared.state.Param.{Param}
use Rattle.module_grammar.specs.declared.state.OpenOp.{OpenOp}
use Rattle.module_grammar.specs.declared.symbols.Class.TheVariants as class
use Rattle.module_grammar.specs.declared.symbols.Rule.TheVariants as rule
use Rattle.module_grammar.specs.declared.symbols.Act.TheVariants as act
use Rattle.module_grammar.specs.declared.symbols.Keyword.TheVariants as key
use Rattle.module_grammar.specs.declared.symbols.Symbol.{Symbol}
use Rattle.module_grammar.specs.declared.symbols.Symbol.TheVariants as symbol
use Rattle.module_grammar.specs.State.{as_number}
use Rattle.module_grammar.specs.Rules.{form, ends, region, part, doing, arrow, word as keyword_of}
use Rattle.mlir_print.specs.Types.{types, result_types}
use Rattle.mlir_print.specs.Printed.{printed_lines}
use Rattle.mlir_print.specs.Printable.{Scope, NumberOn, AreWritten, HasForm, typed_by, types_of, params_of, param_types}
use Rattle.round_trip.proofs.Core.{Word, Passing, Core}
use Rattle.round_trip.proofs.Machine.{Runs, Any, word, act, line, skip}
use Rattle.round_trip.proofs.Docs.{onto}
use Rattle.round_trip.proofs.Types.{results}
use Rattle.round_trip.proofs.Values.{shown as shown_name, param_of, Finds}
use Rattle.round_trip.proofs.Segments.{mark, a-listed}
use Rattle.round_trip.proofs.Shapes.{blank, whole, whole-with, After, NextIs}
use Rattle.round_trip.proofs.Scopes.{IsGood, under-below, good-again, good-defining, visible-more}
use Rattle.round_trip.proofs.Params.{IsFresh, untyped, firsts, seconds, more-inits, params-typed}
use Rattle.round_trip.proofs.Regions.{Around, body_in, during, standing, inside, with_region, value_params, body-rest, body-next}
use Rattle.round_trip.proofs.RegionForms.{RegionGoes, Keeps, enter}
use Rattle.round_trip.proofs.OpenForms.{open_with, fresh-at, later, after-is, long-as, length-typed}
use Rattle.module_grammar.specs.Rules.{is_hash_name, is_block_name, rest_of_body}
use Rattle.mlir_print.specs.Forms.{begun as begun_doc, while_form}
use Rattle.mlir_print.specs.Printed.{block_line}
use Rattle.mlir_print.specs.Printable.{defining}
use Rattle.round_trip.proofs.Core.{opened}
use Rattle.round_trip.proofs.Tails.{one-misses}
use Rattle.round_trip.proofs.Params.{with_inits}
use Rattle.round_trip.proofs.TypedParams.{with_block, block-params}
use Rattle.round_trip.proofs.RegionForms.{keeps-while}

-- ---- the second region, which shows its parameters

-- the region is open, and no parameter of it is read
abbrev unnamed : Around → Scope → OpenOp → Around
unnamed a s x = record {
  params = [];
  ops = [];
  outside = length (map shown_name s.seen);
  outer = a.outer ++ record { op = record x { params = [] }; body = body_in a } ∷ [];
  func = a.func;
  funcs = a.funcs;
}

opened-empty : (a : Around) (s : Scope) (n : ℕ) (x : OpenOp) (p : Passing) → x.params ≡ []
    → opened (record (during a s n x) { passing = p }) ≡ record (standing (unnamed a s x) s n) { passing = p }
opened-empty a s n x p e = rw e (rw append-nil refl)

shown-block : (a : Around) (s : Scope) (n : ℕ) (x : OpenOp) (r : Region) (all : List (ValueNo × Ty)) (p : Passing) → params_of r ≡ all
    → record (with_block (standing (unnamed a s x) s n) all) { passing = p } ≡ record (standing (inside a s x r) (defining s (value_params (params_of r))) n) { passing = p }
shown-block a s n x r all p e =
    rw e (ap₂ (λ (v : List Name) (i : ℕ). record (standing (record (unnamed a s x) { params = map param_of all }) s n) { passing = p; visible = v; next = i })
    (visible-more s.seen (value_params all)) (ap (λ (i : ℕ). s.next + i) (sym (long-as all all refl))))

no-block : {level : Level} {m : Module} {k : List Symbol} {c : Core} (ws : List Word) → NextIs ws → Runs level m k c ws → Runs level m (symbol.Rule rule.BlockParams ∷ k) c ws
no-block [] next runs = skip [] refl tt runs
no-block (w ∷ ws) next runs = skip (w ∷ ws) refl (one-misses (is_hash_name w.0) (is_block_name w.0) _ (first-true _ _ next.stops) next.no_block) runs
  where
    first-true : (a b : Bool) → a && b ≡ true → a ≡ true
    first-true true b e = refl
    first-true false b e = cc

module _ {level : Level} {m : Module} {k : List Symbol} (a : Around) (s e : Scope) (x : OpenOp) (r : Region) (n last : ℕ) (indent shift : List ℕ) (ws : List Word)
    (counted : last ≡ as_number n) (good : IsGood s) (kd : OpKind) (i : ℕ) (ts : List Ty) (g : RegionGoes level m kd i ts r s e) (keeps : Keeps x.kind x.types (ops_of r))
    (none : x.params ≡ []) (written : AreWritten (param_types r))
    (runs : (after : ℕ) → (printed_lines (ops_of r) indent last).last ≡ as_number after
    → Any level m k (during a (record { next = e.next; seen = s.seen }) after (with_region x r)) ws) where
  lines-on : Any level m (rest_of_body ++ k) (standing (inside a s x r) (defining s (value_params (params_of r))) n) (onto (printed_lines (ops_of r) indent last).doc (mark 125 ∷ ws))
  lines-on = body-rest a s e x r n last indent ws counted (good-defining s (value_params (params_of r)) good g.on) g.lines g.grown (record { same = keeps.same; none = keeps.none }) runs

  next-on : NextIs (onto (printed_lines (ops_of r) indent last).doc (mark 125 ∷ ws))
  next-on = body-next a s e x r n last indent ws counted (good-defining s (value_params (params_of r)) good g.on) g.lines g.grown (record { same = keeps.same; none = keeps.none }) runs

  block-on : (all : List (ValueNo × Ty)) → params_of r ≡ all
      → Any level m (symbol.Rule rule.BlockParams ∷ rest_of_body ++ k) (standing (unnamed a s x) s n)
      (onto (block_line true shift all) (onto (printed_lines (ops_of r) indent last).doc (mark 125 ∷ ws)))
  block-on [] parts p =
      no-block _ next-on (subst (λ (c : Core). Runs level m (rest_of_body ++ k) c (onto (printed_lines (ops_of r) indent last).doc (mark 125 ∷ ws)))
      (sym (shown-block a s n x r [] p parts)
      ∙ ap₂ (λ (v : List Name) (i : ℕ). record (standing (unnamed a s x) s n) { passing = p; visible = v; next = i }) (append-nil (map shown_name s.seen)) (omega arith)) (lines-on p))
  block-on (q ∷ ps) parts p =
      block-params q ps _ _ (subst (λ (l : List (ValueNo × Ty)). NumberOn s.next (value_params l)) parts g.on) (under-below s.next s.seen good.under) refl refl
      (subst (λ (l : List (ValueNo × Ty)). AreWritten (seconds l)) parts written)
      (λ y. subst (λ (c : Core). Runs level m (rest_of_body ++ k) c (onto (printed_lines (ops_of r) indent last).doc (mark 125 ∷ ws))) (sym (shown-block a s n x r (q ∷ ps) y parts)) (lines-on y))

  pub second-region : Any level m (symbol.Word (class.Byte 123) ∷ symbol.Do act.OpenRegion ∷ symbol.Rule rule.BlockParams ∷ rest_of_body ++ k) (during a s n x)
      (mark 123 ∷ onto (block_line true shift (params_of r)) (onto (printed_lines (ops_of r) indent last).doc (mark 125 ∷ ws)))
  second-region p =
      word refl (act refl (subst (λ (c : Core). Runs level m (symbol.Rule rule.BlockParams ∷ rest_of_body ++ k) c (onto (block_line true shift (params_of r)) (onto (printed_lines (ops_of r) indent last).doc (mark 125 ∷ ws))))
      (sym (opened-empty a s n x (record p { last = mark 123 }) none)) (block-on (params_of r) refl _)))

-- ---- what stands before the regions

-- the loop, with all that stands before its regions, and these regions
abbrev whiling : ℕ → List Name → List ValueNo → List Ty → List Ty → List Region → List (ValueNo × Ty) → OpenOp
whiling at rs vs us ts regions ps = open_with op.ScfWhile at rs vs [] us ts regions (map param_of ps)

inits-empty : (c : Core) → with_inits c [] [] ≡ c
inits-empty c =
    ap₂ (λ (xs : List Param) (n : ℕ). record c { op = record (c.op) { params = xs; operands = c.op.operands ++ [] }; next = n }) (append-nil c.op.params) (omega arith)
    ∙ ap (λ (vs : List ValueNo). record c { op = record (c.op) { operands = vs } }) (append-nil c.op.operands)

module _ {level : Level} {m : Module} where
  all-inits : {k : List Symbol} (ps : List (ValueNo × Ty)) (vs : List ValueNo) (c : Core) (ws : List Word) → length ps ≡ length vs → NumberOn c.next (firsts ps) → IsFresh c
      → Finds c.visible vs
      → Any level m k (with_inits c (untyped ps) vs) (mark 58 ∷ ws)
      → Runs level m (symbol.Rule rule.Inits ∷ k) c (onto (begun_doc ps vs) (mark 58 ∷ ws))
  all-inits {k} [] [] c ws n on fresh f runs = skip _ refl refl (subst (λ (x : Core). Runs level m k x (mark 58 ∷ ws)) (inits-empty c) (runs c.passing))
  all-inits (p ∷ ps) [] c ws n on fresh f runs = absurd (omega arith)
  all-inits [] (v ∷ vs) c ws n on fresh f runs = absurd (omega arith)
  all-inits (p ∷ ps) (v ∷ vs) c ws n on fresh f runs = line _ refl (more-inits p ps v vs _ _ (omega arith) on fresh f refl (λ q. word refl (runs _)))

module _ {level : Level} {m : Module} {k : List Symbol} (a : Around) (s : Scope) (begun : ℕ) (at : ℕ) (rs : List Name) (ws : List Word) (good : IsGood s) where
  pub while-heads : (ps : List (ValueNo × Ty)) (vs : List ValueNo) (us ts : List Ty) → length ps ≡ length vs → seconds ps ≡ typed_by (length ps) us
      → NumberOn s.next (firsts ps) → AreWritten us → AreWritten ts → Finds (map shown_name s.seen) vs
      → Any level m (region ++ keyword_of key.Do ++ (symbol.Word (class.Byte 123) ∷ symbol.Do act.OpenRegion ∷ symbol.Rule rule.BlockParams ∷ rest_of_body) ++ k)
      (during a (later s ps) begun (whiling at rs vs us ts [] ps)) ws
      → Any level m (form op.ScfWhile ++ k) (during a s begun (blank op.ScfWhile at rs))
      (onto (begun_doc ps vs) (mark 58 ∷ mark 40 ∷ onto (types us) (mark 41 ∷ (kind.Arrow, codes "->") ∷ onto (result_types ts) ws)))
  while-heads ps vs us ts n typed on hu ht f runs p =
      let fresh = fresh-at a s begun (blank op.ScfWhile at rs) good refl in
      let end : Core = during a (later s ps) begun (whiling at rs vs us [] [] ps) in
      let next : s.next + length (untyped ps) ≡ s.next + length ps = ap (λ (i : ℕ). s.next + i) (length-map {B = ValueNo × Ty} ps (λ y. (y.0, ty.Untyped))) in
      all-inits ps vs _ _ n on fresh f (λ q1. a-listed us _ _ hu refl (λ q2. act refl
      (subst (λ (c : Core). Runs level m (arrow ++ part rule.ResultTypes ++ doing act.Results ++ region ++ keyword_of key.Do
      ++ (symbol.Word (class.Byte 123) ∷ symbol.Do act.OpenRegion ∷ symbol.Rule rule.BlockParams ∷ rest_of_body) ++ k) c ((kind.Arrow, codes "->") ∷ onto (result_types ts) ws))
      (sym (ap₂ (λ (xs : List Param) (i : ℕ). record end { passing = q2; op = record (end.op) { params = xs }; next = i }) (params-typed ps us typed) next))
      (word refl (results ts _ _ ht (λ q3. act refl (runs q3)))))))

both-of : (x y u v : List Ty) → x ∷ y ∷ [] ≡ u ∷ v ∷ [] → (x ≡ u) × (y ≡ v)
both-of x y u v e = (cc, cc)

module _ {level : Level} {m : Module} {k : List Symbol} (a : Around) (s e1 e2 : Scope) (begun last : ℕ) (indent shift : List ℕ) (at : ℕ) (rs : List Name) (ws : List Word)
    (o : Op) (r1 r2 : Region) (is : kind_of o ≡ op.ScfWhile) (two : regions_of o ≡ r1 ∷ r2 ∷ []) (good : IsGood s) (counted : last ≡ as_number begun)
    (g1 : RegionGoes level m op.ScfWhile 0 (types_of o) r1 s e1) (g2 : RegionGoes level m op.ScfWhile 1 (types_of o) r2 (record { next = e1.next; seen = s.seen }) e2)
    (f : Finds (map shown_name s.seen) (operands_of o))
    (runs : (after : ℕ) → (printed_lines (ops_of r2) indent (printed_lines (ops_of r1) indent last).last).last ≡ as_number after
    → After level m k (during a (record { next = e2.next; seen = s.seen }) after (whole o at rs)) ws) where
  pub while-read : HasForm op.ScfWhile o
      → Any level m (form op.ScfWhile ++ (ends ++ k)) (during a s begun (blank op.ScfWhile at rs))
      (onto (while_form o) (mark 123 ∷ onto (printed_lines (ops_of r1) indent last).doc (mark 125 ∷ (kind.Name, codes "do")
      ∷ mark 123 ∷ onto (block_line true shift (params_of r2)) (onto (printed_lines (ops_of r2) indent (printed_lines (ops_of r1) indent last).last).doc (mark 125 ∷ ws)))))
  while-read h p =
      let has = h.6 in
      let params = both-of _ _ _ _ (ap (map param_types) (sym two) ∙ has.params_are) in
      let vs : List ValueNo = operands_of o in
      let all : List (ValueNo × Ty) = params_of r1 in
      let long : length all ≡ length vs = sym (length-map {B = Ty} all (λ q. q.1)) ∙ ap length params.0 ∙ length-typed (length vs) h.0 in
      let typed : seconds all ≡ typed_by (length all) h.0 = params.0 ∙ ap (λ (n : ℕ). typed_by n h.0) (sym long) in
      let x : OpenOp = whiling at rs vs h.0 h.1 [] all in
      let last1 : ℕ = (printed_lines (ops_of r1) indent last).last in
      let other : List Word = (kind.Name, codes "do") ∷ mark 123 ∷ onto (block_line true shift (params_of r2)) (onto (printed_lines (ops_of r2) indent last1).doc (mark 125 ∷ ws)) in
      let written : AreWritten (param_types r2) = subst (λ (l : List Ty). AreWritten l) (sym params.1) h.5 in
      let n1 = g1.grown.next in
      let second : IsGood (record { next = e1.next; seen = s.seen }) = good-again s e1 good g1.grown.good (omega arith) in
      rw (two, has.written_are, has.types_are)
      (while-heads a s begun at rs (mark 123 ∷ onto (printed_lines (ops_of r1) indent last).doc (mark 125 ∷ other)) good all vs h.0 h.1 long typed g1.on h.3 h.4 f
      (λ q. enter a s e1 r1 begun last indent other counted good x op.ScfWhile 0 (types_of o) g1 (keeps-while h.1 (ops_of r1)) refl _
      (ap (λ (n : ℕ). record (during a (record { next = s.next + n; seen = s.seen }) begun x) { passing = q }) (sym (long-as all all refl)))
      (λ after is_last y. word refl
      (second-region a (record { next = e1.next; seen = s.seen }) e2 (with_region x r1) r2 after last1 indent shift ws is_last second op.ScfWhile 1 (types_of o) g2
      (keeps-while h.1 (ops_of r2)) refl written
      (λ end is_end. (after-is a (record { next = e2.next; seen = s.seen }) end _ _ (whole-with o op.ScfWhile (r1 ∷ r2 ∷ []) _ _ _ _ _ _ at rs is two has) (runs end is_end)).ended) _))) p)
