-- A conditional is read as what was printed.
use Rattle.std.proofs.Common.{◌≡◌, ℕ, ◌+◌, ◌&&◌, List, [], ◌∷◌, ◌++◌, map, length, refl, sym, ap, ap₂, subst, ◌∙◌, arith, codes}
use Rattle.mlir_lex.specs.declared.kinds.TokenKind.TheVariants as kind
use Rattle.op_table.specs.declared.kind.OpKind.TheVariants as op
use Rattle.op_table.specs.declared.rows.Level.{Level}
use Rattle.ir_forms.specs.declared.types.Ty.{Ty}
use Rattle.ir_forms.specs.declared.ops.Module.{Module}
use Rattle.ir_forms.specs.declared.ops.Op.{Op}
use Rattle.ir_forms.specs.declared.ops.Region.{Region}
use Rattle.ir_forms.specs.declared.ops.ValueNo.{ValueNo}
use Rattle.ir_forms.specs.declared.ops.Attr.TheVariants as attr
use Rattle.ir_forms.specs.Ops.{kind_of, operands_of, regions_of, ops_of}
use Rattle.module_grammar.specs.declared.state.Name.{Name}
use Rattle.module_grammar.specs.declared.state.OpenOp.{OpenOp}
use Rattle.module_grammar.specs.declared.symbols.Rule.TheVariants as rule
use Rattle.module_grammar.specs.declared.symbols.Act.TheVariants as act
use Rattle.module_grammar.specs.declared.symbols.Keyword.TheVariants as key
use Rattle.module_grammar.specs.declared.symbols.Symbol.{Symbol}
use Rattle.module_grammar.specs.declared.symbols.Symbol.TheVariants as symbol
use Rattle.module_grammar.specs.State.{as_number}
use Rattle.module_grammar.specs.Rules.{form, ends, region, rest_of_region, part, doing, close_paren, word as keyword_of}
use Rattle.mlir_print.specs.Types.{results_if_any}
use Rattle.mlir_print.specs.Printed.{printed_lines}
use Rattle.mlir_print.specs.Printable.{Scope, AreWritten, HasForm, types_of, params_of, param_types, IsEnded}
use Rattle.round_trip.proofs.Core.{Word, Core}
use Rattle.round_trip.proofs.Machine.{Runs, Any, word, act, line, skip}
use Rattle.round_trip.proofs.Docs.{onto}
use Rattle.round_trip.proofs.Types.{TakesType, type-then, more-types}
use Rattle.round_trip.proofs.Values.{shown as shown_name, param_of, Finds}
use Rattle.round_trip.proofs.Segments.{mark, a-use}
use Rattle.round_trip.proofs.Shapes.{blank, After, HasNoElse, Serves, serves}
use Rattle.round_trip.proofs.Scopes.{IsGood, Grown, good-again}
use Rattle.round_trip.proofs.Params.{untyped, seconds}
use Rattle.round_trip.proofs.Regions.{Around, during, value_params}
use Rattle.round_trip.proofs.RegionForms.{RegionGoes, Keeps, enter}
use Rattle.round_trip.proofs.OpenForms.{open_with}
use Rattle.ir_forms.specs.declared.ops.Region.{roll-Region, roll-out-Region}
use Rattle.ir_forms.specs.Ops.{results_of}
use Rattle.module_grammar.specs.State.{values_of, with_else}
use Rattle.module_grammar.specs.Rules.{is_hash_name, is_name}
use Rattle.module_grammar.specs.Tokens.{word_of}
use Rattle.std.specs.Str.{bytes_eq}
use Rattle.mlir_print.specs.Forms.{values, uses}
use Rattle.mlir_print.specs.Printable.{defining}
use Rattle.round_trip.proofs.Tails.{one-misses}
use Rattle.round_trip.proofs.RegionForms.{keeps-first, keeps-typed, enter-rest}

-- the conditional, with all that stands before its regions, and these regions
abbrev branched : ℕ → List Name → List ValueNo → List Ty → List Region → OpenOp
branched at rs vs ts regions = open_with op.ScfIf at rs vs [] [] ts regions []

-- types of results behind the arrow, before both regions
takes-one : (level : Level) → TakesType level rule.BranchTypes (doing act.Results ++ region ++ keyword_of key.Else ++ region)
takes-one level = record { name = λ c text. refl; bang = λ c text. refl; memref = λ c text. refl }

takes-list : (level : Level) → TakesType level rule.BranchTypeList (part rule.MoreTypes ++ close_paren ++ doing act.Results ++ region ++ keyword_of key.Else ++ region)
takes-list level = record { name = λ c text. refl; bang = λ c text. refl; memref = λ c text. refl }

module _ {level : Level} {m : Module} where
  pub no-else : {k : List Symbol} {c : Core} (ws : List Word) → HasNoElse ws → Runs level m k c ws → Runs level m (symbol.Rule rule.Else ∷ k) c ws
  no-else [] none runs = skip [] refl tt runs
  no-else (w ∷ ws) none runs = skip (w ∷ ws) refl (one-misses (is_hash_name w.0) (is_name w.0 && bytes_eq w.1 (word_of key.Else)) _ none.0 none.1) runs

module _ {level : Level} {m : Module} {k : List Symbol} (a : Around) (s : Scope) (begun : ℕ) (at : ℕ) (rs : List Name) (ws : List Word) where
  -- without types a region comes next
  untyped-heads : (v : ValueNo) → Finds (map shown_name s.seen) (v ∷ [])
      → Any level m (rest_of_region ++ part rule.Else ++ k) (during a s begun (branched at rs (v ∷ []) [] [])) ws
      → Any level m (form op.ScfIf ++ k) (during a s begun (blank op.ScfIf at rs)) (onto (values (v ∷ [])) (mark 123 ∷ ws))
  untyped-heads v f runs p = a-use v _ f.0 refl (λ q. line _ refl (runs _))

  -- with types both regions come
  typed-heads : (v : ValueNo) (t : Ty) (ts : List Ty) → Finds (map shown_name s.seen) (v ∷ []) → AreWritten (t ∷ ts)
      → Any level m (region ++ keyword_of key.Else ++ region ++ k) (during a s begun (branched at rs (v ∷ []) (t ∷ ts) [])) ws
      → Any level m (form op.ScfIf ++ k) (during a s begun (blank op.ScfIf at rs)) (onto (values (v ∷ [])) (onto (results_if_any (t ∷ ts)) ws))
  typed-heads v t [] f h runs p = a-use v _ f.0 refl (λ q. line _ refl (type-then (takes-one level) t h.0 (λ x. act refl (runs x))))
  typed-heads v t (u ∷ ts) f h runs p =
      a-use v _ f.0 refl (λ q. line _ refl (line _ refl (type-then (takes-list level) t h.0 (λ x. more-types (u ∷ ts) _ _ h.1 refl (λ y. word refl (act refl (runs _)))))))

no-params : (r : Region) → param_types r ≡ [] → params_of r ≡ []
no-params r e = none (params_of r) e
  where
    none : (ps : List (ValueNo × Ty)) → seconds ps ≡ [] → ps ≡ []
    none [] e = refl
    none (p ∷ ps) e = absurd cc

firsts-of : (x y u v : List Ty) → x ∷ y ∷ [] ≡ u ∷ v ∷ [] → (x ≡ u) × (y ≡ v)
firsts-of x y u v e = (cc, cc)

one-value : (vs : List ValueNo) → length vs ≡ 1 → (v : ValueNo) × (vs ≡ v ∷ [])
one-value [] e = absurd (omega arith)
one-value (v ∷ []) e = (v, refl)
one-value (v ∷ w ∷ vs) e = absurd (omega arith)

pub nothing-more : (n : ℕ) (vs : List ValueNo) → vs ≡ [] → n ≡ n + length vs
nothing-more n vs e = rw e (omega arith)

module _ (o : Op) (r1 r2 : Region) (two : regions_of o ≡ r1 ∷ r2 ∷ []) (h : HasForm op.ScfIf o) where
  none1 : params_of r1 ≡ []
  none1 = no-params r1 (firsts-of _ _ _ _ (ap (map param_types) (sym two) ∙ h.2.params_are)).0

  pub none2 : params_of r2 ≡ []
  none2 = no-params r2 (firsts-of _ _ _ _ (ap (map param_types) (sym two) ∙ h.2.params_are)).1

  serves-if : kind_of o ≡ op.ScfIf → (at : ℕ) (rs : List Name) → values_of rs ≡ results_of o → (v : ValueNo) → operands_of o ≡ v ∷ []
      → (regions : List Region) → with_else op.ScfIf regions ≡ r1 ∷ r2 ∷ [] → Serves o at rs (branched at rs (v ∷ []) h.0 regions)
  serves-if is at rs results_are v e regions else_is =
      let has = h.2 in
      serves o op.ScfIf at rs (v ∷ []) [] [] h.0 attr.None regions (sym is) (sym e) (sym has.groups_are) (sym has.written_are) results_are (sym has.types_are) (sym has.attr_is) (else_is ∙ sym two)

-- a region without parameters and operations
empty-region : (r : Region) → params_of r ≡ [] → ops_of r ≡ [] → roll-Region (record { params = []; ops = [] }) ≡ r
empty-region r e f = ap₂ (λ ps os. roll-Region (record { params = ps; ops = os })) (sym e) (sym f) ∙ roll-out-Region r

module _ {level : Level} {m : Module} {k : List Symbol} (a : Around) (s e1 : Scope) (begun last : ℕ) (indent : List ℕ) (at : ℕ) (rs : List Name) (ws : List Word)
    (o : Op) (r1 r2 : Region) (is : kind_of o ≡ op.ScfIf) (two : regions_of o ≡ r1 ∷ r2 ∷ []) (results_are : values_of rs ≡ results_of o) (good : IsGood s) (counted : last ≡ as_number begun)
    (g1 : RegionGoes level m op.ScfIf 0 (types_of o) r1 s e1) (f : Finds (map shown_name s.seen) (operands_of o)) (h : HasForm op.ScfIf o) where
  -- the second region isn't written
  pub if-left : ops_of r2 ≡ [] → h.0 ≡ []
      → ((after : ℕ) → (printed_lines (ops_of r1) indent last).last ≡ as_number after → (x : OpenOp) → Serves o at rs x → After level m k (during a (record { next = e1.next; seen = s.seen }) after x) ws)
      → Any level m (form op.ScfIf ++ (ends ++ k)) (during a s begun (blank op.ScfIf at rs))
      (onto (uses o) (onto (results_if_any (types_of o)) (mark 123 ∷ onto (printed_lines (ops_of r1) indent last).doc (mark 125 ∷ ws))))
  if-left idle untyped runs p =
      let has = h.2 in
      let one = one-value (operands_of o) has.operand_count in
      let v : ValueNo = one.0 in
      let types : types_of o ≡ [] = has.types_are ∙ untyped in
      let body : List Word = onto (printed_lines (ops_of r1) indent last).doc (mark 125 ∷ ws) in
      let found : Finds (map shown_name s.seen) (v ∷ []) = subst (λ (l : List ValueNo). Finds (map shown_name s.seen) l) one.1 f in
      let keeps : Keeps op.ScfIf [] (ops_of r1) = keeps-first [] (ops_of r1) (subst (λ (l : List Ty). IsEnded op.ScfIf 0 l (ops_of r1)) types g1.ended) in
      let made : Serves o at rs (branched at rs (v ∷ []) [] (r1 ∷ [])) =
      subst (λ (ts : List Ty). Serves o at rs (branched at rs (v ∷ []) ts (r1 ∷ []))) untyped
      (serves-if o r1 r2 two h is at rs results_are v one.1 (r1 ∷ []) (ap (λ (r : Region). r1 ∷ r ∷ []) (empty-region r2 (none2 o r1 r2 two h) idle))) in
      rw (types, one.1)
      (untyped-heads a s begun at rs body v found
      (λ q. enter-rest a s e1 r1 begun last indent ws counted good (branched at rs (v ∷ []) [] []) op.ScfIf 0 (types_of o) g1 keeps (ap (map param_of) (sym (none1 o r1 r2 two h))) _
      (ap (λ (n : ℕ). record (during a (record { next = n; seen = s.seen }) begun (branched at rs (v ∷ []) [] [])) { passing = q }) (nothing-more s.next _ (ap value_params (none1 o r1 r2 two h))))
      (λ after is_last y. let next = runs after is_last (branched at rs (v ∷ []) [] (r1 ∷ [])) made in no-else ws next.no_else (next.ended y))) p)

-- the scope behind a region
abbrev pub behind : Scope → Scope → Scope
behind s e = record { next = e.next; seen = s.seen }

good-behind-region : (s e : Scope) (ps : List ValueNo) → IsGood s → Grown (defining s ps) e → IsGood (behind s e)
good-behind-region s e ps good grown = let n = grown.next in good-again s e good grown.good (omega arith)

module _ {level : Level} {m : Module} {k : List Symbol} (a : Around) (s e1 e2 : Scope) (begun last : ℕ) (indent : List ℕ) (at : ℕ) (rs : List Name) (ws : List Word)
    (o : Op) (r1 r2 : Region) (is : kind_of o ≡ op.ScfIf) (two : regions_of o ≡ r1 ∷ r2 ∷ []) (results_are : values_of rs ≡ results_of o) (good : IsGood s) (counted : last ≡ as_number begun)
    (g1 : RegionGoes level m op.ScfIf 0 (types_of o) r1 s e1) (g2 : RegionGoes level m op.ScfIf 1 (types_of o) r2 (behind s e1) e2)
    (f : Finds (map shown_name s.seen) (operands_of o)) (h : HasForm op.ScfIf o)
    (runs : (after : ℕ) → (printed_lines (ops_of r2) indent (printed_lines (ops_of r1) indent last).last).last ≡ as_number after → (x : OpenOp) → Serves o at rs x
    → After level m k (during a (behind s e2) after x) ws) where
  -- the second region, behind the first
  else-on : (v : ValueNo) → operands_of o ≡ v ∷ [] → Keeps op.ScfIf h.0 (ops_of r2)
      → (after : ℕ) → (printed_lines (ops_of r1) indent last).last ≡ as_number after
      → Any level m (region ++ (ends ++ k)) (during a (behind s e1) after (branched at rs (v ∷ []) h.0 (r1 ∷ [])))
      (mark 123 ∷ onto (printed_lines (ops_of r2) indent (printed_lines (ops_of r1) indent last).last).doc (mark 125 ∷ ws))
  else-on v e keeps after is_last p =
      let x : OpenOp = branched at rs (v ∷ []) h.0 (r1 ∷ []) in
      enter a (behind s e1) e2 r2 after (printed_lines (ops_of r1) indent last).last indent ws is_last
      (good-behind-region s e1 (value_params (params_of r1)) good g1.grown) x op.ScfIf 1 (types_of o) g2 keeps (ap (map param_of) (sym (none2 o r1 r2 two h))) _
      (ap (λ (n : ℕ). record (during a (record { next = n; seen = s.seen }) after x) { passing = p }) (nothing-more e1.next _ (ap value_params (none2 o r1 r2 two h))))
      (λ end is_end. (runs end is_end (branched at rs (v ∷ []) h.0 (r1 ∷ r2 ∷ [])) (serves-if o r1 r2 two h is at rs results_are v e (r1 ∷ r2 ∷ []) refl)).ended)

  -- without types of results
  if-untyped : h.0 ≡ [] → Keeps op.ScfIf h.0 (ops_of r2)
      → Any level m (form op.ScfIf ++ (ends ++ k)) (during a s begun (blank op.ScfIf at rs))
      (onto (uses o) (onto (results_if_any (types_of o)) (mark 123 ∷ onto (printed_lines (ops_of r1) indent last).doc (mark 125 ∷ (kind.Name, codes "else")
      ∷ mark 123 ∷ onto (printed_lines (ops_of r2) indent (printed_lines (ops_of r1) indent last).last).doc (mark 125 ∷ ws)))))
  if-untyped untyped keeps2 p =
      let has = h.2 in
      let one = one-value (operands_of o) has.operand_count in
      let v : ValueNo = one.0 in
      let types : types_of o ≡ [] = has.types_are ∙ untyped in
      let other : List Word = (kind.Name, codes "else") ∷ mark 123 ∷ onto (printed_lines (ops_of r2) indent (printed_lines (ops_of r1) indent last).last).doc (mark 125 ∷ ws) in
      let body : List Word = onto (printed_lines (ops_of r1) indent last).doc (mark 125 ∷ other) in
      let found : Finds (map shown_name s.seen) (v ∷ []) = subst (λ (l : List ValueNo). Finds (map shown_name s.seen) l) one.1 f in
      let keeps : Keeps op.ScfIf [] (ops_of r1) = keeps-first [] (ops_of r1) (subst (λ (l : List Ty). IsEnded op.ScfIf 0 l (ops_of r1)) types g1.ended) in
      rw (types, one.1)
      (untyped-heads a s begun at rs body v found
      (λ q. enter-rest a s e1 r1 begun last indent other counted good (branched at rs (v ∷ []) [] []) op.ScfIf 0 (types_of o) g1 keeps (ap (map param_of) (sym (none1 o r1 r2 two h))) _
      (ap (λ (n : ℕ). record (during a (record { next = n; seen = s.seen }) begun (branched at rs (v ∷ []) [] [])) { passing = q }) (nothing-more s.next _ (ap value_params (none1 o r1 r2 two h))))
      (λ after is_last y. line _ refl
      (subst (λ (ts : List Ty). Any level m (region ++ (ends ++ k)) (during a (behind s e1) after (branched at rs (v ∷ []) ts (r1 ∷ [])))
      (mark 123 ∷ onto (printed_lines (ops_of r2) indent (printed_lines (ops_of r1) indent last).last).doc (mark 125 ∷ ws))) untyped
      (else-on v one.1 keeps2 after is_last) _))) p)

  -- with types of results
  if-typed : (t : Ty) (ts : List Ty) → h.0 ≡ t ∷ ts
      → Any level m (form op.ScfIf ++ (ends ++ k)) (during a s begun (blank op.ScfIf at rs))
      (onto (uses o) (onto (results_if_any (types_of o)) (mark 123 ∷ onto (printed_lines (ops_of r1) indent last).doc (mark 125 ∷ (kind.Name, codes "else")
      ∷ mark 123 ∷ onto (printed_lines (ops_of r2) indent (printed_lines (ops_of r1) indent last).last).doc (mark 125 ∷ ws)))))
  if-typed t ts typed p =
      let has = h.2 in
      let one = one-value (operands_of o) has.operand_count in
      let v : ValueNo = one.0 in
      let types : types_of o ≡ t ∷ ts = has.types_are ∙ typed in
      let other : List Word = (kind.Name, codes "else") ∷ mark 123 ∷ onto (printed_lines (ops_of r2) indent (printed_lines (ops_of r1) indent last).last).doc (mark 125 ∷ ws) in
      let body : List Word = mark 123 ∷ onto (printed_lines (ops_of r1) indent last).doc (mark 125 ∷ other) in
      let found : Finds (map shown_name s.seen) (v ∷ []) = subst (λ (l : List ValueNo). Finds (map shown_name s.seen) l) one.1 f in
      let written : AreWritten (t ∷ ts) = subst (λ (l : List Ty). AreWritten l) typed h.1 in
      let keeps2 : Keeps op.ScfIf h.0 (ops_of r2) = subst (λ (l : List Ty). Keeps op.ScfIf l (ops_of r2)) (sym typed) (keeps-typed t ts (ops_of r2)) in
      rw (types, one.1)
      (typed-heads a s begun at rs body v t ts found written
      (λ q. enter a s e1 r1 begun last indent other counted good (branched at rs (v ∷ []) (t ∷ ts) []) op.ScfIf 0 (types_of o) g1 (keeps-typed t ts (ops_of r1)) (ap (map param_of) (sym (none1 o r1 r2 two h))) _
      (ap (λ (n : ℕ). record (during a (record { next = n; seen = s.seen }) begun (branched at rs (v ∷ []) (t ∷ ts) [])) { passing = q }) (nothing-more s.next _ (ap value_params (none1 o r1 r2 two h))))
      (λ after is_last y. word refl
      (subst (λ (ts : List Ty). Any level m (region ++ (ends ++ k)) (during a (behind s e1) after (branched at rs (v ∷ []) ts (r1 ∷ [])))
      (mark 123 ∷ onto (printed_lines (ops_of r2) indent (printed_lines (ops_of r1) indent last).last).doc (mark 125 ∷ ws))) typed
      (else-on v one.1 keeps2 after is_last) _))) p)

  pub if-both : Keeps op.ScfIf h.0 (ops_of r2)
      → Any level m (form op.ScfIf ++ (ends ++ k)) (during a s begun (blank op.ScfIf at rs))
      (onto (uses o) (onto (results_if_any (types_of o)) (mark 123 ∷ onto (printed_lines (ops_of r1) indent last).doc (mark 125 ∷ (kind.Name, codes "else")
      ∷ mark 123 ∷ onto (printed_lines (ops_of r2) indent (printed_lines (ops_of r1) indent last).last).doc (mark 125 ∷ ws)))))
  if-both keeps = by_types h.0 refl
    where
      by_types : (us : List Ty) → h.0 ≡ us
          → Any level m (form op.ScfIf ++ (ends ++ k)) (during a s begun (blank op.ScfIf at rs))
          (onto (uses o) (onto (results_if_any (types_of o)) (mark 123 ∷ onto (printed_lines (ops_of r1) indent last).doc (mark 125 ∷ (kind.Name, codes "else")
          ∷ mark 123 ∷ onto (printed_lines (ops_of r2) indent (printed_lines (ops_of r1) indent last).last).doc (mark 125 ∷ ws)))))
      by_types [] e = if-untyped e keeps
      by_types (t ∷ ts) e = if-typed t ts e
