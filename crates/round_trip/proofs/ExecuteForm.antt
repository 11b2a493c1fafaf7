-- A launch is read as what was printed.
use Rattle.std.proofs.Common.{◌≡◌, ◌<◌, ℕ, ◌+◌, ◌^◌, List, [], ◌∷◌, ◌++◌, map, take, drop, length, refl, sym, ap, ap₂, subst, ◌∙◌, append_assoc, append-nil, arith}
use Rattle.std.proofs.lemmas.List.{length-map}
use Rattle.op_table.specs.declared.kind.OpKind.TheVariants as op
use Rattle.op_table.specs.declared.rows.Level.{Level}
use Rattle.ir_forms.specs.declared.types.Ty.{Ty}
use Rattle.ir_forms.specs.declared.types.Ty.TheVariants as ty
use Rattle.ir_forms.specs.declared.ops.Module.{Module}
use Rattle.ir_forms.specs.declared.ops.Op.{Op}
use Rattle.ir_forms.specs.declared.ops.Region.{Region}
use Rattle.ir_forms.specs.declared.ops.ValueNo.{ValueNo}
use Rattle.ir_forms.specs.declared.ops.Attr.TheVariants as attr
use Rattle.ir_forms.specs.Ops.{kind_of, operands_of, regions_of, ops_of}
use Rattle.module_grammar.specs.declared.state.Name.{Name}
use Rattle.module_grammar.specs.declared.state.OpenOp.{OpenOp}
use Rattle.module_grammar.specs.declared.symbols.Rule.TheVariants as rule
use Rattle.module_grammar.specs.declared.symbols.Act.TheVariants as act
use Rattle.module_grammar.specs.declared.symbols.Symbol.{Symbol}
use Rattle.module_grammar.specs.declared.symbols.Symbol.TheVariants as symbol
use Rattle.module_grammar.specs.State.{as_number}
use Rattle.module_grammar.specs.Rules.{form, ends, region}
use Rattle.mlir_print.specs.Docs.{more}
use Rattle.mlir_print.specs.Types.{results_if_any}
use Rattle.mlir_print.specs.Tokens.{value}
use Rattle.mlir_print.specs.Printed.{printed_lines}
use Rattle.mlir_print.specs.Printable.{Scope, NumberOn, AreWritten, Has, HasForm, types_of, params_of, param_types, IsEnded}
use Rattle.round_trip.proofs.Core.{Word, Core}
use Rattle.round_trip.proofs.Machine.{Runs, Any, word, act, line, skip}
use Rattle.round_trip.proofs.Docs.{onto, Plain}
use Rattle.round_trip.proofs.Types.{results}
use Rattle.round_trip.proofs.Values.{shown as shown_name, param_of, Finds}
use Rattle.round_trip.proofs.Segments.{mark, a-use, more-uses}
use Rattle.round_trip.proofs.Shapes.{op_with, blank, whole, whole-with, After}
use Rattle.round_trip.proofs.Scopes.{IsGood}
use Rattle.round_trip.proofs.Params.{firsts, seconds}
use Rattle.round_trip.proofs.Regions.{Around, during, with_region}
use Rattle.round_trip.proofs.RegionForms.{RegionGoes, Keeps, enter}
use Rattle.round_trip.proofs.OpenForms.{open_with, fresh-at, later, after-is, long-as, first-of-all, drop-seam, finds-left, finds-right, second-size}
use Rattle.std.proofs.lemmas.List.{length-take-le, length-drop, take-append-drop}
use Rattle.std.proofs.Math.Seq.{take-append_seam, take-length}
use Rattle.mlir_print.specs.Forms.{execute_form, dependencies, value_operands}
use Rattle.mlir_print.specs.Printable.{payload}
use Rattle.round_trip.proofs.Machine.{Misses}
use Rattle.round_trip.proofs.Segments.{with_operands}
use Rattle.round_trip.proofs.ValueOperands.{all-values}
use Rattle.round_trip.proofs.RegionForms.{keeps-execute}

module _ {level : Level} {m : Module} where
  some-dependencies : {k : List Symbol} (xs : List ValueNo) (c : Core) (ws : List Word) → Finds c.visible xs → ((c : Core) → Misses level rule.Dependencies c ws)
      → Any level m k (with_operands c xs) ws → Runs level m (symbol.Rule rule.Dependencies ∷ k) c (onto (dependencies xs) ws)
  some-dependencies [] c ws f misses runs = skip ws refl (misses c) (rw append-nil at (runs c.passing))
  some-dependencies {k} (x ∷ xs) c ws f misses runs =
      line _ refl (a-use x (onto (more value xs) (mark 93 ∷ ws)) f.0 (plain-uses xs ws) (λ p. more-uses xs _ (mark 93 ∷ ws) f.1 refl (λ q. word refl (rw append_assoc (runs _)))))
    where
      plain-uses : (xs : List ValueNo) (ws : List Word) → Plain (onto (more value xs) (mark 93 ∷ ws))
      plain-uses [] ws = refl
      plain-uses (y ∷ ys) ws = refl

  some-results : {k : List Symbol} (ts : List Ty) (c : Core) (ws : List Word) → AreWritten ts → c.read ≡ []
      → Any level m k (record c { op = record (c.op) { types = c.op.types ++ ts }; read = [] }) (mark 123 ∷ ws)
      → Runs level m (symbol.Rule rule.OpResults ∷ k) c (onto (results_if_any ts) (mark 123 ∷ ws))
  some-results {k} [] c ws h none runs =
      skip _ refl refl (subst (λ (x : Core). Runs level m k x (mark 123 ∷ ws))
      (ap₂ (λ (ts us : List Ty). record c { op = record (c.op) { types = ts }; read = us }) (append-nil c.op.types) (sym none)) (runs c.passing))
  some-results {k} (t ∷ ts) c ws h none runs =
      line _ refl (results (t ∷ ts) _ _ h (λ p. act refl
      (subst (λ (us : List Ty). Runs level m k (record c { passing = p; op = record (c.op) { types = c.op.types ++ us }; read = [] }) (mark 123 ∷ ws))
      (sym (ap (λ (us : List Ty). us ++ t ∷ ts) none)) (runs p))))

no-dependencies : (level : Level) (ys : List ValueNo) (ps : List (ValueNo × Ty)) (us ts : List Ty) (ws : List Word) (c : Core)
    → Misses level rule.Dependencies c (onto (value_operands ys ps us) (onto (results_if_any ts) (mark 123 ∷ ws)))
no-dependencies level [] ps us [] ws c = refl
no-dependencies level [] ps us (t ∷ ts) ws c = refl
no-dependencies level (y ∷ ys) [] us [] ws c = refl
no-dependencies level (y ∷ ys) [] us (t ∷ ts) ws c = refl
no-dependencies level (y ∷ ys) (p ∷ ps) [] [] ws c = refl
no-dependencies level (y ∷ ys) (p ∷ ps) [] (t ∷ ts) ws c = refl
no-dependencies level (y ∷ ys) (p ∷ ps) (u ∷ us) ts ws c = refl

no-values : (level : Level) (ts : List Ty) (ws : List Word) (c : Core) → Misses level rule.ValueOperands c (onto (results_if_any ts) (mark 123 ∷ ws))
no-values level [] ws c = refl
no-values level (t ∷ ts) ws c = refl

-- the launch, with all that stands before its region
abbrev launched : ℕ → List Name → List ValueNo → List ValueNo → List Ty → List Ty → List (ValueNo × Ty) → OpenOp
launched at rs xs ys us ts ps = open_with op.AsyncExecute at rs (xs ++ ys) (length xs ∷ length ys ∷ []) us (ty.Token ∷ ts) [] (map param_of ps)

module _ {level : Level} {m : Module} {k : List Symbol} (a : Around) (s : Scope) (begun : ℕ) (at : ℕ) (rs : List Name) (ws : List Word) (good : IsGood s) where
  pub launch-heads : (ps : List (ValueNo × Ty)) (xs ys : List ValueNo) (us ts : List Ty)
      → length ys ≡ length us → length ps ≡ length us → seconds ps ≡ map payload us → NumberOn s.next (firsts ps)
      → length xs < 2 ^ 32 → length ys < 2 ^ 32 → AreWritten us → AreWritten ts
      → Finds (map shown_name s.seen) xs → Finds (map shown_name s.seen) ys
      → Any level m (region ++ k) (during a (later s ps) begun (launched at rs xs ys us ts ps)) (mark 123 ∷ ws)
      → Any level m (form op.AsyncExecute ++ k) (during a s begun (blank op.AsyncExecute at rs))
      (onto (dependencies xs) (onto (value_operands ys ps us) (onto (results_if_any ts) (mark 123 ∷ ws))))
  launch-heads ps xs ys us ts i j typed on hx hy hu ht fx fy runs p =
      let words : List Word = onto (value_operands ys ps us) (onto (results_if_any ts) (mark 123 ∷ ws)) in
      let fresh = fresh-at a s begun (blank op.AsyncExecute at rs) good refl in
      let one : as_number (length xs) ≡ length xs = omega arith in
      some-dependencies xs _ words fx (no-dependencies level ys ps us ts (ws)) (λ q1. act refl
      (subst (λ (n : ℕ). Runs level m (symbol.Rule rule.ValueOperands ∷ symbol.Do act.Group ∷ symbol.Do act.TokenResult ∷ symbol.Rule rule.OpResults ∷ region ++ k)
      (record (during a s begun (open_with op.AsyncExecute at rs xs (n ∷ []) [] [] [] [])) { passing = q1 }) words) (sym one)
      (all-values ys ps us _ (onto (results_if_any ts) (mark 123 ∷ ws)) i j on fresh refl typed hu fy (no-values level ts ws) (λ q2. act refl
      (subst (λ (n : ℕ). Runs level m (symbol.Do act.TokenResult ∷ symbol.Rule rule.OpResults ∷ region ++ k)
      (record (during a (later s ps) begun (open_with op.AsyncExecute at rs (xs ++ ys) (length xs ∷ n ∷ []) us [] [] (map param_of ps))) { passing = q2 }) (onto (results_if_any ts) (mark 123 ∷ ws)))
      (sym (second-size xs ys hy))
      (act refl (some-results ts _ ws ht refl (λ q3. runs q3))))))))

module _ {level : Level} {m : Module} {k : List Symbol} (a : Around) (s e : Scope) (begun last : ℕ) (indent : List ℕ) (at : ℕ) (rs : List Name) (ws : List Word)
    (o : Op) (r : Region) (is : kind_of o ≡ op.AsyncExecute) (one : regions_of o ≡ r ∷ []) (good : IsGood s) (counted : last ≡ as_number begun)
    (g : RegionGoes level m op.AsyncExecute 0 (types_of o) r s e) (f : Finds (map shown_name s.seen) (operands_of o))
    (runs : (after : ℕ) → (printed_lines (ops_of r) indent last).last ≡ as_number after → After level m k (during a (record { next = e.next; seen = s.seen }) after (whole o at rs)) ws) where
  execute-with : (xs ys : List ValueNo) (us ts : List Ty) → operands_of o ≡ xs ++ ys → length ys ≡ length us → length xs < 2 ^ 32 → length us < 2 ^ 32
      → AreWritten us → AreWritten ts
      → Has o (length (operands_of o)) attr.None (length xs ∷ length ys ∷ []) us (ty.Token ∷ ts) (map payload us ∷ [])
      → Any level m (form op.AsyncExecute ++ (ends ++ k)) (during a s begun (blank op.AsyncExecute at rs))
      (onto (execute_form o) (mark 123 ∷ onto (printed_lines (ops_of r) indent last).doc (mark 125 ∷ ws)))
  execute-with xs ys us ts parts fit hx hu wu wt has p =
      let names : List Name = map shown_name s.seen in
      let all : List (ValueNo × Ty) = params_of r in
      let typed : seconds all ≡ map payload us = first-of-all (param_types r) (map payload us) (ap (map param_types) (sym one) ∙ has.params_are) in
      let long : length all ≡ length us = sym (length-map {B = Ty} all (λ q. q.1)) ∙ ap length typed ∙ length-map {B = Ty} us payload in
      let whole_op : OpenOp = launched at rs xs ys us ts all in
      let found : Finds names (xs ++ ys) = subst (λ (l : List ValueNo). Finds names l) parts f in
      let same : whole o at rs ≡ with_region whole_op r =
      whole-with o op.AsyncExecute (r ∷ []) _ _ _ _ _ _ at rs is one has
      ∙ ap (λ (vs : List ValueNo). op_with op.AsyncExecute at rs vs (length xs ∷ length ys ∷ []) us (ty.Token ∷ ts) attr.None (r ∷ [])) parts in
      let keeps : Keeps op.AsyncExecute (ty.Token ∷ ts) (ops_of r) =
      keeps-execute 0 ty.Token ts (ops_of r) (subst (λ (l : List Ty). IsEnded op.AsyncExecute 0 l (ops_of r)) has.types_are g.ended) in
      rw (one, has.groups_are, parts, take-append_seam xs ys, drop-seam xs ys, take-length ys, has.written_are, has.types_are)
      (launch-heads a s begun at rs (onto (printed_lines (ops_of r) indent last).doc (mark 125 ∷ ws)) good all xs ys us ts fit long typed g.on hx (omega (arith, fit, hu)) wu wt
      (finds-left names xs ys found) (finds-right names xs ys found)
      (λ q. enter a s e r begun last indent ws counted good whole_op op.AsyncExecute 0 (types_of o) g keeps refl _
      (ap (λ (n : ℕ). record (during a (record { next = s.next + n; seen = s.seen }) begun whole_op) { passing = q }) (sym (long-as all all refl)))
      (λ after is_last. (after-is a (record { next = e.next; seen = s.seen }) after _ _ same (runs after is_last)).ended)) p)

  pub execute-read : HasForm op.AsyncExecute o → Any level m (form op.AsyncExecute ++ (ends ++ k)) (during a s begun (blank op.AsyncExecute at rs))
      (onto (execute_form o) (mark 123 ∷ onto (printed_lines (ops_of r) indent last).doc (mark 125 ∷ ws)))
  execute-read h =
      let has = h.7 in
      let vs : List ValueNo = operands_of o in
      let n : length (take h.0 vs) ≡ h.0 = length-take-le h.0 vs (omega (arith, has.operand_count)) in
      let rest : length (drop h.0 vs) ≡ length h.1 = length-drop h.0 vs ∙ omega (arith, has.operand_count) in
      execute-with (take h.0 vs) (drop h.0 vs) h.1 h.2 (sym (take-append-drop h.0 vs)) rest (subst (λ i. i < 2 ^ 32) (sym n) h.3) h.4 h.5 h.6
      (record {
        operand_count = refl;
        attr_is = has.attr_is;
        groups_are = has.groups_are ∙ ap₂ (λ (i j : ℕ). i ∷ j ∷ []) (sym n) (sym rest);
        written_are = has.written_are;
        types_are = has.types_are;
        params_are = has.params_are;
      })
