-- The results of an operation are read as new names, also where they were held behind a terminator.
use Rattle.std.proofs.Common.{◌≡◌, ◌<◌, ℕ, ◌+◌, ◌-◌, ◌^◌, true, false, List, [], ◌∷◌, ◌++◌, map, length, Some, refl, sym, ap, ap₂, subst, ◌∙◌, append_assoc, append-nil, arith}
use Rattle.mlir_lex.specs.declared.kinds.TokenKind.TheVariants as kind
use Rattle.op_table.specs.declared.rows.Level.{Level}
use Rattle.ir_forms.specs.declared.ops.Module.{Module}
use Rattle.ir_forms.specs.declared.ops.ValueNo.{ValueNo}
use Rattle.module_grammar.specs.declared.state.Name.{Name}
use Rattle.module_grammar.specs.declared.symbols.Class.TheVariants as class
use Rattle.module_grammar.specs.declared.symbols.Rule.{Rule}
use Rattle.module_grammar.specs.declared.symbols.Rule.TheVariants as rule
use Rattle.module_grammar.specs.declared.symbols.Act.TheVariants as act
use Rattle.module_grammar.specs.declared.symbols.Symbol.{Symbol}
use Rattle.module_grammar.specs.declared.symbols.Symbol.TheVariants as symbol
use Rattle.module_grammar.specs.State.{is_named}
use Rattle.module_grammar.specs.Rules.{may_end, token, doing, part, line as line_of}
use Rattle.mlir_print.specs.Docs.{more}
use Rattle.mlir_print.specs.Tokens.{value}
use Rattle.mlir_print.specs.Printable.{NumberOn}
use Rattle.round_trip.proofs.Core.{Word, Passing, Core, fresh_name, one_result}
use Rattle.round_trip.proofs.Machine.{Runs, Any, Misses, line_on, word, act, line, skip}
use Rattle.round_trip.proofs.Docs.{onto}
use Rattle.round_trip.proofs.Values.{name_text, named, AreBelow, new-name, next-up, below-one}
use Rattle.round_trip.proofs.Segments.{mark}

-- the open operation has these values as results too
abbrev pub with_results : Core → List ValueNo → Core
with_results c vs = record c { op = record (c.op) { results = c.op.results ++ map named vs }; next = c.next + length vs }

pub result-is : (v : ValueNo) (c : Core) → v.0 ≡ c.next → c.next < 2 ^ 32 - 1 → one_result (name_text v) c ≡ with_results c (v ∷ [])
result-is v c e h =
    ap₂ (λ (i n : ℕ). record c { op = record (c.op) { results = c.op.results ++ fresh_name (name_text v) i ∷ [] }; next = n }) (sym e) (next-up c.next h)

pub results-more : (v : ValueNo) (vs : List ValueNo) (c : Core) → with_results (with_results c (v ∷ [])) vs ≡ with_results c (v ∷ vs)
results-more v vs c =
    let e : c.next + 1 + length vs ≡ c.next + length (v ∷ vs) = omega arith in
    ap₂ (λ (ns : List Name) (n : ℕ). record c { op = record (c.op) { results = ns }; next = n }) (append_assoc c.op.results (named v ∷ []) (map named vs)) e

pub no-results : (c : Core) → with_results c [] ≡ c
no-results c = ap₂ (λ (ns : List Name) (n : ℕ). record c { op = record (c.op) { results = ns }; next = n }) (append-nil c.op.results) (omega arith)

next-on : (n : ℕ) (v : ValueNo) (vs : List ValueNo) → NumberOn n (v ∷ vs) → NumberOn (n + 1) vs
next-on n v vs on = on.2

-- the line by which a rule goes on with one more result
abbrev result_line : List Symbol
result_line = token class.Result ++ doing act.Result ++ part rule.MoreResults

module _ {level : Level} {m : Module} where
  more-results : {k : List Symbol} (vs : List ValueNo) (r : Rule) (c : Core) (ws : List Word) → may_end r ≡ true
      → ((c : Core) → line_on level r c (mark 44) ≡ Some (line_of (class.Byte 44) result_line))
      → ((c : Core) → Misses level r c (mark 61 ∷ ws))
      → NumberOn c.next vs → AreBelow c.next (c.visible ++ c.op.results)
      → Any level m k (with_results c vs) (mark 61 ∷ ws)
      → Runs level m (symbol.Rule r ∷ k) c (onto (more value vs) (mark 61 ∷ ws))
  more-results {k} [] r c ws e goes misses on below runs =
      skip (mark 61 ∷ ws) e (misses c) (subst (λ (x : Core). Runs level m k x (mark 61 ∷ ws)) (no-results c) (runs c.passing))
  more-results {k} (v ∷ vs) r c ws e goes misses on below runs =
      let here : Passing = record (c.passing) { last = (kind.ValueName, name_text v) } in
      let now : Core = record c { passing = here } in
      let start : v.0 ≡ c.next = on.0 in
      let small : c.next < 2 ^ 32 - 1 = on.1 in
      let new : is_named (c.visible ++ c.op.results) (name_text v) ≡ false = new-name c.next (c.visible ++ c.op.results) v below (omega arith) (omega arith) in
      let later : AreBelow (c.next + 1) (c.visible ++ (c.op.results ++ named v ∷ [])) =
      subst (λ (ns : List Name). AreBelow (c.next + 1) ns) (append_assoc c.visible c.op.results (named v ∷ [])) (below-one c.next (c.visible ++ c.op.results) v below start) in
      line (line_of (class.Byte 44) result_line) (goes c) (word (rw new refl) (act refl
      (subst (λ (x : Core). Runs level m (symbol.Rule rule.MoreResults ∷ k) x (onto (more value vs) (mark 61 ∷ ws))) (sym (result-is v now start small))
      (more-results vs rule.MoreResults (with_results now (v ∷ [])) ws refl (λ x. refl) (λ x. refl) on.2 later
      (λ p. subst (λ (x : Core). Runs level m k x (mark 61 ∷ ws)) (sym (results-more v vs (record now { passing = p }))) (runs p))))))

  -- the results behind the first, up to the `=`
  pub results : {k : List Symbol} (v : ValueNo) (vs : List ValueNo) (c : Core) (ws : List Word)
      → NumberOn c.next (v ∷ vs) → AreBelow c.next (c.visible ++ c.op.results)
      → c.passing.last.1 ≡ name_text v
      → Any level m k (with_results c (v ∷ vs)) ws
      → Runs level m (symbol.Do act.Result ∷ symbol.Rule rule.Results ∷ symbol.Do act.CountNames ∷ symbol.Word (class.Byte 61) ∷ k) c (onto (more value vs) (mark 61 ∷ ws))
  results {k} v vs c ws on below is runs =
      let start : v.0 ≡ c.next = on.0 in
      let small : c.next < 2 ^ 32 - 1 = on.1 in
      let later : AreBelow (c.next + 1) (c.visible ++ (c.op.results ++ named v ∷ [])) =
      subst (λ (ns : List Name). AreBelow (c.next + 1) ns) (append_assoc c.visible c.op.results (named v ∷ [])) (below-one c.next (c.visible ++ c.op.results) v below start) in
      let one : with_results c (v ∷ []) ≡ one_result c.passing.last.1 c = sym (ap (λ (t : List ℕ). one_result t c) is ∙ result-is v c start small) in
      act refl (subst (λ (x : Core). Runs level m (symbol.Rule rule.Results ∷ symbol.Do act.CountNames ∷ symbol.Word (class.Byte 61) ∷ k) x (onto (more value vs) (mark 61 ∷ ws))) one
      (more-results vs rule.Results (with_results c (v ∷ [])) ws refl (λ x. refl) (λ x. refl) on.2 later
      (λ p. act refl (word refl (subst (λ (x : Core). Runs level m k (record x { passing = record p { last = mark 61 } }) ws) (sym (results-more v vs c)) (runs _))))))
