-- The operands of a launch that are values: each is written with its parameter and its type.
use Rattle.std.proofs.Common.{◌≡◌, ◌<◌, ℕ, ◌+◌, ◌-◌, ◌^◌, List, [], ◌∷◌, ◌++◌, map, length, refl, sym, ap, ap₂, subst, ◌∙◌, append_assoc, append-nil, arith}
use Rattle.op_table.specs.declared.rows.Level.{Level}
use Rattle.ir_forms.specs.declared.types.Ty.{Ty}
use Rattle.ir_forms.specs.declared.types.Ty.TheVariants as ty
use Rattle.ir_forms.specs.declared.ops.Module.{Module}
use Rattle.ir_forms.specs.declared.ops.ValueNo.{ValueNo}
use Rattle.module_grammar.specs.declared.state.Param.{Param}
use Rattle.module_grammar.specs.declared.symbols.Rule.TheVariants as rule
use Rattle.module_grammar.specs.declared.symbols.Symbol.{Symbol}
use Rattle.module_grammar.specs.declared.symbols.Symbol.TheVariants as symbol
use Rattle.module_grammar.specs.State.{last_typed, first_type, payload_types}
use Rattle.mlir_print.specs.Forms.{more_value_operands, value_operands, value_operand}
use Rattle.mlir_print.specs.Printable.{NumberOn, AreWritten, IsWritten, payload}
use Rattle.round_trip.proofs.Core.{Word, Core}
use Rattle.round_trip.proofs.Machine.{Runs, Any, Misses, word, act, line, skip, stop-skip}
use Rattle.round_trip.proofs.Docs.{onto, Stops, Plain, stops-plain}
use Rattle.round_trip.proofs.Types.{a-type}
use Rattle.round_trip.proofs.Values.{param_of, Finds}
use Rattle.round_trip.proofs.Segments.{mark, a-use}
use Rattle.ir_forms.specs.declared.types.ValTy.TheVariants as val
use Rattle.module_grammar.specs.Rules.{value_operand as value_symbols}
use Rattle.round_trip.proofs.Params.{IsFresh, firsts, seconds, a-param, fresh-more}
use Rattle.module_grammar.proofs.Lists.{last_given}

abbrev pub with_values : Core → List (ValueNo × Ty) → List ValueNo → List Ty → Core
with_values c ps vs ts = record c {
  op = record (c.op) { params = c.op.params ++ map param_of ps; operands = c.op.operands ++ vs; written = c.op.written ++ ts };
  next = c.next + length ps;
  read = [];
}

payload-is : (t : Ty) → first_type (payload_types t) ≡ payload t
payload-is (ty.Value (val.Int w)) = refl
payload-is (ty.Value val.Index) = refl
payload-is (ty.Value (val.Memref m)) = refl
payload-is _ = refl

values-none : (c : Core) → c.read ≡ [] → with_values c [] [] [] ≡ c
values-none c none =
    ap₂ (λ (xs : List Param) (n : ℕ). record (with_values c [] [] []) { op = record ((with_values c [] [] []).op) { params = xs }; next = n }) (append-nil c.op.params) (omega arith)
    ∙ ap₂ (λ (vs : List ValueNo) (ts : List Ty). record c { op = record (c.op) { operands = vs; written = ts }; read = [] }) (append-nil c.op.operands) (append-nil c.op.written)
    ∙ ap (λ (ts : List Ty). record c { read = ts }) (sym none)

values-more : (c : Core) (p : ValueNo × Ty) (ps : List (ValueNo × Ty)) (v : ValueNo) (vs : List ValueNo) (t : Ty) (ts : List Ty)
    → with_values (with_values c (p ∷ []) (v ∷ []) (t ∷ [])) ps vs ts ≡ with_values c (p ∷ ps) (v ∷ vs) (t ∷ ts)
values-more c p ps v vs t ts =
    let e : c.next + 1 + length ps ≡ c.next + length (p ∷ ps) = omega arith in
    let all : Core = with_values c (p ∷ ps) (v ∷ vs) (t ∷ ts) in
    ap₂ (λ (xs : List Param) (n : ℕ). record all { op = record (all.op) { params = xs; operands = (c.op.operands ++ v ∷ []) ++ vs; written = (c.op.written ++ t ∷ []) ++ ts }; next = n })
    (append_assoc c.op.params (param_of p ∷ []) (map param_of ps)) e
    ∙ ap₂ (λ (us : List ValueNo) (ws : List Ty). record all { op = record (all.op) { operands = us; written = ws } }) (append_assoc c.op.operands (v ∷ []) vs) (append_assoc c.op.written (t ∷ []) ts)

plain-values : (vs : List ValueNo) (ps : List (ValueNo × Ty)) (ts : List Ty) (ws : List Word) → Stops ws → Plain (onto (more_value_operands vs ps ts) ws)
plain-values [] ps ts ws stops = stops-plain ws stops
plain-values (v ∷ vs) [] ts ws stops = stops-plain ws stops
plain-values (v ∷ vs) (p ∷ ps) [] ws stops = stops-plain ws stops
plain-values (v ∷ vs) (p ∷ ps) (t ∷ ts) ws stops = refl

module _ {level : Level} {m : Module} where
  a-value : {k : List Symbol} (c : Core) (ws : List Word) (p : ValueNo × Ty) (v : ValueNo) (t : Ty) → p.0.0 ≡ c.next → c.next < 2 ^ 32 - 1 → IsFresh c
      → c.read ≡ [] → p.1 ≡ payload t → IsWritten t → Finds c.visible (v ∷ [])
      → Any level m k (with_values c (p ∷ []) (v ∷ []) (t ∷ [])) ws
      → Runs level m (value_symbols ++ k) c (onto (value_operand v p t) ws)
  a-value {k} c ws p v t e h fresh none typed written f runs =
      a-use v _ f.0 refl (λ q. word refl (a-param _ _ p.0 e h fresh (λ x. word refl (a-type t written (λ y.
      let all : Core = with_values c (p ∷ []) (v ∷ []) (t ∷ []) in
      let given : last_typed (c.op.params ++ param_of (p.0, ty.Untyped) ∷ []) (first_type (payload_types (first_type (c.read ++ t ∷ [])))) ≡ c.op.params ++ param_of p ∷ [] =
      last_given c.op.params (param_of (p.0, ty.Untyped)) (first_type (payload_types (first_type (c.read ++ t ∷ []))))
      ∙ ap (λ (u : Ty). c.op.params ++ param_of (p.0, u) ∷ []) (ap (λ (l : List Ty). first_type (payload_types (first_type (l ++ t ∷ [])))) none ∙ payload-is t ∙ sym typed) in
      let wrote : c.op.written ++ (c.read ++ t ∷ []) ≡ c.op.written ++ t ∷ [] = ap (λ (l : List Ty). c.op.written ++ (l ++ t ∷ [])) none in
      act refl (act refl (subst (λ (x : Core). Runs level m k x ws)
      (sym (ap₂ (λ (xs : List Param) (ts : List Ty). record all { passing = y; op = record (all.op) { params = xs; written = ts } }) given wrote)) (runs y))))))))

  more-values : {k : List Symbol} (vs : List ValueNo) (ps : List (ValueNo × Ty)) (ts : List Ty) (c : Core) (ws : List Word)
      → length vs ≡ length ts → length ps ≡ length ts → NumberOn c.next (firsts ps) → IsFresh c → c.read ≡ []
      → seconds ps ≡ map payload ts → AreWritten ts → Finds c.visible vs → Stops ws
      → Any level m k (with_values c ps vs ts) ws
      → Runs level m (symbol.Rule rule.MoreValueOperands ∷ k) c (onto (more_value_operands vs ps ts) ws)
  more-values {k} [] [] [] c ws i j on fresh none typed written f stops runs =
      stop-skip _ ws refl (λ c w. refl) stops (subst (λ (x : Core). Runs level m k x ws) (values-none c none) (runs c.passing))
  more-values {k} (v ∷ vs) (p ∷ ps) (t ∷ ts) c ws i j on fresh none typed written f stops runs =
      let first : p.1 ≡ payload t = cc in
      let rest : seconds ps ≡ map payload ts = cc in
      line _ refl (a-value _ (onto (more_value_operands vs ps ts) ws) p v t on.0 on.1 fresh none first written.0 (f.0, tt)
      (λ q. more-values vs ps ts _ ws (omega arith) (omega arith) on.2 (fresh-more c p.0 p.1 fresh on.0) refl rest written.1 f.1 stops
      (λ r. subst (λ (x : Core). Runs level m k (record x { passing = r }) ws) (sym (values-more c p ps v vs t ts)) (runs r))))
  more-values [] [] (t ∷ ts) c ws i j on fresh none typed written f stops runs = absurd (omega arith)
  more-values [] (p ∷ ps) [] c ws i j on fresh none typed written f stops runs = absurd (omega arith)
  more-values [] (p ∷ ps) (t ∷ ts) c ws i j on fresh none typed written f stops runs = absurd (omega arith)
  more-values (v ∷ vs) [] [] c ws i j on fresh none typed written f stops runs = absurd (omega arith)
  more-values (v ∷ vs) [] (t ∷ ts) c ws i j on fresh none typed written f stops runs = absurd (omega arith)
  more-values (v ∷ vs) (p ∷ ps) [] c ws i j on fresh none typed written f stops runs = absurd (omega arith)

  -- the operands that are values, where there are any
  pub all-values : {k : List Symbol} (vs : List ValueNo) (ps : List (ValueNo × Ty)) (ts : List Ty) (c : Core) (ws : List Word)
      → length vs ≡ length ts → length ps ≡ length ts → NumberOn c.next (firsts ps) → IsFresh c → c.read ≡ []
      → seconds ps ≡ map payload ts → AreWritten ts → Finds c.visible vs
      → ((c : Core) → Misses level rule.ValueOperands c ws)
      → Any level m k (with_values c ps vs ts) ws
      → Runs level m (symbol.Rule rule.ValueOperands ∷ k) c (onto (value_operands vs ps ts) ws)
  all-values {k} [] [] [] c ws i j on fresh none typed written f misses runs =
      skip ws refl (misses c) (subst (λ (x : Core). Runs level m k x ws) (values-none c none) (runs c.passing))
  all-values {k} (v ∷ vs) (p ∷ ps) (t ∷ ts) c ws i j on fresh none typed written f misses runs =
      let first : p.1 ≡ payload t = cc in
      let rest : seconds ps ≡ map payload ts = cc in
      line _ refl (a-value _ (onto (more_value_operands vs ps ts) (mark 41 ∷ ws)) p v t on.0 on.1 fresh none first written.0 (f.0, tt)
      (λ q. more-values vs ps ts _ (mark 41 ∷ ws) (omega arith) (omega arith) on.2 (fresh-more c p.0 p.1 fresh on.0) refl rest written.1 f.1 refl
      (λ r. word refl (subst (λ (x : Core). Runs level m k (record x { passing = record r { last = mark 41 } }) ws) (sym (values-more c p ps v vs t ts)) (runs _)))))
  all-values [] [] (t ∷ ts) c ws i j on fresh none typed written f stops runs = absurd (omega arith)
  all-values [] (p ∷ ps) [] c ws i j on fresh none typed written f stops runs = absurd (omega arith)
  all-values [] (p ∷ ps) (t ∷ ts) c ws i j on fresh none typed written f stops runs = absurd (omega arith)
  all-values (v ∷ vs) [] [] c ws i j on fresh none typed written f stops runs = absurd (omega arith)
  all-values (v ∷ vs) [] (t ∷ ts) c ws i j on fresh none typed written f stops runs = absurd (omega arith)
  all-values (v ∷ vs) (p ∷ ps) [] c ws i j on fresh none typed written f stops runs = absurd (omega arith)
