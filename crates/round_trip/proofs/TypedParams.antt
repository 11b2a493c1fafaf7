-- Parameters that stand with their types: those of functions, and those that a region shows.
use Rattle.std.proofs.Common.{◌≡◌, ◌<◌, ℕ, ◌+◌, ◌-◌, ◌^◌, false, List, [], ◌∷◌, ◌++◌, map, length, refl, sym, ap, ap₂, subst, ◌∙◌, append_assoc, append-nil, arith, codes}
use Rattle.mlir_lex.specs.declared.kinds.TokenKind.TheVariants as kind
use Rattle.op_table.specs.declared.rows.Level.{Level}
use Rattle.ir_forms.specs.declared.types.Ty.{Ty}
use Rattle.ir_forms.specs.declared.types.Ty.TheVariants as ty
use Rattle.ir_forms.specs.declared.ops.Module.{Module}
use Rattle.ir_forms.specs.declared.ops.ValueNo.{ValueNo}
use Rattle.module_grammar.specs.declared.state.Name.{Name}
use Rattle.module_grammar.specs.declared.state.Param.{Param}
use Rattle.module_grammar.specs.declared.symbols.Class.TheVariants as class
use Rattle.module_grammar.specs.declared.symbols.Rule.TheVariants as rule
use Rattle.module_grammar.specs.declared.symbols.Act.TheVariants as act
use Rattle.module_grammar.specs.declared.symbols.Symbol.{Symbol}
use Rattle.module_grammar.specs.declared.symbols.Symbol.TheVariants as symbol
use Rattle.module_grammar.specs.State.{is_named, param_names, number_up, last_typed, first_type}
use Rattle.mlir_print.specs.Docs.{more, commas}
use Rattle.mlir_print.specs.Types.{type_doc}
use Rattle.mlir_print.specs.Printable.{NumberOn, AreWritten, IsWritten}
use Rattle.round_trip.proofs.Core.{Word, Passing, Core, fresh_name}
use Rattle.round_trip.proofs.Machine.{Runs, Any, Misses, word, act, line, skip}
use Rattle.round_trip.proofs.Docs.{onto}
use Rattle.round_trip.proofs.Types.{a-type}
use Rattle.round_trip.proofs.Values.{name_text, named, param_of, AreBelow, new-name, next-up, below-one}
use Rattle.round_trip.proofs.Segments.{mark}
use Rattle.module_grammar.specs.Rules.{block_param, type_of_param, part, line as line_of}
use Rattle.mlir_print.specs.Forms.{param}
use Rattle.round_trip.proofs.Params.{IsFresh, firsts, seconds, with_params, param-is, param-fits, fresh-more, params-none, params-more}
use Rattle.module_grammar.proofs.Lists.{last_given}

-- ---- parameters of a function

abbrev with_typed : Core → List (ValueNo × Ty) → Core
with_typed c ps = record (with_params c ps) { read = [] }

module _ {level : Level} {m : Module} where
  typed-on : {k : List Symbol} (c : Core) (ws : List Word) (p : ValueNo × Ty) → p.0.0 ≡ c.next → c.next < 2 ^ 32 - 1
      → c.read ≡ [] → IsWritten p.1 → c.passing.last.1 ≡ name_text p.0
      → Any level m k (with_typed c (p ∷ [])) ws
      → Runs level m (type_of_param ++ k) c (mark 58 ∷ onto (type_doc p.1) ws)
  typed-on {k} c ws p e h none written is runs =
      act refl (subst (λ (x : Core). Runs level m (symbol.Word (class.Byte 58) ∷ symbol.Rule rule.Type ∷ symbol.Do act.ParamType ∷ k) x (mark 58 ∷ onto (type_doc p.1) ws))
      (sym (param-is c p.0 ty.Untyped e h is))
      (word refl (a-type p.1 written (λ y.
      let all : Core = with_typed c (p ∷ []) in
      let given : last_typed (c.op.params ++ param_of (p.0, ty.Untyped) ∷ []) (first_type (c.read ++ p.1 ∷ [])) ≡ c.op.params ++ param_of p ∷ [] =
      last_given c.op.params (param_of (p.0, ty.Untyped)) (first_type (c.read ++ p.1 ∷ []))
      ∙ ap (λ (l : List Ty). c.op.params ++ param_of (p.0, first_type (l ++ p.1 ∷ [])) ∷ []) none in
      act refl (subst (λ (x : Core). Runs level m k x ws) (sym (ap (λ (xs : List Param). record all { passing = y; op = record (all.op) { params = xs } }) given)) (runs y))))))

  more-typed : {k : List Symbol} (ps : List (ValueNo × Ty)) (c : Core) (ws : List Word) → NumberOn c.next (firsts ps) → IsFresh c → c.read ≡ [] → AreWritten (seconds ps)
      → Any level m k (with_typed c ps) (mark 41 ∷ ws)
      → Runs level m (symbol.Rule rule.MoreParams ∷ k) c (onto (more param ps) (mark 41 ∷ ws))
  more-typed {k} [] c ws on fresh none written runs =
      skip _ refl refl (subst (λ (x : Core). Runs level m k x (mark 41 ∷ ws))
      (ap (λ (x : Core). record x { read = [] }) (params-none c) ∙ ap (λ (l : List Ty). record c { read = l }) (sym none)) (runs c.passing))
  more-typed {k} (p ∷ ps) c ws on fresh none written runs =
      line _ refl (word (rw (param-fits c p.0 on.0 on.1 fresh) refl) (typed-on _ _ p on.0 on.1 none written.0 refl (λ q.
      skip (onto (more param ps) (mark 41 ∷ ws)) refl (no-dict ps ws) (more-typed ps _ ws on.2 (fresh-more c p.0 p.1 fresh on.0) refl written.1
      (λ r. subst (λ (x : Core). Runs level m k (record x { read = []; passing = r }) (mark 41 ∷ ws)) (sym (params-more c p ps)) (runs r))))))
    where
      no-dict : (ps : List (ValueNo × Ty)) (ws : List Word) → Misses level rule.DroppedDict c (onto (more param ps) (mark 41 ∷ ws))
      no-dict [] ws = refl
      no-dict (p ∷ ps) ws = refl

  pub all-typed : {k : List Symbol} (ps : List (ValueNo × Ty)) (c : Core) (ws : List Word) → NumberOn c.next (firsts ps) → IsFresh c → c.read ≡ [] → AreWritten (seconds ps)
      → Any level m k (with_typed c ps) (mark 41 ∷ ws)
      → Runs level m (symbol.Rule rule.Params ∷ k) c (onto (commas param ps) (mark 41 ∷ ws))
  all-typed {k} [] c ws on fresh none written runs =
      skip _ refl refl (subst (λ (x : Core). Runs level m k x (mark 41 ∷ ws))
      (ap (λ (x : Core). record x { read = [] }) (params-none c) ∙ ap (λ (l : List Ty). record c { read = l }) (sym none)) (runs c.passing))
  all-typed {k} (p ∷ ps) c ws on fresh none written runs =
      line (line_of class.Param (type_of_param ++ part rule.DroppedDict ++ part rule.MoreParams)) (rw (param-fits c p.0 on.0 on.1 fresh) refl) (typed-on _ _ p on.0 on.1 none written.0 refl (λ q.
      skip (onto (more param ps) (mark 41 ∷ ws)) refl (no-dict ps ws) (more-typed ps _ ws on.2 (fresh-more c p.0 p.1 fresh on.0) refl written.1
      (λ r. subst (λ (x : Core). Runs level m k (record x { read = []; passing = r }) (mark 41 ∷ ws)) (sym (params-more c p ps)) (runs r)))))
    where
      no-dict : (ps : List (ValueNo × Ty)) (ws : List Word) → Misses level rule.DroppedDict c (onto (more param ps) (mark 41 ∷ ws))
      no-dict [] ws = refl
      no-dict (p ∷ ps) ws = refl

-- ---- parameters that a region shows

abbrev pub with_block : Core → List (ValueNo × Ty) → Core
with_block c ps = record c {
  body = record (c.body) { params = c.body.params ++ map param_of ps };
  visible = c.visible ++ map named (firsts ps);
  next = c.next + length ps;
  read = [];
}

block-none : (c : Core) → c.read ≡ [] → with_block c [] ≡ c
block-none c none =
    ap₂ (λ (xs : List Param) (n : ℕ). record (with_block c []) { body = record ((with_block c []).body) { params = xs }; next = n }) (append-nil c.body.params) (omega arith)
    ∙ ap₂ (λ (xs : List Name) (l : List Ty). record c { visible = xs; read = l }) (append-nil c.visible) (sym none)

block-more : (c : Core) (p : ValueNo × Ty) (ps : List (ValueNo × Ty)) → with_block (with_block c (p ∷ [])) ps ≡ with_block c (p ∷ ps)
block-more c p ps =
    let e : c.next + 1 + length ps ≡ c.next + length (p ∷ ps) = omega arith in
    let all : Core = with_block c (p ∷ ps) in
    ap₂ (λ (xs : List Param) (n : ℕ). record all { body = record (all.body) { params = xs }; visible = (c.visible ++ named p.0 ∷ []) ++ map named (firsts ps); next = n })
    (append_assoc c.body.params (param_of p ∷ []) (map param_of ps)) e
    ∙ ap (λ (xs : List Name). record all { visible = xs }) (append_assoc c.visible (named p.0 ∷ []) (map named (firsts ps)))

block-param-is : (c : Core) (v : ValueNo) (rest : List Name → List Param → ℕ → Core) → v.0 ≡ c.next → c.next < 2 ^ 32 - 1
    → rest (c.visible ++ fresh_name (name_text v) c.next ∷ []) (c.body.params ++ record { name = fresh_name (name_text v) c.next; ty = ty.Untyped } ∷ []) (number_up c.next 1)
    ≡ rest (c.visible ++ named v ∷ []) (c.body.params ++ param_of (v, ty.Untyped) ∷ []) (c.next + 1)
block-param-is c v rest e h =
    ap₂ (λ (i n : ℕ). rest (c.visible ++ fresh_name (name_text v) i ∷ []) (c.body.params ++ record { name = fresh_name (name_text v) i; ty = ty.Untyped } ∷ []) n) (sym e) (next-up c.next h)

module _ {level : Level} {m : Module} where
  a-block : {k : List Symbol} (c : Core) (ws : List Word) (p : ValueNo × Ty) → p.0.0 ≡ c.next → c.next < 2 ^ 32 - 1
      → AreBelow c.next c.visible → c.op.params ≡ [] → c.read ≡ [] → IsWritten p.1
      → Any level m k (with_block c (p ∷ [])) ws
      → Runs level m (block_param ++ k) c (onto (param p) ws)
  a-block {k} c ws p e h below no_params none written runs =
      let here : Passing = record (c.passing) { last = (kind.ValueName, name_text p.0) } in
      let new : is_named (c.visible ++ param_names c.op.params) (name_text p.0) ≡ false =
      ap (λ (xs : List Param). is_named (c.visible ++ param_names xs) (name_text p.0)) no_params
      ∙ ap (λ (xs : List Name). is_named xs (name_text p.0)) (append-nil c.visible) ∙ new-name c.next c.visible p.0 below (omega arith) (omega arith) in
      word (rw new refl) (act refl
      (subst (λ (x : Core). Runs level m (symbol.Word (class.Byte 58) ∷ symbol.Rule rule.Type ∷ symbol.Do act.BlockParamType ∷ k) x (mark 58 ∷ onto (type_doc p.1) ws))
      (sym (block-param-is c p.0 (λ xs ps n. record c { passing = here; visible = xs; body = record (c.body) { params = ps }; next = n }) e h))
      (word refl (a-type p.1 written (λ y.
      let all : Core = with_block c (p ∷ []) in
      let given : last_typed (c.body.params ++ param_of (p.0, ty.Untyped) ∷ []) (first_type (c.read ++ p.1 ∷ [])) ≡ c.body.params ++ param_of p ∷ [] =
      last_given c.body.params (param_of (p.0, ty.Untyped)) (first_type (c.read ++ p.1 ∷ []))
      ∙ ap (λ (l : List Ty). c.body.params ++ param_of (p.0, first_type (l ++ p.1 ∷ [])) ∷ []) none in
      act refl (subst (λ (x : Core). Runs level m k x ws) (sym (ap (λ (xs : List Param). record all { passing = y; body = record (all.body) { params = xs } }) given)) (runs y)))))))

  more-block : {k : List Symbol} (ps : List (ValueNo × Ty)) (c : Core) (ws : List Word) → NumberOn c.next (firsts ps) → AreBelow c.next c.visible
      → c.op.params ≡ [] → c.read ≡ [] → AreWritten (seconds ps)
      → Any level m k (with_block c ps) (mark 41 ∷ ws)
      → Runs level m (symbol.Rule rule.MoreBlockParams ∷ k) c (onto (more param ps) (mark 41 ∷ ws))
  more-block {k} [] c ws on below no_params none written runs =
      skip _ refl refl (subst (λ (x : Core). Runs level m k x (mark 41 ∷ ws)) (block-none c none) (runs c.passing))
  more-block {k} (p ∷ ps) c ws on below no_params none written runs =
      line _ refl (a-block _ (onto (more param ps) (mark 41 ∷ ws)) p on.0 on.1 below no_params none written.0 (λ q.
      more-block ps _ ws on.2 (below-one c.next c.visible p.0 below on.0) no_params refl written.1
      (λ r. subst (λ (x : Core). Runs level m k (record x { passing = r }) (mark 41 ∷ ws)) (sym (block-more c p ps)) (runs r))))

  -- the line that a region's parameters stand in, where it has any
  pub block-params : {k : List Symbol} (p : ValueNo × Ty) (ps : List (ValueNo × Ty)) (c : Core) (ws : List Word) → NumberOn c.next (firsts (p ∷ ps)) → AreBelow c.next c.visible
      → c.op.params ≡ [] → c.read ≡ [] → AreWritten (seconds (p ∷ ps))
      → Any level m k (with_block c (p ∷ ps)) ws
      → Runs level m (symbol.Rule rule.BlockParams ∷ k) c ((kind.BlockName, codes "^b") ∷ mark 40 ∷ onto (commas param (p ∷ ps)) (mark 41 ∷ mark 58 ∷ ws))
  block-params {k} p ps c ws on below no_params none written runs =
      line _ refl (word refl (a-block _ (onto (more param ps) (mark 41 ∷ mark 58 ∷ ws)) p on.0 on.1 below no_params none written.0 (λ q.
      more-block ps _ (mark 58 ∷ ws) on.2 (below-one c.next c.visible p.0 below on.0) no_params refl written.1
      (λ r. word refl (word refl (subst (λ (x : Core). Runs level m k (record x { passing = record r { last = mark 58 } }) ws) (sym (block-more c p ps)) (runs _)))))))
