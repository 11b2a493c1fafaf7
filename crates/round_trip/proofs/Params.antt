-- Parameters are read as new names, with the types that are written for them.
use Rattle.std.proofs.Common.{◌≡◌, ◌<◌, ℕ, zero, suc, ◌+◌, ◌-◌, ◌^◌, false, List, [], ◌∷◌, ◌++◌, map, length, replicate, refl, sym, ap, ap₂, subst, ◌∙◌, append_assoc, append-nil, arith}
use Rattle.mlir_lex.specs.declared.kinds.TokenKind.TheVariants as kind
use Rattle.op_table.specs.declared.rows.Level.{Level}
use Rattle.ir_forms.specs.declared.types.Ty.{Ty}
use Rattle.ir_forms.specs.declared.types.Ty.TheVariants as ty
use Rattle.ir_forms.specs.declared.ops.Module.{Module}
use Rattle.ir_forms.specs.declared.ops.ValueNo.{ValueNo}
use Rattle.module_grammar.specs.declared.state.Name.{Name}
use Rattle.module_grammar.specs.declared.state.Param.{Param}
use Rattle.module_grammar.specs.declared.symbols.Class.TheVariants as class
use Rattle.module_grammar.specs.declared.symbols.Rule.TheVariants as rule
use Rattle.module_grammar.specs.declared.symbols.Act.TheVariants as act
use Rattle.module_grammar.specs.declared.symbols.Symbol.{Symbol}
use Rattle.module_grammar.specs.declared.symbols.Symbol.TheVariants as symbol
use Rattle.module_grammar.specs.State.{is_named, param_names, typed_by as typed_params}
use Rattle.module_grammar.specs.Rules.{init}
use Rattle.mlir_print.specs.Docs.{more}
use Rattle.mlir_print.specs.Tokens.{value}
use Rattle.mlir_print.specs.Forms.{more_inits, inits, name_of_param}
use Rattle.mlir_print.specs.Printable.{NumberOn, typed_by}
use Rattle.round_trip.proofs.Core.{Word, Core, fresh_name, one_param}
use Rattle.round_trip.proofs.Machine.{Runs, Any, word, act, line, stop-skip}
use Rattle.round_trip.proofs.Docs.{onto, Stops, Plain, stops-plain}
use Rattle.round_trip.proofs.Values.{name_text, named, param_of, Finds, AreBelow, new-name, next-up, below-one}
use Rattle.round_trip.proofs.Segments.{mark, a-use}

-- the open operation has these parameters and operands too
abbrev pub with_inits : Core → List (ValueNo × Ty) → List ValueNo → Core
with_inits c ps vs = record c {
  op = record (c.op) { params = c.op.params ++ map param_of ps; operands = c.op.operands ++ vs };
  next = c.next + length ps;
}

abbrev pub with_params : Core → List (ValueNo × Ty) → Core
with_params c ps = record c { op = record (c.op) { params = c.op.params ++ map param_of ps }; next = c.next + length ps }

-- no type is known yet
abbrev pub untyped : List (ValueNo × Ty) → List (ValueNo × Ty)
untyped ps = map (λ p. (p.0, ty.Untyped)) ps

abbrev pub firsts : List (ValueNo × Ty) → List ValueNo
firsts ps = map (λ p. p.0) ps

abbrev pub seconds : List (ValueNo × Ty) → List Ty
seconds ps = map (λ p. p.1) ps

-- each name that is visible or that of a parameter is below the next value's number
abbrev pub IsFresh : Core → Type 0
IsFresh c = AreBelow c.next (c.visible ++ param_names c.op.params)

pub names-pushed : (ps : List Param) (p : Param) → param_names (ps ++ p ∷ []) ≡ param_names ps ++ p.name ∷ []
names-pushed [] p = refl
names-pushed (q ∷ ps) p = ap (λ (l : List Name). q.name ∷ l) (names-pushed ps p)

pub fresh-more : (c : Core) (v : ValueNo) (t : Ty) → IsFresh c → v.0 ≡ c.next → IsFresh (with_params c ((v, t) ∷ []))
fresh-more c v t fresh e =
    let b = below-one c.next (c.visible ++ param_names c.op.params) v fresh e in
    subst (λ (ns : List Name). AreBelow (c.next + 1) ns)
    (append_assoc c.visible (param_names c.op.params) (named v ∷ []) ∙ ap (λ (ns : List Name). c.visible ++ ns) (sym (names-pushed c.op.params (param_of (v, t))))) b

pub param-is : (c : Core) (v : ValueNo) (t : Ty) → v.0 ≡ c.next → c.next < 2 ^ 32 - 1 → c.passing.last.1 ≡ name_text v
    → one_param t c ≡ with_params c ((v, t) ∷ [])
param-is c v t e h is =
    ap (λ (text : List ℕ). one_param t (record c { passing = record (c.passing) { last = (c.passing.last.0, text) } })) is
    ∙ ap₂ (λ (i n : ℕ). record c {
      passing = record (c.passing) { last = (c.passing.last.0, name_text v) };
      op = record (c.op) { params = c.op.params ++ record { name = fresh_name (name_text v) i; ty = t } ∷ [] };
      next = n;
    }) (sym e) (next-up c.next h)
    ∙ ap (λ (text : List ℕ). record (with_params c ((v, t) ∷ [])) { passing = record (c.passing) { last = (c.passing.last.0, text) } }) (sym is)

pub param-fits : (c : Core) (v : ValueNo) → v.0 ≡ c.next → c.next < 2 ^ 32 - 1 → IsFresh c → is_named (c.visible ++ param_names c.op.params) (name_text v) ≡ false
param-fits c v e h fresh = new-name c.next (c.visible ++ param_names c.op.params) v fresh (omega arith) (omega arith)

module _ {level : Level} {m : Module} where
  pub a-param : {k : List Symbol} (c : Core) (ws : List Word) (v : ValueNo) → v.0 ≡ c.next → c.next < 2 ^ 32 - 1 → IsFresh c
      → Any level m k (with_params c ((v, ty.Untyped) ∷ [])) ws
      → Runs level m (symbol.Word class.Param ∷ symbol.Do act.Param ∷ k) c ((kind.ValueName, name_text v) ∷ ws)
  a-param {k} c ws v e h fresh runs =
      let now : Core = record c { passing = record (c.passing) { last = (kind.ValueName, name_text v) } } in
      word (rw (param-fits c v e h fresh) refl) (act refl (subst (λ (x : Core). Runs level m k x ws) (sym (param-is now v ty.Untyped e h refl)) (runs _)))

  pub an-index : {k : List Symbol} (c : Core) (ws : List Word) (v : ValueNo) → v.0 ≡ c.next → c.next < 2 ^ 32 - 1 → IsFresh c
      → Any level m k (with_params c ((v, ty.Index) ∷ [])) ws
      → Runs level m (symbol.Word class.Param ∷ symbol.Do act.IndexParam ∷ k) c ((kind.ValueName, name_text v) ∷ ws)
  an-index {k} c ws v e h fresh runs =
      let now : Core = record c { passing = record (c.passing) { last = (kind.ValueName, name_text v) } } in
      word (rw (param-fits c v e h fresh) refl) (act refl (subst (λ (x : Core). Runs level m k x ws) (sym (param-is now v ty.Index e h refl)) (runs _)))

-- ---- lists of parameters

inits-none : (c : Core) → with_inits c [] [] ≡ c
inits-none c =
    ap₂ (λ (xs : List Param) (n : ℕ). record c { op = record (c.op) { params = xs; operands = c.op.operands ++ [] }; next = n }) (append-nil c.op.params) (omega arith)
    ∙ ap (λ (vs : List ValueNo). record c { op = record (c.op) { operands = vs } }) (append-nil c.op.operands)

inits-more : (c : Core) (p : ValueNo × Ty) (ps : List (ValueNo × Ty)) (v : ValueNo) (vs : List ValueNo)
    → with_inits (with_inits c (p ∷ []) (v ∷ [])) ps vs ≡ with_inits c (p ∷ ps) (v ∷ vs)
inits-more c p ps v vs =
    let e : c.next + 1 + length ps ≡ c.next + length (p ∷ ps) = omega arith in
    ap₂ (λ (xs : List Param) (n : ℕ). record c { op = record (c.op) { params = xs; operands = (c.op.operands ++ v ∷ []) ++ vs }; next = n })
    (append_assoc c.op.params (param_of p ∷ []) (map param_of ps)) e
    ∙ ap (λ (us : List ValueNo). record (with_params c (p ∷ ps)) { op = record ((with_params c (p ∷ ps)).op) { operands = us } }) (append_assoc c.op.operands (v ∷ []) vs)

pub params-none : (c : Core) → with_params c [] ≡ c
params-none c = ap₂ (λ (xs : List Param) (n : ℕ). record c { op = record (c.op) { params = xs }; next = n }) (append-nil c.op.params) (omega arith)

pub params-more : (c : Core) (p : ValueNo × Ty) (ps : List (ValueNo × Ty)) → with_params (with_params c (p ∷ [])) ps ≡ with_params c (p ∷ ps)
params-more c p ps =
    let e : c.next + 1 + length ps ≡ c.next + length (p ∷ ps) = omega arith in
    ap₂ (λ (xs : List Param) (n : ℕ). record c { op = record (c.op) { params = xs }; next = n }) (append_assoc c.op.params (param_of p ∷ []) (map param_of ps)) e

plain-inits : (ps : List (ValueNo × Ty)) (vs : List ValueNo) (ws : List Word) → Stops ws → Plain (onto (more_inits ps vs) ws)
plain-inits [] vs ws stops = stops-plain ws stops
plain-inits (p ∷ ps) [] ws stops = stops-plain ws stops
plain-inits (p ∷ ps) (v ∷ vs) ws stops = refl

module _ {level : Level} {m : Module} where
  -- `%a = %x`
  an-init : {k : List Symbol} (c : Core) (ws : List Word) (p : ValueNo × Ty) (v : ValueNo) → p.0.0 ≡ c.next → c.next < 2 ^ 32 - 1 → IsFresh c
      → Finds c.visible (v ∷ []) → Plain ws
      → Any level m k (with_inits c (untyped (p ∷ [])) (v ∷ [])) ws
      → Runs level m (init ++ k) c ((kind.ValueName, name_text p.0) ∷ mark 61 ∷ onto (value v) ws)
  an-init c ws p v e h fresh f plain runs =
      a-param c _ p.0 e h fresh (λ q. word refl (a-use v ws f.0 plain (λ r. runs r)))

  some-inits : {k : List Symbol} (ps : List (ValueNo × Ty)) (vs : List ValueNo) (c : Core) (ws : List Word) → length vs ≡ length ps → NumberOn c.next (firsts ps) → IsFresh c
      → Finds c.visible vs → Stops ws
      → Any level m k (with_inits c (untyped ps) vs) ws
      → Runs level m (symbol.Rule rule.MoreInits ∷ k) c (onto (more_inits ps vs) ws)
  some-inits {k} [] [] c ws n on fresh f stops runs =
      stop-skip _ ws refl (λ c w. refl) stops (subst (λ (x : Core). Runs level m k x ws) (inits-none c) (runs c.passing))
  some-inits [] (v ∷ vs) c ws n on fresh f stops runs = absurd (omega arith)
  some-inits (p ∷ ps) [] c ws n on fresh f stops runs = absurd (omega arith)
  some-inits {k} (p ∷ ps) (v ∷ vs) c ws n on fresh f stops runs =
      line _ refl (an-init _ (onto (more_inits ps vs) ws) p v on.0 on.1 fresh (f.0, tt) (plain-inits ps vs ws stops)
      (λ q. some-inits ps vs _ ws (omega arith) on.2 (fresh-more c p.0 ty.Untyped fresh on.0) f.1 stops
      (λ r. subst (λ (x : Core). Runs level m k (record x { passing = r }) ws) (sym (inits-more c (p.0, ty.Untyped) (untyped ps) v vs)) (runs r))))

  -- one or more of them
  pub more-inits : {k : List Symbol} (p : ValueNo × Ty) (ps : List (ValueNo × Ty)) (v : ValueNo) (vs : List ValueNo) (c : Core) (ws : List Word)
      → length vs ≡ length ps → NumberOn c.next (firsts (p ∷ ps)) → IsFresh c → Finds c.visible (v ∷ vs) → Stops ws
      → Any level m k (with_inits c (untyped (p ∷ ps)) (v ∷ vs)) ws
      → Runs level m (init ++ (symbol.Rule rule.MoreInits ∷ k)) c (onto (inits (p ∷ ps) (v ∷ vs)) ws)
  more-inits {k} p ps v vs c ws n on fresh f stops runs =
      an-init c (onto (more_inits ps vs) ws) p v on.0 on.1 fresh (f.0, tt) (plain-inits ps vs ws stops)
      (λ q. some-inits ps vs _ ws n on.2 (fresh-more c p.0 ty.Untyped fresh on.0) f.1 stops
      (λ r. subst (λ (x : Core). Runs level m k (record x { passing = r }) ws) (sym (inits-more c (p.0, ty.Untyped) (untyped ps) v vs)) (runs r)))

  -- more index parameters
  pub more-indices : {k : List Symbol} (ps : List (ValueNo × Ty)) (n : ℕ) (c : Core) (ws : List Word) → seconds ps ≡ replicate n ty.Index
      → NumberOn c.next (firsts ps) → IsFresh c → Stops ws
      → Any level m k (with_params c ps) ws
      → Runs level m (symbol.Rule rule.MoreIndexParams ∷ k) c (onto (more name_of_param ps) ws)
  more-indices {k} [] n c ws e on fresh stops runs =
      stop-skip _ ws refl (λ c w. refl) stops (subst (λ (x : Core). Runs level m k x ws) (params-none c) (runs c.passing))
  more-indices (p ∷ ps) zero c ws e on fresh stops runs = absurd cc
  more-indices {k} (p ∷ ps) (suc n) c ws e on fresh stops runs =
      let first : p.1 ≡ ty.Index = cc in
      let rest : seconds ps ≡ replicate n ty.Index = cc in
      let same : (p.0, ty.Index) ≡ p = ap (λ (t : Ty). (p.0, t)) (sym first) in
      line _ refl (an-index _ (onto (more name_of_param ps) ws) p.0 on.0 on.1 fresh
      (λ q. more-indices ps n _ ws rest on.2 (fresh-more c p.0 ty.Index fresh on.0) stops
      (λ r. subst (λ (x : Core). Runs level m k (record x { passing = r }) ws)
      (sym (params-more c (p.0, ty.Index) ps ∙ ap (λ (x : ValueNo × Ty). with_params c (x ∷ ps)) same)) (runs r))))

-- ---- types of parameters

pub params-typed : (ps : List (ValueNo × Ty)) (ts : List Ty) → seconds ps ≡ typed_by (length ps) ts
    → typed_params (map param_of (untyped ps)) ts ≡ map param_of ps
params-typed [] ts e = refl
params-typed (p ∷ ps) [] e =
    let first : p.1 ≡ ty.Untyped = cc in
    let rest : seconds ps ≡ typed_by (length ps) [] = cc in
    ap₂ (λ (t : Ty) (l : List Param). param_of (p.0, t) ∷ l) (sym first) (params-typed ps [] rest)
params-typed (p ∷ ps) (t ∷ ts) e =
    let first : p.1 ≡ t = cc in
    let rest : seconds ps ≡ typed_by (length ps) ts = cc in
    ap₂ (λ (t : Ty) (l : List Param). param_of (p.0, t) ∷ l) (sym first) (params-typed ps ts rest)
