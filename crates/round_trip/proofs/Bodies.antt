-- Operations in a body: where one begins, with results or without, and where the body ends.
use Rattle.std.proofs.Common.{◌≡◌, ◌<◌, ◌≤◌, ℕ, ◌+◌, ◌-◌, ◌^◌, Bool, true, false, not, ◌&&◌, ◌||◌, List, [], ◌∷◌, ◌++◌, map, Some, None, refl, sym, ap, ap₂, subst, ◌∙◌, append_assoc, append-nil, arith}
use Rattle.mlir_lex.specs.declared.kinds.TokenKind.TheVariants as kind
use Rattle.op_table.specs.declared.kind.OpKind.{OpKind}
use Rattle.op_table.specs.declared.rows.Level.{Level}
use Rattle.op_table.specs.Rows.{name_of}
use Rattle.ir_forms.specs.declared.ops.Module.{Module}
use Rattle.ir_forms.specs.declared.ops.ValueNo.{ValueNo}
use Rattle.module_grammar.specs.declared.state.Name.{Name}
use Rattle.module_grammar.specs.declared.symbols.Class.TheVariants as class
use Rattle.module_grammar.specs.declared.symbols.Rule.TheVariants as rule
use Rattle.module_grammar.specs.declared.symbols.Act.TheVariants as act
use Rattle.module_grammar.specs.declared.symbols.Symbol.{Symbol}
use Rattle.module_grammar.specs.declared.symbols.Symbol.TheVariants as symbol
use Rattle.module_grammar.specs.State.{is_named}
use Rattle.module_grammar.specs.Tokens.{kind_among}
use Rattle.module_grammar.specs.Rules.{ends, kinds_at, forms_then, form, doing, part, equals, line as line_of}
use Rattle.mlir_print.specs.Docs.{more}
use Rattle.mlir_print.specs.Tokens.{value}
use Rattle.mlir_print.specs.Printable.{NumberOn}
use Rattle.round_trip.proofs.Core.{Word, Passing, Core, all_results, begun_op, ended_op}
use Rattle.round_trip.proofs.Machine.{Runs, Any, first_fit, none_of, holds, all_distinct, all_new, word, act, line, skip}
use Rattle.round_trip.proofs.Docs.{onto}
use Rattle.round_trip.proofs.Values.{name_text, AreBelow, new-name, other-text, below-left, below-right}
use Rattle.round_trip.proofs.Segments.{mark}
use Rattle.round_trip.proofs.Shapes.{NextIs}
use Rattle.round_trip.proofs.Tails.{no-dict, no-place}
use Rattle.round_trip.proofs.OpNames.{form-line, name-next}
use Rattle.round_trip.proofs.Results.{with_results, result-is, results-more, no-results, results}

-- The words go on in a body, also where an operation is open whose end is still to come.
pub record Goes (level : Level) (m : Module) (k : List Symbol) (c : Core) (ws : List Word) : Type 0 where
  pub body : Any level m (symbol.Rule rule.Body ∷ k) c ws
  pub held : (o : Core) → o.held ≡ [] → ((p : Passing) → record (ended_op o) { passing = p } ≡ record c { passing = p })
      → Any level m (symbol.Rule rule.Held ∷ ends ++ k) o ws
  pub next : NextIs ws

-- a mark begins no form
no-form : (before ss : List Symbol) (ks : List OpKind) (b : ℕ) (c : Core) → first_fit (forms_then before ss ks) c (mark b) ≡ None
no-form before ss [] b c = refl
no-form before ss (k ∷ ks) b c = no-form before ss ks b c

-- ---- new names

none-new : (n j : ℕ) (xs : List Name) (vs : List ValueNo) → AreBelow n xs → n ≤ j → NumberOn j vs → none_of xs (map name_text vs) ≡ true
none-new n j xs [] b h on = refl
none-new n j xs (v ∷ vs) b h on =
    let e : v.0 ≡ j = on.0 in
    let small : j < 2 ^ 32 - 1 = on.1 in
    ap₂ (λ (x y : Bool). not x && y) (new-name n xs v b (omega arith) (omega arith)) (none-new n (j + 1) xs vs b (omega arith) on.2)

holds-new : (j : ℕ) (vs : List ValueNo) (u : ValueNo) → u.0 < j → u.0 < 2 ^ 32 - 1 → NumberOn j vs → holds (map name_text vs) (name_text u) ≡ false
holds-new j [] u h i on = refl
holds-new j (v ∷ vs) u h i on =
    let e : v.0 ≡ j = on.0 in
    let small : j < 2 ^ 32 - 1 = on.1 in
    ap₂ (λ (x y : Bool). x || y) (other-text v u (omega arith) i (λ same. omega arith)) (holds-new (j + 1) vs u (omega arith) i on.2)

distinct-new : (j : ℕ) (vs : List ValueNo) → NumberOn j vs → all_distinct (map name_text vs) ≡ true
distinct-new j [] on = refl
distinct-new j (v ∷ vs) on =
    let e : v.0 ≡ j = on.0 in
    let small : j < 2 ^ 32 - 1 = on.1 in
    ap₂ (λ (x y : Bool). not x && y) (holds-new (j + 1) vs v (omega arith) (omega arith) on.2) (distinct-new (j + 1) vs on.2)

-- the names that were held, as results of the operation that is open
held-results : (vs : List ValueNo) (c : Core) → NumberOn c.next vs → all_results (map name_text vs) c ≡ with_results c vs
held-results [] c on = sym (no-results c)
held-results (v ∷ vs) c on =
    ap (λ (x : Core). all_results (map name_text vs) x) (result-is v c on.0 on.1)
    ∙ held-results vs (with_results c (v ∷ [])) on.2 ∙ results-more v vs c

abbrev pub kinded : OpKind → Core → Core
kinded kd c = record c { op = record (c.op) { kind = kd } }

module _ {level : Level} {m : Module} {k : List Symbol} (c : Core) (ws : List Word) where
  -- ---- the end of a body

  pub closing : Any level m k c (mark 125 ∷ ws) → Goes level m k c (mark 125 ∷ ws)
  closing runs = record {
    body = λ p. ends-here (runs p);
    held = λ o none is p.
        skip _ refl refl (skip _ refl refl (skip _ refl refl (act refl
        (subst (λ (x : Core). Runs level m (symbol.Rule rule.Body ∷ k) x (mark 125 ∷ ws)) (sym (is p)) (ends-here (runs p))))));
    next = record { stops = refl; no_dict = refl; no_block = refl; no_place = refl; no_else = refl };
  }
    where
      ends-here : {p : Passing} → Runs level m k (record c { passing = p }) (mark 125 ∷ ws) → Runs level m (symbol.Rule rule.Body ∷ k) (record c { passing = p }) (mark 125 ∷ ws)
      ends-here {p} r = skip _ refl (rw (no-form (doing act.BeginOp) ends (kinds_at level) 125 (record c { passing = p })) refl) r

  -- ---- an operation without results

  pub unnamed : (kd : OpKind) → kind_among (kinds_at level) (name_of kd) ≡ Some kd
      → Any level m (form kd ++ (ends ++ k)) (kinded kd (begun_op c)) ws → Goes level m k c ((kind.Name, name_of kd) ∷ ws)
  unnamed kd stands runs = record {
    body = λ p. begins (runs _);
    held = λ o none is p.
        skip _ refl refl (no-dict ((kind.Name, name_of kd) ∷ ws) (name-next kd) (no-place ((kind.Name, name_of kd) ∷ ws) (name-next kd) (act refl
        (subst (λ (x : Core). Runs level m (symbol.Rule rule.Body ∷ k) x ((kind.Name, name_of kd) ∷ ws)) (sym (is p)) (begins (runs _))))));
    next = name-next kd;
  }
    where
      begins : {p : Passing} → Runs level m (form kd ++ (ends ++ k)) (record (kinded kd (begun_op c)) { passing = record p { last = (kind.Name, name_of kd) } }) ws
          → Runs level m (symbol.Rule rule.Body ∷ k) (record c { passing = p }) ((kind.Name, name_of kd) ∷ ws)
      begins {p} r =
          line _ (form-line (doing act.BeginOp) ends (kinds_at level) (name_of kd) kd (record c { passing = p }) stands)
          (act refl (act refl (rw (append_assoc (form kd) ends k) r)))

  -- ---- an operation with results

  -- its form, behind the results
  pub form-on : (o : Core) (kd : OpKind) → kind_among (kinds_at level) (name_of kd) ≡ Some kd
      → Any level m (form kd ++ (ends ++ k)) (kinded kd o) ws → Any level m (symbol.Rule rule.Form ∷ ends ++ k) o ((kind.Name, name_of kd) ∷ ws)
  form-on o kd stands runs p =
      line _ (form-line [] [] (kinds_at level) (name_of kd) kd (record o { passing = p }) stands)
      (act refl (rw (append-nil (form kd)) (runs _)))

  hold-more : (vs : List ValueNo) (o : Core)
      → Any level m (symbol.Rule rule.AfterHeld ∷ ends ++ k) (record o { held = o.held ++ map name_text vs }) (mark 61 ∷ ws)
      → Runs level m (symbol.Rule rule.AfterHeld ∷ ends ++ k) o (onto (more value vs) (mark 61 ∷ ws))
  hold-more [] o runs = rw append-nil at (runs o.passing)
  hold-more (v ∷ vs) o runs = line _ refl (word refl (act refl (hold-more vs _ (λ p. rw (append_assoc o.held (name_text v ∷ []) (map name_text vs)) (runs p)))))

  -- the names that were held are the next operation's results
  held-equals : (v : ValueNo) (vs : List ValueNo) (o : Core) → c.held ≡ [] → NumberOn c.next (v ∷ vs) → AreBelow c.next c.visible
      → ((p : Passing) → record (ended_op o) { passing = p } ≡ record c { passing = p })
      → Any level m (symbol.Rule rule.Form ∷ ends ++ k) (with_results (begun_op c) (v ∷ vs)) ws
      → (q : Passing) → Runs level m (symbol.Rule rule.AfterHeld ∷ ends ++ k) (record o { held = map name_text (v ∷ vs); passing = q }) (mark 61 ∷ ws)
  held-equals v vs o calm on below is runs q =
      let names : List (List ℕ) = map name_text (v ∷ vs) in
      let after : Passing = record q { last = mark 61 } in
      let seen : AreBelow c.next (o.visible ++ o.op.results) = subst (λ (x : Core). AreBelow c.next x.visible) (sym (is q)) below in
      let new : all_new (record o { held = names; passing = q }) names ≡ true =
      ap₂ (λ (x y : Bool). x && y)
      (ap₂ (λ (x y : Bool). x && y) (none-new c.next c.next o.visible (v ∷ vs) (below-left c.next o.visible o.op.results seen) (omega arith) on)
      (none-new c.next c.next o.op.results (v ∷ vs) (below-right c.next o.visible o.op.results seen) (omega arith) on))
      (distinct-new c.next (v ∷ vs) on) in
      let here : Core = record c { passing = after } in
      let same : record (ended_op o) { held = []; passing = after } ≡ here =
      ap (λ (x : Core). record x { held = [] }) (is after) ∙ ap (λ (h : List (List ℕ)). record c { held = h; passing = after }) (sym calm) in
      let are : all_results names (begun_op (record (ended_op o) { held = []; passing = after })) ≡ with_results (begun_op here) (v ∷ vs) =
      ap (λ (x : Core). all_results names (begun_op x)) same ∙ held-results (v ∷ vs) (begun_op here) on in
      line (line_of class.HeldEquals (doing act.HeldResults ++ doing act.CountNames ++ part rule.Form)) (rw new refl)
      (act refl (subst (λ (x : Core). Runs level m (symbol.Do act.CountNames ∷ symbol.Rule rule.Form ∷ ends ++ k) x ws) (sym are) (act refl (runs after))))

  pub resulted : (v : ValueNo) (vs : List ValueNo) → c.op.results ≡ [] → c.held ≡ [] → NumberOn c.next (v ∷ vs) → AreBelow c.next c.visible
      → Any level m (symbol.Rule rule.Form ∷ ends ++ k) (with_results (begun_op c) (v ∷ vs)) ws
      → Goes level m k c ((kind.ValueName, name_text v) ∷ onto (more value vs) (mark 61 ∷ ws))
  resulted v vs none calm on below runs = record {
    body = λ p.
        let start : v.0 ≡ c.next = on.0 in
        let small : c.next < 2 ^ 32 - 1 = on.1 in
        let new : is_named (c.visible ++ c.op.results) (name_text v) ≡ false =
        rw (none, append-nil c.visible) (new-name c.next c.visible v below (omega arith) (omega arith)) in
        let seen : AreBelow c.next (c.visible ++ []) = rw (append-nil c.visible) below in
        line (line_of class.Result (doing act.BeginOp ++ doing act.Result ++ part rule.Results ++ doing act.CountNames ++ equals ++ part rule.Form ++ ends)) (rw new refl)
        (act refl (results v vs _ ws on seen refl (λ q. runs q)));
    held = λ o empty is p.
        let all : (o.held ++ name_text v ∷ []) ++ map name_text vs ≡ map name_text (v ∷ vs) = rw empty refl in
        line _ refl (act refl (hold-more vs _ (λ q.
        subst (λ (h : List (List ℕ)). Runs level m (symbol.Rule rule.AfterHeld ∷ ends ++ k) (record o { held = h; passing = q }) (mark 61 ∷ ws)) (sym all)
        (held-equals v vs o calm on below is runs q))));
    next = record { stops = refl; no_dict = refl; no_block = refl; no_place = refl; no_else = refl };
  }
