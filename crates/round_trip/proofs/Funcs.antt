-- Functions are read as what was printed, and so is the module that they make.
use Rattle.std.proofs.Common.{◌≡◌, ◌<◌, ℕ, ◌+◌, ◌^◌, Bool, true, false, cond, ◌==◌, if◌then◌else◌, List, [], ◌∷◌, ◌++◌, map, length, codes, refl, sym, ap, ap₂, subst, ◌∙◌, arith, eqb-true}
use Rattle.mlir_lex.specs.declared.kinds.TokenKind.TheVariants as kind
use Rattle.op_table.specs.declared.rows.Level.{Level}
use Rattle.ir_forms.specs.declared.types.Ty.{Ty}
use Rattle.ir_forms.specs.declared.ops.Module.{Module}
use Rattle.ir_forms.specs.declared.ops.Func.{Func}
use Rattle.ir_forms.specs.declared.ops.Region.{Region, roll-Region, roll-out-Region}
use Rattle.ir_forms.specs.declared.ops.ValueNo.{ValueNo}
use Rattle.ir_forms.specs.Ops.{ops_of}
use Rattle.module_grammar.specs.declared.state.Name.{Name}
use Rattle.module_grammar.specs.declared.state.OpenFunc.{OpenFunc}
use Rattle.module_grammar.specs.declared.symbols.Class.TheVariants as class
use Rattle.module_grammar.specs.declared.symbols.Rule.TheVariants as rule
use Rattle.module_grammar.specs.declared.symbols.Act.TheVariants as act
use Rattle.module_grammar.specs.declared.symbols.Symbol.{Symbol}
use Rattle.module_grammar.specs.declared.symbols.Symbol.TheVariants as symbol
use Rattle.module_grammar.specs.State.{as_number, up, no_op, no_body, no_func, param_names, param_value}
use Rattle.module_grammar.specs.Rules.{func}
use Rattle.mlir_print.specs.Docs.{Doc, Empty, ◌<>◌, commas, deeper, keyword}
use Rattle.mlir_print.specs.Types.{results_if_any}
use Rattle.mlir_print.specs.Tokens.{symbol as symbol_doc, is_plain, quoted}
use Rattle.mlir_print.specs.Forms.{param}
use Rattle.mlir_print.specs.Printed.{next, number_dict, func_number, printed_lines}
use Rattle.mlir_print.specs.Printable.{Scope, defining, params_of, AreBytes, AreWritten, IsPrintableFunc}
use Rattle.round_trip.proofs.Core.{Word, Core}
use Rattle.round_trip.proofs.Machine.{Runs, Any, Misses, word, act, line, skip}
use Rattle.round_trip.proofs.Docs.{onto}
use Rattle.round_trip.proofs.Strings.{symbol-back}
use Rattle.round_trip.proofs.Types.{results}
use Rattle.round_trip.proofs.Values.{shown as shown_name, param_of}
use Rattle.round_trip.proofs.Segments.{mark}
use Rattle.round_trip.proofs.Tails.{number-dict}
use Rattle.round_trip.proofs.Scopes.{IsGood, good-defining, visible-more, names-of-params, values-of-params}
use Rattle.round_trip.proofs.Params.{firsts}
use Rattle.round_trip.proofs.TypedParams.{all-typed}
use Rattle.round_trip.proofs.Regions.{Around, standing, LinesGo, no_token}
use Rattle.round_trip.proofs.OpenForms.{long-as}
use Rattle.round_trip.proofs.Ops.{prints-go}

-- between functions: those read so far, and what is left of the last one
abbrev pub top : List Func → ℕ → List Name → ℕ → Core
top funcs begun visible next = record {
  passing = no_token;
  read = [];
  visible = visible;
  next = next;
  begun = begun;
  op = no_op 0;
  body = no_body;
  outer = [];
  held = [];
  func = no_func 0;
  funcs = funcs;
}

-- a function of which this much is read
abbrev heading : List Func → ℕ → OpenFunc → List (ValueNo × Ty) → Core
heading funcs begun f ps = record (top funcs begun [] (length ps)) { func = f; op = record (no_op 0) { params = map param_of ps } }

-- ---- the parts of a function's head

module _ {level : Level} {m : Module} where
  name-case : {k : List Symbol} {c : Core} (name : List ℕ) (ws : List Word) (plain : Bool) → AreBytes name
      → Any level m k (record c { func = record (c.func) { name = name } }) ws
      → Runs level m (symbol.Rule rule.Visibility ∷ symbol.Word class.SymbolName ∷ symbol.Do act.FuncName ∷ k) c
      (onto (cond plain (Doc.Token kind.SymbolName (64 ∷ name)) (Doc.Token kind.SymbolText (64 ∷ quoted name))) ws)
  name-case name ws true are runs = skip _ refl refl (word refl (act refl (runs _)))
  name-case {k} {c} name ws false are runs =
      skip _ refl refl (word refl (act refl
      (subst (λ (n : List ℕ). Runs level m k (record c { passing = record (c.passing) { last = (kind.SymbolText, 64 ∷ quoted name) }; func = record (c.func) { name = n } }) ws)
      (sym (symbol-back name are)) (runs _))))

  a-name : {k : List Symbol} {c : Core} (name : List ℕ) (ws : List Word) → AreBytes name
      → Any level m k (record c { func = record (c.func) { name = name } }) ws
      → Runs level m (symbol.Rule rule.Visibility ∷ symbol.Word class.SymbolName ∷ symbol.Do act.FuncName ∷ k) c (onto (symbol_doc name) ws)
  a-name name ws are runs = name-case name ws (is_plain name) are runs

  -- the number of a function is read, written or not
  number-case : {k : List Symbol} (c : Core) (n place : ℕ) (ws : List Word) (same : Bool) → (n == place) ≡ same → n < 2 ^ 32 → c.func.at ≡ place
      → Any level m k (record c { func = record (c.func) { at = n } }) (mark 123 ∷ ws)
      → Runs level m (symbol.Rule rule.FuncAttributes ∷ k) c (onto (if same then Empty else keyword (codes "attributes") <> number_dict n) (mark 123 ∷ ws))
  number-case {k} c n place ws true is small at runs =
      let e : record c { func = record (c.func) { at = n } } ≡ c = ap (λ (i : ℕ). record c { func = record (c.func) { at = i } }) (eqb-true n place is ∙ sym at) in
      skip _ refl refl (subst (λ (x : Core). Runs level m k x (mark 123 ∷ ws)) e (runs c.passing))
  number-case {k} c n place ws false is small at runs =
      let low : as_number n ≡ n = omega arith in
      line _ refl (word refl (number-dict (mark 123 ∷ ws) n small (λ p number. act refl (rw number (rw low (runs _))))))

  a-number : {k : List Symbol} (c : Core) (n place : ℕ) (ws : List Word) → n < 2 ^ 32 → c.func.at ≡ place
      → Any level m k (record c { func = record (c.func) { at = n } }) (mark 123 ∷ ws)
      → Runs level m (symbol.Rule rule.FuncAttributes ∷ k) c (onto (func_number n place) (mark 123 ∷ ws))
  a-number c n place ws small at runs = number-case c n place ws (n == place) refl small at runs

no-arrow : (level : Level) (n : ℕ) (ws : List Word) (c : Core) (same : Bool) → Misses level rule.FuncResults c (onto (if same then Empty else keyword (codes "attributes") <> number_dict n) (mark 123 ∷ ws))
no-arrow level n ws c true = refl
no-arrow level n ws c false = refl

module _ {level : Level} {m : Module} where
  pub some-results : {k : List Symbol} (ts : List Ty) (c : Core) (n place : ℕ) (ws : List Word) → AreWritten ts → c.read ≡ [] → c.func.results ≡ []
      → Any level m k (record c { func = record (c.func) { results = ts }; read = [] }) (onto (func_number n place) (mark 123 ∷ ws))
      → Runs level m (symbol.Rule rule.FuncResults ∷ k) c (onto (results_if_any ts) (onto (func_number n place) (mark 123 ∷ ws)))
  some-results {k} [] c n place ws h none no_results runs =
      skip _ refl (no-arrow level n ws c (n == place)) (subst (λ (x : Core). Runs level m k x (onto (func_number n place) (mark 123 ∷ ws)))
      (ap₂ (λ (ts us : List Ty). record c { func = record (c.func) { results = ts }; read = us }) (sym no_results) (sym none)) (runs c.passing))
  some-results {k} (t ∷ ts) c n place ws h none no_results runs =
      line _ refl (results (t ∷ ts) _ _ h (λ p. act refl
      (subst (λ (us : List Ty). Runs level m k (record c { passing = p; func = record (c.func) { results = us }; read = [] }) (onto (func_number n place) (mark 123 ∷ ws)))
      (sym (ap (λ (us : List Ty). us ++ t ∷ ts) none)) (runs p))))

-- ---- a function

-- the words behind its keyword
abbrev pub func_words : Func → ℕ → List Word → List Word
func_words f place ws =
    onto (symbol_doc f.name) (mark 40 ∷ onto (commas param f.params) (mark 41 ∷ onto (results_if_any f.results) (onto (func_number f.at place)
    (mark 123 ∷ onto (printed_lines (ops_of f.body) (deeper []) place).doc (mark 125 ∷ ws)))))

-- the function's body is open, and its parameters are visible
abbrev in_body : List Func → Func → Around
in_body funcs f = record {
  params = [];
  ops = [];
  outside = 0;
  outer = [];
  func = record { name = f.name; params = map param_of f.params; results = f.results; at = f.at };
  funcs = funcs;
}

abbrev no_values : Scope
no_values = record { next = 0; seen = [] }

good-none : IsGood no_values
good-none = record { top = omega arith; under = tt }

func-is : (f : Func) → params_of f.body ≡ []
    → record {
      name = f.name;
      params = map param_value (map param_of f.params);
      results = f.results;
      body = roll-Region (record { params = []; ops = ops_of f.body });
      at = f.at;
    } ≡ f
func-is f none =
    ap₂ (λ (ps : List (ValueNo × Ty)) (r : Region). record { name = f.name; params = ps; results = f.results; body = r; at = f.at })
    (values-of-params f.params)
    (ap (λ (ps : List (ValueNo × Ty)). roll-Region (record { params = ps; ops = ops_of f.body })) (sym none) ∙ roll-out-Region f.body)

module _ {level : Level} {m : Module} {k : List Symbol} (funcs : List Func) (f : Func) (begun : ℕ) (ws : List Word) (h : IsPrintableFunc level f) where
  -- from the body's opening brace on
  body-on : ((after : ℕ) → (printed_lines (ops_of f.body) (deeper []) (as_number (up begun 1))).last ≡ as_number after → (seen : List Name) (n : ℕ)
      → Any level m k (top (funcs ++ f ∷ []) after seen n) ws)
      → Any level m (symbol.Word (class.Byte 123) ∷ symbol.Do act.OpenBody ∷ symbol.Rule rule.Body ∷ symbol.Word (class.Byte 125) ∷ symbol.Do act.EndFunc ∷ k)
      (record (top funcs (up begun 1) [] (0 + length f.params)) { func = record { name = f.name; params = []; results = f.results; at = f.at }; op = record (no_op 0) { params = map param_of f.params } })
      (mark 123 ∷ onto (printed_lines (ops_of f.body) (deeper []) (as_number (up begun 1))).doc (mark 125 ∷ ws))
  body-on runs p =
      let vs : List ValueNo = firsts f.params in
      let start : Scope = defining no_values vs in
      let a : Around = in_body funcs f in
      let now : Core = record (standing a start (up begun 1)) { passing = record p { last = mark 123 } } in
      let visible : param_names (map param_of f.params) ≡ map shown_name start.seen = names-of-params f.params ∙ visible-more [] vs in
      let lines : LinesGo level m (ops_of f.body) start h.6.0 = prints-go level m _ _ _ h.6.1 (good-defining no_values vs good-none h.5) in
      let goes = lines a (up begun 1) (as_number (up begun 1)) (deeper []) (symbol.Word (class.Byte 125) ∷ symbol.Do act.EndFunc ∷ k) ws refl (good-defining no_values vs good-none h.5)
      (λ after is_last q. word refl (act refl
      (subst (λ (g : Func). Runs level m k (record (top (funcs ++ g ∷ []) after (map shown_name h.6.0.seen) h.6.0.next) { passing = record q { last = mark 125 } }) ws)
      (sym (func-is f h.3)) (runs after is_last _ _ _)))) in
      word refl (act refl
      (subst (λ (x : Core). Runs level m (symbol.Rule rule.Body ∷ symbol.Word (class.Byte 125) ∷ symbol.Do act.EndFunc ∷ k) x
      (onto (printed_lines (ops_of f.body) (deeper []) (as_number (up begun 1))).doc (mark 125 ∷ ws)))
      (sym (ap₂ (λ (v : List Name) (n : ℕ). record now { visible = v; next = n }) visible (ap (λ (n : ℕ). 0 + n) (sym (long-as f.params f.params refl)))))
      (goes.body _)))

  pub func-on : (seen : List Name) (n : ℕ)
      → ((after : ℕ) → (printed_lines (ops_of f.body) (deeper []) (as_number (up begun 1))).last ≡ as_number after → (seen : List Name) (n : ℕ)
      → Any level m k (top (funcs ++ f ∷ []) after seen n) ws)
      → Any level m (func ++ k) (top funcs begun seen n) (func_words f (as_number (up begun 1)) ws)
  func-on seen n runs p =
      act refl (a-name f.name _ h.0 (λ q1. word refl (all-typed f.params _ _ h.5 tt refl h.1 (λ q2. word refl
      (some-results f.results _ f.at (as_number (up begun 1)) _ h.2 refl refl (λ q3.
      a-number _ f.at (as_number (up begun 1)) _ h.4 refl (body-on runs)))))))
