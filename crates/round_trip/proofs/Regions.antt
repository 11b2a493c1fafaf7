-- A region is read as what was printed: its operations, in the scope of its parameters.
use Rattle.std.proofs.Common.{◌≡◌, ℕ, ◌+◌, List, [], ◌∷◌, ◌++◌, map, take, length, None, refl, sym, ap, subst, ◌∙◌, append_assoc}
use Rattle.std.proofs.Math.Seq.{take-append_seam}
use Rattle.std.proofs.lemmas.List.{map-append}
use Rattle.mlir_lex.specs.declared.kinds.TokenKind.TheVariants as kind
use Rattle.op_table.specs.declared.rows.Level.{Level}
use Rattle.ir_forms.specs.declared.types.Ty.{Ty}
use Rattle.ir_forms.specs.declared.ops.Module.{Module}
use Rattle.ir_forms.specs.declared.ops.Func.{Func}
use Rattle.ir_forms.specs.declared.ops.Op.{Op}
use Rattle.ir_forms.specs.declared.ops.Region.{Region, roll-Region, roll-out-Region}
use Rattle.ir_forms.specs.declared.ops.ValueNo.{ValueNo}
use Rattle.ir_forms.specs.Ops.{ops_of}
use Rattle.module_grammar.specs.declared.state.Name.{Name}
use Rattle.module_grammar.specs.declared.state.Param.{Param}
use Rattle.module_grammar.specs.declared.state.OpenOp.{OpenOp}
use Rattle.module_grammar.specs.declared.state.OpenBody.{OpenBody}
use Rattle.module_grammar.specs.declared.state.OpenFunc.{OpenFunc}
use Rattle.module_grammar.specs.declared.state.Outer.{Outer}
use Rattle.module_grammar.specs.declared.state.DictEntry.TheVariants as entry
use Rattle.module_grammar.specs.declared.symbols.Class.TheVariants as class
use Rattle.module_grammar.specs.declared.symbols.Act.TheVariants as act
use Rattle.module_grammar.specs.declared.symbols.Symbol.{Symbol}
use Rattle.module_grammar.specs.declared.symbols.Symbol.TheVariants as symbol
use Rattle.module_grammar.specs.State.{as_number, no_op, param_value, body_ops, left_out, last_of, without_last}
use Rattle.module_grammar.specs.Rules.{rest_of_region, rest_of_body}
use Rattle.mlir_print.specs.Printed.{printed_lines}
use Rattle.mlir_print.specs.Printable.{Scope, numbers, defining, params_of}
use Rattle.round_trip.proofs.Core.{Word, Passing, Core, closed_into, opened}
use Rattle.round_trip.proofs.Machine.{Runs, Any, word, act}
use Rattle.round_trip.proofs.Docs.{onto}
use Rattle.round_trip.proofs.Values.{shown, param_of}
use Rattle.round_trip.proofs.Segments.{mark}
use Rattle.round_trip.proofs.Shapes.{NextIs}
use Rattle.round_trip.proofs.Scopes.{IsGood, Grown, visible-more, names-of-params, values-of-params}
use Rattle.round_trip.proofs.Bodies.{Goes}
use Rattle.module_grammar.proofs.Lists.{last_pushed}

-- ---- the state within a body

-- what a body's operations leave as it is, but that they join the body
pub record Around : Type 0 where
  pub params : List Param
  pub ops : List Op
  pub outside : ℕ
  pub outer : List Outer
  pub func : OpenFunc
  pub funcs : List Func

-- the last token may be any
abbrev pub no_token : Passing
no_token = record { last = (kind.End, []); entry = entry.Fresh; entry_at = None }

abbrev pub body_in : Around → OpenBody
body_in a = record { params = a.params; ops = a.ops; outside = a.outside }

-- an operation is open in the body, and these values are visible
abbrev pub during : Around → Scope → ℕ → OpenOp → Core
during a s begun o = record {
  passing = no_token;
  read = [];
  visible = map shown s.seen;
  next = s.next;
  begun = begun;
  op = o;
  body = body_in a;
  outer = a.outer;
  held = [];
  func = a.func;
  funcs = a.funcs;
}

-- no operation is open
abbrev pub standing : Around → Scope → ℕ → Core
standing a s begun = during a s begun (no_op 0)

abbrev pub with_ops : Around → List Op → Around
with_ops a os = record a { ops = a.ops ++ os }

-- These operations are read in any body, from one scope to another.
abbrev pub LinesGo : Level → Module → List Op → Scope → Scope → Type 0
LinesGo level m os s e =
    (a : Around) (begun last : ℕ) (indent : List ℕ) (k : List Symbol) (ws : List Word) → last ≡ as_number begun → IsGood s
    → ((after : ℕ) → (printed_lines os indent last).last ≡ as_number after → Any level m k (standing (with_ops a os) e after) (mark 125 ∷ ws))
    → Goes level m k (standing a s begun) (onto (printed_lines os indent last).doc (mark 125 ∷ ws))

-- ---- lists

without-pushed : (xs : List Outer) (x : Outer) → without_last (xs ++ x ∷ []) ≡ xs
without-pushed [] x = refl
without-pushed (y ∷ []) x = refl
without-pushed (y ∷ z ∷ xs) x = ap (λ (l : List Outer). y ∷ l) (without-pushed (z ∷ xs) x)

seen-again : (seen more all : List ℕ) → all ≡ seen ++ more → take (length (map shown seen)) (map shown all) ≡ map shown seen
seen-again seen more all e = ap (λ (l : List ℕ). take (length (map shown seen)) (map shown l)) e ∙ ap (λ (l : List Name). take (length (map shown seen)) l) (map-append shown seen more) ∙ take-append_seam (map shown seen) (map shown more)

-- ---- a region is over

abbrev pub value_params : List (ValueNo × Ty) → List ValueNo
value_params ps = map (λ p. p.0) ps

-- the operation has one more region
abbrev pub with_region : OpenOp → Region → OpenOp
with_region x r = record x { params = []; regions = x.regions ++ r ∷ [] }

-- the text stands in a region of the open operation
abbrev pub inside : Around → Scope → OpenOp → Region → Around
inside a s x r = record {
  params = map param_of (params_of r);
  ops = [];
  outside = length (map shown s.seen);
  outer = a.outer ++ record { op = record x { params = [] }; body = body_in a } ∷ [];
  func = a.func;
  funcs = a.funcs;
}

-- where nothing is made at the region's end, it is the region that was printed
pub record Kept (x : OpenOp) (r : Region) : Type 0 where
  pub same : body_ops x.kind (ops_of r) ≡ ops_of r
  pub none : left_out x.kind x.types (ops_of r) ≡ None

region-again : (r : Region) → roll-Region (record { params = map param_value (map param_of (params_of r)); ops = ops_of r }) ≡ r
region-again r = ap (λ ps. roll-Region (record { params = ps; ops = ops_of r })) (values-of-params (params_of r)) ∙ roll-out-Region r

closed-is : (a : Around) (s e : Scope) (x : OpenOp) (r : Region) (after : ℕ) (p : Passing) (more : List ℕ) → e.seen ≡ s.seen ++ more → Kept x r
    → let c : Core = record (standing (with_ops (inside a s x r) (ops_of r)) e after) { passing = p } in
    closed_into (last_of c.outer) c ≡ record (during a (record { next = e.next; seen = s.seen }) after (with_region x r)) { passing = p }
closed-is a s e x r after p more grown kept =
    rw last_pushed (rw (kept.same, kept.none, without-pushed, region-again r) (rw (seen-again s.seen more e.seen grown) refl))

opened-is : (a : Around) (s : Scope) (x : OpenOp) (r : Region) (begun : ℕ) (p : Passing) → x.params ≡ map param_of (params_of r)
    → opened (record (during a (record { next = s.next + length (value_params (params_of r)); seen = s.seen }) begun x) { passing = p })
    ≡ record (standing (inside a s x r) (defining s (value_params (params_of r))) begun) { passing = p }
opened-is a s x r begun p is =
    rw is (rw (names-of-params (params_of r), visible-more s.seen (value_params (params_of r))) refl)

module _ {level : Level} {m : Module} {k : List Symbol} (a : Around) (s e : Scope) (x : OpenOp) (r : Region) (begun last : ℕ) (indent : List ℕ) (ws : List Word)
    (counted : last ≡ as_number begun) (good : IsGood (defining s (value_params (params_of r))))
    (lines : LinesGo level m (ops_of r) (defining s (value_params (params_of r))) e) (grown : Grown (defining s (value_params (params_of r))) e) (kept : Kept x r)
    (runs : (after : ℕ) → (printed_lines (ops_of r) indent last).last ≡ as_number after
    → Any level m k (during a (record { next = e.next; seen = s.seen }) after (with_region x r)) ws) where
  -- behind the region's parameters
  pub body-rest : Any level m (rest_of_body ++ k) (standing (inside a s x r) (defining s (value_params (params_of r))) begun)
      (onto (printed_lines (ops_of r) indent last).doc (mark 125 ∷ ws))
  body-rest p =
      (lines (inside a s x r) begun last indent (symbol.Word (class.Byte 125) ∷ symbol.Do act.CloseRegion ∷ k) ws counted good
      (λ after is q. word refl (act refl
      (subst (λ (c : Core). Runs level m k c ws)
      (sym (closed-is a s e x r after (record q { last = mark 125 }) (numbers (value_params (params_of r)) ++ grown.more)
      (grown.seen ∙ append_assoc s.seen (numbers (value_params (params_of r))) grown.more) kept))
      (runs after is _))))).body p

  pub body-next : NextIs (onto (printed_lines (ops_of r) indent last).doc (mark 125 ∷ ws))
  body-next =
      (lines (inside a s x r) begun last indent (symbol.Word (class.Byte 125) ∷ symbol.Do act.CloseRegion ∷ k) ws counted good
      (λ after is q. word refl (act refl
      (subst (λ (c : Core). Runs level m k c ws)
      (sym (closed-is a s e x r after (record q { last = mark 125 }) (numbers (value_params (params_of r)) ++ grown.more)
      (grown.seen ∙ append_assoc s.seen (numbers (value_params (params_of r))) grown.more) kept))
      (runs after is _))))).next

  -- behind the opening brace, where the parameters stand in the form
  pub region-rest : x.params ≡ map param_of (params_of r)
      → Any level m (rest_of_region ++ k) (during a (record { next = s.next + length (value_params (params_of r)); seen = s.seen }) begun x)
      (onto (printed_lines (ops_of r) indent last).doc (mark 125 ∷ ws))
  region-rest is p =
      act refl (subst (λ (c : Core). Runs level m (rest_of_body ++ k) c (onto (printed_lines (ops_of r) indent last).doc (mark 125 ∷ ws)))
      (sym (opened-is a s x r begun p is)) (body-rest p))
