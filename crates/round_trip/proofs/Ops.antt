-- The operations of a body are read as what was printed, each with what stands in its regions.
use Rattle.std.proofs.Common.{◌≡◌, ◌<◌, ℕ, ◌+◌, ◌^◌, List, [], ◌∷◌, ◌++◌, map, length, Some, refl, sym, ap, ap₂, subst, ◌∙◌, append_assoc, append-nil, arith}
use Rattle.mlir_lex.specs.declared.kinds.TokenKind.TheVariants as kind
use Rattle.op_table.specs.declared.kind.OpKind.{OpKind}
use Rattle.op_table.specs.declared.rows.Level.{Level}
use Rattle.ir_forms.specs.declared.ops.Module.{Module}
use Rattle.ir_forms.specs.declared.ops.Op.{Op, out-Op}
use Rattle.ir_forms.specs.declared.ops.ValueNo.{ValueNo}
use Rattle.ir_forms.specs.Ops.{kind_of, operands_of, regions_of}
use Rattle.module_grammar.specs.declared.state.Name.{Name}
use Rattle.module_grammar.specs.declared.state.OpenOp.{OpenOp}
use Rattle.module_grammar.specs.declared.symbols.Rule.TheVariants as rule
use Rattle.module_grammar.specs.declared.symbols.Symbol.{Symbol}
use Rattle.module_grammar.specs.declared.symbols.Symbol.TheVariants as symbol
use Rattle.ir_forms.specs.Ops.{results_of}
use Rattle.round_trip.proofs.Docs.{onto}
use Rattle.round_trip.proofs.Segments.{mark}
use Rattle.round_trip.proofs.Regions.{Around, during, value_params}
use Rattle.op_table.specs.Rows.{name_of, stands_at}
use Rattle.std.specs.Prelude.{IsTrue}
use Rattle.module_grammar.specs.State.{as_number, up}
use Rattle.module_grammar.specs.Rules.{form, ends, kinds_at}
use Rattle.module_grammar.specs.Tokens.{kind_among}
use Rattle.mlir_print.specs.Printed.{Printed, next, op_number, results_doc, with_regions, printed_op, printed_regions, printed_lines}
use Rattle.mlir_print.specs.Printable.{Scope, Part, Prints, HasForm, NumberOn, AreSeen, numbers, defining, params_of}
use Rattle.round_trip.proofs.Core.{Word, Passing, Core, ended_op, begun_op}
use Rattle.round_trip.proofs.Machine.{Runs, Any}
use Rattle.round_trip.proofs.Values.{shown as shown_name, named, Finds, all-found}
use Rattle.round_trip.proofs.Shapes.{blank, After, Serves}
use Rattle.round_trip.proofs.Scopes.{IsGood, Grown, grown, good-defining, good-again, good-behind, good-taken, under-small, under-below, visible-more, values-of-named}
use Rattle.round_trip.proofs.Tails.{tail}
use Rattle.round_trip.proofs.OpNames.{kind-stands}
use Rattle.round_trip.proofs.Results.{with_results}
use Rattle.round_trip.proofs.Bodies.{Goes, closing, unnamed, resulted, form-on}
use Rattle.round_trip.proofs.Regions.{standing, with_ops, LinesGo, value_params}
use Rattle.round_trip.proofs.IfForm.{behind}
use Rattle.mlir_print.proofs.Foldings.{printed_op-out}
use Rattle.round_trip.proofs.OpForms.{RegionsGo}
use Rattle.round_trip.proofs.FormGoes.{form-goes}

pub next-place : (last begun : ℕ) → last ≡ as_number begun → next last ≡ as_number (up begun 1)
next-place last begun e = omega arith

-- the scope behind an operation
abbrev after_op : Scope → Scope → List ValueNo → Scope
after_op s inner vs = record { next = inner.next; seen = s.seen ++ numbers vs }

module _ (level : Level) (m : Module) (k : List Symbol) (a : Around) (o : Op) (s inner : Scope) (begun : ℕ) (indent : List ℕ) (rest : List Word) where
  -- an operation that is over joins the body, and its results become visible
  ended-is : (after at : ℕ) (x : OpenOp) (p : Passing) → Serves o at (map named (results_of o)) x
      → record (ended_op (record (during a (behind s inner) after x) { op = record x { at = (out-Op o).at } })) { passing = p }
      ≡ record (standing (with_ops a (o ∷ [])) (after_op s inner (results_of o)) after) { passing = p }
  ended-is after at x p serve =
      ap₂ (λ (y : Op) (v : List Name). record (standing (with_ops a (y ∷ [])) (after_op s inner (results_of o)) after) { passing = p; visible = v }) serve.makes
      (ap (λ (ns : List Name). map shown_name s.seen ++ ns) serve.names ∙ visible-more s.seen (results_of o))

  -- what follows the operation, where what comes behind it goes on
  pub follows : (after at : ℕ) (x : OpenOp) → (out-Op o).at < 2 ^ 32 → Serves o at (map named (results_of o)) x
      → Goes level m k (standing (with_ops a (o ∷ [])) (after_op s inner (results_of o)) after) rest
      → After level m k (during a (behind s inner) after x) (onto (op_number (out-Op o).at at) rest)
  follows after at x small serve goes =
      tail (during a (behind s inner) after x) rest goes.next (out-Op o).at at small serve.place
      (record {
        body = λ p. subst (λ (c : Core). Runs level m (symbol.Rule rule.Body ∷ k) c rest) (sym (ended-is after at x p serve)) (goes.body p);
        held = goes.held (record (during a (behind s inner) after x) { op = record x { at = (out-Op o).at } }) refl (λ p. ended-is after at x p serve);
      })

-- ---- an operation, from its results on

module _ (level : Level) (m : Module) (k : List Symbol) (a : Around) (o : Op) (s : Scope) (begun : ℕ) (ws : List Word) (good : IsGood s) where
  begins : (kd : OpKind) (vs : List ValueNo) → kind_among (kinds_at level) (name_of kd) ≡ Some kd → NumberOn s.next vs
      → Any level m (form kd ++ (ends ++ k)) (during a (record { next = s.next + length vs; seen = s.seen }) (up begun 1) (blank kd (as_number (up begun 1)) (map named vs))) ws
      → Goes level m k (standing a s begun) (onto (results_doc vs) ((kind.Name, name_of kd) ∷ ws))
  begins kd [] stands on runs =
      let none : s.next + 0 ≡ s.next = omega arith in
      unnamed (standing a s begun) ws kd stands
      (subst (λ (n : ℕ). Any level m (form kd ++ (ends ++ k)) (during a (record { next = n; seen = s.seen }) (up begun 1) (blank kd (as_number (up begun 1)) [])) ws) none runs)
  begins kd (v ∷ vs) stands on runs =
      resulted (standing a s begun) ((kind.Name, name_of kd) ∷ ws) v vs refl refl on (under-below s.next s.seen good.under)
      (form-on (standing a s begun) ws (with_results (begun_op (standing a s begun)) (v ∷ vs)) kd stands runs)

-- one operation more in front
pub lines-more : (level : Level) (m : Module) (o : Op) (os : List Op) (s inner end : Scope) → IsTrue (stands_at (kind_of o) level) → HasForm (kind_of o) o → (out-Op o).at < 2 ^ 32
    → NumberOn s.next (results_of o) → AreSeen s.seen (operands_of o)
    → RegionsGo level m o 0 (regions_of o) (record { next = s.next + length (results_of o); seen = s.seen }) inner
    → IsGood (after_op s inner (results_of o)) → LinesGo level m os (after_op s inner (results_of o)) end
    → LinesGo level m (o ∷ os) s end
lines-more level m o os s inner end stands h small on seen regions behind_good lines a begun last indent k ws counted good runs =
    subst Sound (sym printed) whole runs
  where
    place : ℕ
    place = as_number (up begun 1)

    taken : Scope
    taken = record { next = s.next + length (results_of o); seen = s.seen }

    inside_doc : Printed
    inside_doc = printed_regions (regions_of o) o 0 indent place

    Sound : Printed → Type 0
    Sound pr =
        ((after : ℕ) → (printed_lines os indent pr.last).last ≡ as_number after → Any level m k (standing (with_ops a (o ∷ os)) end after) (mark 125 ∷ ws))
        → Goes level m k (standing a s begun) (onto pr.doc (onto (printed_lines os indent pr.last).doc (mark 125 ∷ ws)))

    printed : printed_op o indent last ≡ with_regions o place inside_doc
    printed = printed_op-out o indent last ∙ ap (λ (n : ℕ). with_regions o n (printed_regions (regions_of o) o 0 indent n)) (next-place last begun counted)

    whole : Sound (with_regions o place inside_doc)
    whole runs =
        let after : List Word = onto (printed_lines os indent inside_doc.last).doc (mark 125 ∷ ws) in
        let found : Finds (map shown_name s.seen) (operands_of o) = all-found s.seen (operands_of o) (under-small s.next s.seen good.top good.under) seen in
        begins level m k a o s begun _ good (kind_of o) (results_of o) (kind-stands level (kind_of o) o stands h) on
        (form-goes level m k a taken inner (up begun 1) place indent place (map named (results_of o)) (onto (op_number (out-Op o).at place) after)
        o (good-taken s (results_of o) good on) refl found (values-of-named (results_of o)) (kind_of o) refl h regions
        (λ n is_last x serve. follows level m k a o s inner begun indent after n place x small serve
        (lines (with_ops a (o ∷ [])) n inside_doc.last indent k ws is_last behind_good
        (λ i e. subst (λ (all : List Op). Any level m k (standing (record a { ops = all }) end i) (mark 125 ∷ ws)) (sym (append_assoc a.ops (o ∷ []) os)) (runs i e)))))

-- ---- all of them

-- what is read of a part
abbrev pub PartGoes : Level → Module → Part → Scope → Scope → Type 0
PartGoes level m (Part.Ops os) s e = LinesGo level m os s e
PartGoes level m (Part.Regions o i rs) s e = RegionsGo level m o i rs s e

-- no operations leave the scope as it is
idle-prints : (level : Level) (p : Part) (s e : Scope) → Prints level p s e → p ≡ Part.Ops [] → e ≡ s
idle-prints level _ _ _ (Prints.no_ops s) is = refl
idle-prints level _ _ _ (Prints.operation o os s inner end at form small on are regions rest) is = absurd cc
idle-prints level _ _ _ (Prints.no_regions o i s) is = absurd cc
idle-prints level _ _ _ (Prints.region o i r rs s inner end on ended ops rest) is = absurd cc

no-lines : (level : Level) (m : Module) (s : Scope) → LinesGo level m [] s s
no-lines level m s a begun last indent k ws counted good runs =
    closing (standing a s begun) ws
    (subst (λ (all : List Op). Any level m k (standing (record a { ops = all }) s begun) (mark 125 ∷ ws)) (append-nil a.ops) (runs begun counted))

pub prints-go : (level : Level) (m : Module) (p : Part) (s e : Scope) → Prints level p s e → IsGood s → PartGoes level m p s e
prints-go level m _ _ _ (Prints.no_ops s) good = no-lines level m s
prints-go level m _ _ _ (Prints.operation o os s inner end stands form small on are regions rest) good =
    let g : Grown (record { next = s.next + length (results_of o); seen = s.seen }) inner = grown level _ _ _ regions (good-taken s (results_of o) good on) in
    let later : IsGood (after_op s inner (results_of o)) = good-behind s inner (results_of o) good on g.good g.next in
    lines-more level m o os s inner end stands form small on are (prints-go level m _ _ _ regions (good-taken s (results_of o) good on)) later (prints-go level m _ _ _ rest later)
prints-go level m _ _ _ (Prints.no_regions o i s) good = refl
prints-go level m _ _ _ (Prints.region o i r rs s inner end on ended ops rest) good =
    let vs : List ValueNo = value_params (params_of r) in
    let g : Grown (defining s vs) inner = grown level _ _ _ ops (good-defining s vs good on) in
    let n = g.next in (
      inner,
      record {
        on = on;
        ended = ended;
        lines = prints-go level m _ _ _ ops (good-defining s vs good on);
        grown = g;
        idle = λ none. idle-prints level _ _ _ ops (ap (λ (l : List Op). Part.Ops l) none);
      },
      prints-go level m _ _ _ rest (good-again s inner good g.good (omega arith)),
    )
