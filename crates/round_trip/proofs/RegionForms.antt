-- A form goes on with a region: what its region is to be, and how it is entered.
use Rattle.std.proofs.Common.{◌≡◌, ℕ, zero, suc, ◌+◌, ◌-◌, true, false, ◌==◌, List, [], ◌∷◌, ◌++◌, map, length, slice_get, Some, None, refl, sym, ap, subst, ◌∙◌, arith}
use Rattle.std.proofs.lemmas.Bool.Decides.{nat_tests}
use Rattle.op_table.specs.declared.kind.OpKind.{OpKind}
use Rattle.op_table.specs.declared.kind.OpKind.TheVariants as op
use Rattle.op_table.specs.declared.rows.Level.{Level}
use Rattle.ir_forms.specs.declared.types.Ty.{Ty}
use Rattle.ir_forms.specs.declared.ops.Module.{Module}
use Rattle.ir_forms.specs.declared.ops.Op.{Op}
use Rattle.ir_forms.specs.declared.ops.Region.{Region}
use Rattle.ir_forms.specs.Ops.{kind_of, ops_of}
use Rattle.module_grammar.specs.declared.state.OpenOp.{OpenOp}
use Rattle.module_grammar.specs.declared.symbols.Symbol.{Symbol}
use Rattle.module_grammar.specs.State.{as_number, is_ending, is_ending_op, ends_in, unless_ended, left_out, last_as_reduce, body_ops}
use Rattle.module_grammar.specs.Rules.{region, rest_of_region}
use Rattle.mlir_print.specs.Printed.{printed_lines}
use Rattle.mlir_print.specs.Printable.{Scope, NumberOn, defining, params_of, IsEnded, ends_with}
use Rattle.round_trip.proofs.Core.{Word, Core}
use Rattle.round_trip.proofs.Machine.{Runs, Any, word}
use Rattle.round_trip.proofs.Docs.{onto}
use Rattle.round_trip.proofs.Values.{param_of}
use Rattle.round_trip.proofs.Segments.{mark}
use Rattle.round_trip.proofs.Scopes.{IsGood, Grown, good-defining}
use Rattle.round_trip.proofs.Regions.{Around, during, with_region, LinesGo, value_params, region-rest}

-- ---- regions that end in their terminators

ending-op : (t : OpKind) → ((k : OpKind) → k ≡ t → is_ending t k ≡ true) → (ops : List Op) → ends_with t ops → ends_in t ops ≡ true
ending-op t own [] e = absurd e
ending-op t own (o ∷ []) e = own (kind_of o) e
ending-op t own (o ∷ p ∷ ops) e =
    let n : length (o ∷ p ∷ ops) - 1 ≡ suc (length (p ∷ ops) - 1) = omega arith in
    ap (λ (i : ℕ). is_ending_op t (slice_get (o ∷ p ∷ ops) i)) n ∙ ending-op t own (p ∷ ops) e

yields : (k : OpKind) → k ≡ op.ScfYield → is_ending op.ScfYield k ≡ true
yields k e = rw e refl

async-yields : (k : OpKind) → k ≡ op.AsyncYield → is_ending op.AsyncYield k ≡ true
async-yields k e = rw e refl

reduces : (k : OpKind) → k ≡ op.ScfReduce → is_ending op.ScfReduce k ≡ true
reduces k e = rw e refl

reduce-stays : (ops : List Op) → ends_with op.ScfReduce ops → last_as_reduce ops ≡ ops
reduce-stays [] e = refl
reduce-stays (o ∷ []) e = rw e refl
reduce-stays (o ∷ p ∷ ops) e = ap (λ (l : List Op). o ∷ l) (reduce-stays (p ∷ ops) e)

ended-none : (t : OpKind) (ops : List Op) → ends_in t ops ≡ true → unless_ended (Some t) ops ≡ None
ended-none t ops e = rw e refl

not-zero : (ts : List Ty) (t : Ty) → (length (t ∷ ts) == 0) ≡ false
not-zero ts t = grind (arith, nat_tests)

not-one : (ts : List Ty) (t u : Ty) → (length (t ∷ u ∷ ts) == 1) ≡ false
not-one ts t u = grind (arith, nat_tests)

-- nothing is made at the end of a region with these operations
pub record Keeps (kd : OpKind) (ts : List Ty) (ops : List Op) : Type 0 where
  pub same : body_ops kd ops ≡ ops
  pub none : left_out kd ts ops ≡ None

pub keeps-for : (i : ℕ) (ts : List Ty) (ops : List Op) → IsEnded op.ScfFor i ts ops → Keeps op.ScfFor ts ops
keeps-for i [] ops e = record { same = refl; none = ended-none op.ScfYield ops (ending-op op.ScfYield yields ops e) }
keeps-for i (t ∷ ts) ops e = record { same = refl; none = rw (not-zero ts t) refl }

pub keeps-first : (ts : List Ty) (ops : List Op) → IsEnded op.ScfIf zero ts ops → Keeps op.ScfIf ts ops
keeps-first [] ops e = record { same = refl; none = ended-none op.ScfYield ops (ending-op op.ScfYield yields ops e) }
keeps-first (t ∷ ts) ops e = record { same = refl; none = rw (not-zero ts t) refl }

-- the second region of a conditional, which is written
pub keeps-second : (ops : List Op) → ends_with op.ScfYield ops → Keeps op.ScfIf [] ops
keeps-second ops e = record { same = refl; none = ended-none op.ScfYield ops (ending-op op.ScfYield yields ops e) }

pub keeps-typed : (t : Ty) (ts : List Ty) (ops : List Op) → Keeps op.ScfIf (t ∷ ts) ops
keeps-typed t ts ops = record { same = refl; none = rw (not-zero ts t) refl }

pub keeps-execute : (i : ℕ) (t : Ty) (ts : List Ty) (ops : List Op) → IsEnded op.AsyncExecute i (t ∷ ts) ops → Keeps op.AsyncExecute (t ∷ ts) ops
keeps-execute i t [] ops e = record { same = refl; none = ended-none op.AsyncYield ops (ending-op op.AsyncYield async-yields ops e) }
keeps-execute i t (u ∷ ts) ops e = record { same = refl; none = rw (not-one ts t u) refl }

pub keeps-parallel : (i : ℕ) (ts : List Ty) (ops : List Op) → IsEnded op.ScfParallel i ts ops → Keeps op.ScfParallel ts ops
keeps-parallel i ts ops e = record { same = reduce-stays ops e; none = ended-none op.ScfReduce ops (ending-op op.ScfReduce reduces ops e) }

pub keeps-while : (ts : List Ty) (ops : List Op) → Keeps op.ScfWhile ts ops
keeps-while ts ops = record { same = refl; none = refl }

-- ---- regions of an operation

-- The region of an operation of this kind, with these types of results: its operations are read from this scope to the other.
pub record RegionGoes (level : Level) (m : Module) (kd : OpKind) (i : ℕ) (ts : List Ty) (r : Region) (s e : Scope) : Type 0 where
  pub on : NumberOn s.next (value_params (params_of r))
  pub ended : IsEnded kd i ts (ops_of r)
  pub lines : LinesGo level m (ops_of r) (defining s (value_params (params_of r))) e
  pub grown : Grown (defining s (value_params (params_of r))) e
  pub idle : ops_of r ≡ [] → e ≡ defining s (value_params (params_of r))

module _ {level : Level} {m : Module} {k : List Symbol} (a : Around) (s e : Scope) (r : Region) (begun last : ℕ) (indent : List ℕ) (ws : List Word)
    (counted : last ≡ as_number begun) (good : IsGood s) where
  -- a region behind a form that has its parameters
  pub enter : (x : OpenOp) (kd : OpKind) (i : ℕ) (ts : List Ty) → RegionGoes level m kd i ts r s e → Keeps x.kind x.types (ops_of r)
      → x.params ≡ map param_of (params_of r)
      → (c : Core) → c ≡ record (during a (record { next = s.next + length (value_params (params_of r)); seen = s.seen }) begun x) { passing = c.passing }
      → ((after : ℕ) → (printed_lines (ops_of r) indent last).last ≡ as_number after
      → Any level m k (during a (record { next = e.next; seen = s.seen }) after (with_region x r)) ws)
      → Runs level m (region ++ k) c (mark 123 ∷ onto (printed_lines (ops_of r) indent last).doc (mark 125 ∷ ws))
  enter x kd i ts g keeps params c is runs =
      let within : Runs level m (region ++ k) (record (during a (record { next = s.next + length (value_params (params_of r)); seen = s.seen }) begun x) { passing = c.passing })
      (mark 123 ∷ onto (printed_lines (ops_of r) indent last).doc (mark 125 ∷ ws)) =
      word refl (region-rest a s e x r begun last indent ws counted (good-defining s (value_params (params_of r)) good g.on) g.lines g.grown
      (record { same = keeps.same; none = keeps.none }) runs params _) in
      subst (λ (x : Core). Runs level m (region ++ k) x (mark 123 ∷ onto (printed_lines (ops_of r) indent last).doc (mark 125 ∷ ws))) (sym is) within

  -- likewise behind its opening brace
  pub enter-rest : (x : OpenOp) (kd : OpKind) (i : ℕ) (ts : List Ty) → RegionGoes level m kd i ts r s e → Keeps x.kind x.types (ops_of r)
      → x.params ≡ map param_of (params_of r)
      → (c : Core) → c ≡ record (during a (record { next = s.next + length (value_params (params_of r)); seen = s.seen }) begun x) { passing = c.passing }
      → ((after : ℕ) → (printed_lines (ops_of r) indent last).last ≡ as_number after
      → Any level m k (during a (record { next = e.next; seen = s.seen }) after (with_region x r)) ws)
      → Runs level m (rest_of_region ++ k) c (onto (printed_lines (ops_of r) indent last).doc (mark 125 ∷ ws))
  enter-rest x kd i ts g keeps params c is runs =
      let within : Runs level m (rest_of_region ++ k) (record (during a (record { next = s.next + length (value_params (params_of r)); seen = s.seen }) begun x) { passing = c.passing })
      (onto (printed_lines (ops_of r) indent last).doc (mark 125 ∷ ws)) =
      region-rest a s e x r begun last indent ws counted (good-defining s (value_params (params_of r)) good g.on) g.lines g.grown
      (record { same = keeps.same; none = keeps.none }) runs params _ in
      subst (λ (x : Core). Runs level m (rest_of_region ++ k) x (onto (printed_lines (ops_of r) indent last).doc (mark 125 ∷ ws))) (sym is) within
