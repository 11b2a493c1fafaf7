-- How deep the bodies that are open stand, against what was seen.
use Rattle.std.proofs.Common.{◌≡◌, ◌≤◌, ◌<◌, ℕ, ◌+◌, max, List, [], ◌∷◌, ◌++◌, length, map, Option, Some, None, refl, subst, arith}
use Rattle.std.specs.Prelude.{⊤}
use Rattle.std.proofs.lemmas.List.{length-append}
use Rattle.op_table.specs.declared.kind.OpKind.{OpKind}
use Rattle.ir_forms.specs.declared.ops.Op.{Op}
use Rattle.ir_forms.specs.declared.ops.Region.{Region, roll-Region}
use Rattle.ir_forms.specs.declared.ops.Func.{Func}
use Rattle.mlir_print.specs.Depth.{depth_of_region, depth_of_funcs}
use Rattle.module_grammar.specs.declared.symbols.Act.{Act}
use Rattle.module_grammar.specs.declared.symbols.Act.TheVariants as act
use Rattle.module_grammar.specs.declared.state.TextToken.{TextToken}
use Rattle.module_grammar.specs.declared.state.Outer.{Outer}
use Rattle.module_grammar.specs.declared.state.State.{State}
use Rattle.module_grammar.specs.State.{up, param_value, op_of, region_of, left_out, body_ops, with_made, last_of, without_last, does, add_operands, add_operand, add_results, add_result, open_region, close_into, numbered_op, numbered_func, begin_op, end_op}
use Rattle.read_forms.proofs.Levels.{ops_depth, regions_depth, Fits, ops-append, regions-append, funcs-append, depth-of-region, op-of-fits, closed-region-depth}

-- ---- the bodies outside

-- from this level on, what stands in a body and in its open operation fits
abbrev pub OuterFit : ℕ → ℕ → List Outer → Type 0
OuterFit seen level [] = ⊤
OuterFit seen level (o ∷ os) = Fits seen level (ops_depth o.body.ops) × Fits seen level (regions_depth o.op.regions) × OuterFit seen (1 + level) os

outer-more : (seen seen' level : ℕ) (os : List Outer) → seen ≤ seen' → OuterFit seen level os → OuterFit seen' level os
outer-more seen seen' level [] m h = tt
outer-more seen seen' level (o ∷ os) m h = (omega (arith, m, h.0), omega (arith, m, h.1), outer-more seen seen' (1 + level) os m h.2)

outer-pushed : (seen level : ℕ) (os : List Outer) (o : Outer) → OuterFit seen level os → Fits seen (level + length os) (ops_depth o.body.ops)
    → Fits seen (level + length os) (regions_depth o.op.regions) → OuterFit seen level (os ++ o ∷ [])
outer-pushed seen level [] o h ops regions = (omega (arith, ops), omega (arith, regions), tt)
outer-pushed seen level (x ∷ os) o h ops regions =
    (h.0, h.1, outer-pushed seen (1 + level) os o h.2 (omega (arith, ops)) (omega (arith, regions)))

outer-rest : (seen level : ℕ) (os : List Outer) → OuterFit seen level os → OuterFit seen level (without_last os)
outer-rest seen level [] h = tt
outer-rest seen level (x ∷ []) h = tt
outer-rest seen level (x ∷ y ∷ os) h = (h.0, h.1, outer-rest seen (1 + level) (y ∷ os) h.2)

one-less : (os : List Outer) (o : Outer) → last_of os ≡ Some o → length os ≡ 1 + length (without_last os)
one-less [] o e = absurd cc
one-less (x ∷ []) o e = refl
one-less (x ∷ y ∷ os) o e = let h = one-less (y ∷ os) o e in omega (arith, h)

outer-last : (seen level : ℕ) (os : List Outer) (o : Outer) → last_of os ≡ Some o → OuterFit seen level os
    → Fits seen (level + length (without_last os)) (ops_depth o.body.ops) × Fits seen (level + length (without_last os)) (regions_depth o.op.regions)
outer-last seen level [] o e h = absurd cc
outer-last seen level (x ∷ []) o e h =
    let same : x ≡ o = cc in
    subst (λ (y : Outer). Fits seen (level + 0) (ops_depth y.body.ops) × Fits seen (level + 0) (regions_depth y.op.regions)) same
    (omega (arith, h.0), omega (arith, h.1))
outer-last seen level (x ∷ y ∷ os) o e h =
    let more = outer-last seen (1 + level) (y ∷ os) o e h.2 in
    (omega (arith, more.0), omega (arith, more.1))

-- ---- all that is built

-- what is built so far fits, and the body that is open is within what was seen
pub record AllFit (seen : ℕ) (funcs : List Func) (outer : List Outer) (ops : List Op) (regions : List Region) : Type 0 where
  pub funcs_fit : depth_of_funcs funcs ≤ seen
  pub outer_fit : OuterFit seen 1 outer
  pub ops_fit : Fits seen (1 + length outer) (ops_depth ops)
  pub regions_fit : Fits seen (1 + length outer) (regions_depth regions)
  pub level_seen : 1 + length outer ≤ max seen 1

-- the same of what a state has built
abbrev pub StateFits : State → Type 0
StateFits s = AllFit s.deepest s.funcs s.outer s.body.ops s.op.regions

ended : (s : State) → StateFits s → StateFits (end_op s)
ended s h =
    let more = ops-append s.body.ops (op_of s.op ∷ []) in
    let fits = op-of-fits s.deepest (1 + length s.outer) s.op h.regions_fit in
    let kept = h.ops_fit in
    record {
      funcs_fit = h.funcs_fit;
      outer_fit = h.outer_fit;
      ops_fit = omega (arith, more, fits, kept);
      regions_fit = omega arith;
      level_seen = h.level_seen;
    }

begun : (s : State) → StateFits s → StateFits (begin_op s)
begun s h = record {
  funcs_fit = h.funcs_fit;
  outer_fit = h.outer_fit;
  ops_fit = h.ops_fit;
  regions_fit = omega arith;
  level_seen = h.level_seen;
}

pushed : (s : State) (seen : ℕ) (o : Outer) → seen < 4294967296 → seen ≡ max s.deepest (up (length s.outer) 2) → StateFits s
    → Fits s.deepest (1 + length s.outer) (ops_depth o.body.ops) → Fits s.deepest (1 + length s.outer) (regions_depth o.op.regions)
    → AllFit seen s.funcs (s.outer ++ o ∷ []) [] []
pushed s seen o small is h ops regions =
    let longer = length-append s.outer (o ∷ []) in
    let funcs = h.funcs_fit in
    record {
      funcs_fit = omega (arith, funcs, is);
      outer_fit = outer-pushed seen 1 s.outer o (outer-more s.deepest seen 1 s.outer (omega (arith, is)) h.outer_fit) (omega (arith, ops, is)) (omega (arith, regions, is));
      ops_fit = omega arith;
      regions_fit = omega arith;
      level_seen = omega (arith, longer, small, is);
    }

opened : (s : State) → max s.deepest (up (length s.outer) 2) < 4294967296 → StateFits s → StateFits (open_region s)
opened s small h =
    pushed s (max s.deepest (up (length s.outer) 2)) (record { op = record (s.op) { params = [] }; body = s.body }) small refl h h.ops_fit h.regions_fit

closed : (o : Option Outer) (s : State) → last_of s.outer ≡ o → StateFits s → StateFits (close_into o s)
closed None s e h = h
closed (Some o) s e h =
    let left : Option OpKind = left_out o.op.kind o.op.types (body_ops o.op.kind s.body.ops) in
    let region : Region = region_of s.body (with_made (body_ops o.op.kind s.body.ops) left s.begun) in
    let depth = closed-region-depth s.body o.op.kind left s.begun in
    let more = regions-append o.op.regions (region ∷ []) in
    let less = one-less s.outer o e in
    let fits = outer-last s.deepest 1 s.outer o e h.outer_fit in
    let inner = h.ops_fit in
    let level = h.level_seen in
    record {
      funcs_fit = h.funcs_fit;
      outer_fit = outer-rest s.deepest 1 s.outer h.outer_fit;
      ops_fit = fits.0;
      regions_fit = omega (arith, depth, more, less, fits.1, inner, level);
      level_seen = omega (arith, less, level);
    }

finished : (s : State) → 1 ≤ s.deepest → StateFits s → StateFits (does act.EndFunc s)
unfolding does
finished s seen h =
    let body : depth_of_region (roll-Region (record { params = []; ops = s.body.ops })) ≡ 1 + ops_depth s.body.ops = depth-of-region _ in
    let more = funcs-append s.funcs (record { name = s.func.name; params = map param_value s.func.params; results = s.func.results; body = roll-Region (record { params = []; ops = s.body.ops }); at = s.func.at }) in
    let before = h.funcs_fit in
    let inner = h.ops_fit in
    let level = h.level_seen in
    record {
      funcs_fit = omega (arith, body, more, before, inner, level, seen);
      outer_fit = h.outer_fit;
      ops_fit = omega arith;
      regions_fit = h.regions_fit;
      level_seen = h.level_seen;
    }

operands-fit : (ts : List TextToken) (s : State) → StateFits s → StateFits (add_operands ts s)
operands-fit [] s h = h
operands-fit (t ∷ ts) s h = operands-fit ts (add_operand t s) h

results-fit : (ts : List TextToken) (s : State) → StateFits s → StateFits (add_results ts s)
results-fit [] s h = h
results-fit (t ∷ ts) s h = results-fit ts (add_result t s) h

op-numbered : (n : Option ℕ) (s : State) → StateFits s → StateFits (numbered_op n s)
op-numbered None s h = h
op-numbered (Some n) s h = h

func-numbered : (n : Option ℕ) (s : State) → StateFits s → StateFits (numbered_func n s)
func-numbered None s h = h
func-numbered (Some n) s h = h

-- ---- the acts

-- where a function ends, its body was seen
abbrev pub IsBodySeen : Act → ℕ → Type 0
IsBodySeen act.EndFunc seen = 1 ≤ seen
IsBodySeen _ seen = ⊤

pub does-fits : (a : Act) (s : State) → (does a s).deepest < 4294967296 → IsBodySeen a s.deepest → StateFits s → StateFits (does a s)
unfolding does
does-fits act.BeginFunc s small seen h = record {
  funcs_fit = h.funcs_fit;
  outer_fit = tt;
  ops_fit = omega arith;
  regions_fit = omega arith;
  level_seen = omega arith;
}
does-fits act.OpenBody s small seen h =
    let level = h.level_seen in
    let funcs = h.funcs_fit in
    record {
      funcs_fit = omega (arith, funcs);
      outer_fit = outer-more s.deepest (max s.deepest 1) 1 s.outer (omega arith) h.outer_fit;
      ops_fit = omega arith;
      regions_fit = omega arith;
      level_seen = omega (arith, level);
    }
does-fits act.EndFunc s small seen h = finished s seen h
does-fits act.BeginOp s small seen h = begun s h
does-fits act.EndOp s small seen h = ended s h
does-fits act.OpAt s small seen h = op-numbered s.entry_at s h
does-fits act.FuncAt s small seen h = func-numbered s.entry_at s h
does-fits act.OpenRegion s small seen h = opened s small h
does-fits act.CloseRegion s small seen h = closed (last_of s.outer) s refl h
does-fits act.HeldOperands s small seen h = operands-fit s.held (record s { held = [] }) h
does-fits act.HeldResults s small seen h =
    results-fit s.held (begin_op (end_op (record s { held = [] }))) (begun (end_op (record s { held = [] })) (ended (record s { held = [] }) h))
does-fits _ s small seen h = h
