-- Regions, from their opening brace to their end.
use Rattle.std.proofs.Common.{◌≡◌, ◌≤◌, ℕ, suc, ◌+◌, List, [], ◌∷◌, ◌++◌, length, map, take, Option, refl, sym, ap, ◌∙◌, subst, arith, append_assoc}
use Rattle.std.proofs.lemmas.List.{append-nil}
use Rattle.std.proofs.Math.Seq.{take-append_seam}
use Rattle.op_table.specs.declared.kind.OpKind.{OpKind}
use Rattle.op_table.specs.declared.rows.Level.{Level}
use Rattle.ir_forms.specs.declared.ops.Op.{Op}
use Rattle.ir_forms.specs.declared.ops.Region.{Region, roll-Region}
use Rattle.ir_forms.specs.declared.ops.ValueNo.{ValueNo}
use Rattle.ir_forms.specs.declared.types.Ty.{Ty}
use Rattle.module_grammar.specs.declared.symbols.Rule.TheVariants as rule
use Rattle.module_grammar.specs.declared.symbols.Act.TheVariants as act
use Rattle.module_grammar.specs.declared.symbols.Symbol.{Symbol}
use Rattle.module_grammar.specs.declared.state.TextToken.{TextToken}
use Rattle.module_grammar.specs.declared.state.Name.{Name}
use Rattle.module_grammar.specs.declared.state.Param.{Param}
use Rattle.module_grammar.specs.declared.state.OpenOp.{OpenOp}
use Rattle.module_grammar.specs.declared.state.OpenBody.{OpenBody}
use Rattle.module_grammar.specs.declared.state.Outer.{Outer}
use Rattle.module_grammar.specs.declared.state.State.{State}
use Rattle.module_grammar.specs.State.{does, no_op, param_names, param_value, values_of, last_of, close_into, body_ops, left_out, with_made, begun_with, region_of}
use Rattle.module_grammar.specs.Rules.{region, rest_of_region, rest_of_body, doing, part}
use Rattle.module_grammar.proofs.Lists.{last_pushed, without_pushed}
use Rattle.mlir_print.specs.Printable.{Scope, numbers, NumberOn, defining, IsEnded}
use Rattle.read_forms.proofs.Triples.{Owes}
use Rattle.read_forms.proofs.Scopes.{seen_of, seen-append}
use Rattle.read_forms.proofs.Shows.{Piece, Shows}
use Rattle.read_forms.proofs.Outcomes.{AreParams, HasRoom, IsClean, BodyRead, HeadRead, Rest, with_rest, scope_at, triples}
use Rattle.read_forms.proofs.Ended.{ShowsTo, region-ends, region-ended}

-- ---- parameters as values

abbrev pub values_of_params : List Param → List ValueNo
values_of_params ps = map (λ p. p.0) (map param_value ps)

pub params-values : (n : ℕ) (ps : List Param) (ts : List Ty) → AreParams n ps ts → values_of (param_names ps) ≡ values_of_params ps
params-values n [] ts h = refl
params-values n (p ∷ ps) [] h = absurd h
params-values n (p ∷ ps) (t ∷ ts) h = rw h.1 (ap (λ (l : List ValueNo). record { 0 = p.name.first } ∷ l) (params-values (n + 1) ps ts h.4))

pub params-number : (n : ℕ) (ps : List Param) (ts : List Ty) → AreParams n ps ts → NumberOn n (values_of_params ps)
params-number n [] ts h = tt
params-number n (p ∷ ps) [] h = absurd h
params-number n (p ∷ ps) (t ∷ ts) h = (h.0, h.3, params-number (n + 1) ps ts h.4)

pub params-types : (n : ℕ) (ps : List Param) (ts : List Ty) → AreParams n ps ts → map (λ p. p.1) (map param_value ps) ≡ ts
params-types n [] ts h = sym h
params-types n (p ∷ ps) [] h = absurd h
params-types n (p ∷ ps) (t ∷ ts) h = ap (λ (u : Ty). u ∷ map (λ q. q.1) (map param_value ps)) h.2 ∙ ap (λ (l : List Ty). t ∷ l) (params-types (n + 1) ps ts h.4)

pub params-length : (ps : List Param) → length (values_of_params ps) ≡ length ps
params-length [] = refl
params-length (p ∷ ps) = ap suc (params-length ps)

pub defined-scope : (n next : ℕ) (visible : List Name) (ps : List Param) (ts : List Ty) → AreParams n ps ts → next ≡ n + length ps
    → scope_at next (visible ++ param_names ps) ≡ defining (scope_at n visible) (values_of_params ps)
defined-scope n next visible ps ts h e =
    ap (λ (m : ℕ). record { next = m; seen = seen_of (visible ++ param_names ps) }) (omega (arith, e, params-length ps))
    ∙ ap (λ (l : List ℕ). record { next = n + length (values_of_params ps); seen = l })
    (seen-append visible (param_names ps) ∙ ap (λ (vs : List ValueNo). seen_of visible ++ numbers vs) (params-values n ps ts h))

-- ---- a region

-- a region is read, of an operation of this kind with these types of results
pub record RegionRead (level : Level) (k : OpKind) (types : List Ty) (params : List Param) (visible : List Name) (next : ℕ) : Type 0 where
  pub ops : List Op
  pub end : ℕ
  pub shows : ShowsTo level ops (scope_at next (visible ++ param_names params)) end
  pub ended : (i : ℕ) → IsEnded k i types ops
  pub rest : Rest
  pub room : end ≤ rest.counted

abbrev pub region_read : {level : Level} {k : OpKind} {types : List Ty} {params : List Param} {visible : List Name} {next : ℕ}
    → RegionRead level k types params visible next → Region
region_read {params = params} x = roll-Region (record { params = map param_value params; ops = x.ops })

abbrev pub with_region : {level : Level} (s : State) → RegionRead level s.op.kind s.op.types s.op.params s.visible s.next → State
with_region s x =
    with_rest x.rest (record s {
      op = record (s.op) { params = []; regions = s.op.regions ++ region_read x ∷ [] };
      next = x.end;
      read = [];
      held = [];
    })

-- the end of a region that stands in `o` in the body `b`, and has these parameters and operations
closing : (s : State) (outer : List Outer) (o : OpenOp) (b : OpenBody) (visible all : List Name) (ps : List Param) (ops : List Op)
    → take (length visible) all ≡ visible
    → close_into (last_of (outer ++ record { op = o; body = b } ∷ []))
    (record s {
      outer = outer ++ record { op = o; body = b } ∷ [];
      visible = all;
      body = record { params = ps; ops = ops; outside = length visible };
    })
    ≡ record s {
      outer = outer;
      visible = visible;
      body = b;
      begun = begun_with (left_out o.kind o.types (body_ops o.kind ops)) s.begun;
      op = record o { regions = o.regions ++ region_of (record { params = ps; ops = ops; outside = length visible }) (with_made (body_ops o.kind ops) (left_out o.kind o.types (body_ops o.kind ops)) s.begun) ∷ [] };
    }
closing s outer o b visible all ps ops e =
    let c : OpenBody = record { params = ps; ops = ops; outside = length visible } in
    let n : ℕ = begun_with (left_out o.kind o.types (body_ops o.kind ops)) s.begun in
    let p : OpenOp = record o { regions = o.regions ++ region_of c (with_made (body_ops o.kind ops) (left_out o.kind o.types (body_ops o.kind ops)) s.begun) ∷ [] } in
    ap (λ (l : Option Outer). close_into l (record s { outer = outer ++ record { op = o; body = b } ∷ []; visible = all; body = c })) (last_pushed outer (record { op = o; body = b }))
    ∙ ap (λ (l : List Outer). record s { outer = l; visible = take (length visible) all; body = b; begun = n; op = p }) (without_pushed outer (record { op = o; body = b }))
    ∙ ap (λ (l : List Name). record s { outer = outer; visible = l; body = b; begun = n; op = p }) e

-- the names outside of a region are the first ones
outside : (visible names more : List Name) → take (length visible) ((visible ++ names) ++ more) ≡ visible
outside visible names more = ap (take (length visible)) (append_assoc visible names more) ∙ take-append_seam visible (names ++ more)

-- what is known at the end of a region
region-done : (level : Level) (k : OpKind) (types : List Ty) (ps : List Param) (visible : List Name) (next : ℕ)
    → BodyRead level (visible ++ param_names ps) next → TextToken → RegionRead level k types ps visible next
region-done level k types ps visible next x t = record {
  ops = with_made (body_ops k x.ops) (left_out k types (body_ops k x.ops)) x.rest.begun;
  end = x.next;
  shows = region-ends level k types x.ops x.rest.begun (scope_at next (visible ++ param_names ps)) (scope_at x.next ((visible ++ param_names ps) ++ x.names)) x.shows;
  ended = region-ended k types x.ops x.rest.begun;
  rest = record x.rest { last = t; begun = begun_with (left_out k types (body_ops k x.ops)) x.rest.begun };
  room = x.room;
}

pub rest-owes : (level : Level) (s : State) (ss : List Symbol) (Q : State → Type 0) → HasRoom s
    → ((x : RegionRead level s.op.kind s.op.types s.op.params s.visible s.next) → Owes (triples level) ss Q (with_region s x))
    → Owes (triples level) (rest_of_region ++ ss) Q (record s { read = []; held = [] })
unfolding does region-done
rest-owes level s ss Q h f =
    λ n. (
      record { clean = record { read = refl; held = refl; room = h }; op = refl },
      λ x m. λ t b a. λ i.
          subst (λ (z : State). Owes (triples level) ss Q z)
          (sym (closing
          (with_rest (record x.rest { last = t }) (record s { read = []; held = []; next = x.next; op = no_op 0 }))
          s.outer (record (s.op) { params = [] }) s.body s.visible ((s.visible ++ param_names s.op.params) ++ x.names) s.op.params x.ops
          (outside s.visible (param_names s.op.params) x.names)))
          (f (region-done level s.op.kind s.op.types s.op.params s.visible s.next x t)),
    )

pub clean-is : (s : State) → IsClean s → record s { read = []; held = [] } ≡ s
clean-is s h =
    ap (λ (l : List Ty). record s { read = l; held = [] }) (sym h.read)
    ∙ ap (λ (l : List TextToken). record s { held = l }) (sym h.held)

pub region-owes : (level : Level) (s : State) (ss : List Symbol) (Q : State → Type 0) → IsClean s
    → ((x : RegionRead level s.op.kind s.op.types s.op.params s.visible s.next) → Owes (triples level) ss Q (with_region s x))
    → Owes (triples level) (region ++ ss) Q s
region-owes level s ss Q h f =
    λ t b a. subst (λ (z : State). Owes (triples level) (rest_of_region ++ ss) Q (record z { last = t })) (clean-is s h)
    (rest-owes level (record s { last = t }) ss Q h.room f)

-- ---- a region whose parameters stand in it

abbrev pub with_block_region : {level : Level} (s : State) (p : HeadRead s.next s.counted) → RegionRead level s.op.kind s.op.types p.read.params s.visible p.read.next → State
with_block_region s p x =
    with_rest x.rest (record s {
      op = record (s.op) { params = []; regions = s.op.regions ++ region_read x ∷ [] };
      next = x.end;
      read = [];
      held = [];
    })

-- no names and no more names
nested : (visible names : List Name) → (visible ++ []) ++ names ≡ visible ++ names
nested visible names = ap (λ (l : List Name). l ++ names) (append-nil visible)

block-done : (level : Level) (k : OpKind) (types : List Ty) (ps : List Param) (visible : List Name) (next : ℕ)
    → BodyRead level ((visible ++ []) ++ param_names ps) next → TextToken → RegionRead level k types ps visible next
block-done level k types ps visible next x t = record {
  ops = with_made (body_ops k x.ops) (left_out k types (body_ops k x.ops)) x.rest.begun;
  end = x.next;
  shows = subst (λ (l : List Name). ShowsTo level (with_made (body_ops k x.ops) (left_out k types (body_ops k x.ops)) x.rest.begun) (scope_at next l) x.next) (nested visible (param_names ps))
      (region-ends level k types x.ops x.rest.begun (scope_at next ((visible ++ []) ++ param_names ps)) (scope_at x.next (((visible ++ []) ++ param_names ps) ++ x.names)) x.shows);
  ended = region-ended k types x.ops x.rest.begun;
  rest = record x.rest { last = t; begun = begun_with (left_out k types (body_ops k x.ops)) x.rest.begun };
  room = x.room;
}

block-room : (first before : ℕ) (p : HeadRead first before) → first ≤ before → p.read.next ≤ p.read.counted
block-room first before p h = omega (arith, p.read.next_is, p.read.rises, h)

block-region-of : (level : Level) (s : State) (ss : List Symbol) (Q : State → Type 0) → HasRoom s
    → ((p : HeadRead s.next s.counted) (x : RegionRead level s.op.kind s.op.types p.read.params s.visible p.read.next) → Owes (triples level) ss Q (with_block_region s p x))
    → Owes (triples level) (doing act.OpenRegion ++ part rule.BlockParams ++ rest_of_body ++ ss) Q (record s { op = record (s.op) { params = [] }; read = []; held = [] })
unfolding does block-done
block-region-of level s ss Q h f =
    λ n. (
      record { read = refl; room = h },
      λ p j. (
        record { clean = record { read = refl; held = refl; room = block-room s.next s.counted p h }; op = refl },
        λ x m. λ t b a. λ i.
            subst (λ (z : State). Owes (triples level) ss Q z)
            (sym (closing
            (with_rest (record x.rest { last = t }) (record s { read = []; held = []; next = x.next; op = no_op 0 }))
            s.outer (record (s.op) { params = [] }) s.body s.visible (((s.visible ++ []) ++ param_names p.read.params) ++ x.names) p.read.params x.ops
            (ap (λ (l : List Name). take (length s.visible) (l ++ x.names)) (nested s.visible (param_names p.read.params)) ∙ outside s.visible (param_names p.read.params) x.names)))
            (f p (block-done level s.op.kind s.op.types p.read.params s.visible p.read.next x t)),
      ),
    )

pub block-region-owes : (level : Level) (s : State) (ss : List Symbol) (Q : State → Type 0) → IsClean s → s.op.params ≡ []
    → ((p : HeadRead s.next s.counted) (x : RegionRead level s.op.kind s.op.types p.read.params s.visible p.read.next) → Owes (triples level) ss Q (with_block_region s p x))
    → Owes (triples level) (doing act.OpenRegion ++ part rule.BlockParams ++ rest_of_body ++ ss) Q s
block-region-owes level s ss Q h e f =
    subst (λ (z : State). Owes (triples level) (doing act.OpenRegion ++ part rule.BlockParams ++ rest_of_body ++ ss) Q z)
    (ap (λ (l : List Param). record s { op = record (s.op) { params = l }; read = []; held = [] }) (sym e) ∙ clean-is s h)
    (block-region-of level s ss Q h.room f)

-- ---- regions of an operation

-- a region that is read, before the regions behind it
pub region-shows : (level : Level) (k : OpKind) (types : List Ty) (ps : List Param) (visible : List Name) (n next : ℕ) (ts : List Ty) (i : ℕ)
    (x : RegionRead level k types ps visible next) (rs : List Region) (end : Scope) → AreParams n ps ts → next ≡ n + length ps
    → Shows level (Piece.Regions k types (i + 1) rs) (scope_at x.end visible) end
    → Shows level (Piece.Regions k types i (region_read x ∷ rs)) (scope_at n visible) end
region-shows level k types ps visible n next ts i x rs end h e more =
    Shows.region k types i (record { params = map param_value ps; ops = x.ops }) rs (scope_at n visible) x.shows.0 end (params-number n ps ts h) (x.ended i)
    (subst (λ (c : Scope). Shows level (Piece.Ops x.ops) c x.shows.0) (defined-scope n next visible ps ts h e) x.shows.1)
    (subst (λ (m : ℕ). Shows level (Piece.Regions k types (i + 1) rs) (record { next = m; seen = seen_of visible }) end) (sym x.shows.2) more)
