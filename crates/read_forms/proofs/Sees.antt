-- A reader sees no deeper than what it has built.
use Rattle.std.proofs.Common.{◌≡◌, ◌≤◌, ℕ, zero, suc, ◌+◌, max, Bool, true, false, List, [], ◌∷◌, ◌++◌, length, map, Option, Some, None, refl, sym, ap, subst, arith}
use Rattle.std.specs.Prelude.{⊤}
use Rattle.std.proofs.lemmas.List.{length-append}
use Rattle.op_table.specs.declared.kind.OpKind.{OpKind}
use Rattle.op_table.specs.declared.kind.OpKind.TheVariants as op
use Rattle.op_table.specs.declared.rows.Level.{Level}
use Rattle.ir_forms.specs.declared.ops.Op.{Op}
use Rattle.ir_forms.specs.declared.ops.Region.{Region, roll-Region}
use Rattle.ir_forms.specs.declared.ops.Func.{Func}
use Rattle.mlir_print.specs.Depth.{depth_of_op, depth_of_region, depth_of_funcs}
use Rattle.module_grammar.specs.declared.symbols.Act.{Act}
use Rattle.module_grammar.specs.declared.symbols.Act.TheVariants as act
use Rattle.module_grammar.specs.declared.symbols.Symbol.{Symbol}
use Rattle.module_grammar.specs.declared.state.TextToken.{TextToken}
use Rattle.module_grammar.specs.declared.state.OpenOp.{OpenOp}
use Rattle.module_grammar.specs.declared.state.Outer.{Outer}
use Rattle.module_grammar.specs.declared.state.State.{State}
use Rattle.module_grammar.specs.Engine.{Leads}
use Rattle.module_grammar.specs.State.{at_start, param_value, op_of, region_of, with_else, left_out, body_ops, with_made, last_of, without_last, does, add_operands, add_operand, add_results, add_result, open_region, close_into, numbered_op, numbered_func, begin_op, end_op}
use Rattle.module_grammar.specs.Rules.{grammar}
use Rattle.module_grammar.specs.Texts.{whole}
use Rattle.read_forms.specs.Depths.{SeesNoDeeper}
use Rattle.read_forms.proofs.Levels.{ops_depth, regions_depth, ops-append, regions-append, funcs-append, depth-of-op, depth-of-region, closed-region-depth}
use Rattle.read_forms.proofs.Stands.{Stand, nowhere, outside, inside, IsSomewhere, Sort, of_funcs, of_ops, of_form, other, sort_of, before_sort, before_act, before_rule, before, line-stands}

-- ---- the depth of what is built

-- how deep the bodies outside reach, where the first is at this level
abbrev pub outer_depth : ℕ → List Outer → ℕ
outer_depth level [] = 0
outer_depth level (o ∷ os) = max (max (level + ops_depth o.body.ops) (level + regions_depth o.op.regions)) (outer_depth (1 + level) os)

-- how deep all that is built reaches
abbrev pub built_depth : List Func → List Outer → List Op → List Region → ℕ
built_depth funcs outer ops regions =
    max (max (depth_of_funcs funcs) (outer_depth 1 outer)) (max (1 + length outer + ops_depth ops) (1 + length outer + regions_depth regions))

outer-pushed : (level : ℕ) (os : List Outer) (o : Outer)
    → outer_depth level (os ++ o ∷ []) ≡ max (outer_depth level os) (max (level + length os + ops_depth o.body.ops) (level + length os + regions_depth o.op.regions))
outer-pushed level [] o = omega arith
outer-pushed level (x ∷ os) o = let more = outer-pushed (1 + level) os o in omega (arith, more)

-- the list ends with its last element
split-last : (os : List Outer) (o : Outer) → last_of os ≡ Some o → os ≡ without_last os ++ o ∷ []
split-last [] o e = absurd cc
split-last (x ∷ []) o e = let same : x ≡ o = cc in ap (λ (y : Outer). y ∷ []) same
split-last (x ∷ y ∷ os) o e = ap (λ (ys : List Outer). x ∷ ys) (split-last (y ∷ os) o e)

has-last : (os : List Outer) (n : ℕ) → last_of os ≡ None → length os ≡ suc n → ⊥
has-last [] n e f = absurd cc
has-last (x ∷ []) n e f = absurd cc
has-last (x ∷ y ∷ os) n e f = has-last (y ∷ os) (length os) e refl

-- ---- what a state has seen

-- the open operation has no regions
abbrev pub HasNone : Bool → List Region → Type 0
HasNone true regions = regions ≡ []
HasNone false regions = ⊤

abbrev pub Seen : Stand → ℕ → List Func → List Outer → List Op → List Region → Type 0
Seen nowhere seen funcs outer ops regions = ⊥
Seen outside seen funcs outer ops regions = (seen ≤ depth_of_funcs funcs) × (outer ≡ [])
Seen (inside n blank) seen funcs outer ops regions = (seen ≤ built_depth funcs outer ops regions) × (length outer ≡ n) × HasNone blank regions

-- a state has seen no deeper than what it has built
abbrev pub HasSeen : Stand → State → Type 0
HasSeen p s = Seen p s.deepest s.funcs s.outer s.body.ops s.op.regions

seen-somewhere : (p : Stand) (s : State) → HasSeen p s → IsSomewhere p
seen-somewhere nowhere s h = h
seen-somewhere outside s h = tt
seen-somewhere (inside n blank) s h = tt

-- ---- the acts

none-if : (blank : Bool) (regions : List Region) → regions ≡ [] → HasNone blank regions
none-if true regions e = e
none-if false regions e = tt

begun : (p : Stand) (s : State) → HasSeen (before_act act.BeginOp p) s → HasSeen p (begin_op s)
begun nowhere s h = h
begun outside s h = elim h [ ]
begun (inside n blank) s h = let none = ap regions_depth h.2 in let deep = h.0 in (omega (arith, deep, none), h.1, none-if blank [] refl)

else-deeper : (n : ℕ) (k : OpKind) (regions : List Region) → n ≤ regions_depth regions → n ≤ regions_depth (with_else k regions)
else-deeper n op.ScfIf (r ∷ []) h = omega (arith, h)
else-deeper n op.ScfIf [] h = h
else-deeper n op.ScfIf (r ∷ q ∷ rs) h = h
else-deeper n _ regions h = h

op-deeper : (o : OpenOp) → regions_depth o.regions ≤ depth_of_op (op_of o)
op-deeper o =
    let whole : depth_of_op (op_of o) ≡ regions_depth (with_else o.kind o.regions) = depth-of-op _ in
    let more = else-deeper (regions_depth o.regions) o.kind o.regions (omega arith) in
    omega (arith, whole, more)

ended : (p : Stand) (s : State) → HasSeen (before_act act.EndOp p) s → HasSeen p (end_op s)
ended nowhere s h = h
ended outside s h = elim h [ ]
ended (inside n blank) s h =
    let more = ops-append s.body.ops (op_of s.op ∷ []) in
    let one = op-deeper s.op in
    let deep = h.0 in
    (omega (arith, more, one, deep), h.1, none-if blank [] refl)

results-see : (ts : List TextToken) (p : Stand) (s : State) → HasSeen p s → HasSeen p (add_results ts s)
results-see [] p s h = h
results-see (t ∷ ts) p s h = results-see ts p (add_result t s) h

operands-see : (ts : List TextToken) (p : Stand) (s : State) → HasSeen p s → HasSeen p (add_operands ts s)
operands-see [] p s h = h
operands-see (t ∷ ts) p s h = operands-see ts p (add_operand t s) h

held : (p : Stand) (s : State) → HasSeen (before_act act.HeldResults p) s → HasSeen p (add_results s.held (begin_op (end_op (record s { held = [] }))))
held nowhere s h = elim h [ ]
held outside s h = elim h [ ]
held (inside n blank) s h =
    let over : State = end_op (record s { held = [] }) in
    results-see s.held (inside n blank) (begin_op over) (begun (inside n blank) over (ended (inside n true) (record s { held = [] }) h))

opened : (p : Stand) (s : State) → HasSeen (before_act act.OpenRegion p) s → HasSeen p (open_region s)
opened nowhere s h = elim h [ ]
opened outside s h = elim h [ ]
opened (inside zero blank) s h = elim h [ ]
opened (inside (suc n) blank) s h =
    let o : Outer = record { op = record (s.op) { params = [] }; body = s.body } in
    let more = outer-pushed 1 s.outer o in
    let longer = length-append s.outer (o ∷ []) in
    let deep = h.0 in
    let level = h.1 in
    (omega (arith, more, longer, deep), omega (arith, longer, level), none-if blank [] refl)

closed : (last : Option Outer) (p : Stand) (s : State) → last_of s.outer ≡ last → HasSeen (before_act act.CloseRegion p) s → HasSeen p (close_into last s)
closed last nowhere s e h = elim h [ ]
closed last outside s e h = elim h [ ]
closed last (inside n true) s e h = elim h [ ]
closed None (inside n false) s e h = absurd (has-last s.outer n e h.1)
closed (Some o) (inside n false) s e h =
    let left : Option OpKind = left_out o.op.kind o.op.types (body_ops o.op.kind s.body.ops) in
    let region : Region = region_of s.body (with_made (body_ops o.op.kind s.body.ops) left s.begun) in
    let depth = closed-region-depth s.body o.op.kind left s.begun in
    let more = regions-append o.op.regions (region ∷ []) in
    let parts = split-last s.outer o e in
    let outer = ap (outer_depth 1) parts in
    let pushed = outer-pushed 1 (without_last s.outer) o in
    let long = ap (λ (os : List Outer). length os) parts in
    let longer = length-append (without_last s.outer) (o ∷ []) in
    let deep = h.0 in
    let level = h.1 in
    let none = ap regions_depth h.2 in
    (omega (arith, depth, more, outer, pushed, long, longer, deep, none), omega (arith, long, longer, level), tt)

no-outer : (os : List Outer) → length os ≡ 0 → os ≡ []
no-outer [] e = refl
no-outer (o ∷ os) e = absurd cc

finished : (p : Stand) (s : State) → HasSeen (before_act act.EndFunc p) s → HasSeen p (does act.EndFunc s)
unfolding does
finished nowhere s h = elim h [ ]
finished (inside n blank) s h = elim h [ ]
finished outside s h =
    let body : depth_of_region (roll-Region (record { params = []; ops = s.body.ops })) ≡ 1 + ops_depth s.body.ops = depth-of-region _ in
    let more = funcs-append s.funcs (record { name = s.func.name; params = map param_value s.func.params; results = s.func.results; body = roll-Region (record { params = []; ops = s.body.ops }); at = s.func.at }) in
    let alone = no-outer s.outer h.1 in
    let outer = ap (outer_depth 1) alone in
    let deep = h.0 in
    let level = h.1 in
    let none = ap regions_depth h.2 in
    (omega (arith, body, more, outer, deep, level, none), alone)

func-begun : (p : Stand) (s : State) → HasSeen (before_act act.BeginFunc p) s → HasSeen p (does act.BeginFunc s)
unfolding does
func-begun nowhere s h = elim h [ ]
func-begun (inside n blank) s h = elim h [ ]
func-begun outside s h = (h.0, refl)

body-opened : (p : Stand) (s : State) → HasSeen (before_act act.OpenBody p) s → HasSeen p (does act.OpenBody s)
unfolding does
body-opened nowhere s h = elim h [ ]
body-opened outside s h = elim h [ ]
body-opened (inside (suc n) blank) s h = elim h [ ]
body-opened (inside zero blank) s h =
    let deep = h.0 in
    (omega (arith, deep), ap (λ (os : List Outer). length os) h.1, none-if blank [] refl)

op-numbered : (n : Option ℕ) (p : Stand) (s : State) → HasSeen p s → HasSeen p (numbered_op n s)
op-numbered None p s h = h
op-numbered (Some n) p s h = h

func-numbered : (n : Option ℕ) (p : Stand) (s : State) → HasSeen p s → HasSeen p (numbered_func n s)
func-numbered None p s h = h
func-numbered (Some n) p s h = h

does-see : (a : Act) (p : Stand) (s : State) → HasSeen (before_act a p) s → HasSeen p (does a s)
unfolding does
does-see act.BeginFunc p s h = func-begun p s h
does-see act.OpenBody p s h = body-opened p s h
does-see act.EndFunc p s h = finished p s h
does-see act.BeginOp p s h = begun p s h
does-see act.EndOp p s h = ended p s h
does-see act.OpAt p s h = op-numbered s.entry_at p s h
does-see act.FuncAt p s h = func-numbered s.entry_at p s h
does-see act.OpenRegion p s h = opened p s h
does-see act.CloseRegion p s h = closed (last_of s.outer) p s refl h
does-see act.HeldOperands p s h = operands-see s.held p (record s { held = [] }) h
does-see act.HeldResults p s h = held p s h
does-see _ p s h = h

-- where a rule is left out
left-out : (x : Sort) (p : Stand) (s : State) → HasSeen (before_sort x p) s → HasSeen p s
left-out of_funcs outside s h = h
left-out of_funcs nowhere s h = h
left-out of_funcs (inside n blank) s h = elim h [ ]
left-out of_ops (inside n blank) s h = (h.0, h.1, none-if blank s.op.regions h.2)
left-out of_ops nowhere s h = h
left-out of_ops outside s h = elim h [ ]
left-out of_form (inside n false) s h = h
left-out of_form (inside n true) s h = elim h [ ]
left-out of_form nowhere s h = h
left-out of_form outside s h = elim h [ ]
left-out other p s h = h

-- ---- the whole

leads-see : (level : Level) (k : List Symbol) (s : State) (ts : List TextToken) (s' : State) → Leads (grammar level) k s ts s'
    → HasSeen (before outside k) s → HasSeen outside s'
leads-see level _ _ _ _ (Leads.ended s) h = h
leads-see level _ _ _ _ (Leads.word c k s t ts s' e d) h = leads-see level k (record s { last = t }) ts s' d h
leads-see level _ _ _ _ (Leads.act a k s ts s' d) h = leads-see level k (does a s) ts s' d (does-see a (before outside k) s h)
leads-see level _ _ _ _ (Leads.line r k s t ts s' l e d) h =
    let same = line-stands level r outside s t l k e (seen-somewhere (before_rule r (before outside k)) s h) in
    leads-see level (l.after ++ k) (record s { last = t }) ts s' d
    (subst (λ (p : Stand). HasSeen p (record s { last = t })) (sym same) h)
leads-see level _ _ _ _ (Leads.nothing r k s ts s' e n d) h = leads-see level k s ts s' d (left-out (sort_of r) (before outside k) s h)

pub sees-no-deeper : SeesNoDeeper
sees-no-deeper level ts s d = (leads-see level whole at_start ts s d (omega arith, refl)).0
